-- A text from left to right, as pieces with their places. Assumes nothing.
--     first s                the first piece of the text s, and what follows it
--     next_piece n s         its place, where s ends a text of n bytes, the piece, and what follows it
--     PieceAt s p r         in the terms of the grammar, the text s begins with the piece p and r follows it
--     pieces f n s           the pieces of s with their places; f is at least the length of s
--     TagNamed text p t     the name of the tag t at the place p is a part of the text, behind `<` or `</`
use Rattle.std.specs.Prelude.{◌≡◌, ℕ, zero, suc, ◌+◌, ◌-◌, cond, List, [], ◌∷◌, length, take, drop, Some, None, Option, ◌==◌, ◌≢◌}
use Rattle.tags.specs.Tags.{Tag, start, empty, end, TagAt, scan, placed}

-- a byte of text, a tag, or a `<` where no tag begins
pub data Piece : Type 0 where
  byte : ℕ → Piece
  tag : Tag → Piece
  no_tag : Piece

-- the piece that a `<` begins, of which s is what follows it
abbrev pub tagged : List ℕ → Option (Tag × List ℕ) → Piece × List ℕ
tagged s (Some t) = (tag t.0, t.1)
tagged s None = (no_tag, s)

abbrev pub first : List ℕ → Option (Piece × List ℕ)
first [] = None
first (b ∷ s) = Some (cond (b == 60) (tagged s (scan (b ∷ s))) (byte b, s))

abbrev pub IsNoTag : List ℕ → Type 0
IsNoTag s = (t : Tag) (r : List ℕ) → TagAt s t r → ⊥

abbrev pub PieceAt : List ℕ → Piece → List ℕ → Type 0
PieceAt s (byte b) r = (s ≡ b ∷ r) × (b ≢ 60)
PieceAt s (tag t) r = TagAt s t r
PieceAt s no_tag r = (s ≡ 60 ∷ r) × IsNoTag s

abbrev pub next_piece : ℕ → List ℕ → Option (ℕ × Piece × List ℕ)
next_piece n s = placed (n - length s) (first s)

abbrev pub pieces : ℕ → ℕ → List ℕ → List (ℕ × Piece)
pieces zero n s = []
pieces (suc f) n s = elim (first s) [ None ↦ [] | Some p ↦ (n - length s, p.0) ∷ pieces f n p.1 ]

-- the name n stands in the text at the place p
abbrev pub Stands : List ℕ → ℕ → List ℕ → Type 0
Stands text p n = take (length n) (drop p text) ≡ n

abbrev pub TagNamed : List ℕ → ℕ → Tag → Type 0
TagNamed text p (start n) = Stands text (p + 1) n
TagNamed text p (empty n) = Stands text (p + 1) n
TagNamed text p (end n) = Stands text (p + 2) n
