-- The first piece of a text, and the tag or byte that the text begins with.
use Rattle.std.proofs.Common.{◌≡◌, ℕ, suc, ◌<◌, Bool, true, false, cond, eqb, List, [], ◌∷◌, length, Some, None, Option, sym, refl, ap, ◌∙◌, subst, arith}
use Rattle.std.proofs.lemmas.Bool.{cond-false, eqb-true, eqb-false, ne_eqb}
use Rattle.std.proofs.lemmas.Option.{none-some, same_Some}
use Rattle.tags.specs.Tags.{Tag, start, empty, end, TagAt, scan}
use Rattle.tags.specs.Pieces.{Piece, byte, tag, no_tag, tagged, first, PieceAt}
use Rattle.tags.proofs.Sound.{scan_sound}
use Rattle.tags.proofs.Complete.{scan_complete}
use Rattle.tags.proofs.Ends.{scan_shorter}

-- a piece has at least one byte
pub first_shorter : (s : List ℕ) (p : Piece) (r : List ℕ) → first s ≡ Some (p, r) → length r < length s
first_shorter [] p r e = absurd (none-some (p, r) e)
first_shorter (b ∷ s) p r e = go (eqb b 60) (same_Some _ (p, r) e)
  where
    tag_shorter : (o : Option (Tag × List ℕ)) → scan (b ∷ s) ≡ o → tagged s o ≡ (p, r) → length r < suc (length s)
    tag_shorter (Some t) d h = omega (arith, scan_shorter (b ∷ s) t.0 t.1 d, ap (λ (z : Piece × List ℕ). length z.1) h)
    tag_shorter None d h = omega (arith, ap (λ (z : Piece × List ℕ). length z.1) h)

    go : (c : Bool) → cond c (tagged s (scan (b ∷ s))) (byte b, s) ≡ (p, r) → length r < suc (length s)
    go true h = tag_shorter (scan (b ∷ s)) refl h
    go false h = omega (arith, ap (λ (z : Piece × List ℕ). length z.1) h)

-- a text with no piece is at its end
pub first_none : (s : List ℕ) → first s ≡ None → length s ≡ 0
first_none [] e = refl
first_none (b ∷ s) e = absurd (none-some _ (sym e))

-- the first piece of a text is that of the grammar
pub piece_at : (s : List ℕ) (p : Piece) (r : List ℕ) → first s ≡ Some (p, r) → PieceAt s p r
piece_at [] p r e = absurd (none-some (p, r) e)
piece_at (b ∷ s) p r e = go (eqb b 60) refl (same_Some _ (p, r) e)
  where
    move : (q : Piece) (t : List ℕ) → ◌≡◌ {A = Piece × List ℕ} (q, t) (p, r) → PieceAt (b ∷ s) q t → PieceAt (b ∷ s) p r
    move q t h k = subst (λ (z : Piece × List ℕ). PieceAt (b ∷ s) z.0 z.1) h k

    at_tag : (o : Option (Tag × List ℕ)) → scan (b ∷ s) ≡ o → eqb b 60 ≡ true → tagged s o ≡ (p, r) → PieceAt (b ∷ s) p r
    at_tag (Some t) d c h = move (tag t.0) t.1 h (scan_sound (b ∷ s) t.0 t.1 d)
    at_tag None d c h = move no_tag s h (ap (λ (z : ℕ). z ∷ s) (eqb-true b 60 c), λ t q k. none-some (t, q) (sym d ∙ scan_complete (b ∷ s) t q k))

    go : (c : Bool) → eqb b 60 ≡ c → cond c (tagged s (scan (b ∷ s))) (byte b, s) ≡ (p, r) → PieceAt (b ∷ s) p r
    go true d h = at_tag (scan (b ∷ s)) refl d h
    go false d h = move (byte b) s h (refl, eqb-false b 60 d)

-- where a tag begins a text, it is the first piece
pub tag_first : (s : List ℕ) (t : Tag) (r : List ℕ) → TagAt s t r → first s ≡ Some (tag t, r)
tag_first s (start n) r q = ap first q.2 ∙ ap (λ (o : Option (Tag × List ℕ)). Some (tagged q.0 o)) (ap scan (sym q.2) ∙ scan_complete s (start n) r q)
tag_first s (empty n) r q = ap first q.2 ∙ ap (λ (o : Option (Tag × List ℕ)). Some (tagged q.0 o)) (ap scan (sym q.2) ∙ scan_complete s (empty n) r q)
tag_first s (end n) r q = ap first q.2 ∙ ap (λ (o : Option (Tag × List ℕ)). Some (tagged (47 ∷ q.0) o)) (ap scan (sym q.2) ∙ scan_complete s (end n) r q)

pub byte_first : (b : ℕ) (s : List ℕ) → (b ≡ 60 → ⊥) → first (b ∷ s) ≡ Some (byte b, s)
byte_first b s n = ap Some (cond-false (eqb b 60) (tagged s (scan (b ∷ s))) (byte b, s) (ne_eqb b 60 n))
