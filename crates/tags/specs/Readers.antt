-- A reader as the text that lies ahead of it. Assumes nothing.
--     ahead r         the text from the reader's place on
--     piece_of p      the piece that p stands for
--     piece_place p   the place where it begins
--     moved r s       the place, the piece that r holds, if any, and the text s behind it
--     Next s r t      in the terms of the grammar, r is the piece that the text s begins with, and t follows it
--     Named text r    if r holds a tag, its name is a part of the text at its place
use Rattle.std.specs.Prelude.{◌≡◌, ℕ, List, [], drop, Some, None, Option}
use Rattle.tags.specs.declared.reader.Reader.{Reader}
use Rattle.tags.specs.declared.token.Piece as declared
use Rattle.tags.specs.declared.token.Piece.TheVariants.{Text, Tag, NoTag}
use Rattle.tags.specs.Pieces.{Piece, byte, tag, no_tag, PieceAt, TagNamed}
use Rattle.tags.specs.Tokens.{tag_of, token_place}

abbrev pub ahead : Reader → List ℕ
ahead r = drop r.place r.text.now

abbrev pub piece_of : declared.Piece → Piece
piece_of (Text b p) = byte b
piece_of (Tag t) = tag (tag_of t)
piece_of (NoTag p) = no_tag

abbrev pub piece_place : declared.Piece → ℕ
piece_place (Text b p) = p
piece_place (Tag t) = token_place t
piece_place (NoTag p) = p

abbrev pub moved : Option declared.Piece → List ℕ → Option (ℕ × Piece × List ℕ)
moved (Some p) s = Some (piece_place p, piece_of p, s)
moved None s = None

abbrev pub Next : List ℕ → Option declared.Piece → List ℕ → Type 0
Next s (Some p) t = PieceAt s (piece_of p) t
Next s None t = (s ≡ []) × (t ≡ [])

abbrev pub PieceNamed : List ℕ → declared.Piece → Type 0
PieceNamed text (Text b p) = Unit {0}
PieceNamed text (Tag t) = TagNamed text (token_place t) (tag_of t)
PieceNamed text (NoTag p) = Unit {0}

abbrev pub Named : List ℕ → Option declared.Piece → Type 0
Named text (Some p) = PieceNamed text p
Named text None = Unit {0}
