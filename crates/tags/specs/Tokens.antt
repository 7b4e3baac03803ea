-- Tokens as the tags that they stand for. Assumes nothing.
--     tag_of t        the tag that the token t stands for
--     token_place t   the place of its `<`
--     found r         the place, the tag and the text after it that r holds, if any
--     shown r         the text that r refers to, if any
use Rattle.std.specs.Prelude.{ℕ, List, Some, None, Option}
use Rattle.std.specs.Borrow.{Bor}
use Rattle.tags.specs.declared.token.Token.{Token}
use Rattle.tags.specs.declared.token.Token.TheVariants.{Start, Empty, End}
use Rattle.tags.specs.Tags.{Tag, start, empty, end}

abbrev pub tag_of : Token → Tag
tag_of (Start t) = start t.name.now
tag_of (Empty t) = empty t.name.now
tag_of (End t) = end t.name.now

abbrev pub token_place : Token → ℕ
token_place (Start t) = t.place
token_place (Empty t) = t.place
token_place (End t) = t.place

abbrev pub found : Option (Token × Bor (List ℕ)) → Option (ℕ × Tag × List ℕ)
found (Some t) = Some (token_place t.0, tag_of t.0, t.1.now)
found None = None

abbrev pub shown : Option (Bor (List ℕ)) → Option (List ℕ)
shown (Some t) = Some t.now
shown None = None
