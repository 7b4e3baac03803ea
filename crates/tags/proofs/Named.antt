-- The name of a tag stands in the text at the tag's place.
use Rattle.std.proofs.Common.{◌≡◌, ℕ, ◌+◌, List, [], ◌∷◌, ◌++◌, length, take, drop, sym, refl, ap, ◌∙◌}
use Rattle.std.proofs.lemmas.List.{take_at, drop-drop, drop_at}
use Rattle.tags.specs.Tags.{Tag, start, empty, end, TagAt}
use Rattle.tags.specs.Pieces.{Stands, TagNamed}

-- the name n stands behind the bytes w at the place p
stands_behind : (text : List ℕ) (p : ℕ) (w n r : List ℕ) → drop p text ≡ w ++ (n ++ r) → Stands text (p + length w) n
stands_behind text p w n r e =
    ap (take (length n)) (sym (drop-drop (length w) p text) ∙ ap (drop (length w)) e ∙ drop_at w (n ++ r) (length w) refl)
    ∙ take_at n r (length n) refl

pub tag_named : (text : List ℕ) (p : ℕ) (t : Tag) (r : List ℕ) → TagAt (drop p text) t r → TagNamed text p t
tag_named text p (start n) r (a, b, e, na, rest) = stands_behind text p (60 ∷ []) n b (e ∙ ap (λ (z : List ℕ). 60 ∷ z) na.1)
tag_named text p (empty n) r (a, b, e, na, rest) = stands_behind text p (60 ∷ []) n b (e ∙ ap (λ (z : List ℕ). 60 ∷ z) na.1)
tag_named text p (end n) r (a, b, e, na, rest) = stands_behind text p (60 ∷ 47 ∷ []) n b (e ∙ ap (λ (z : List ℕ). 60 ∷ 47 ∷ z) na.1)
