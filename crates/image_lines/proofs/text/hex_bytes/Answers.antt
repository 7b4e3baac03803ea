use Rattle.std.proofs.Common.{ℕ, List, [], ◌∷◌, ◌++◌, get_or, take, codes, sym, ap, ◌∙◌, ap₂, arith}
use Rattle.std.specs.List.{flat_map}
use Rattle.std.proofs.lemmas.List.{flat_map_more, take_more, take_all, append_assoc}
use Rattle.image_lines.specs.Texts.{hex_byte}
use Rattle.image_lines.proofs.text.hex_bytes.Goals as goal

pub loop-byte-preserved : goal.loop-byte-preserved
loop-byte-preserved c =
    let bs = c.args.bytes.now in
    let i = c.loop-byte.byte-index in
    c.in_ok-extend_from_slice.ensures.items
    ∙ ap₂ (λ (x : List ℕ) (y : List ℕ). x ++ y) c.loop-byte.invariant (ap₂ (λ (x : ℕ) (y : ℕ). 32 ∷ x ∷ y ∷ []) c.hex_digit.ensures c.hex_digit-in-loop-byte.ensures)
    ∙ flat_map_more hex_byte (codes "image") (take i bs) (get_or bs i 0)
    ∙ ap (λ (z : List ℕ). codes "image" ++ flat_map hex_byte z) (sym (take_more bs i 0 (omega arith)))

pub returns : goal.returns
returns c =
    let bs = c.args.bytes.now in
    let i = c.loop-byte.byte-index in
    c.in_ok-push.ensures.items
    ∙ ap (λ (z : List ℕ). z ++ codes "\n") (c.loop-byte.invariant ∙ ap (λ (z : List ℕ). codes "image" ++ flat_map hex_byte z) (take_all i bs (omega arith)))
    ∙ append_assoc (codes "image") (flat_map hex_byte bs) (codes "\n")
