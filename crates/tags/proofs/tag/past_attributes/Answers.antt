use Rattle.std.proofs.Common.{◌≡◌, ℕ, true, ◌&&◌, List, Some, sym, ap, ◌∙◌}
use Rattle.names.specs.Bytes.{white, name_start}
use Rattle.names.specs.Words.{after, begins}
use Rattle.tags.specs.Tags.{attribute}
use Rattle.tags.proofs.Attributes.{one_more, shorter}
use Rattle.tags.proofs.tag.past_attributes.Goals as goal

begun : (c : goal.In_ok-rest) → (begins white c.loop-next.rest.now && begins name_start (after white c.loop-next.rest.now)) ≡ true
begun c =
    ap (λ (z : List ℕ). begins white c.loop-next.rest.now && begins name_start z) (sym c.past-next.ensures)
    ∙ sym c.if-not-begins_attribute.ensures

passed : (c : goal.In_ok-rest) → attribute (after white c.loop-next.rest.now) ≡ Some c.in_ok-rest.rest.now
passed c = ap attribute (sym c.past-next.ensures) ∙ sym c.in_ok-rest.ensures

pub loop-next-smaller : goal.loop-next-smaller
loop-next-smaller c = shorter c.loop-next.rest.now c.in_ok-rest.rest.now (begun c) (passed c)

pub loop-next-preserved : goal.loop-next-preserved
loop-next-preserved c = one_more c.loop-next.rest.now c.in_ok-rest.rest.now (begun c) (passed c) _ c.loop-next.invariant.0 c.loop-next.invariant.1 c.loop-next.invariant.2
