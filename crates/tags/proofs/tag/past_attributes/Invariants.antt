use Rattle.std.proofs.Common.{◌≡◌, ℕ, suc, ◌≤◌, length}
use Rattle.tags.specs.Tags.{attributes}
use Rattle.tags.proofs.tag.past_attributes.Given as goal

abbrev pub invariant-loop-next : goal.invariant-loop-next
invariant-loop-next l = (f : ℕ) × (length l.rest ≤ f) × (attributes (suc f) l.rest ≡ attributes (suc (length l.text)) l.text)

abbrev pub decreases-loop-next : goal.decreases-loop-next
decreases-loop-next l = length l.rest
