use Rattle.std.proofs.Common.{◌≡◌, suc, drop}
use Rattle.tree.specs.Slots.{wrong, wrong_slot}
use Rattle.tree.proofs.table.methods.first_wrong.Given as goal

abbrev pub invariant-loop-at : goal.invariant-loop-at
invariant-loop-at l = wrong l.before (suc l.at) (drop l.at l.slots) ≡ wrong_slot l.slots
