use Rattle.std.proofs.Common.{◌≡◌, length}
use Rattle.names.specs.NameLists.{listed}
use Rattle.tree.specs.Stacks.{items, lent}
use Rattle.path.proofs.Loops.{Sofar}
use Rattle.path.proofs.question.read_steps.Given as goal

abbrev pub invariant-loop-rest : goal.invariant-loop-rest
invariant-loop-rest l = record { sofar : Sofar (listed l.names) l.text l.fn.slots l.rest (length (items l.read)) (lent l.read); same : l.read.slots.ghost_name ≡ l.initial.read.slots.ghost_name }

abbrev pub decreases-loop-rest : goal.decreases-loop-rest
decreases-loop-rest l = length l.rest
