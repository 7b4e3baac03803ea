use Rattle.std.proofs.Common.{◌≡◌, length}
use Rattle.names.specs.Lists.{texts, apart}
use Rattle.names.proofs.list.methods.all_apart.Given as goal

abbrev pub invariant-loop-rest : goal.invariant-loop-rest
invariant-loop-rest l = apart (texts l.rest) ≡ apart (texts l.names)

abbrev pub decreases-loop-rest : goal.decreases-loop-rest
decreases-loop-rest l = length l.rest
