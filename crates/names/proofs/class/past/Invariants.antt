use Rattle.std.proofs.Common.{◌≡◌, length}
use Rattle.names.specs.Words.{after}
use Rattle.names.proofs.class.past.Given as goal

abbrev pub invariant-loop-rest : goal.invariant-loop-rest
invariant-loop-rest g l = after (g.C.Class.member l.class) l.rest ≡ after (g.C.Class.member l.class) l.text

abbrev pub decreases-loop-rest : goal.decreases-loop-rest
decreases-loop-rest g l = length l.rest
