use Rattle.std.proofs.Common.{length}
use Rattle.tags.specs.Readers.{ahead}
use Rattle.plan.proofs.Sofar.{Sofar}
use Rattle.plan.proofs.draft.Draft.read.Given as goal

abbrev pub invariant-loop-piece : goal.invariant-loop-piece
invariant-loop-piece l = Sofar l.text l.fn.self l.self l.reader

abbrev pub decreases-loop-piece : goal.decreases-loop-piece
decreases-loop-piece l = length (ahead l.reader)
