use Rattle.std.proofs.Common.{◌≡◌, ◌^◌}
use Rattle.walk.proofs.Words.{Built}
use Rattle.walk.proofs.marks.Marks.child.Given as goal

abbrev pub invariant-loop-step : goal.invariant-loop-step
invariant-loop-step l = Built l.steps l.self l.label l.step-index l.here × (l.mark ≡ 2 ^ l.step-index)
