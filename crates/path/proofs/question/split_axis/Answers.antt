use Rattle.std.proofs.Common.{arith, ltb-false, ltb-true}
use Rattle.path.proofs.Wordings.{axis_two}
use Rattle.path.proofs.question.split_axis.Goals as goal

pub returns-in-47-behind : goal.returns-in-47-behind
returns-in-47-behind c = axis_two c.args.text.now (omega (arith, ltb-true, ltb-false)) (omega arith) (omega (arith, ltb-true, ltb-false)) (omega arith)
