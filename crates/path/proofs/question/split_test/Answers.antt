use Rattle.std.proofs.Common.{arith, ltb-false, ltb-true}
use Rattle.names.specs.NameLists.{listed}
use Rattle.path.proofs.Wordings.{test_star}
use Rattle.path.proofs.question.split_test.Goals as goal

pub returns-in-42 : goal.returns-in-42
returns-in-42 c = test_star (listed c.args.names.now) c.args.text.now (omega (arith, ltb-true, ltb-false)) (omega arith)
