use Rattle.std.proofs.Common.{arith}
use Rattle.std.proofs.lemmas.Grind.{common_steps}
use Rattle.image.proofs.Loops.{nodes_step}
use Rattle.image.proofs.fields.pass_nodes.Goals as goal

pub loop-preserved : goal.loop-preserved
loop-preserved c =
    let e = nodes_step c.args.names c.args.count c.loop.counter c.loop.turn.greatest c.loop.turn.depth c.loop.rest.now c.loop-test.true in
    grind (arith, common_steps)
