use Rattle.std.proofs.Common.{length}
use Rattle.plan.specs.Plans.{room}
use Rattle.plan.proofs.Accepts.{judged}
use Rattle.plan.proofs.Planned.{planned}
use Rattle.plan.proofs.read.read.Goals as goal

pub returns : goal.returns
returns c =
    let told = c.read_pieces.ensures in
    let sure = judged (room (length c.args.nodes.now) (length c.args.names.now)) c.args.text.now c.read_pieces.result told.answer in
    record { judged = sure; read = told; planned = planned (length c.args.nodes.now) (length c.args.names.now) c.args.text.now c.read_pieces.result c.args.nodes.now c.read_pieces.new.nodes c.args.names.now c.read_pieces.new.names sure told }
