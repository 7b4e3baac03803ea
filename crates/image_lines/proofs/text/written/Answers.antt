use Rattle.std.proofs.Common.{vec_items, ap, ◌∙◌}
use Rattle.std.proofs.lemmas.Result.{IfOk-weaker}
use Rattle.names.specs.NameLists.{listed}
use Rattle.names.proofs.Names.{list_to}
use Rattle.image_lines.proofs.Lines.{written_seen, refused_seen}
use Rattle.image_lines.proofs.text.written.Goals as goal

pub returns-in-Ok : goal.returns-in-Ok
returns-in-Ok g c =
    let ms = listed c.args.names.now in
    let ns = g.T.Tree.nodes c.args.tree.now in
    IfOk-weaker c.seen.result _ _
    (λ text e. written_seen ms ns c.args.out.now c.in-Ok.length c.write.new.out (vec_items text) (g.T.Tree.keeps c.args.tree.now) (list_to ms c.args.names.now.good) c.in-Ok.ensures e)
    c.seen.ensures

pub returns-in_ok-refused-in-Err : goal.returns-in_ok-refused-in-Err
returns-in_ok-refused-in-Err g c =
    let ms = listed c.args.names.now in
    let ns = g.T.Tree.nodes c.args.tree.now in
    refused_seen ms ns c.args.out.now c.in-Err.fault c.write.new.out (vec_items c.into_bytes.result) (g.T.Tree.keeps c.args.tree.now) (list_to ms c.args.names.now.good) c.requires c.in-Err.ensures (ap vec_items c.into_bytes.ensures.value ∙ c.in_ok-refused-in-Err.ensures)
