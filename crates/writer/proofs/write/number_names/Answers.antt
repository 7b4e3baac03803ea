use Rattle.std.proofs.Common.{◌≡◌, ℕ, ◌+◌, ◌-◌, length, sym, ap, subst, arith}
use Rattle.names.specs.NameLists.{listed}
use Rattle.names.proofs.Names.{list_to}
use Rattle.writer.specs.declared.numbering.Numbering.{Numbering}
use Rattle.writer.specs.Numberings.{Numbers}
use Rattle.writer.specs.Writings.{AllNamed}
use Rattle.writer.proofs.Appearances.{Sofar, sofar_none, named_is, name_short, named_not, nameless, room, sofar_found, sofar_all}
use Rattle.writer.proofs.write.number_names.Goals as goal
use Rattle.writer.proofs.write.number_names.Goals.{else-loop-node-test, then-loop-node-test+in-Some+else-node-node-end}

pub loop-node-init : goal.loop-node-init
loop-node-init g c =
    let ms = listed c.args.names.now in
    sofar_none ms (g.T.Tree.nodes c.args.tree.now) c.new-numbering.result (list_to ms c.args.names.now.good).most c.new-numbering.ensures.names c.new-numbering.ensures.numbers

pub returns-in_default : goal.returns-in_default
returns-in_default g c =
    let ns = g.T.Tree.nodes c.args.tree.now in
    let k = c.loop-node.node in
    let ms = listed c.args.names.now in
    let low = ((g.T.Tree.keeps c.args.tree.now).labels k (omega arith) (omega arith)).0 in
    nameless ms ns k (omega arith) (omega arith) c.loop-node.numbering c.loop-node.invariant (omega (arith, c.label-label.ensures, named_not ms c.label-label.result (omega (arith, c.label-label.ensures)) c.in_default.ensures))

pub add-requires : goal.add-requires
add-requires g c =
    let ms = listed c.args.names.now in
    let list = list_to ms c.args.names.now.good in
    let is = named_is ms c.label-label.result c.in-Some.name.now c.in-Some.ensures in
    record {
      label = omega (arith, is.1, list.most);
      short = omega (arith, ap length is.2, name_short ms list c.label-label.result (omega (arith, is.1)));
      room = room ms (g.T.Tree.nodes c.args.tree.now) c.loop-node.node (omega arith) (omega arith) c.loop-node.numbering c.loop-node.invariant list c.label-label.result c.label-label.ensures is.0 is.1;
    }

pub loop-node-preserved : goal.loop-node-preserved
loop-node-preserved g c =
    let ms = listed c.args.names.now in
    let ns = g.T.Tree.nodes c.args.tree.now in
    let e : c.loop-node.node ≡ c.loop-node.node + 1 - 1 = omega arith in
    subst (λ (k : ℕ). Sofar ms ns k c.add.new.self) e
    (sofar_found ms ns c.loop-node.node (omega arith) (omega arith) c.loop-node.numbering c.loop-node.invariant (list_to ms c.args.names.now.good) c.label-label.result c.in-Some.name.now c.add.new.self c.label-label.ensures c.in-Some.ensures c.add.ensures)

pub returns : goal.returns
returns g c =
    let ms = listed c.args.names.now in
    let ns = g.T.Tree.nodes c.args.tree.now in
    elim c.loop-node-test.branch [
      | else-loop-node-test w ↦ absurd (omega (arith, (g.T.Tree.keeps c.args.tree.now).some, w.loop-node-test.false))
      | then-loop-node-test+in-Some+else-node-node-end w ↦ subst (λ (o : Numbering). AllNamed ms ns × Numbers ms ns o) (sym w.numbering-is)
          (sofar_all ms ns c.loop-node.node w.add.new.self (omega arith)
          (sofar_found ms ns c.loop-node.node (omega arith) (omega arith) c.loop-node.numbering c.loop-node.invariant (list_to ms c.args.names.now.good) w.label-label.result w.in-Some.name.now w.add.new.self w.label-label.ensures w.in-Some.ensures w.add.ensures))
    ]
