use Rattle.std.proofs.Common.{◌+◌, arith, rules}
use Rattle.tree.specs.Nodes.{node_limit}
use Rattle.views.proofs.HideLemmas.{sofar_few, sofar_all, sofar_below, sofar_hidden, sofar_shown}
use Rattle.views.proofs.hide.hide_row.Goals as goal
use Rattle.views.proofs.hide.hide_row.Goals.{in-Some, in_default, in_default-2}

pub push-requires : goal.push-requires
push-requires g c =
    let laws = g.T.Tree.keeps c.args.tree.now in
    let few = sofar_few node_limit _ laws _ _ _ _ c.loop-m.invariant in
    (omega arith, omega (arith, laws.most))

pub loop-m-preserved : goal.loop-m-preserved
loop-m-preserved g c =
    let laws = g.T.Tree.keeps c.args.tree.now in
    elim c.match-cut.branch [
      | in-Some w ↦ search (rules, sofar_below node_limit _ laws)
      | in_default w ↦ search (rules, sofar_hidden node_limit _ laws)
      | in_default-2 w ↦ search (rules, sofar_shown node_limit _ laws)
    ]

pub returns-after-cut : goal.returns-after-cut
returns-after-cut g c =
    let laws = g.T.Tree.keeps c.args.tree.now in
    sofar_all node_limit _ laws _ (c.loop-m.m + 1) c.match-cut.cut _ (elim c.match-cut.branch [
      | in-Some w ↦ search (rules, sofar_below node_limit _ laws)
      | in_default w ↦ search (rules, sofar_hidden node_limit _ laws)
      | in_default-2 w ↦ search (rules, sofar_shown node_limit _ laws)
    ]) (omega arith)
