use Rattle.std.proofs.Common.{◌+◌, rules, arith}
use Rattle.tree.specs.Nodes.{node_limit}
use Rattle.views.proofs.Branches.{sofar_start, sofar_few, sofar_all, sofar_more, sofar_stop}
use Rattle.views.proofs.branch.branch_row.Goals as goal

pub loop-m-init : goal.loop-m-init
loop-m-init g c =
    let laws = g.T.Tree.keeps c.args.tree.now in
    search (rules, sofar_start node_limit _ laws)

pub push-requires-in-loop-m : goal.push-requires-in-loop-m
push-requires-in-loop-m g c =
    let laws = g.T.Tree.keeps c.args.tree.now in
    let few = sofar_few node_limit _ laws _ c.requires.low c.requires.high _ _ c.loop-m.invariant in
    (omega arith, omega (arith, laws.most))

pub loop-m-preserved : goal.loop-m-preserved
loop-m-preserved g c =
    let laws = g.T.Tree.keeps c.args.tree.now in
    search (rules, sofar_more node_limit _ laws)

pub returns-then-node-root : goal.returns-then-node-root
returns-then-node-root g c =
    let laws = g.T.Tree.keeps c.args.tree.now in
    search (rules, sofar_stop node_limit _ laws _ c.requires.low c.requires.high _ _ c.loop-m.invariant (omega arith) c.node-node.result c.node-node.ensures)

pub returns-else-node-root : goal.returns-else-node-root
returns-else-node-root g c =
    let laws = g.T.Tree.keeps c.args.tree.now in
    sofar_all node_limit _ laws _ c.requires.low c.requires.high (c.loop-m.m + 1) _ (search (rules, sofar_more node_limit _ laws)) (omega arith)
