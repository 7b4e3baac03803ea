use Rattle.std.proofs.Common.{rules, arith}
use Rattle.tree.specs.Nodes.{node_limit}
use Rattle.views.proofs.Branches.{branch_lawful, branch_of}
use Rattle.views.proofs.branch.View+AtNode+T.set.Goals as goal

pub invariant_of-self : goal.invariant_of-self
invariant_of-self g c =
    let lawful = branch_lawful node_limit _ (g.T.Tree.keeps c.args.self.now.below) c.args.node (omega arith) (omega arith) in
    record { tree = search rules }

pub returns-clause-shown : goal.returns-clause-shown
returns-clause-shown g c =
    let part = branch_of node_limit _ (g.T.Tree.keeps c.args.self.now.below) c.args.node (omega arith) (omega arith) in
    search rules
