use Rattle.std.proofs.Common.{rules}
use Rattle.tree.specs.Nodes.{node_limit}
use Rattle.views.proofs.HideLemmas.{any_member, free_of, hide_lawful}
use Rattle.views.proofs.hide.View+WithoutLabels+T.set.Goals as goal

pub invariant_of-self : goal.invariant_of-self
invariant_of-self g c =
    let any = any_member c.args.labels.now c.label.result in
    let lawful = hide_lawful node_limit _ (g.T.Tree.keeps c.args.self.now.below) c.args.labels.now (search rules) in
    record { tree = search rules }

pub returns-then-contains-clause-shown : goal.returns-then-contains-clause-shown
returns-then-contains-clause-shown g c =
    let any = any_member c.args.labels.now c.label.result in
    search rules

pub returns-clause-shown : goal.returns-clause-shown
returns-clause-shown g c =
    let any = any_member c.args.labels.now c.label.result in
    let part = free_of node_limit _ (g.T.Tree.keeps c.args.self.now.below) c.args.labels.now (search rules) in
    search rules
