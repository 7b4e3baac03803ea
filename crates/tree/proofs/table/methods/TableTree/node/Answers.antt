use Rattle.std.proofs.Common.{◌≡◌, Some, None, sym, ◌∙◌, rules}
use Rattle.tree.specs.Nodes.{nowhere}
use Rattle.tree.proofs.Slots.{node_shown}
use Rattle.tree.proofs.table.methods.TableTree.node.Goals as goal

pub returns-in-Some : goal.returns-in-Some
returns-in-Some c = c.node.ensures ∙ node_shown c.args.self.now.slots.now c.args.number (Some c.in-Some.slot) (sym c.in-Some.is ∙ c.slot.ensures)

pub returns-in-None : goal.returns-in-None
returns-in-None c =
    let e : c.default.result ≡ nowhere = search rules in
    e ∙ node_shown c.args.self.now.slots.now c.args.number None (sym c.in-None.is ∙ c.slot.ensures)
