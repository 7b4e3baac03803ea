use Rattle.std.proofs.Common.{sym, refl, ◌∙◌, arith}
use Rattle.tree.specs.Nodes.{node_limit}
use Rattle.tree.specs.Laws.{lawful_laws}
use Rattle.tree.proofs.Slots.{right_lawful, first_wrong}
use Rattle.tree.proofs.table.Table.set.Goals as goal

pub invariant_of-self : goal.invariant_of-self
invariant_of-self c = record { tree = right_lawful c.args.slots.now (omega arith) (omega arith) (sym c.first_wrong.ensures ∙ c.in_default.is) }

pub returns : goal.returns
returns c = (lawful_laws node_limit _ (right_lawful c.args.slots.now (omega arith) (omega arith) (sym c.first_wrong.ensures ∙ c.in_default.is)), refl)

pub returns-in-Some : goal.returns-in-Some
returns-in-Some c = (first_wrong c.args.slots.now c.in-Some.wrong (omega arith) (omega arith) (sym c.in-Some.is ∙ c.first_wrong.ensures), refl)
