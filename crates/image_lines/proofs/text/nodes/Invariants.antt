use Rattle.std.proofs.Common.{◌≡◌, ◌-◌, take, vec_items}
use Rattle.names.specs.NameLists.{listed}
use Rattle.image_lines.specs.Texts.{node_lines}
use Rattle.image_lines.proofs.text.nodes.Given as goal

abbrev pub invariant-loop-node : goal.invariant-loop-node
invariant-loop-node g l = vec_items l.text ≡ node_lines (listed l.names) (take (l.node - 1) (g.T.Tree.nodes l.tree))
