use Rattle.std.proofs.Common.{◌-◌}
use Rattle.names.specs.NameLists.{listed}
use Rattle.writer.proofs.Appearances.{Sofar}
use Rattle.writer.proofs.write.number_names.Given as goal

abbrev pub invariant-loop-node : goal.invariant-loop-node
invariant-loop-node g l = Sofar (listed l.names) (g.T.Tree.nodes l.tree) (l.node - 1) l.numbering
