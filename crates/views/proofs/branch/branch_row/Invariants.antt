use Rattle.views.proofs.Branches.{Sofar}
use Rattle.views.proofs.branch.branch_row.Given as goal

abbrev pub invariant-loop-m : goal.invariant-loop-m
invariant-loop-m g l = Sofar (g.T.Tree.nodes l.tree) l.k l.m l.row.items
