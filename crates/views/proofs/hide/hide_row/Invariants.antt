use Rattle.views.proofs.HideLemmas.{Sofar}
use Rattle.views.proofs.hide.hide_row.Given as goal

abbrev pub invariant-loop-m : goal.invariant-loop-m
invariant-loop-m g l = Sofar (g.T.Tree.nodes l.tree) l.labels l.m l.cut l.row.items
