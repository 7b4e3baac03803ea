use Rattle.std.proofs.Common.{◌≡◌, ◌-◌, take}
use Rattle.views.proofs.shown.all.Given as goal

abbrev pub invariant-loop-m : goal.invariant-loop-m
invariant-loop-m g l = l.row.items ≡ take (l.m - 1) (g.T.Tree.nodes l.tree)
