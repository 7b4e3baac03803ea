use Rattle.walk.specs.Walks.{left, origins}
use Rattle.walk.proofs.Picks.{Listed}
use Rattle.walk.proofs.walk.Given as goal

abbrev pub invariant-loop-i : goal.invariant-loop-i
invariant-loop-i g l =
    (goal.iterator-loop-i g).can_next l.i-iterator
    × (goal.iterator-loop-i g).is_finite l.i-iterator
    × Listed (origins (g.T.Tree.nodes l.tree) l.steps) l.fn.out l.i-iterator.count (left (g.T.Tree.nodes l.i-iterator.iter.tree.now) l.i-iterator.iter.steps.now l.i-iterator.iter.node) l.out
