use Rattle.std.proofs.Common.{◌≡◌, ◌+◌}
use Rattle.walk.specs.Walks.{left}
use Rattle.walk.proofs.selected.methods.SelectedIterator.next.Given as goal

abbrev pub invariant-loop-node : goal.invariant-loop-node
invariant-loop-node g l = record {
  tree : l.self.tree ≡ l.initial.self.tree;
  steps : l.self.steps ≡ l.initial.self.steps;
  place : l.node ≡ l.self.node + 1;
  left : left (g.T.Tree.nodes l.initial.self.tree.now) l.initial.self.steps.now l.initial.self.node ≡ left (g.T.Tree.nodes l.initial.self.tree.now) l.initial.self.steps.now l.self.node;
}
