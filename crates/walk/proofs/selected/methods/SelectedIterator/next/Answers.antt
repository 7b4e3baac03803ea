use Rattle.std.proofs.Common.{rules, ◌≡◌, ◌+◌, ◌<◌, ◌∷◌, true, false, length, ap, ◌∙◌, arith}
use Rattle.tree.specs.Nodes.{count, origin_at}
use Rattle.walk.specs.Marks.{ends}
use Rattle.walk.specs.Walks.{left}
use Rattle.walk.proofs.Picks.{left_yes, left_no}
use Rattle.walk.proofs.selected.methods.SelectedIterator.next.Goals as goal

pub returns-then-advance : goal.returns-then-advance
returns-then-advance g c =
    let ns = g.T.Tree.nodes c.args.self.now.tree.now in
    let q = c.args.self.now.steps.now in
    let m = c.loop-node.self.node in
    let t : c.advance.new.self.tree ≡ c.args.self.now.tree = c.advance.ensures.tree ∙ c.loop-node.invariant.tree in
    let s : c.advance.new.self.steps ≡ c.args.self.now.steps = c.advance.ensures.steps ∙ c.loop-node.invariant.steps in
    let h : ends ns q (length q) (m + 1) ≡ true = cc (t, s) in
    let first : left ns q m ≡ origin_at ns (m + 1) ∷ left ns q (m + 1) = left_yes ns q m (omega arith) h in
    let rest : left (g.T.Tree.nodes c.advance.new.self.tree.now) c.advance.new.self.steps.now c.advance.new.self.node ≡ left ns q (m + 1) = cc (t, s) in
    let before : left ns q c.args.self.now.node ≡ left ns q m = c.loop-node.invariant.left in
    record { steps = cc (t, first, rest); goes = record { on = λ _. (tt, search rules, omega (arith, ap length first, ap length rest, ap length before)); keeps = tt; rests = λ _. search rules } }

pub loop-node-preserved : goal.loop-node-preserved
loop-node-preserved g c =
    let ns = g.T.Tree.nodes c.args.self.now.tree.now in
    let q = c.args.self.now.steps.now in
    let m = c.loop-node.self.node in
    let t : c.advance.new.self.tree ≡ c.args.self.now.tree = c.advance.ensures.tree ∙ c.loop-node.invariant.tree in
    let s : c.advance.new.self.steps ≡ c.args.self.now.steps = c.advance.ensures.steps ∙ c.loop-node.invariant.steps in
    let l : m < count ns = omega arith in
    let h : ends ns q (length q) (m + 1) ≡ false = cc (t, s) in
    let rest = left_no ns q m l h in
    record { tree = t; steps = s; place = omega arith; left = cc (rest) }
