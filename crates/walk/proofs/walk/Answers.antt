use Rattle.std.proofs.Common.{rules, ◌≡◌, ◌+◌, ◌∷◌, length, set, inl, arith}
use Rattle.std.proofs.lemmas.Iterator.Consumers.{YieldsList-from_first, count_from_yields_List}
use Rattle.tree.specs.Nodes.{node_limit}
use Rattle.tree.proofs.XPath.{questions_are_xpath}
use Rattle.walk.specs.Walks.{left, origins}
use Rattle.walk.proofs.Picks.{Listed, left_few, listed_more}
use Rattle.walk.proofs.Rising.{answers_rise}
use Rattle.walk.proofs.walk.Goals as goal

pub returns-then-is_empty-clause-rise : goal.returns-then-is_empty-clause-rise
returns-then-is_empty-clause-rise g c = answers_rise (g.T.Tree.nodes c.args.tree.now) (g.T.Tree.keeps c.args.tree.now) c.args.steps.now

pub returns-then-is_empty-clause-xpath : goal.returns-then-is_empty-clause-xpath
returns-then-is_empty-clause-xpath g c = questions_are_xpath node_limit (g.T.Tree.nodes c.args.tree.now) (g.T.Tree.keeps c.args.tree.now) c.args.steps.now

pub count-needed-requires-clause-fits : goal.count-needed-requires-clause-fits
count-needed-requires-clause-fits g c =
    let t = c.new.result in
    let few = left_few (g.T.Tree.nodes t.tree.now) t.steps.now t.node in
    inl (omega (arith, few, (g.T.Tree.keeps t.tree.now).most))

pub overflow_cast-needed : goal.overflow_cast-needed
overflow_cast-needed g c =
    let t = c.new.result in
    let few = left_few (g.T.Tree.nodes t.tree.now) t.steps.now t.node in
    omega (arith, c.count-needed.ensures.bound, few, (g.T.Tree.keeps t.tree.now).most)

pub returns-then-from-out-clause-rise : goal.returns-then-from-out-clause-rise
returns-then-from-out-clause-rise g c = answers_rise (g.T.Tree.nodes c.args.tree.now) (g.T.Tree.keeps c.args.tree.now) c.args.steps.now

pub returns-then-from-out-clause-xpath : goal.returns-then-from-out-clause-xpath
returns-then-from-out-clause-xpath g c = questions_are_xpath node_limit (g.T.Tree.nodes c.args.tree.now) (g.T.Tree.keeps c.args.tree.now) c.args.steps.now

pub loop-i-preserved : goal.loop-i-preserved
loop-i-preserved g c =
    let all = origins (g.T.Tree.nodes c.args.tree.now) c.args.steps.now in
    let s = c.loop-i.i-iterator in
    let t = c.next.new.self in
    let now = left (g.T.Tree.nodes s.iter.tree.now) s.iter.steps.now s.iter.node in
    let rest = left (g.T.Tree.nodes t.iter.tree.now) t.iter.steps.now t.iter.node in
    let i : c.in-Some.i ≡ s.count = c.in-Some.ensures.steps.1 in
    let n : t.count ≡ s.count + 1 = c.in-Some.ensures.steps.2 in
    let first : now ≡ c.in-Some.origin ∷ rest = c.in-Some.ensures.steps.0 in
    let needed : c.count-needed.result ≡ length all =
    count_from_yields_List c.new.result c.count-needed.result c.count-needed.ensures.ran (YieldsList-from_first (λ x. x) (λ t. left (g.T.Tree.nodes t.tree.now) t.steps.now t.node) all c.new.ensures) in
    let more : Listed all c.args.out.now (s.count + 1) rest (set c.loop-i.out s.count c.in-Some.origin) = listed_more all c.args.out.now s.count now c.loop-i.out c.in-Some.origin rest (omega (arith, needed)) c.loop-i.invariant.2 first in (
      search rules,
      search rules,
      rw (i, n) more,
    )

pub returns-clause-rise : goal.returns-clause-rise
returns-clause-rise g c = answers_rise (g.T.Tree.nodes c.args.tree.now) (g.T.Tree.keeps c.args.tree.now) c.args.steps.now

pub returns-clause-xpath : goal.returns-clause-xpath
returns-clause-xpath g c = questions_are_xpath node_limit (g.T.Tree.nodes c.args.tree.now) (g.T.Tree.keeps c.args.tree.now) c.args.steps.now
