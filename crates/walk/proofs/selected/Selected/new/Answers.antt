use Rattle.std.proofs.Common.{◌≡◌, List, [], ◌∷◌, length, ap, ◌∙◌, arith}
use Rattle.tree.specs.Stacks.{items, lent}
use Rattle.tree.proofs.Stacks.{pushed, pushed_lent}
use Rattle.walk.specs.declared.marks.Marks.{Marks}
use Rattle.walk.proofs.Opens.{open_start}
use Rattle.walk.proofs.Picks.{left_all}
use Rattle.walk.proofs.selected.Selected.new.Goals as goal

pub invariant_of-result : goal.invariant_of-result
invariant_of-result g c =
    let wide : length (lent c.new-marks.result) ≡ 65 = ap length c.new-marks.ensures.slots ∙ c.requires.room in
    let none : items c.new-marks.result ≡ [] = c.new-marks.ensures.items in
    let one = pushed c.new-marks.result _ c.push.result c.push.new.self c.push.ensures.pushed (omega (arith, wide, ap (length {A = Marks}) none)) in
    record {
      question = c.requires.question;
      room = pushed_lent c.new-marks.result _ c.push.result c.push.new.self c.push.ensures.pushed ∙ wide;
      within = omega arith;
      counted = c.count.ensures;
      marked = open_start (g.T.Tree.nodes c.args.tree.now) c.args.steps.now (items c.push.new.self) (one.after ∙ ap (λ (z : List Marks). record { here = 1; over = 1 } ∷ z) none);
    }

pub returns : goal.returns
returns g c = left_all (g.T.Tree.nodes c.args.tree.now) c.args.steps.now c.requires.question.some
