use Rattle.std.proofs.Common.{◌≡◌, ◌+◌, ◌-◌, List, [], ◌∷◌, ◌++◌, sym, ap, ◌∙◌, ap₂, rules, arith}
use Rattle.std.proofs.lemmas.List.{take_all}
use Rattle.tree.specs.Nodes.{Node, node_limit, node_at}
use Rattle.tree.specs.Laws.{laws_lawful}
use Rattle.tree.proofs.Slots.{take_next}
use Rattle.views.proofs.shown.all.Goals as goal
use Rattle.views.proofs.shown.all.Goals.{else-loop-m-test, then-loop-m-test+else-m-m-end}

pub invariant_of-result : goal.invariant_of-result
invariant_of-result g c =
    let ns = g.T.Tree.nodes c.args.tree.now in
    let m = c.loop-m.m in
    let lawful = laws_lawful node_limit ns (g.T.Tree.keeps c.args.tree.now) in
    let next : m ≡ m - 1 + 1 = omega arith in
    let whole : c.loop-m-test.row.items ≡ ns = elim c.loop-m-test.branch [
      | else-loop-m-test w ↦ ap (λ r. r.items) w.row-is ∙ c.loop-m.invariant ∙ take_all (m - 1) ns (omega (arith, c.count-m-end.ensures))
      | then-loop-m-test+else-m-m-end w ↦
          ap (λ r. r.items) w.row-is ∙ w.push.ensures.items
          ∙ ap₂ (λ (xs : List Node) (n : Node). xs ++ n ∷ []) c.loop-m.invariant (w.node.ensures ∙ ap (node_at ns) next)
          ∙ sym (take_next ns (m - 1) (omega (arith, c.count-m-end.ensures))) ∙ take_all (m - 1 + 1) ns (omega (arith, c.count-m-end.ensures))
    ] in
    record { tree = search rules }
