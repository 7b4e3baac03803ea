-- Steps and questions select what XPath selects.
use Rattle.std.proofs.Common.{◌≡◌, ℕ, ◌≤◌, true, false, eqb, List, [], ◌∷◌, sym, refl, ◌∙◌, subst, inl, inr, ⊎_elim, arith}
use Rattle.std.proofs.lemmas.Bool.{eq-eqb, eqb-true, and_parts, and_from, or_cases, both_ways}
use Rattle.tree.specs.Nodes.{Node, count, label_at}
use Rattle.tree.specs.Paths.{parent, member, passes, reached, chosen, select, follow, root, Below, direct, above}
use Rattle.tree.specs.XPath.{ChildOf, DescendantOf, child, further, DescendantOrSelf, Passes, AxisOf, StepOf, Located, StepsAreXPath, QuestionsAreXPath}
use Rattle.tree.specs.declared.step.Axis.{Axis}
use Rattle.tree.specs.declared.step.Axis.TheVariants.{Child, Descendant}
use Rattle.tree.specs.declared.step.Test.{Test}
use Rattle.tree.specs.declared.step.Test.TheVariants.{Any, Label}
use Rattle.tree.specs.declared.step.Step.{Step}
use Rattle.tree.proofs.Paths.{parent_lt, member_in, member_kept, below_met, met_below}

descendant_below : (ns : List Node) (n m : ℕ) → DescendantOf ns n m → Below ns n m
descendant_below ns n m (child c) = direct c.0 c.2
descendant_below ns n m (further {k = k} d c) = above c.0 (subst (Below ns n) (sym c.2) (descendant_below ns n k d))

below_descendant : (ns : List Node) (n m : ℕ) → m ≤ count ns → Below ns n m → DescendantOf ns n m
below_descendant ns n m l (direct a e) = child (a, l, e)
below_descendant ns n m l (above a b) = further (below_descendant ns n (parent ns m) (let p = parent_lt ns m a in omega arith) b) (a, l, refl)

-- the node above is a descendant of n, or n
below_up : (ns : List Node) (n m : ℕ) → m ≤ count ns → Below ns n m → DescendantOrSelf ns n (parent ns m)
below_up ns n m l (direct a e) = inl (sym e)
below_up ns n m l (above a b) = inr (below_descendant ns n (parent ns m) (let p = parent_lt ns m a in omega arith) b)

up_below : (ns : List Node) (n k m : ℕ) → DescendantOrSelf ns n k → ChildOf ns k m → Below ns n m
up_below ns n k m (inl e) c = direct c.0 (c.2 ∙ sym e)
up_below ns n k m (inr d) c = above c.0 (subst (Below ns n) (sym c.2) (descendant_below ns n k d))

passes_to : (ns : List Node) (t : Test) (m : ℕ) → passes ns t m ≡ true → Passes ns t m
passes_to ns Any m h = tt
passes_to ns (Label l) m h = eqb-true (label_at ns m) l h

passes_from : (ns : List Node) (t : Test) (m : ℕ) → Passes ns t m → passes ns t m ≡ true
passes_from ns Any m h = refl
passes_from ns (Label l) m h = eq-eqb (label_at ns m) l h

axis_to : (ns : List Node) (s : List ℕ) (x : Axis) (m : ℕ) → 1 ≤ m → m ≤ count ns → reached ns s x m ≡ true → (n : ℕ) × (member s n ≡ true) × AxisOf ns x n m
axis_to ns s Child m a b h = (parent ns m, h, (a, b, refl))
axis_to ns s Descendant m a b h = let r = met_below ns s m m h in (r.0, r.1, (parent ns m, below_up ns r.0 m b r.2, (a, b, refl)))

axis_from : (ns : List Node) (s : List ℕ) (x : Axis) (n m : ℕ) → member s n ≡ true → AxisOf ns x n m → (1 ≤ m) × (m ≤ count ns) × (reached ns s x m ≡ true)
axis_from ns s Child n m h c = (c.0, c.1, subst (λ (z : ℕ). member s z ≡ true) (sym c.2) h)
axis_from ns s Descendant n m h (k, d, c) = (c.0, c.1, below_met ns s n m (up_below ns n k m d c) h)

step_to : (ns : List Node) (s : List ℕ) (p : Step) (m : ℕ) → member (select ns s p) m ≡ true → (n : ℕ) × (member s n ≡ true) × StepOf ns p n m
unfolding select chosen
step_to ns s p m h =
    let r = member_kept (chosen ns s p) (count ns) 1 m h in
    let t = and_parts (passes ns p.test m) (reached ns s p.axis m) r.2 in
    let x = axis_to ns s p.axis m r.0 (omega (arith, r.1)) t.1 in
    (x.0, x.1, (x.2, passes_to ns p.test m t.0))

step_from : (ns : List Node) (s : List ℕ) (p : Step) (n m : ℕ) → member s n ≡ true → StepOf ns p n m → member (select ns s p) m ≡ true
unfolding select chosen
step_from ns s p n m h (x, t) =
    let r = axis_from ns s p.axis n m h x in
    member_in (chosen ns s p) (count ns) 1 m r.0 (omega (arith, r.1)) ∙ and_from _ _ (passes_from ns p.test m t) r.2

pub each_step_is_xpath : StepsAreXPath
each_step_is_xpath limit ns laws s p m = record { to = step_to ns s p m; from = λ h. step_from ns s p h.0 m h.1 h.2 }

follow_to : (ns : List Node) (s : List ℕ) (q : List Step) (m : ℕ) → member (follow ns s q) m ≡ true → (n : ℕ) × (member s n ≡ true) × Located ns q n m
follow_to ns s [] m h = (m, h, refl)
follow_to ns s (p ∷ q) m h =
    let r = follow_to ns (select ns s p) q m h in
    let t = step_to ns s p r.0 r.1 in
    (t.0, t.1, (r.0, t.2, r.2))

follow_from : (ns : List Node) (s : List ℕ) (q : List Step) (n m : ℕ) → member s n ≡ true → Located ns q n m → member (follow ns s q) m ≡ true
follow_from ns s [] n m h e = subst (λ (z : ℕ). member s z ≡ true) e h
follow_from ns s (p ∷ q) n m h (k, t, r) = follow_from ns (select ns s p) q k m (step_from ns s p n k h t) r

root_only : (n : ℕ) → member root n ≡ true → n ≡ 0
root_only n h = ⊎_elim (λ (e : eqb 0 n ≡ true). sym (eqb-true 0 n e)) (λ (e : false ≡ true). absurd (both_ways false refl e)) (or_cases (eqb 0 n) false h)

pub questions_are_xpath : QuestionsAreXPath
questions_are_xpath limit ns laws q m = record {
  to = λ h. let r = follow_to ns root q m h in subst (λ (z : ℕ). Located ns q z m) (root_only r.0 r.1) r.2;
  from = λ h. follow_from ns root q 0 m refl h;
}
