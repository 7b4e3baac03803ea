-- A branch is a tree of exactly k and the nodes below k, and one pass gathers it.
use Rattle.std.proofs.Common.{◌≡◌, ℕ, zero, suc, ◌+◌, ◌-◌, ◌<◌, ◌≤◌, Bool, true, false, eqb, ◌⊎◌, List, [], ◌∷◌, ◌++◌, map, length, sym, refl, ap, ◌∙◌, subst, inl, inr, ⊎_elim, add-one, arith}
use Rattle.std.proofs.lemmas.List.{length-map, map_push}
use Rattle.std.proofs.lemmas.Bool.{eq-eqb, ne_eqb, eqb-true, or_left, or_cases, or_from, both_ways, cases_lt}
use Rattle.tree.specs.Nodes.{Node, Laws, count, node_at, depth_at, lawful}
use Rattle.tree.specs.Paths.{parent, member}
use Rattle.tree.proofs.Paths.{length_kept, parent_depth}
use Rattle.views.specs.Parts.{Within}
use Rattle.views.specs.Settings.{BranchOf}
use Rattle.views.specs.Views.{branch, raised, under}
use Rattle.views.proofs.Cuts.{Cut, cut_start, cut_below, cut_here, cut_clear, depth_fits, under_document, under_up, under_within, within_under}
use Rattle.views.proofs.Parents.{part}
use Rattle.views.proofs.Parts.{part_lawful}
use Rattle.views.proofs.Roots.{Rooted, before_root}
use Rattle.views.proofs.Places.{first, first_yes, first_no, first_none}

-- the row has what the branch has of the nodes before m, and the node m is in the branch if it is deeper than k
pub record Sofar (ns : List Node) (k m : ℕ) (row : List Node) : Type 0 where
  pub seen : ℕ
  pub next : m ≡ suc seen
  pub within : seen ≤ count ns
  pub from : k ≤ seen
  pub taken : row ≡ map (λ (i : ℕ). raised (depth_at ns k - 1) (node_at ns i)) (first (under ns (k ∷ [])) seen)
  pub cut : Cut ns (k ∷ []) seen (depth_at ns k)

module _ (limit : ℕ) (ns : List Node) (laws : Laws limit ns) (k : ℕ) (low : 1 ≤ k) (high : k ≤ count ns) where
  abbrev inside : ℕ → Bool
  inside m = under ns (k ∷ []) m

  abbrev moved : ℕ → Node
  moved i = raised (depth_at ns k - 1) (node_at ns i)

  only_k : (m : ℕ) → member (k ∷ []) m ≡ true → m ≡ k
  only_k m h = ⊎_elim (λ (e : eqb k m ≡ true). sym (eqb-true k m e)) (λ (e : false ≡ true). absurd (both_ways false refl e)) (or_cases (eqb k m) false h)

  not_k : (m : ℕ) → (m ≡ k → ⊥) → member (k ∷ []) m ≡ false
  not_k m h = or_from _ _ (ne_eqb k m (λ e. h (sym e))) refl

  none : member (k ∷ []) 0 ≡ false
  none = not_k 0 (λ e. omega (arith, e))

  inside_k : inside k ≡ true
  inside_k = within_under ns (k ∷ []) k k (or_left _ _ (eq-eqb k k refl)) (inl refl)

  inside_up : (m : ℕ) → 1 ≤ m → inside m ≡ true → (m ≡ k) ⊎ ((1 ≤ parent ns m) × (inside (parent ns m) ≡ true))
  inside_up m a h = ⊎_elim
      (λ (e : member (k ∷ []) m ≡ true). inl (only_k m e))
      (λ (e : inside (parent ns m) ≡ true). inr (⊎_elim
      (λ (z : parent ns m < 1). let y : parent ns m ≡ 0 = omega arith in absurd (both_ways (inside 0) (under_document ns (k ∷ []) none) (subst (λ (i : ℕ). inside i ≡ true) y e)))
      (λ (z : 1 ≤ parent ns m). (z, e))
      (cases_lt (parent ns m) 1)))
      (or_cases _ _ (sym (under_up ns (k ∷ []) m a) ∙ h))

  rooted : Rooted ns inside k (depth_at ns k - 1)
  rooted = record { low = low; high = high; here = inside_k; top = omega (arith, parent_depth limit ns laws k low high); up = λ m a c h. inside_up m a h }

  pub branch_lawful : lawful limit (branch k ns) ≡ true
  branch_lawful = part_lawful limit ns laws inside k (depth_at ns k - 1) rooted

  pub branch_of : BranchOf k ns (branch k ns)
  branch_of = part limit ns laws inside k (depth_at ns k - 1) rooted (Within ns k) (λ m a c. record {
    to = λ h. let p = under_within ns (k ∷ []) m h in subst (λ (i : ℕ). Within ns i m) (only_k p.0 p.1) p.2;
    from = λ h. within_under ns (k ∷ []) k m (or_left _ _ (eq-eqb k k refl)) h;
  })

  cut_before : (m : ℕ) → m < k → Cut ns (k ∷ []) m 65
  cut_before zero l = cut_start ns (k ∷ [])
  cut_before (suc m) l = (cut_clear limit ns laws (k ∷ []) none m 65 (omega (arith, high)) (cut_before m (omega arith)) (omega (arith, (depth_fits limit ns laws m (omega (arith, high))).1)) (not_k (suc m) (λ e. omega (arith, e)))).1

  at_k : (m : ℕ) → suc m ≡ k → (first inside k ≡ k ∷ []) × Cut ns (k ∷ []) k (depth_at ns k)
  at_k m e =
      let alone : first inside m ≡ [] = first_none inside m (λ i l. before_root limit ns laws inside k (depth_at ns k - 1) rooted i (omega arith)) in
      let yes : inside (suc m) ≡ true = ap inside e ∙ inside_k in
      let l : m < count ns = omega (arith, high) in
      let deep = (depth_fits limit ns laws m l).1 in
      let cut = (cut_here limit ns laws (k ∷ []) none m 65 l (cut_before m (omega arith)) (omega arith) (or_left _ _ (eq-eqb k (suc m) (sym e)))).1 in (
        subst (λ (i : ℕ). first inside i ≡ i ∷ []) e (first_yes inside m yes ∙ ap (λ (z : List ℕ). z ++ suc m ∷ []) alone),
        subst (λ (i : ℕ). Cut ns (k ∷ []) i (depth_at ns i)) e cut,
      )

  pub sofar_start : (row : List Node) → row ≡ raised (depth_at ns k - 1) (node_at ns k) ∷ [] → Sofar ns k (k + 1) row
  sofar_start row e =
      let s = at_k (k - 1) (omega arith) in
      record { seen = k; next = add-one k; within = high; from = omega arith; taken = e ∙ ap (map moved) (sym s.0); cut = s.1 }

  pub sofar_few : (m : ℕ) (row : List Node) → Sofar ns k m row → length row < m
  sofar_few m row s = omega (arith, s.next, ap length s.taken, length-map (first inside s.seen) moved, length_kept inside s.seen 1)

  -- all nodes were seen
  pub sofar_all : (m : ℕ) (row : List Node) → Sofar ns k m row → count ns < m → row ≡ branch k ns
  sofar_all m row s e = let all : s.seen ≡ count ns = omega (arith, s.next, s.within) in s.taken ∙ ap (λ (i : ℕ). map moved (first inside i)) all

  none_after : (n m : ℕ) → m + n ≡ count ns → k ≤ m → Cut ns (k ∷ []) m 65 → first inside (count ns) ≡ first inside m
  none_after zero m e l h = let z : count ns ≡ m = omega arith in ap (first inside) z
  none_after (suc n) m e l h =
      let deep = (depth_fits limit ns laws m (omega arith)).1 in
      let next = cut_clear limit ns laws (k ∷ []) none m 65 (omega arith) h (omega arith) (not_k (suc m) (λ z. omega (arith, z))) in
      none_after n (suc m) (omega arith) (omega arith) next.1 ∙ first_no inside m next.0

  -- the node m is x
  module _ (m : ℕ) (row : List Node) (s : Sofar ns k m row) (l : m ≤ count ns) (x : Node) (e : x ≡ node_at ns m) where
    is_next : x ≡ node_at ns (suc s.seen)
    is_next = e ∙ ap (node_at ns) s.next

    -- it is no deeper than k, and no later node is in the branch
    pub sofar_stop : x.depth ≤ depth_at ns k → row ≡ branch k ns
    sofar_stop d =
        let next = cut_clear limit ns laws (k ∷ []) none s.seen (depth_at ns k) (omega (arith, s.next)) s.cut (subst (λ (n : Node). n.depth ≤ depth_at ns k) is_next d) (not_k (suc s.seen) (λ z. omega (arith, z, s.from))) in
        s.taken ∙ ap (map moved) (sym (none_after (count ns - suc s.seen) (suc s.seen) (omega (arith, s.next)) (omega (arith, s.from)) next.1 ∙ first_no inside s.seen next.0))

    pub sofar_more : depth_at ns k < x.depth → Sofar ns k (m + 1) (row ++ raised (depth_at ns k - 1) x ∷ [])
    sofar_more d =
        let next = cut_below limit ns laws (k ∷ []) none s.seen (depth_at ns k) (omega (arith, s.next)) s.cut (subst (λ (n : Node). depth_at ns k < n.depth) is_next d) in
        record {
          seen = suc s.seen;
          next = omega (arith, s.next);
          within = omega (arith, s.next);
          from = omega (arith, s.from);
          taken = (λ i. s.taken i ++ raised (depth_at ns k - 1) (is_next i) ∷ []) ∙ sym (map_push moved (first inside s.seen) (suc s.seen)) ∙ ap (map moved) (sym (first_yes inside s.seen next.0));
          cut = next.1;
        }
