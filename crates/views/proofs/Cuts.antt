-- Which nodes are in a set or below a node of it: going on from node to node, a depth tells it of all open nodes.
use Rattle.std.proofs.Common.{◌≡◌, ℕ, zero, suc, pred, ◌<◌, ◌≤◌, Bool, true, false, ◌||◌, leb, List, sym, refl, ap, ◌∙◌, inl, inr, ⊎_elim, arith}
use Rattle.std.proofs.lemmas.Bool.{le-leb, lt-leb, or_left, or_right, or_cases, or_from, cases_lt}
use Rattle.tree.specs.Nodes.{Node, Laws, count, depth_at}
use Rattle.tree.specs.Laws.{laws_follow, least_low}
use Rattle.tree.specs.Paths.{nearest, parent, member, met}
use Rattle.tree.proofs.Paths.{met_up, met_below, below_met, nearest_same, nearest_other}
use Rattle.views.specs.Views.{under}
use Rattle.views.specs.Parts.{Within}

pub under_up : (ns : List Node) (s : List ℕ) (m : ℕ) → 1 ≤ m → under ns s m ≡ (member s m || under ns s (parent ns m))
unfolding under
under_up ns s m l = ap (λ (b : Bool). member s m || b) (met_up ns s m l)

pub under_document : (ns : List Node) (s : List ℕ) → member s 0 ≡ false → under ns s 0 ≡ false
unfolding under
under_document ns s h = or_from _ _ h refl

-- the test says what the relation says
pub within_under : (ns : List Node) (s : List ℕ) (n m : ℕ) → member s n ≡ true → Within ns n m → under ns s m ≡ true
unfolding under
within_under ns s n m h (inl e) = or_left _ _ (ap (member s) e ∙ h)
within_under ns s n m h (inr b) = or_right _ _ (below_met ns s n m b h)

pub under_within : (ns : List Node) (s : List ℕ) (m : ℕ) → under ns s m ≡ true → (n : ℕ) × (member s n ≡ true) × Within ns n m
unfolding under
under_within ns s m h = ⊎_elim
    (λ (e : member s m ≡ true). (m, e, inl refl))
    (λ (e : met ns s m m ≡ true). let r = met_below ns s m m e in (r.0, r.1, inr r.2))
    (or_cases _ _ h)

-- of the nodes open at m, those at depth c and deeper are in s or below a node of s
pub record Cut (ns : List Node) (s : List ℕ) (m c : ℕ) : Type 0 where
  pub some : 1 ≤ c
  pub tells : (e : ℕ) → 1 ≤ e → e ≤ depth_at ns m → under ns s (nearest ns e m) ≡ leb c e

pub cut_start : (ns : List Node) (s : List ℕ) → Cut ns s 0 65
cut_start ns s = record { some = omega arith; tells = λ e a b. absurd (omega arith) }

pub depth_fits : (limit : ℕ) (ns : List Node) → Laws limit ns → (m : ℕ) → m < count ns → (1 ≤ depth_at ns (suc m)) × (depth_at ns (suc m) ≤ 64)
depth_fits limit ns laws m l = let f = laws_follow limit ns laws m l in (omega (arith, f.low, least_low (depth_at ns m)), f.deep)

module _ (limit : ℕ) (ns : List Node) (laws : Laws limit ns) (s : List ℕ) (none : member s 0 ≡ false) where
  parent_cut : (m c d : ℕ) → m < count ns → Cut ns s m c → d ≡ depth_at ns (suc m) → under ns s (nearest ns (pred d) m) ≡ leb c (pred d)
  parent_cut zero c d l h e = under_document ns s none ∙ sym (lt-leb c (pred d) (omega (arith, h.some, laws.root)))
  parent_cut (suc m) c d l h e =
      let w = laws.depths (suc m) (omega arith) l in
      h.tells (pred d) (omega (arith, w.0)) (omega (arith, w.2))

  cut_under : (m c : ℕ) → m < count ns → Cut ns s m c → under ns s (suc m) ≡ (member s (suc m) || leb c (pred (depth_at ns (suc m))))
  cut_under m c l h = under_up ns s (suc m) (omega arith) ∙ ap (λ (b : Bool). member s (suc m) || b) (parent_cut m c (depth_at ns (suc m)) l h refl)

  cut_next : (m c d : ℕ) → m < count ns → Cut ns s m c → 1 ≤ d → ((e : ℕ) → 1 ≤ e → e < depth_at ns (suc m) → leb c e ≡ leb d e) → under ns s (suc m) ≡ leb d (depth_at ns (suc m)) → Cut ns s (suc m) d
  cut_next m c d l h p same here = record {
    some = p;
    tells = λ e a b. ⊎_elim
        (λ (g : e < depth_at ns (suc m)).
        let f = laws_follow limit ns laws m l in
        ap (under ns s) (nearest_other ns e m (λ z. omega (arith, z))) ∙ h.tells e a (omega (arith, f.next)) ∙ same e a g)
        (λ (g : depth_at ns (suc m) ≤ e).
        let z : depth_at ns (suc m) ≡ e = omega arith in
        ap (under ns s) (nearest_same ns e m z) ∙ here ∙ ap (leb d) z)
        (cases_lt e (depth_at ns (suc m)));
  }

  -- the next node is deeper
  pub cut_below : (m c : ℕ) → m < count ns → Cut ns s m c → c < depth_at ns (suc m) → (under ns s (suc m) ≡ true) × Cut ns s (suc m) c
  cut_below m c l h g =
      let t : under ns s (suc m) ≡ true = cut_under m c l h ∙ or_right _ _ (le-leb c (pred (depth_at ns (suc m))) (omega arith)) in
      (t, cut_next m c c l h h.some (λ e a b. refl) (t ∙ sym (le-leb c (depth_at ns (suc m)) (omega arith))))

  -- the next node is not deeper, and is in s
  pub cut_here : (m c : ℕ) → m < count ns → Cut ns s m c → depth_at ns (suc m) ≤ c → member s (suc m) ≡ true → (under ns s (suc m) ≡ true) × Cut ns s (suc m) (depth_at ns (suc m))
  cut_here m c l h g p =
      let t : under ns s (suc m) ≡ true = cut_under m c l h ∙ or_left _ _ p in (
        t,
        cut_next m c (depth_at ns (suc m)) l h (depth_fits limit ns laws m l).0
            (λ e a b. lt-leb c e (omega arith) ∙ sym (lt-leb (depth_at ns (suc m)) e b))
            (t ∙ sym (le-leb (depth_at ns (suc m)) (depth_at ns (suc m)) (omega arith))),
      )

  -- the next node is not deeper, and is not in s
  pub cut_clear : (m c : ℕ) → m < count ns → Cut ns s m c → depth_at ns (suc m) ≤ c → member s (suc m) ≡ false → (under ns s (suc m) ≡ false) × Cut ns s (suc m) 65
  cut_clear m c l h g p =
      let w = depth_fits limit ns laws m l in
      let t : under ns s (suc m) ≡ false = cut_under m c l h ∙ or_from _ _ p (lt-leb c (pred (depth_at ns (suc m))) (omega (arith, w.0))) in (
        t,
        cut_next m c 65 l h (omega arith)
            (λ e a b. lt-leb c e (omega arith) ∙ sym (lt-leb 65 e (omega (arith, w.1))))
            (t ∙ sym (lt-leb 65 (depth_at ns (suc m)) (omega (arith, w.1)))),
      )
