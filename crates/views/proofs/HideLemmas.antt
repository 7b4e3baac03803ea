-- What hiding leaves is a tree of exactly the nodes that bear none of the labels and are below no node that does, and one pass gathers it.
use Rattle.std.proofs.Common.{◌≡◌, ℕ, zero, suc, ◌+◌, ◌-◌, ◌<◌, ◌≤◌, Bool, true, false, not, ◌||◌, ◌==◌, Option, Some, None, ◌⊎◌, List, [], ◌∷◌, ◌++◌, map, length, sym, refl, ap, ◌∙◌, subst, inl, inr, ⊎_elim, arith}
use Rattle.std.specs.List.{list_any}
use Rattle.std.specs.Option.{unwrap_or}
use Rattle.std.proofs.lemmas.List.{length-map, map_push}
use Rattle.std.proofs.lemmas.Bool.{both_ways, not-true, not_from_true, not_from_false, or_parts, or_from, cases_lt, cases_Bool}
use Rattle.tree.specs.Nodes.{Node, Laws, count, node_at, label_at, depth_at, lawful}
use Rattle.tree.specs.Paths.{parent, member}
use Rattle.tree.proofs.Paths.{below_lt, length_kept, member_in, member_out, member_kept, parent_depth}
use Rattle.views.specs.Parts.{Part, Within}
use Rattle.views.specs.Settings.{FreeOf}
use Rattle.views.specs.Views.{bearers, hide, passing, raised, under}
use Rattle.views.proofs.Cuts.{Cut, depth_fits, cut_below, cut_here, cut_clear, under_document, under_up, under_within, within_under}
use Rattle.views.proofs.Parents.{part}
use Rattle.views.proofs.Parts.{part_lawful}
use Rattle.views.proofs.Roots.{Rooted}
use Rattle.views.proofs.Places.{first, first_yes, first_no}

raised_none : (n : Node) → raised 0 n ≡ n
raised_none n = let e : n.depth - 0 ≡ n.depth = omega arith in λ i. record { label = n.label; depth = e i; origin = n.origin }

within_le : (ns : List Node) (n m : ℕ) → Within ns n m → n ≤ m
within_le ns n m (inl e) = omega (arith, e)
within_le ns n m (inr b) = omega (arith, below_lt ns n m b)

-- whether a label is among the labels
pub any_member : (ls : List ℕ) (k : ℕ) → list_any (λ l. l == k) ls ≡ member ls k
any_member [] k = refl
any_member (l ∷ ls) k = ap (λ (b : Bool). (l == k) || b) (any_member ls k)

-- the row has what is left of the nodes before m, and the node m is below a hidden one if it is deeper than the cut
pub record Sofar (ns : List Node) (ls : List ℕ) (m : ℕ) (cut : Option ℕ) (row : List Node) : Type 0 where
  pub seen : ℕ
  pub next : m ≡ suc seen
  pub within : seen ≤ count ns
  pub taken : row ≡ map (node_at ns) (first (λ i. not (under ns (bearers ls ns) i)) seen)
  pub cut_at : Cut ns (bearers ls ns) seen (unwrap_or cut 65)

module _ (limit : ℕ) (ns : List Node) (laws : Laws limit ns) (ls : List ℕ) where
  abbrev free : ℕ → Bool
  free m = not (under ns (bearers ls ns) m)

  none : member (bearers ls ns) 0 ≡ false
  none = member_out (λ m. member ls (label_at ns m)) (count ns) 1 0 (omega arith)

  bears : (m : ℕ) → 1 ≤ m → m ≤ count ns → member (bearers ls ns) m ≡ member ls (label_at ns m)
  bears m a c = member_in (λ m. member ls (label_at ns m)) (count ns) 1 m a (omega arith)

  free_up : (m : ℕ) → 1 ≤ m → m ≤ count ns → free m ≡ true → (m ≡ 1) ⊎ ((1 ≤ parent ns m) × (free (parent ns m) ≡ true))
  free_up zero a c h = absurd (omega arith)
  free_up (suc zero) a c h = inl refl
  free_up (suc (suc m)) a c h =
      let deep = (laws.depths (suc m) (omega arith) c).0 in
      let p = parent_depth limit ns laws (suc (suc m)) a c in
      inr (
        ⊎_elim (λ (z : parent ns (suc (suc m)) < 1). let y : parent ns (suc (suc m)) ≡ 0 = omega arith in absurd (omega (arith, ap (depth_at ns) y))) (λ (z : 1 ≤ parent ns (suc (suc m))). z) (cases_lt (parent ns (suc (suc m))) 1),
        not_from_false _ (or_parts _ _ (sym (under_up ns (bearers ls ns) (suc (suc m)) a) ∙ not-true _ h)).1,
      )

  rooted : member ls (label_at ns 1) ≡ false → Rooted ns free 1 0
  rooted h = record {
    low = omega arith;
    high = laws.some;
    here = not_from_false _ (under_up ns (bearers ls ns) 1 (omega arith) ∙ or_from _ _ (bears 1 (omega arith) laws.some ∙ h) (under_document ns (bearers ls ns) none));
    top = laws.root;
    up = free_up;
  }

  pub hide_lawful : member ls (label_at ns 1) ≡ false → lawful limit (hide ls ns) ≡ true
  hide_lawful h = subst (λ (change : Node → Node). lawful limit (map (λ (m : ℕ). change (node_at ns m)) (passing ns free)) ≡ true) (λ i n. raised_none n i) (part_lawful limit ns laws free 1 0 (rooted h))

  abbrev Free : ℕ → Type 0
  Free m = (n : ℕ) → 1 ≤ n → Within ns n m → member ls (label_at ns n) ≡ false

  is_free : (m : ℕ) → m ≤ count ns → free m ≡ true → Free m
  is_free m c h n a v = ⊎_elim
      (λ (e : member ls (label_at ns n) ≡ true). absurd (both_ways _ (not-true _ h) (within_under ns (bearers ls ns) n m (bears n a (omega (arith, within_le ns n m v)) ∙ e) v)))
      (λ (e : member ls (label_at ns n) ≡ false). e)
      (cases_Bool (member ls (label_at ns n)))

  free_is : (m : ℕ) → Free m → free m ≡ true
  free_is m h = ⊎_elim
      (λ (e : under ns (bearers ls ns) m ≡ true).
      let p = under_within ns (bearers ls ns) m e in
      let k = member_kept (λ m. member ls (label_at ns m)) (count ns) 1 p.0 p.1 in
      absurd (both_ways _ (h p.0 k.0 p.2) k.2))
      (λ (e : under ns (bearers ls ns) m ≡ false). not_from_false _ e)
      (cases_Bool (under ns (bearers ls ns) m))

  pub free_of : member ls (label_at ns 1) ≡ false → FreeOf ls ns (hide ls ns)
  free_of h = subst (λ (change : Node → Node). Part ns Free change (map (λ (m : ℕ). change (node_at ns m)) (passing ns free))) (λ i n. raised_none n i)
      (part limit ns laws free 1 0 (rooted h) Free (λ m a c. record { to = is_free m c; from = free_is m }))

  pub sofar_few : (m : ℕ) (cut : Option ℕ) (row : List Node) → Sofar ns ls m cut row → length row < m
  sofar_few m cut row s = omega (arith, s.next, ap length s.taken, length-map (first free s.seen) (node_at ns), length_kept free s.seen 1)

  -- all nodes were seen
  pub sofar_all : (m : ℕ) (cut : Option ℕ) (row : List Node) → Sofar ns ls m cut row → count ns < m → row ≡ hide ls ns
  sofar_all m cut row s e = let all : s.seen ≡ count ns = omega (arith, s.next, s.within) in s.taken ∙ ap (λ (i : ℕ). map (node_at ns) (first free i)) all

  -- a node that is not deeper than the cut
  within_cut : (cut : Option ℕ) (n : Node) → n.depth ≤ 64 → ((d : ℕ) → cut ≡ Some d → n.depth ≤ d) → n.depth ≤ unwrap_or cut 65
  within_cut None n f h = omega arith
  within_cut (Some d) n f h = h d refl

  -- the node m is x
  module _ (m : ℕ) (cut : Option ℕ) (row : List Node) (s : Sofar ns ls m cut row) (l : m ≤ count ns) (x : Node) (e : x ≡ node_at ns m) where
    is_next : x ≡ node_at ns (suc s.seen)
    is_next = e ∙ ap (node_at ns) s.next

    inside : s.seen < count ns
    inside = omega (arith, s.next)

    next_bears : (v : Bool) → member ls x.label ≡ v → member (bearers ls ns) (suc s.seen) ≡ v
    next_bears v h = bears (suc s.seen) (omega arith) inside ∙ ap (λ (n : Node). member ls n.label) (sym is_next) ∙ h

    shallow : ((d : ℕ) → cut ≡ Some d → x.depth ≤ d) → depth_at ns (suc s.seen) ≤ unwrap_or cut 65
    shallow h = within_cut cut (node_at ns (suc s.seen)) (depth_fits limit ns laws s.seen inside).1 (λ d c. subst (λ (n : Node). n.depth ≤ d) is_next (h d c))

    skip : (after : Option ℕ) → (under ns (bearers ls ns) (suc s.seen) ≡ true) × Cut ns (bearers ls ns) (suc s.seen) (unwrap_or after 65) → Sofar ns ls (m + 1) after row
    skip after next = record {
      seen = suc s.seen;
      next = omega (arith, s.next);
      within = omega (arith, s.next);
      taken = s.taken ∙ ap (map (node_at ns)) (sym (first_no free s.seen (not_from_true _ next.0)));
      cut_at = next.1;
    }

    pub sofar_below : (d : ℕ) → cut ≡ Some d → d < x.depth → Sofar ns ls (m + 1) (Some d) row
    sofar_below d c h = skip (Some d) (cut_below limit ns laws (bearers ls ns) none s.seen d inside (subst (λ (o : Option ℕ). Cut ns (bearers ls ns) s.seen (unwrap_or o 65)) c s.cut_at) (subst (λ (n : Node). d < n.depth) is_next h))

    pub sofar_hidden : ((d : ℕ) → cut ≡ Some d → x.depth ≤ d) → list_any (λ l. l == x.label) ls ≡ true → Sofar ns ls (m + 1) (Some x.depth) row
    sofar_hidden d h = subst (λ (n : Node). Sofar ns ls (m + 1) (Some n.depth) row) (sym is_next)
        (skip (Some (depth_at ns (suc s.seen))) (cut_here limit ns laws (bearers ls ns) none s.seen (unwrap_or cut 65) inside s.cut_at (shallow d) (next_bears true (sym (any_member ls x.label) ∙ h))))

    pub sofar_shown : ((d : ℕ) → cut ≡ Some d → x.depth ≤ d) → list_any (λ l. l == x.label) ls ≡ false → Sofar ns ls (m + 1) None (row ++ x ∷ [])
    sofar_shown d h =
        let next = cut_clear limit ns laws (bearers ls ns) none s.seen (unwrap_or cut 65) inside s.cut_at (shallow d) (next_bears false (sym (any_member ls x.label) ∙ h)) in
        record {
          seen = suc s.seen;
          next = omega (arith, s.next);
          within = omega (arith, s.next);
          taken = (λ i. s.taken i ++ is_next i ∷ []) ∙ sym (map_push (node_at ns) (first free s.seen) (suc s.seen)) ∙ ap (map (node_at ns)) (sym (first_yes free s.seen (not_from_false _ next.0)));
          cut_at = next.1;
        }
