-- Nodes that pass a test, where the parent of each but the first passes too, are a tree.
use Rattle.std.proofs.Common.{◌≡◌, ℕ, zero, suc, ◌+◌, ◌-◌, ◌<◌, ◌≤◌, Bool, true, false, cond, List, ◌∷◌, map, length, filter, sym, refl, ap, ◌∙◌, subst, ⊎_elim, arith}
use Rattle.std.proofs.lemmas.List.{length-map}
use Rattle.std.proofs.lemmas.Bool.{le-leb, and_from, both_ways, cases_lt}
use Rattle.tree.specs.Nodes.{Node, Laws, nowhere, count, node_at, depth_at, least, chain, lawful}
use Rattle.tree.specs.Laws.{Follows, follows_from, laws_follow}
use Rattle.tree.specs.Paths.{nearest, numbers, parent}
use Rattle.tree.proofs.Paths.{length_kept, nearest_between, parent_depth, parent_lt}
use Rattle.views.specs.Views.{passing, raised}
use Rattle.views.proofs.Places.{number_next}
use Rattle.views.proofs.Roots.{Rooted, after_root, before_root}

module _ (limit : ℕ) (ns : List Node) (laws : Laws limit ns) (f : ℕ → Bool) (r b : ℕ) (w : Rooted ns f r b) where
  abbrev at : ℕ → Node
  at i = raised b (node_at ns i)

  -- q is the last node up to m that passes
  record Last (m q : ℕ) : Type 0 where
    some : r ≤ q
    within : q ≤ m
    passes : f q ≡ true
    none : (i : ℕ) → q < i → i ≤ m → f i ≡ false

  -- the next node that passes is at most one level deeper than the last
  last_follows : (m q : ℕ) → m < count ns → Last m q → f (suc m) ≡ true → Follows (at q) (at (suc m))
  last_follows m q l h t =
      let fits = laws.labels (suc m) (omega arith) (omega arith) in
      let origin = laws.origins (suc m) (omega arith) (omega arith) in
      let rises = laws.rise q (suc m) (omega (arith, h.some, w.low)) (omega (arith, h.within)) (omega arith) in
      let deep = (after_root limit ns laws f r b w q q (omega arith) (omega (arith, h.some, w.low)) (omega (arith, h.within)) h.passes).1 in
      let up = passing_parent in
      let step = one_level in
      let p = parent_depth limit ns laws (suc m) (omega arith) l in
      let not_first : suc (depth_at ns q - b - 1) ≡ depth_at ns q - b = omega arith in
      record {
        some = fits.0;
        wide = fits.1;
        low = subst (λ (d : ℕ). least d ≤ depth_at ns (suc m) - b) not_first (omega (arith, up.1, p));
        deep = omega (arith, (laws_follow limit ns laws m l).deep);
        next = omega (arith, step, deep);
        rise = rises;
        most = origin.1;
      }
    where
      -- the parent passes, so it is not later than the last
      passing_parent : (parent ns (suc m) ≤ q) × (b < depth_at ns (parent ns (suc m)))
      passing_parent = ⊎_elim
          (λ (e : suc m ≡ r). absurd (omega (arith, h.some, h.within)))
          (λ (v : (1 ≤ parent ns (suc m)) × (f (parent ns (suc m)) ≡ true)).
          let x = parent_lt ns (suc m) (omega arith) in (
            ⊎_elim (λ (g : q < parent ns (suc m)). absurd (both_ways _ (h.none (parent ns (suc m)) g (omega arith)) v.1)) (λ (g : parent ns (suc m) ≤ q). g) (cases_lt q (parent ns (suc m))),
            (after_root limit ns laws f r b w m (parent ns (suc m)) (omega arith) v.0 (omega arith) v.1).1,
          ))
          (w.up (suc m) (omega arith) l t)

      one_level : depth_at ns (suc m) ≤ depth_at ns q + 1
      one_level =
          let p = parent_depth limit ns laws (suc m) (omega arith) l in
          ⊎_elim
          (λ (g : parent ns (suc m) < q). omega (arith, nearest_between limit ns laws (depth_at ns (suc m) - 1) m q l (omega arith) (subst (λ (d : ℕ). nearest ns d m < q) (omega arith) g) h.within))
          (λ (g : q ≤ parent ns (suc m)). let e : q ≡ parent ns (suc m) = omega (arith, passing_parent.0) in omega (arith, ap (depth_at ns) e))
          (cases_lt (parent ns (suc m)) q)

  later : (n m q : ℕ) (v : Bool) → f (suc m) ≡ v → m < count ns → Last m q
      → ((x : ℕ) → Last (suc m) x → chain (at x) (map at (filter f (numbers n (suc (suc m))))) ≡ true)
      → chain (at q) (map at (cond v (suc m ∷ filter f (numbers n (suc (suc m)))) (filter f (numbers n (suc (suc m)))))) ≡ true
  later n m q true t l h go = and_from _ _ (follows_from (at q) (at (suc m)) (last_follows m q l h t))
      (go (suc m) (record { some = omega (arith, h.some, h.within); within = omega arith; passes = t; none = λ i x y. absurd (omega arith) }))
  later n m q false t l h go =
      go q (record {
        some = h.some;
        within = omega (arith, h.within);
        passes = h.passes;
        none = λ i x y. ⊎_elim (λ (z : i < suc m). h.none i x (omega arith)) (λ (z : suc m ≤ i). let e : i ≡ suc m = omega arith in ap f e ∙ t) (cases_lt i (suc m));
      })

  later_chain : (n m q : ℕ) → m + n ≡ count ns → Last m q → chain (at q) (map at (filter f (numbers n (suc m)))) ≡ true
  later_chain zero m q e h = refl
  later_chain (suc n) m q e h = later n m q (f (suc m)) refl (omega arith) h (λ x k. later_chain n (suc m) x (omega arith) k)

  root_follows : Follows nowhere (at r)
  root_follows =
      let fits = laws.labels r w.low w.high in
      let origin = laws.origins r w.low w.high in
      let t = w.top in
      record { some = fits.0; wide = fits.1; low = omega arith; deep = omega arith; next = omega arith; rise = origin.0; most = origin.1 }

  root_chain : (n m : ℕ) (v : Bool) → f (suc m) ≡ v → suc m ≡ r → m + suc n ≡ count ns
      → chain nowhere (map at (cond v (suc m ∷ filter f (numbers n (suc (suc m)))) (filter f (numbers n (suc (suc m)))))) ≡ true
  root_chain n m true t e c = subst (λ (i : ℕ). chain nowhere (map at (i ∷ filter f (numbers n (suc i)))) ≡ true) (sym e)
      (and_from _ _ (follows_from nowhere (at r) root_follows)
      (later_chain n r r (omega arith) (record { some = omega arith; within = omega arith; passes = w.here; none = λ i x y. absurd (omega arith) })))
  root_chain n m false t e c = absurd (both_ways (f r) (subst (λ (i : ℕ). f i ≡ false) e t) w.here)

  first_chain : (n m : ℕ) → m + n ≡ count ns → m < r → chain nowhere (map at (filter f (numbers n (suc m)))) ≡ true
  first_chain zero m e l = absurd (omega (arith, w.high))
  first_chain (suc n) m e l = ⊎_elim
      (λ (g : suc m < r). subst (λ (v : Bool). chain nowhere (map at (cond v (suc m ∷ filter f (numbers n (suc (suc m)))) (filter f (numbers n (suc (suc m)))))) ≡ true) (sym (before_root limit ns laws f r b w m g)) (first_chain n (suc m) (omega arith) g))
      (λ (g : r ≤ suc m). root_chain n m (f (suc m)) refl (omega arith) e)
      (cases_lt (suc m) r)

  root_place : length (filter f (numbers (r - 1) 1)) < length (passing ns f)
  root_place = let e : r ≡ suc (r - 1) = omega (arith, w.low) in (number_next f (r - 1) (count ns) (omega (arith, w.low, w.high)) (sym (ap f e) ∙ w.here)).0

  pub part_lawful : lawful limit (map at (passing ns f)) ≡ true
  unfolding lawful
  part_lawful =
      let n = length-map (passing ns f) at in
      and_from _ _ (le-leb 1 (count (map at (passing ns f))) (omega (arith, root_place)))
      (and_from _ _ (le-leb (count (map at (passing ns f))) limit (omega (arith, length_kept f (count ns) 1, laws.most)))
      (first_chain (count ns) 0 (omega arith) w.low))
