-- The stack of marks, from node to node: it is cut down to the next node's parent, and gets the next node on top.
use Rattle.std.proofs.Common.{◌≡◌, ℕ, suc, ◌+◌, ◌-◌, ◌<◌, ◌≤◌, List, [], ◌∷◌, length, drop, Some, None, Option, sym, refl, ap, ap₂, ◌∙◌, subst, ⊎_elim, arith}
use Rattle.std.specs.Option.{IsSome}
use Rattle.std.proofs.lemmas.List.{length-drop}
use Rattle.std.proofs.lemmas.Bool.{cases_lt}
use Rattle.tree.specs.Nodes.{Node, Laws, count, depth_at}
use Rattle.tree.specs.Laws.{laws_follow, least_low}
use Rattle.tree.specs.Paths.{nearest, parent}
use Rattle.tree.specs.Stacks.{Topped}
use Rattle.tree.proofs.Paths.{nearest_here, nearest_up, parent_depth, parent_is, parent_lt}
use Rattle.tree.specs.declared.step.Step.{Step}
use Rattle.walk.specs.declared.marks.Marks.{Marks}
use Rattle.walk.specs.Marks.{Marked}
use Rattle.walk.specs.Walks.{Open}
use Rattle.walk.proofs.Marking.{marked_document}

module _ (ns : List Node) (q : List Step) where
  pub open_start : (st : List Marks) → st ≡ record { here = 1; over = 1 } ∷ [] → Open ns q 0 st
  open_start st e = subst (Open ns q 0) (sym e) (refl, marked_document ns q)

  -- the marks of the node itself are on top
  pub open_top : (m : ℕ) (x : Marks) (st kept : List Marks) → Open ns q m kept → kept ≡ x ∷ st → Marked ns q m x
  open_top m x st kept o e = top st (subst (Open ns q m) e o)
    where
      top : (st : List Marks) → Open ns q m (x ∷ st) → Marked ns q m x
      top [] o = o.1
      top (y ∷ st) o = o.1

  pub open_some : (m : ℕ) (kept : List Marks) → Open ns q m kept → kept ≡ [] → ⊥
  open_some m kept o e = subst (Open ns q m) e o

  -- one node more, above its parent
  pub open_more : (m : ℕ) (x : Marks) (kept after : List Marks) → 1 ≤ m → Marked ns q m x → Open ns q (parent ns m) kept → after ≡ x ∷ kept → Open ns q m after
  open_more m x [] after l h o e = absurd o
  open_more m x (y ∷ st) after l h o e = subst (Open ns q m) (sym e) (l, h, o)

  module _ (limit : ℕ) (laws : Laws limit ns) where
    pub open_height : (m : ℕ) (st : List Marks) → m ≤ count ns → Open ns q m st → length st ≡ suc (depth_at ns m)
    open_height m [] b o = absurd o
    open_height m (x ∷ []) b o = ap (λ (k : ℕ). suc (depth_at ns k)) (sym o.0)
    open_height m (x ∷ y ∷ st) b o =
        let up = parent_lt ns m o.0 in
        omega (arith, open_height (parent ns m) (y ∷ st) (omega arith) o.2, parent_depth limit ns laws m o.0 b)

    -- cut to a height, the stack is that of the nearest node of one less than this depth
    pub open_cut : (m h : ℕ) (st : List Marks) → m ≤ count ns → 1 ≤ h → h ≤ length st → Open ns q m st → Open ns q (nearest ns (h - 1) m) (drop (length st - h) st)
    open_cut m h [] b a l o = absurd o
    open_cut m h (x ∷ []) b a l o =
        let e : 1 - h ≡ 0 = omega arith in
        let f : nearest ns (h - 1) m ≡ m = ap (nearest ns (h - 1)) o.0 ∙ sym o.0 in
        subst (λ (k : ℕ). Open ns q k (drop (1 - h) (x ∷ []))) (sym f) (subst (λ (k : ℕ). Open ns q m (drop k (x ∷ []))) (sym e) o)
    open_cut m h (x ∷ y ∷ st) b a l o =
        let up = parent_lt ns m o.0 in
        let high = open_height m (x ∷ y ∷ st) b o in
        ⊎_elim
        (λ (g : length (y ∷ st) < h).
        let e : length (x ∷ y ∷ st) - h ≡ 0 = omega arith in
        let f : nearest ns (h - 1) m ≡ m = nearest_here ns (h - 1) m o.0 (omega arith) in
        subst (λ (k : ℕ). Open ns q k (drop (length (x ∷ y ∷ st) - h) (x ∷ y ∷ st))) (sym f) (subst (λ (k : ℕ). Open ns q m (drop k (x ∷ y ∷ st))) (sym e) o))
        (λ (g : h ≤ length (y ∷ st)).
        let e : length (x ∷ y ∷ st) - h ≡ suc (length (y ∷ st) - h) = omega arith in
        let f : nearest ns (h - 1) m ≡ nearest ns (h - 1) (parent ns m) = nearest_up limit ns laws (h - 1) m o.0 b (omega arith) in
        subst (λ (k : ℕ). Open ns q k (drop (length (x ∷ y ∷ st) - h) (x ∷ y ∷ st))) (sym f)
        (subst (λ (k : ℕ). Open ns q (nearest ns (h - 1) (parent ns m)) (drop k (x ∷ y ∷ st))) (sym e) (open_cut (parent ns m) h (y ∷ st) (omega arith) a g o.2)))
        (cases_lt (length (y ∷ st)) h)

    -- the same for the node m, cut to the depth d of the next node k; the marks of that one's parent are on top
    module _ (m k d : ℕ) (st kept : List Marks) (next : k ≡ m + 1) (b : k ≤ count ns) (o : Open ns q m st) (is : d ≡ depth_at ns k) (cut : kept ≡ drop (length st - d) st) where
      pub next_depth : (1 ≤ d) × (d ≤ 64) × (d ≤ length st)
      next_depth =
          let f = laws_follow limit ns laws m (omega arith) in
          let n : k ≡ suc m = omega arith in
          let e : d ≡ depth_at ns (suc m) = is ∙ ap (depth_at ns) n in
          (omega (arith, f.low, least_low (depth_at ns m)), omega (arith, f.deep), omega (arith, f.next, open_height m st (omega arith) o))

      pub open_parent : Open ns q (parent ns k) kept
      open_parent =
          let n = next_depth in
          let e : k - 1 ≡ m = omega arith in
          let p : parent ns k ≡ nearest ns (d - 1) m = parent_is ns k (omega arith) ∙ ap₂ (λ (x : ℕ) (y : ℕ). nearest ns (x - 1) y) (sym is) e in
          subst (λ (j : ℕ). Open ns q j kept) (sym p) (subst (Open ns q (nearest ns (d - 1) m)) (sym cut) (open_cut m d st (omega arith) n.0 n.2 o))

      pub has_parent : (r : Option Marks) → Topped kept r → IsSome r
      has_parent None e = absurd (open_some (parent ns k) kept open_parent e)
      has_parent (Some p) e = refl

      pub parent_marked : (r : Option Marks) (p : Marks) → Topped kept r → r ≡ Some p → Marked ns q (parent ns k) p
      parent_marked r p t e = open_top (parent ns k) p (drop 1 kept) kept open_parent (subst (Topped kept) e t)

      -- there is room for the next
      pub room_next : (n : ℕ) → n ≡ 65 → length kept < n
      room_next n e = let f = next_depth in omega (arith, ap length cut, length-drop (length st - d) st)
