-- Nodes that pass a test, where the parent of each but the first passes too, keep their parents.
use Rattle.std.proofs.Common.{◌≡◌, ℕ, zero, suc, pred, ◌-◌, ◌<◌, ◌≤◌, Bool, true, false, List, map, length, sym, refl, ap, ◌∙◌, subst, ⊎_elim, arith}
use Rattle.std.proofs.lemmas.List.{length-map, length_push, get_or-map}
use Rattle.std.proofs.lemmas.Bool.{both_ways, cases_eq, cases_Bool}
use Rattle.tree.specs.Nodes.{Node, Laws, nowhere, count, node_at, depth_at}
use Rattle.tree.specs.Paths.{nearest, parent}
use Rattle.tree.specs.XPath.{Both}
use Rattle.tree.proofs.Paths.{kept_rises, member_in, member_kept, nearest_same, nearest_other}
use Rattle.views.specs.Parts.{Part, number}
use Rattle.views.specs.Views.{passing, raised}
use Rattle.views.proofs.Places.{first, first_yes, first_no, first_none, number_next, place}
use Rattle.views.proofs.Roots.{Rooted, after_root, before_root}

module _ (limit : ℕ) (ns : List Node) (laws : Laws limit ns) (f : ℕ → Bool) (r b : ℕ) (w : Rooted ns f r b) where
  abbrev shown : List Node
  shown = map (λ (i : ℕ). raised b (node_at ns i)) (passing ns f)

  shown_depth : (n : ℕ) → n < count ns → f (suc n) ≡ true → depth_at shown (suc (length (first f n))) ≡ depth_at ns (suc n) - b
  shown_depth n l h =
      let p = number_next f n (count ns) l h in
      ap (λ (x : Node). x.depth) (get_or-map (λ (i : ℕ). raised b (node_at ns i)) (passing ns f) (length (first f n)) 0 nowhere p.0) ∙ ap (λ (x : ℕ). depth_at ns x - b) p.1

  -- the nearest node that is shown, where the nearest of all is
  shown_nearest : (e n : ℕ) → b ≤ e → n ≤ count ns → f (nearest ns e n) ≡ true → number (passing ns f) (nearest shown (e - b) (length (first f n))) ≡ nearest ns e n
  shown_nearest e zero g l h = refl
  shown_nearest e (suc n) g l h = ⊎_elim
      (λ (v : f (suc n) ≡ true).
      let d = shown_depth n (omega arith) v in
      let k : length (first f (suc n)) ≡ suc (length (first f n)) = omega (arith, ap length (first_yes f n v), length_push (first f n) (suc n)) in
      let z = (after_root limit ns laws f r b w (suc n) (suc n) (omega arith) (omega arith) l v).1 in
      ap (λ (x : ℕ). number (passing ns f) (nearest shown (e - b) x)) k
      ∙ ⊎_elim
      (λ (q : depth_at ns (suc n) ≡ e).
      ap (number (passing ns f)) (nearest_same shown (e - b) (length (first f n)) (d ∙ ap (λ (x : ℕ). x - b) q))
      ∙ (number_next f n (count ns) (omega arith) v).1 ∙ sym (nearest_same ns e n q))
      (λ (q : depth_at ns (suc n) ≡ e → ⊥).
      ap (number (passing ns f)) (nearest_other shown (e - b) (length (first f n)) (λ y. q (omega (arith, y, d))))
      ∙ shown_nearest e n g (omega arith) (subst (λ (x : ℕ). f x ≡ true) (nearest_other ns e n q) h)
      ∙ sym (nearest_other ns e n q))
      (cases_eq (depth_at ns (suc n)) e))
      (λ (v : f (suc n) ≡ false).
      let q : depth_at ns (suc n) ≡ e → ⊥ = λ z. both_ways (f (suc n)) v (subst (λ (x : ℕ). f x ≡ true) (nearest_same ns e n z) h) in
      ap (λ (z : List ℕ). number (passing ns f) (nearest shown (e - b) (length z))) (first_no f n v)
      ∙ shown_nearest e n g (omega arith) (subst (λ (x : ℕ). f x ≡ true) (nearest_other ns e n q) h)
      ∙ sym (nearest_other ns e n q))
      (cases_Bool (f (suc n)))

  shown_parent : (m : ℕ) → m < count ns → f (suc m) ≡ true → f (parent ns (suc m)) ≡ true → number (passing ns f) (parent shown (suc (length (first f m)))) ≡ parent ns (suc m)
  shown_parent m l v h =
      let z = (after_root limit ns laws f r b w (suc m) (suc m) (omega arith) (omega arith) (omega arith) v).1 in
      let e : pred (depth_at shown (suc (length (first f m)))) ≡ pred (depth_at ns (suc m)) - b = omega (arith, shown_depth m l v) in
      ap (λ (x : ℕ). number (passing ns f) (nearest shown x (length (first f m)))) e ∙ shown_nearest (pred (depth_at ns (suc m))) m (omega arith) (omega arith) h

  -- the root stands first
  root_first : (m : ℕ) → suc m ≡ r → length (first f m) ≡ 0
  root_first m e = ap length (first_none f m (λ i l. before_root limit ns laws f r b w i (omega arith)))

  parents : (j : ℕ) → 2 ≤ j → j ≤ length (passing ns f) → number (passing ns f) (parent shown j) ≡ parent ns (number (passing ns f) j)
  parents j a c =
      let p = place f (count ns) j (omega arith) c in
      let k : number (passing ns f) j ≡ suc p.0 = ap (number (passing ns f)) p.3 ∙ (number_next f p.0 (count ns) p.1 p.2).1 in
      ap (λ (x : ℕ). number (passing ns f) (parent shown x)) p.3
      ∙ shown_parent p.0 p.1 p.2 (⊎_elim
      (λ (e : suc p.0 ≡ r). absurd (omega (arith, root_first p.0 e, p.3)))
      (λ (v : (1 ≤ parent ns (suc p.0)) × (f (parent ns (suc p.0)) ≡ true)). v.1)
      (w.up (suc p.0) (omega arith) (omega (arith, p.1)) p.2))
      ∙ ap (parent ns) (sym k)

  pub part : (P : ℕ → Type 0) → ((m : ℕ) → 1 ≤ m → m ≤ count ns → Both (f m ≡ true) (P m)) → Part ns P (raised b) shown
  part P same = record {
    from = passing ns f;
    rise = kept_rises f (count ns) 1;
    members = λ m. record {
      to = λ h. let k = member_kept f (count ns) 1 m h in (k.0, omega (arith, k.1), (same m k.0 (omega (arith, k.1))).to k.2);
      from = λ h. member_in f (count ns) 1 m h.0 (omega (arith, h.1)) ∙ (same m h.0 h.1).from h.2;
    };
    nodes = refl;
    parents = λ j a c. parents j a (omega (arith, c, length-map (passing ns f) (λ (i : ℕ). raised b (node_at ns i))));
  }
