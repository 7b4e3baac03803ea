-- The nodes picked on the way through a tree.
use Rattle.std.proofs.Common.{◌≡◌, ℕ, zero, suc, ◌+◌, ◌-◌, ◌<◌, ◌≤◌, Bool, true, false, cond, List, [], ◌∷◌, ◌++◌, map, length, get_or, take, drop, set, filter, Err, sym, refl, ap, ◌∙◌, subst, add-one, arith}
use Rattle.std.proofs.lemmas.List.{length-map, length-append, length-drop, length_push, take_all, drop_more, set_at, append_assoc}
use Rattle.tree.specs.Nodes.{Node, count, origin_at}
use Rattle.tree.specs.Paths.{numbers, chosen, select, selects}
use Rattle.tree.proofs.Paths.{length_kept}
use Rattle.tree.specs.declared.step.Step.{Step}
use Rattle.walk.specs.Marks.{any_step, ends}
use Rattle.walk.specs.declared.fault.WalkFault.{WalkFault}
use Rattle.walk.specs.declared.fault.WalkFault.TheVariants.{NoQuestion, Short}
use Rattle.walk.specs.Walks.{left, origins, Question, Walked}
use Rattle.walk.proofs.Marking.{ends_next, selects_next}

kept_same : (f g : ℕ → Bool) (n b : ℕ) → ((k : ℕ) → b ≤ k → k < b + n → f k ≡ g k) → filter f (numbers n b) ≡ filter g (numbers n b)
kept_same f g zero b h = refl
kept_same f g (suc n) b h =
    ap (λ (v : Bool). cond v (b ∷ filter f (numbers n (suc b))) (filter f (numbers n (suc b)))) (h b (omega arith) (omega arith))
    ∙ ap (λ (z : List ℕ). cond (g b) (b ∷ z) z) (kept_same f g n (suc b) (λ k l m. h k (omega arith) (omega arith)))

picked_all : (ns : List Node) (q : List Step) → 1 ≤ length q → filter (ends ns q (length q)) (numbers (count ns) 1) ≡ selects ns q
unfolding select
picked_all ns q l =
    let i = length q - 1 in
    let e : suc (length q - 1) ≡ length q = omega arith in
    kept_same (ends ns q (length q)) (chosen ns (selects ns (take (length q - 1) q)) (get_or q (length q - 1) any_step)) (count ns) 1
    (λ k a b. subst (λ (j : ℕ). ends ns q j k ≡ chosen ns (selects ns (take (length q - 1) q)) (get_or q (length q - 1) any_step) k) e (ends_next ns q (length q - 1) k (omega arith) a (omega arith)))
    ∙ sym (selects_next ns q (length q - 1) (omega arith))
    ∙ ap (λ (j : ℕ). selects ns (take j q)) e
    ∙ ap (selects ns) (take_all (length q) q (omega arith))

pub left_all : (ns : List Node) (q : List Step) → 1 ≤ length q → left ns q 0 ≡ origins ns q
left_all ns q l =
    let e : count ns - 0 ≡ count ns = omega arith in
    ap (λ (x : ℕ). map (origin_at ns) (filter (ends ns q (length q)) (numbers x 1))) e ∙ ap (map (origin_at ns)) (picked_all ns q l)

-- the next node is among those left or not
left_next : (ns : List Node) (q : List Step) (m : ℕ) (v : Bool) → m < count ns → ends ns q (length q) (m + 1) ≡ v → left ns q m ≡ cond v (origin_at ns (m + 1) ∷ left ns q (m + 1)) (left ns q (m + 1))
left_next ns q m v l h =
    let f = ends ns q (length q) in
    let e : count ns - m ≡ suc (count ns - (m + 1)) = omega arith in
    let n : suc m ≡ m + 1 = sym (add-one m) in
    ap (λ (x : ℕ). map (origin_at ns) (filter (ends ns q (length q)) (numbers x (suc m)))) e
    ∙ ap (λ (k : ℕ). map (origin_at ns) (filter (ends ns q (length q)) (numbers (suc (count ns - (m + 1))) k))) n
    ∙ ap (λ (b : Bool). map (origin_at ns) (cond b ((m + 1) ∷ filter (ends ns q (length q)) (numbers (count ns - (m + 1)) (suc (m + 1)))) (filter (ends ns q (length q)) (numbers (count ns - (m + 1)) (suc (m + 1)))))) h
    ∙ map_cond v
  where
    map_cond : (b : Bool) → map (origin_at ns) (cond b ((m + 1) ∷ filter (ends ns q (length q)) (numbers (count ns - (m + 1)) (suc (m + 1)))) (filter (ends ns q (length q)) (numbers (count ns - (m + 1)) (suc (m + 1))))) ≡ cond b (origin_at ns (m + 1) ∷ left ns q (m + 1)) (left ns q (m + 1))
    map_cond true = refl
    map_cond false = refl

pub left_yes : (ns : List Node) (q : List Step) (m : ℕ) → m < count ns → ends ns q (length q) (m + 1) ≡ true → left ns q m ≡ origin_at ns (m + 1) ∷ left ns q (m + 1)
left_yes ns q m l h = left_next ns q m true l h

pub left_no : (ns : List Node) (q : List Step) (m : ℕ) → m < count ns → ends ns q (length q) (m + 1) ≡ false → left ns q m ≡ left ns q (m + 1)
left_no ns q m l h = left_next ns q m false l h

-- at most all nodes are left
pub left_few : (ns : List Node) (q : List Step) (m : ℕ) → length (left ns q m) ≤ count ns
left_few ns q m = omega (arith, length-map (filter (ends ns q (length q)) (numbers (count ns - m) (suc m))) (origin_at ns), length_kept (ends ns q (length q)) (count ns - m) (suc m))

-- the first k of all are in the slots, and the rest are still to come
pub record Listed (all before : List ℕ) (k : ℕ) (rest out : List ℕ) : Type 0 where
  pub front : List ℕ
  pub whole : all ≡ front ++ rest
  pub long : length front ≡ k
  pub filled : out ≡ front ++ drop k before

listed_fits : (all before : List ℕ) (k : ℕ) (rest out : List ℕ) (x : ℕ) (more : List ℕ) → length all ≤ length before → Listed all before k rest out → rest ≡ x ∷ more → (k < length before) × (k < length out)
listed_fits all before k rest out x more l s e =
    let w : length all ≡ length s.front + length (x ∷ more) = ap length (s.whole ∙ ap (λ (z : List ℕ). s.front ++ z) e) ∙ length-append s.front (x ∷ more) in
    (omega (arith, s.long), omega (arith, s.long, ap length s.filled, length-append s.front (drop k before), length-drop k before))

pub listed_more : (all before : List ℕ) (k : ℕ) (rest out : List ℕ) (x : ℕ) (more : List ℕ) → length all ≤ length before → Listed all before k rest out → rest ≡ x ∷ more → Listed all before (k + 1) more (set out k x)
listed_more all before k rest out x more l s e =
    let fits = listed_fits all before k rest out x more l s e in
    record {
      front = s.front ++ x ∷ [];
      whole = s.whole ∙ ap (λ (z : List ℕ). s.front ++ z) e ∙ sym (append_assoc s.front (x ∷ []) more);
      long = length_push s.front x ∙ ap (λ (n : ℕ). n + 1) s.long;
      filled =
          ap (λ (z : List ℕ). set z k x) (s.filled ∙ ap (λ (z : List ℕ). s.front ++ z) (drop_more before k 0 fits.0))
          ∙ set_at s.front (get_or before k 0) (drop (k + 1) before) x k s.long
          ∙ sym (append_assoc s.front (x ∷ []) (drop (k + 1) before));
    }

-- with a slot for each node, no question is refused
pub never_refused : (ns : List Node) (q : List Step) (before : List ℕ) (e : WalkFault) (after : List ℕ) → Question q → count ns ≤ length before → Walked ns q before (Err e) after → ⊥
never_refused ns q before NoQuestion after h l w = w.0 h
never_refused ns q before (Short n) after h l w = omega (arith, w.1, w.2, ap length (left_all ns q h.some), left_few ns q 0)
