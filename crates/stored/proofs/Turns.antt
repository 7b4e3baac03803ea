-- Names numbered as they first appear, and labels that come in their turn.
use Rattle.std.proofs.Common.{◌≡◌, ℕ, zero, suc, ◌+◌, ◌<◌, ◌≤◌, max, true, leb, List, [], ◌∷◌, length, get_or, take, fold, sym, refl, ap, ◌∙◌, subst, ap₂, ⊎_elim, add-one, arith}
use native.Mathlib.Nat.{max-le, max-eq_left, max-eq_right}
use Rattle.std.proofs.lemmas.List.{length-append, length-take-le, take_more, get_or-take}
use Rattle.std.proofs.lemmas.Bool.{le-leb, leb-true, and_parts, and_from, cases_lt}
use Rattle.names.specs.Lists.{before, number_of, with_name, Distinct}
use Rattle.names.proofs.Finds.{before_le}
use Rattle.names.proofs.Names.{before_is, before_first, number_some}
use Rattle.names.proofs.Firsts.{with_known, with_new, before_with, known_stays, new_known, firsts_more}
use Rattle.tree.specs.Nodes.{Node, shape}
use Rattle.stored.specs.Plans.{Named, name_at, named_by, plan_of, names_of, node_by, nodes_by}
use Rattle.stored.specs.Openings.{in_turn}
use Rattle.stored.proofs.NodeFields.{Turn, greatest, From, shape_label}

-- the names of a plan behind those that are there
abbrev pub grown : List (List ℕ) → List Named → List (List ℕ)
grown seen ps = fold (λ ms p. with_name p.name ms) seen ps

-- the depths of a plan, behind the depth d, are those of a tree, whatever labels its nodes get
abbrev pub Deep : ℕ → List Named → Type 0
Deep d [] = Unit {0}
Deep d (p ∷ ps) = ((l : ℕ) → 1 ≤ l → l ≤ 65535 → shape d l p.depth ≡ true) × Deep p.depth ps

pub from_by : (ms : List (List ℕ)) (i : ℕ) (ps : List Named) → From i (nodes_by ms i ps)
from_by ms i [] = tt
from_by ms i (p ∷ ps) = (refl, from_by ms (suc i) ps)

pub length_by : (ms : List (List ℕ)) (i : ℕ) (ps : List Named) → length (nodes_by ms i ps) ≡ length ps
length_by ms i [] = refl
length_by ms i (p ∷ ps) = ap suc (length_by ms (suc i) ps)

known_with : (n : List ℕ) (seen : List (List ℕ)) → before n (with_name n seen) < length (with_name n seen)
known_with n seen =
    ⊎_elim
    (λ h. subst (λ (z : List (List ℕ)). before n z < length z) (sym (with_known n seen h)) h)
    (λ h. subst (λ (z : List (List ℕ)). before n z < length z) (sym (with_new n seen h)) (new_known n seen [] h))
    (cases_lt (before n seen) (length seen))

-- the first name of a plan is among all, with the number that it gets when it is read
module _ (seen : List (List ℕ)) (p : Named) (ps : List Named) where
  abbrev final : List (List ℕ)
  final = grown seen (p ∷ ps)

  pub known_here : before p.name final < length final
  known_here =
      let r = firsts_more (λ (q : Named). q.name) (with_name p.name seen) ps in
      subst (λ (z : List (List ℕ)). before p.name z < length z) (sym r.1) (known_stays p.name (with_name p.name seen) r.0 (known_with p.name seen))

  same_here : before p.name final ≡ before p.name seen
  same_here = let r = firsts_more (λ (q : Named). q.name) (with_name p.name seen) ps in ap (before p.name) r.1 ∙ before_with p.name seen r.0

  pub number_here : number_of p.name final ≡ suc (before p.name seen)
  number_here = sym (number_some p.name final known_here) ∙ add-one (before p.name final) ∙ ap suc same_here

  -- the greatest number so far is how many names there are
  max_here : max (length seen) (number_of p.name final) ≡ length (with_name p.name seen)
  max_here =
      ⊎_elim
      (λ (h : before p.name seen < length seen). max-eq_left (omega (arith, number_here)) ∙ ap length (sym (with_known p.name seen h)))
      (λ (h : length seen ≤ before p.name seen).
      max-eq_right (omega (arith, number_here)) ∙ number_here ∙ (let e : suc (before p.name seen) ≡ length (with_name p.name seen) = omega (arith, before_le p.name seen, ap length (with_new p.name seen h) ∙ length-append seen (p.name ∷ [])) in e))
      (cases_lt (before p.name seen) (length seen))

  turn_here : in_turn (length final) (length seen) (number_of p.name final) ≡ true
  turn_here =
      let l = number_of p.name final in
      and_from _ _ (le-leb l (suc (length seen)) (omega (arith, number_here, before_le p.name seen))) (le-leb l (length final) (omega (arith, number_here, same_here, known_here)))

pub turn_by : (i d : ℕ) (seen : List (List ℕ)) (ps : List Named) → Deep d ps → length (grown seen ps) ≤ 65535 → Turn (length (grown seen ps)) (length seen) d (nodes_by (grown seen ps) i ps)
turn_by i d seen [] h m = tt
turn_by i d seen (p ∷ ps) h m =
    let final = grown seen (p ∷ ps) in
    let l = number_of p.name final in
    let low : 1 ≤ l = omega (arith, number_here seen p ps) in
    let high : l ≤ 65535 = omega (arith, leb-true l (length final) (and_parts (leb l (suc (length seen))) (leb l (length final)) (turn_here seen p ps)).1) in
    (turn_here seen p ps, h.0 l low high, subst (λ (g : ℕ). Turn (length final) g p.depth (nodes_by final (suc i) ps)) (sym (max_here seen p ps)) (turn_by (suc i) p.depth (with_name p.name seen) ps h.1 m))

pub greatest_by : (i : ℕ) (seen : List (List ℕ)) (ps : List Named) → greatest (length seen) (nodes_by (grown seen ps) i ps) ≡ length (grown seen ps)
greatest_by i seen [] = refl
greatest_by i seen (p ∷ ps) =
    ap (λ (g : ℕ). greatest g (nodes_by (grown seen (p ∷ ps)) (suc i) ps)) (max_here seen p ps) ∙ greatest_by (suc i) (with_name p.name seen) ps

-- the name with the number of a known name is that name
pub name_back : (n : List ℕ) (ms : List (List ℕ)) → before n ms < length ms → name_at ms (number_of n ms) ≡ n
name_back n ms h = ap (name_at ms) (sym (number_some n ms h) ∙ add-one (before n ms)) ∙ before_is n ms h

plan_by : (i : ℕ) (seen : List (List ℕ)) (ps : List Named) → plan_of (grown seen ps) (nodes_by (grown seen ps) i ps) ≡ ps
plan_by i seen [] = refl
plan_by i seen (p ∷ ps) =
    let here : named_by (grown seen (p ∷ ps)) (node_by (grown seen (p ∷ ps)) i p) ≡ p = λ j. record { name = name_back p.name (grown seen (p ∷ ps)) (known_here seen p ps) j; depth = p.depth } in
    ap₂ (λ (x : Named) (xs : List Named). x ∷ xs) here (plan_by (suc i) (with_name p.name seen) ps)

-- what is stored of a plan tells the plan
pub plan_back : (ps : List Named) → plan_of (names_of ps) (nodes_by (names_of ps) 1 ps) ≡ ps
plan_back ps = plan_by 1 [] ps

-- among distinct names each has its own number
pub number_back : (ms : List (List ℕ)) → Distinct ms → (l : ℕ) → 1 ≤ l → l ≤ length ms → number_of (name_at ms l) ms ≡ l
number_back ms d zero a b = absurd (omega arith)
number_back ms d (suc k) a b =
    let first : before (get_or ms k []) ms ≤ k = before_first (get_or ms k []) ms k (omega arith) refl in
    let same : before (get_or ms k []) ms ≡ k = ⊎_elim
    (λ (h : before (get_or ms k []) ms < k). absurd (d (before (get_or ms k []) ms) k h (omega arith) (before_is (get_or ms k []) ms (omega arith))))
    (λ (h : k ≤ before (get_or ms k []) ms). omega arith)
    (cases_lt (before (get_or ms k []) ms) k) in
    sym (number_some (get_or ms k []) ms (omega arith)) ∙ add-one (before (get_or ms k []) ms) ∙ ap suc same

-- a name among the first g
taken_known : (ms : List (List ℕ)) (g k : ℕ) → k < g → g ≤ length ms → before (get_or ms k []) (take g ms) < length (take g ms)
taken_known ms g k a b =
    let long = length-take-le g ms b in
    let first = before_first (get_or ms k []) (take g ms) k (omega arith) (get_or-take g ms k [] a) in
    omega arith

-- the next one is not among them
taken_new : (ms : List (List ℕ)) (g : ℕ) → Distinct ms → g < length ms → length (take g ms) ≤ before (get_or ms g []) (take g ms)
taken_new ms g d l =
    let long = length-take-le g ms (omega arith) in
    ⊎_elim
    (λ (h : before (get_or ms g []) (take g ms) < length (take g ms)).
    let k = before (get_or ms g []) (take g ms) in
    absurd (d k g (omega arith) l (sym (get_or-take g ms k [] (omega arith)) ∙ before_is (get_or ms g []) (take g ms) h)))
    (λ (h : length (take g ms) ≤ before (get_or ms g []) (take g ms)). h)
    (cases_lt (before (get_or ms g []) (take g ms)) (length (take g ms)))

-- a label in its turn makes the names known that it should
with_turn : (ms : List (List ℕ)) (g l : ℕ) → Distinct ms → g ≤ length ms → 1 ≤ l → l ≤ suc g → l ≤ length ms → with_name (name_at ms l) (take g ms) ≡ take (max g l) ms
with_turn ms g zero d a b c e = absurd (omega arith)
with_turn ms g (suc k) d a b c e =
    ⊎_elim
    (λ (h : k < g). with_known (get_or ms k []) (take g ms) (taken_known ms g k h a) ∙ ap (λ (j : ℕ). take j ms) (sym (max-eq_left (omega arith))))
    (λ (h : g ≤ k).
    let same : k ≡ g = omega arith in
    let next : g + 1 ≡ max g (suc k) = sym (max-eq_right (omega arith) ∙ (let z : suc k ≡ g + 1 = omega arith in z)) in
    ap (λ (j : ℕ). with_name (get_or ms j []) (take g ms)) same
    ∙ with_new (get_or ms g []) (take g ms) (taken_new ms g d (omega arith))
    ∙ sym (take_more ms g [] (omega arith))
    ∙ ap (λ (j : ℕ). take j ms) next)
    (cases_lt k g)

-- labels in their turn number the names as they first appear
pub grown_turn : (ms : List (List ℕ)) (g d : ℕ) (ns : List Node) → Distinct ms → g ≤ length ms → Turn (length ms) g d ns → grown (take g ms) (plan_of ms ns) ≡ take (greatest g ns) ms
grown_turn ms g d [] a b t = refl
grown_turn ms g d (n ∷ ns) a b t =
    let p = and_parts (leb n.label (suc g)) (leb n.label (length ms)) t.0 in
    let high = leb-true n.label (length ms) p.1 in
    let low = (shape_label d n.label n.depth t.1).0 in
    ap (λ (z : List (List ℕ)). grown z (plan_of ms ns)) (with_turn ms g n.label a b low (leb-true n.label (suc g) p.0) high)
    ∙ grown_turn ms (max g n.label) n.depth ns a (max-le b high) t.2

pub nodes_turn : (ms : List (List ℕ)) (g d i : ℕ) (ns : List Node) → Distinct ms → From i ns → Turn (length ms) g d ns → nodes_by ms i (plan_of ms ns) ≡ ns
nodes_turn ms g d i [] a f t = refl
nodes_turn ms g d i (n ∷ ns) a f t =
    let high = leb-true n.label (length ms) (and_parts (leb n.label (suc g)) (leb n.label (length ms)) t.0).1 in
    let low = (shape_label d n.label n.depth t.1).0 in
    let here : node_by ms i (named_by ms n) ≡ n = λ j. record { label = number_back ms a n.label low high j; depth = n.depth; origin = sym f.0 j } in
    ap₂ (λ (x : Node) (xs : List Node). x ∷ xs) here (nodes_turn ms (max g n.label) n.depth (suc i) ns a f.1 t.2)
