-- Names in the order of their first appearance.
use Rattle.std.proofs.Common.{◌≡◌, ℕ, suc, ◌+◌, ◌<◌, ◌≤◌, Bool, true, false, cond, ltb, ◌⊎◌, List, [], ◌∷◌, ◌++◌, length, get_or, Decides, fold, sym, refl, ap, ◌∙◌, subst, inl, inr, ⊎_elim, append_assoc, append-nil, arith, length-append}
use Rattle.std.specs.List.{AllByRecursion}
use Rattle.std.specs.Str.{bytes_eq}
use Rattle.std.proofs.ByRecursion.{All-push}
use Rattle.std.proofs.lemmas.Slice.Eq.{bytes_eq-Decides}
use Rattle.std.proofs.lemmas.List.{get_or_append_left, get_or_at}
use Rattle.std.proofs.lemmas.Bool.{cond-true, cond-false, lt-ltb, le-ltb, cases_lt, both_ways}
use Rattle.names.specs.Lists.{before, number_of, with_name, first_names, ShortName, Distinct}
use Rattle.names.proofs.Finds.{before_le}
use Rattle.names.proofs.Names.{before_is, before_first, number_some, number_none}

-- a known name keeps its number
pub before_append : (n : List ℕ) (ms more : List (List ℕ)) → before n ms < length ms → before n (ms ++ more) ≡ before n ms
before_append n [] more h = absurd (omega arith)
before_append n (m ∷ ms) more h = go (before_append n ms more) (bytes_eq m n) h
  where
    go : (before n ms < length ms → before n (ms ++ more) ≡ before n ms) → (b : Bool) → cond b 0 (suc (before n ms)) < suc (length ms) → cond b 0 (suc (before n (ms ++ more))) ≡ cond b 0 (suc (before n ms))
    go ih true l = refl
    go ih false l = ap suc (ih (omega arith))

-- a new name has the next number
pub before_new : (n : List ℕ) (ms more : List (List ℕ)) → length ms ≤ before n ms → before n (ms ++ n ∷ more) ≡ before n ms
before_new n [] more h = cond-true (bytes_eq n n) 0 (suc (before n more)) ((bytes_eq-Decides n n).1 refl)
before_new n (m ∷ ms) more h = go (before_new n ms more) (bytes_eq m n) h
  where
    go : (length ms ≤ before n ms → before n (ms ++ n ∷ more) ≡ before n ms) → (b : Bool) → suc (length ms) ≤ cond b 0 (suc (before n ms)) → cond b 0 (suc (before n (ms ++ n ∷ more))) ≡ cond b 0 (suc (before n ms))
    go ih true l = absurd (omega arith)
    go ih false l = ap suc (ih (omega arith))

pub with_known : (n : List ℕ) (ms : List (List ℕ)) → before n ms < length ms → with_name n ms ≡ ms
with_known n ms h = cond-true (ltb (before n ms) (length ms)) ms (ms ++ n ∷ []) (lt-ltb _ _ h)

pub with_new : (n : List ℕ) (ms : List (List ℕ)) → length ms ≤ before n ms → with_name n ms ≡ ms ++ n ∷ []
with_new n ms h = cond-false (ltb (before n ms) (length ms)) ms (ms ++ n ∷ []) (le-ltb _ _ h)

pub before_with : (n : List ℕ) (ms more : List (List ℕ)) → before n (with_name n ms ++ more) ≡ before n ms
before_with n ms more =
    ⊎_elim
    (λ h. ap (λ (z : List (List ℕ)). before n (z ++ more)) (with_known n ms h) ∙ before_append n ms more h)
    (λ h. ap (λ (z : List (List ℕ)). before n (z ++ more)) (with_new n ms h) ∙ ap (before n) (append_assoc ms (n ∷ []) more) ∙ before_new n ms more h)
    (cases_lt (before n ms) (length ms))

pub with_more : (n : List ℕ) (ms : List (List ℕ)) → (more : List (List ℕ)) × (with_name n ms ≡ ms ++ more)
with_more n ms = ⊎_elim (λ h. ([], with_known n ms h ∙ sym (append-nil ms))) (λ h. (n ∷ [], with_new n ms h)) (cases_lt (before n ms) (length ms))

-- a name that is not among distinct names makes one more of them
pub distinct_new : (n : List ℕ) (ms : List (List ℕ)) → length ms ≤ before n ms → Distinct ms → Distinct (ms ++ n ∷ [])
distinct_new n ms new d i j a b e =
    let long = length-append ms (n ∷ []) in
    let here : get_or (ms ++ n ∷ []) i [] ≡ get_or ms i [] = get_or_append_left ms (n ∷ []) [] i (omega arith) in
    ⊎_elim
    (λ (l : j < length ms). d i j a l (sym here ∙ e ∙ get_or_append_left ms (n ∷ []) [] j l))
    (λ (l : length ms ≤ j). let last : length ms ≡ j = omega arith in omega (arith, before_first n ms i (omega arith) (sym here ∙ e ∙ get_or_at ms n [] [] j last)))
    (cases_lt j (length ms))

-- names that are short and distinct
pub record Good (ms : List (List ℕ)) : Type 0 where
  pub names : AllByRecursion ShortName ms
  pub distinct : Distinct ms

pub good_none : Good []
good_none = record { names = tt; distinct = λ i j a b e. omega arith }

pub good_new : (n : List ℕ) (ms : List (List ℕ)) → ShortName n → length ms ≤ before n ms → Good ms → Good (ms ++ n ∷ [])
good_new n ms s new g = record { names = All-push ShortName ms n g.names s; distinct = distinct_new n ms new g.distinct }

pub good_with : (n : List ℕ) (ms : List (List ℕ)) → ShortName n → Good ms → Good (with_name n ms)
good_with n ms s g =
    ⊎_elim
    (λ h. subst Good (sym (with_known n ms h)) g)
    (λ h. subst Good (sym (with_new n ms h)) (good_new n ms s h g))
    (cases_lt (before n ms) (length ms))

-- no name is among those before it
pub distinct_before : (ms : List (List ℕ)) (n : List ℕ) (more : List (List ℕ)) → Distinct (ms ++ n ∷ more) → length ms ≤ before n ms
distinct_before ms n more d =
    ⊎_elim
    (λ (h : before n ms < length ms).
    let long = length-append ms (n ∷ more) in
    absurd (d (before n ms) (length ms) h (omega arith) (get_or_append_left ms (n ∷ more) [] (before n ms) h ∙ before_is n ms h ∙ sym (get_or_at ms n more [] (length ms) refl))))
    (λ (h : length ms ≤ before n ms). h)
    (cases_lt (before n ms) (length ms))

-- what is known stays known
pub known_stays : (n : List ℕ) (ms more : List (List ℕ)) → before n ms < length ms → before n (ms ++ more) < length (ms ++ more)
known_stays n ms more h = omega (arith, before_append n ms more h, length-append ms more)

pub new_known : (n : List ℕ) (ms more : List (List ℕ)) → length ms ≤ before n ms → before n (ms ++ n ∷ more) < length (ms ++ n ∷ more)
new_known n ms more h = omega (arith, before_new n ms more h, before_le n ms, length-append ms (n ∷ more))

same_or_not : (m n : List ℕ) → (m ≡ n) ⊎ (m ≡ n → ⊥)
same_or_not m n = go (bytes_eq m n) (bytes_eq-Decides m n)
  where
    go : (b : Bool) → Decides b (m ≡ n) → (m ≡ n) ⊎ (m ≡ n → ⊥)
    go true d = inl (d.0 refl)
    go false d = inr (λ e. both_ways false refl (d.1 e))

later_known : (m n : List ℕ) (ms : List (List ℕ)) → (m ≡ n → ⊥) → before n (m ∷ ms) < length (m ∷ ms) → before n ms < length ms
later_known m n ms d h = go (bytes_eq m n) (bytes_eq-Decides m n) h
  where
    go : (b : Bool) → Decides b (m ≡ n) → cond b 0 (suc (before n ms)) < suc (length ms) → before n ms < length ms
    go true t l = absurd (d (t.0 refl))
    go false t l = omega arith

-- how many of the names ms are not among `seen`
abbrev absent : List (List ℕ) → List (List ℕ) → ℕ
absent seen [] = 0
absent seen (m ∷ ms) = cond (ltb (before m seen) (length seen)) (absent seen ms) (suc (absent seen ms))

absent_known : (seen : List (List ℕ)) (m : List ℕ) (ms : List (List ℕ)) → before m seen < length seen → absent seen (m ∷ ms) ≡ absent seen ms
absent_known seen m ms h = cond-true (ltb (before m seen) (length seen)) (absent seen ms) (suc (absent seen ms)) (lt-ltb _ _ h)

absent_new : (seen : List (List ℕ)) (m : List ℕ) (ms : List (List ℕ)) → length seen ≤ before m seen → absent seen (m ∷ ms) ≡ suc (absent seen ms)
absent_new seen m ms h = cond-false (ltb (before m seen) (length seen)) (absent seen ms) (suc (absent seen ms)) (le-ltb _ _ h)

absent_most : (seen : List (List ℕ)) (m : List ℕ) (ms : List (List ℕ)) → absent seen (m ∷ ms) ≤ suc (absent seen ms)
absent_most seen m ms = ⊎_elim (λ h. omega (arith, absent_known seen m ms h)) (λ h. omega (arith, absent_new seen m ms h)) (cases_lt (before m seen) (length seen))

module _ (seen : List (List ℕ)) (n : List ℕ) where
  absent_le : (ms : List (List ℕ)) → absent (seen ++ n ∷ []) ms ≤ absent seen ms
  absent_le [] = omega arith
  absent_le (m ∷ ms) =
      ⊎_elim
      (λ h. omega (arith, absent_le ms, absent_known seen m ms h, absent_known (seen ++ n ∷ []) m ms (known_stays m seen (n ∷ []) h)))
      (λ h. omega (arith, absent_le ms, absent_new seen m ms h, absent_most (seen ++ n ∷ []) m ms))
      (cases_lt (before m seen) (length seen))

  -- a new name among ms is one of those that were absent
  absent_less : (ms : List (List ℕ)) → length seen ≤ before n seen → before n ms < length ms → absent (seen ++ n ∷ []) ms < absent seen ms
  absent_less [] new h = absurd (omega arith)
  absent_less (m ∷ ms) new h =
      ⊎_elim
      (λ (e : m ≡ n).
      let was = absent_new seen m ms (subst (λ (k : List ℕ). length seen ≤ before k seen) (sym e) new) in
      let is = absent_known (seen ++ n ∷ []) m ms (subst (λ (k : List ℕ). before k (seen ++ n ∷ []) < length (seen ++ n ∷ [])) (sym e) (new_known n seen [] new)) in
      omega (arith, was, is, absent_le ms))
      (λ (d : m ≡ n → ⊥).
      let later = absent_less ms new (later_known m n ms d h) in
      ⊎_elim
      (λ k. omega (arith, later, absent_known seen m ms k, absent_known (seen ++ n ∷ []) m ms (known_stays m seen (n ∷ []) k)))
      (λ k. omega (arith, later, absent_new seen m ms k, absent_most (seen ++ n ∷ []) m ms))
      (cases_lt (before m seen) (length seen)))
      (same_or_not m n)

absent_none : (ms : List (List ℕ)) → absent [] ms ≡ length ms
absent_none [] = refl
absent_none (m ∷ ms) = ap suc (absent_none ms)

few_firsts : {X : Type 0} (f : X → List ℕ) (seen ms : List (List ℕ)) (xs : List X) → AllByRecursion (λ x. before (f x) ms < length ms) xs → length seen + absent seen ms ≤ length ms → length (fold (λ ns x. with_name (f x) ns) seen xs) ≤ length ms
few_firsts f seen ms [] a h = omega arith
few_firsts f seen ms (x ∷ xs) a h =
    few_firsts f (with_name (f x) seen) ms xs a.1
    (⊎_elim
    (λ k. subst (λ (z : List (List ℕ)). length z + absent z ms ≤ length ms) (sym (with_known (f x) seen k)) h)
    (λ k. subst (λ (z : List (List ℕ)). length z + absent z ms ≤ length ms) (sym (with_new (f x) seen k)) (omega (arith, length-append seen (f x ∷ []), absent_less seen (f x) ms k a.0)))
    (cases_lt (before (f x) seen) (length seen)))

-- names that are all among ms are no more than ms
pub first_names_few : {X : Type 0} (f : X → List ℕ) (ms : List (List ℕ)) (xs : List X) → AllByRecursion (λ x. before (f x) ms < length ms) xs → length (first_names f xs) ≤ length ms
first_names_few f ms xs a = few_firsts f [] ms xs a (omega (arith, absent_none ms))

-- more names come behind those that are there
pub firsts_more : {X : Type 0} (f : X → List ℕ) (seen : List (List ℕ)) (xs : List X) → (more : List (List ℕ)) × (fold (λ ns x. with_name (f x) ns) seen xs ≡ seen ++ more)
firsts_more f seen [] = ([], sym (append-nil seen))
firsts_more f seen (x ∷ xs) =
    let a = with_more (f x) seen in
    let b = firsts_more f (with_name (f x) seen) xs in
    (a.0 ++ b.0, b.1 ∙ ap (λ (z : List (List ℕ)). z ++ b.0) a.1 ∙ append_assoc seen a.0 b.0)

pub good_firsts : {X : Type 0} (f : X → List ℕ) (seen : List (List ℕ)) (xs : List X) → AllByRecursion (λ x. ShortName (f x)) xs → Good seen → Good (fold (λ ns x. with_name (f x) ns) seen xs)
good_firsts f seen [] a g = g
good_firsts f seen (x ∷ xs) a g = good_firsts f (with_name (f x) seen) xs a.1 (good_with (f x) seen a.0 g)

folded_push : {X : Type 0} (f : X → List ℕ) (seen : List (List ℕ)) (xs : List X) (x : X) → fold (λ ns y. with_name (f y) ns) seen (xs ++ x ∷ []) ≡ with_name (f x) (fold (λ ns y. with_name (f y) ns) seen xs)
folded_push f seen [] x = refl
folded_push f seen (y ∷ xs) x = folded_push f (with_name (f y) seen) xs x

-- one name more
pub firsts_push : {X : Type 0} (f : X → List ℕ) (xs : List X) (x : X) → first_names f (xs ++ x ∷ []) ≡ with_name (f x) (first_names f xs)
firsts_push f xs x = folded_push f [] xs x

pub number_new : (n : List ℕ) (ms : List (List ℕ)) → length ms ≤ before n ms → number_of n (ms ++ n ∷ []) ≡ length ms + 1
number_new n ms h = sym (number_some n (ms ++ n ∷ []) (new_known n ms [] h)) ∙ (let e : before n (ms ++ n ∷ []) + 1 ≡ length ms + 1 = omega (arith, before_new n ms [] h, before_le n ms) in e)

other_new : (n m : List ℕ) (ms : List (List ℕ)) → (m ≡ n → ⊥) → length ms ≤ before n ms → length (ms ++ m ∷ []) ≤ before n (ms ++ m ∷ [])
other_new n m ms d h =
    let long = length-append ms (m ∷ []) in
    let k = before n (ms ++ m ∷ []) in
    ⊎_elim
    (λ (l : k < length (ms ++ m ∷ [])).
    let is = before_is n (ms ++ m ∷ []) l in
    ⊎_elim
    (λ (i : k < length ms). absurd (omega (arith, before_first n ms k i (sym (get_or_append_left ms (m ∷ []) [] k i) ∙ is))))
    (λ (i : length ms ≤ k). let last : length ms ≡ k = omega arith in absurd (d (sym (get_or_at ms m [] [] k last) ∙ is)))
    (cases_lt k (length ms)))
    (λ (l : length (ms ++ m ∷ []) ≤ k). l)
    (cases_lt k (length (ms ++ m ∷ [])))

-- another name keeps its number, or stays without one
pub number_other : (n m : List ℕ) (ms : List (List ℕ)) → (m ≡ n → ⊥) → number_of n (ms ++ m ∷ []) ≡ number_of n ms
number_other n m ms d =
    ⊎_elim
    (λ (h : before n ms < length ms). sym (number_some n (ms ++ m ∷ []) (known_stays n ms (m ∷ []) h)) ∙ ap (λ (k : ℕ). k + 1) (before_append n ms (m ∷ []) h) ∙ number_some n ms h)
    (λ (h : length ms ≤ before n ms). sym (number_none n (ms ++ m ∷ []) (other_new n m ms d h)) ∙ number_none n ms h)
    (cases_lt (before n ms) (length ms))
