-- The test of a name list and what it stands for.
use Rattle.std.proofs.Common.{◌≡◌, ℕ, zero, suc, ◌+◌, ◌-◌, ◌<◌, ◌≤◌, Bool, true, false, not, cond, ◌&&◌, eqb, ltb, leb, List, [], ◌∷◌, length, get_or, take, drop, Option, Some, None, Ok, Err, Result, sym, refl, ap, ◌∙◌, subst, ⊎_elim, add-one, arith}
use Rattle.std.specs.List.{AllByRecursion}
use Rattle.std.specs.Option.{option_map, is_some}
use Rattle.std.specs.Str.{bytes_eq}
use Rattle.std.proofs.lemmas.Slice.Eq.{bytes_eq-Decides}
use Rattle.std.proofs.lemmas.Bool.{cond-true, cond-false, eq-eqb, ne_eqb, eqb-true, le-leb, leb-true, lt-ltb, le-ltb, and_parts, and_from, both_ways, cases_lt}
use Rattle.names.specs.declared.list.NoNameList.{NoNameList}
use Rattle.names.specs.NameLists.{Sets}
use Rattle.names.specs.Bytes.{name_start, name_byte}
use Rattle.names.specs.Words.{Word, after}
use Rattle.names.specs.Lists.{before, place_of, number_in, number_of, Numbered, NumberedIn, ShortName, IsNameList, all_in, word, short_name, good_beside, apart, name_list}
use Rattle.names.proofs.Finds.{before_le}
use Rattle.names.proofs.Runs.{at_first}

pub all_in_after : (p : ℕ → Bool) (w : List ℕ) → all_in p w ≡ eqb (length (after p w)) 0
all_in_after p [] = refl
all_in_after p (b ∷ w) = elim (p b) as (λ v. (v && all_in p w) ≡ eqb (length (cond v (after p w) (b ∷ w))) 0) [ true ↦ all_in_after p w | false ↦ sym (ne_eqb (suc (length w)) 0 (λ e. omega arith)) ]

all_in_to : (p : ℕ → Bool) (w : List ℕ) → all_in p w ≡ true → AllByRecursion (λ b. p b ≡ true) w
all_in_to p [] h = tt
all_in_to p (b ∷ w) h = let s = and_parts (p b) (all_in p w) h in (s.0, all_in_to p w s.1)

all_in_from : (p : ℕ → Bool) (w : List ℕ) → AllByRecursion (λ b. p b ≡ true) w → all_in p w ≡ true
all_in_from p [] h = refl
all_in_from p (b ∷ w) h = and_from (p b) (all_in p w) h.0 (all_in_from p w h.1)

word_to : (w : List ℕ) → word w ≡ true → Word w
word_to [] h = both_ways false refl h
word_to (b ∷ w) h = let s = and_parts (name_start b) (all_in name_byte w) h in (s.0, all_in_to name_byte w s.1)

word_from : (w : List ℕ) → Word w → word w ≡ true
word_from [] h = absurd h
word_from (b ∷ w) h = and_from (name_start b) (all_in name_byte w) h.0 (all_in_from name_byte w h.1)

short_to : (m : List ℕ) → short_name m ≡ true → ShortName m
short_to m h = let s = and_parts (word m) (leb (length m) 64) h in (word_to m s.0, leb-true (length m) 64 s.1)

short_from : (m : List ℕ) → ShortName m → short_name m ≡ true
short_from m h = and_from (word m) (leb (length m) 64) (word_from m h.0) (le-leb (length m) 64 h.1)

same_true : (m n : List ℕ) → bytes_eq m n ≡ true → m ≡ n
same_true m n h = (bytes_eq-Decides m n).0 h

same_false : (m n : List ℕ) → bytes_eq m n ≡ false → m ≡ n → ⊥
same_false m n h e = both_ways (bytes_eq m n) h ((bytes_eq-Decides m n).1 e)

is_from : (m n : List ℕ) (ms : List (List ℕ)) (b : Bool) → bytes_eq m n ≡ b → (before n ms < length ms → get_or ms (before n ms) [] ≡ n) → cond b 0 (suc (before n ms)) < suc (length ms) → get_or (m ∷ ms) (cond b 0 (suc (before n ms))) [] ≡ n
is_from m n ms true e rest l = same_true m n e
is_from m n ms false e rest l = rest (omega arith)

pub good_to : (m : List ℕ) (ms : List (List ℕ)) → good_beside m ms ≡ true → ShortName m × (before m ms ≡ length ms)
good_to m ms h = let s = and_parts (short_name m) (eqb (before m ms) (length ms)) h in (short_to m s.0, eqb-true (before m ms) (length ms) s.1)

pub good_from : (m : List ℕ) (ms : List (List ℕ)) → ShortName m → before m ms ≡ length ms → good_beside m ms ≡ true
good_from m ms s e = and_from (short_name m) (eqb (before m ms) (length ms)) (short_from m s) (eq-eqb (before m ms) (length ms) e)

-- the first name that is n, if one is
pub before_is : (n : List ℕ) (ms : List (List ℕ)) → before n ms < length ms → get_or ms (before n ms) [] ≡ n
before_is n [] h = absurd (omega arith)
before_is n (m ∷ ms) h = is_from m n ms (bytes_eq m n) refl (before_is n ms) h

not_from : (m n : List ℕ) (ms : List (List ℕ)) (b : Bool) → bytes_eq m n ≡ b → ((k : ℕ) → k < length ms → get_or ms k [] ≡ n → before n ms ≤ k) → (k : ℕ) → k < suc (length ms) → get_or (m ∷ ms) k [] ≡ n → cond b 0 (suc (before n ms)) ≤ k
not_from m n ms true q rest k l e = omega arith
not_from m n ms false q rest zero l e = absurd (same_false m n q e)
not_from m n ms false q rest (suc k) l e = let r = rest k (omega arith) e in omega arith

-- no name before the first is n
pub before_first : (n : List ℕ) (ms : List (List ℕ)) (k : ℕ) → k < length ms → get_or ms k [] ≡ n → before n ms ≤ k
before_first n [] k l e = absurd (omega arith)
before_first n (m ∷ ms) k l e = not_from m n ms (bytes_eq m n) refl (before_first n ms) k l e

apart_all : (ms : List (List ℕ)) → apart ms ≡ true → AllByRecursion ShortName ms
apart_all [] h = tt
apart_all (m ∷ ms) h =
    let s = and_parts (good_beside m ms) (apart ms) h in
    ((good_to m ms s.0).0, apart_all ms s.1)

apart_distinct : (ms : List (List ℕ)) → apart ms ≡ true → (i j : ℕ) → i < j → j < length ms → get_or ms i [] ≡ get_or ms j [] → ⊥
apart_distinct [] h i j a b e = absurd (omega arith)
apart_distinct (m ∷ ms) h i zero a b e = absurd (omega arith)
apart_distinct (m ∷ ms) h zero (suc j) a b e =
    let s = and_parts (good_beside m ms) (apart ms) h in
    omega (arith, (good_to m ms s.0).1, before_first m ms j (omega arith) (sym e))
apart_distinct (m ∷ ms) h (suc i) (suc j) a b e = apart_distinct ms (and_parts (good_beside m ms) (apart ms) h).1 i j (omega arith) (omega arith) e

apart_from : (ms : List (List ℕ)) → AllByRecursion ShortName ms → ((i j : ℕ) → i < j → j < length ms → get_or ms i [] ≡ get_or ms j [] → ⊥) → apart ms ≡ true
apart_from [] a d = refl
apart_from (m ∷ ms) a d =
    let none : before m ms ≡ length ms = ⊎_elim
    (λ (l : before m ms < length ms). absurd (d 0 (suc (before m ms)) (omega arith) (omega arith) (sym (before_is m ms l))))
    (λ (l : length ms ≤ before m ms). omega (arith, before_le m ms))
    (cases_lt (before m ms) (length ms)) in
    and_from (good_beside m ms) (apart ms)
    (good_from m ms a.0 none)
    (apart_from ms a.1 (λ i j l h. d (suc i) (suc j) (omega arith) (omega arith)))

pub list_to : (ms : List (List ℕ)) → name_list ms ≡ true → IsNameList ms
unfolding name_list
list_to ms h =
    let s = and_parts (leb (length ms) 512) (apart ms) h in
    record { most = leb-true (length ms) 512 s.0; names = apart_all ms s.1; distinct = apart_distinct ms s.1 }

pub list_from : (ms : List (List ℕ)) → length ms ≤ 512 → apart ms ≡ true → name_list ms ≡ true
unfolding name_list
list_from ms l h = and_from (leb (length ms) 512) (apart ms) (le-leb (length ms) 512 l) h

pub list_apart : (ms : List (List ℕ)) → IsNameList ms → apart ms ≡ true
list_apart ms l = apart_from ms l.names l.distinct

not_not : (b c : Bool) → b ≡ not c → c ≡ not b
not_not b true e = ap not (sym e)
not_not b false e = ap not (sym e)

-- the number of a name means what it says
pub numbered : (n : List ℕ) (ms : List (List ℕ)) → Numbered ms n (number_of n ms)
numbered n ms = ⊎_elim
    (λ (l : before n ms < length ms). subst (Numbered ms n) (sym (cond-true (ltb (before n ms) (length ms)) (suc (before n ms)) 0 (lt-ltb (before n ms) (length ms) l))) (l, before_is n ms l))
    (λ (l : length ms ≤ before n ms). subst (Numbered ms n) (sym (cond-false (ltb (before n ms) (length ms)) (suc (before n ms)) 0 (le-ltb (before n ms) (length ms) l))) (λ k h e. omega (arith, before_first n ms k h e)))
    (cases_lt (before n ms) (length ms))

pub numbered_in : (n : List ℕ) (ms : List (List ℕ)) → NumberedIn ms n (number_in n ms)
numbered_in n ms = ⊎_elim
    (λ (l : before n ms < length ms). subst (λ o. NumberedIn ms n (option_map suc o)) (sym (cond-true (ltb (before n ms) (length ms)) (Some (before n ms)) None (lt-ltb (before n ms) (length ms) l))) (omega arith, (l, before_is n ms l)))
    (λ (l : length ms ≤ before n ms). subst (λ o. NumberedIn ms n (option_map suc o)) (sym (cond-false (ltb (before n ms) (length ms)) (Some (before n ms)) None (le-ltb (before n ms) (length ms) l))) (λ k h e. omega (arith, before_first n ms k h e)))
    (cases_lt (before n ms) (length ms))

module _ (n : List ℕ) (ms : List (List ℕ)) where
  pub number_some : before n ms < length ms → before n ms + 1 ≡ number_of n ms
  number_some l = add-one (before n ms) ∙ sym (cond-true (ltb (before n ms) (length ms)) (suc (before n ms)) 0 (lt-ltb (before n ms) (length ms) l))

  pub number_none : length ms ≤ before n ms → 0 ≡ number_of n ms
  number_none l = sym (cond-false (ltb (before n ms) (length ms)) (suc (before n ms)) 0 (le-ltb (before n ms) (length ms) l))

  -- a name is beside others where a search for it finds none
  none_found : not (is_some (place_of n ms)) ≡ eqb (before n ms) (length ms)
  none_found = ⊎_elim
      (λ (l : before n ms < length ms). ap (λ o. not (is_some o)) (cond-true (ltb (before n ms) (length ms)) (Some (before n ms)) None (lt-ltb (before n ms) (length ms) l)) ∙ sym (ne_eqb (before n ms) (length ms) (λ e. omega arith)))
      (λ (l : length ms ≤ before n ms). ap (λ o. not (is_some o)) (cond-false (ltb (before n ms) (length ms)) (Some (before n ms)) None (le-ltb (before n ms) (length ms) l)) ∙ sym (eq-eqb (before n ms) (length ms) (omega (arith, before_le n ms))))
      (cases_lt (before n ms) (length ms))

  pub beside_none : (o : Option ℕ) (r : Bool) → is_some o ≡ not r → o ≡ place_of n ms → r ≡ eqb (before n ms) (length ms)
  beside_none o r e f = not_not (is_some o) r e ∙ ap (λ o. not (is_some o)) f ∙ none_found

-- the tests of a slice, by its first item
module _ (s : List ℕ) (h : 1 ≤ length s) where
  pub word_yes : (t : List ℕ) → name_start (get_or s 0 0) ≡ true → t ≡ after name_byte (take (length s - 1) (drop 1 s)) → eqb (length t) 0 ≡ word s
  word_yes t y e =
      ap (λ (z : List ℕ). eqb (length z) 0) e
      ∙ sym (all_in_after name_byte (take (length s - 1) (drop 1 s)))
      ∙ sym (at_first word s h ∙ ap (λ (b : Bool). b && all_in name_byte (take (length s - 1) (drop 1 s))) y)

-- names that are a list are not refused
pub set_holds : (new old : List (List ℕ)) (r : Result (Unit {0}) NoNameList) (held : List (List ℕ)) → IsNameList new → Sets new old r held → held ≡ new
set_holds new old (Ok u) held l h = h.1
set_holds new old (Err e) held l h = absurd (h.0 l)
