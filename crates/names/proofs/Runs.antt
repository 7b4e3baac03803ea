-- The longest run of bytes at the front of a text.
use Rattle.std.proofs.Common.{◌≡◌, ℕ, ◌-◌, ◌≤◌, Bool, true, false, cond, List, [], ◌∷◌, ◌++◌, length, get_or, take, drop, sym, refl, ap, ◌∙◌, arith, length-append}
use Rattle.std.proofs.lemmas.List.{take_rest, take_at}
use Rattle.std.specs.List.{AllByRecursion}
use Rattle.std.proofs.lemmas.Bool.{cond-true, cond-false}
use Rattle.names.specs.Words.{after, front, begins}
use Rattle.std.proofs.lemmas.Slice.{first_rest}

-- the rest of a text after its first byte, as a slice pattern gives it
abbrev pub tl : List ℕ → List ℕ
tl s = take (length s - 1) (drop 1 s)

-- a function of a text, by its first byte
pub at_first : {Y : Type 0} (F : List ℕ → Y) (s : List ℕ) → 1 ≤ length s → F s ≡ F (get_or s 0 0 ∷ take (length s - 1) (drop 1 s))
at_first F s h = ap F (first_rest s 0 (omega arith))

-- the rest after two bytes, as a slice pattern gives it
pub two_and_rest : (s : List ℕ) → 2 ≤ length s → s ≡ get_or s 0 0 ∷ get_or s 1 0 ∷ take (length s - 2) (drop 2 s)
two_and_rest [] h = absurd (omega arith)
two_and_rest (a ∷ []) h = absurd (omega arith)
two_and_rest (a ∷ b ∷ s) h = ap (λ (z : List ℕ). a ∷ b ∷ z) (sym (take_rest (a ∷ b ∷ s) 2))

-- a text that begins with two known bytes
pub with_two : (s : List ℕ) (a b : ℕ) → 2 ≤ length s → get_or s 0 0 ≡ a → get_or s 1 0 ≡ b → s ≡ a ∷ b ∷ take (length s - 2) (drop 2 s)
with_two s a b h p q = two_and_rest s h ∙ ap (λ z. z ∷ get_or s 1 0 ∷ take (length s - 2) (drop 2 s)) p ∙ ap (λ z. a ∷ z ∷ take (length s - 2) (drop 2 s)) q

-- a run and what follows it make up the text
pub split : (p : ℕ → Bool) (s : List ℕ) → s ≡ front p s ++ after p s
split p [] = refl
split p (b ∷ s) = elim (p b) as (λ c. b ∷ s ≡ cond c (b ∷ front p s) [] ++ cond c (after p s) (b ∷ s)) [ true ↦ ap (λ (z : List ℕ). b ∷ z) (split p s) | false ↦ refl ]

pub after_le : (p : ℕ → Bool) (s : List ℕ) → length (after p s) ≤ length s
after_le p s = omega (arith, ap length (split p s) ∙ length-append (front p s) (after p s))

pub front_is : (p : ℕ → Bool) (s : List ℕ) → take (length s - length (after p s)) s ≡ front p s
front_is p s =
    let long : length (front p s) ≡ length s - length (after p s) = omega (arith, ap length (split p s) ∙ length-append (front p s) (after p s)) in
    ap (take (length s - length (after p s))) (split p s) ∙ take_at (front p s) (after p s) _ long

-- a run passes, and what follows it does not go on
pub all_front : (p : ℕ → Bool) (s : List ℕ) → AllByRecursion (λ b. p b ≡ true) (front p s)
all_front p [] = tt
all_front p (b ∷ s) = go (p b) refl (all_front p s)
  where
    go : (c : Bool) → p b ≡ c → AllByRecursion (λ z. p z ≡ true) (front p s) → AllByRecursion (λ z. p z ≡ true) (cond c (b ∷ front p s) [])
    go true e r = (e, r)
    go false e r = tt

pub begins_after : (p : ℕ → Bool) (s : List ℕ) → begins p (after p s) ≡ false
begins_after p [] = refl
begins_after p (b ∷ s) = go (p b) refl (begins_after p s)
  where
    go : (c : Bool) → p b ≡ c → begins p (after p s) ≡ false → begins p (cond c (after p s) (b ∷ s)) ≡ false
    go true e r = r
    go false e r = e

-- a run is the longest one if what follows does not go on with it
pub after_append : (p : ℕ → Bool) (w r : List ℕ) → AllByRecursion (λ b. p b ≡ true) w → begins p r ≡ false → after p (w ++ r) ≡ r
after_append p [] [] a h = refl
after_append p [] (b ∷ r) a h = cond-false (p b) (after p r) (b ∷ r) h
after_append p (b ∷ w) r a h = cond-true (p b) (after p (w ++ r)) (b ∷ (w ++ r)) a.0 ∙ after_append p w r a.1 h

pub front_append : (p : ℕ → Bool) (w r : List ℕ) → AllByRecursion (λ b. p b ≡ true) w → begins p r ≡ false → front p (w ++ r) ≡ w
front_append p [] [] a h = refl
front_append p [] (b ∷ r) a h = cond-false (p b) (b ∷ front p r) [] h
front_append p (b ∷ w) r a h = cond-true (p b) (b ∷ front p (w ++ r)) [] a.0 ∙ ap (λ (z : List ℕ). b ∷ z) (front_append p w r a.1 h)
