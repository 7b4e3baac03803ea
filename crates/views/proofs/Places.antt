-- The numbers that pass a test, and the places where they stand.
use Rattle.std.proofs.Common.{◌≡◌, ℕ, zero, suc, ◌<◌, ◌≤◌, Bool, true, false, List, [], ◌∷◌, ◌++◌, length, get_or, filter, refl, ap, ◌∙◌, subst, ⊎_elim, arith}
use Rattle.std.proofs.lemmas.List.{length_push, get_or_at, get_or_append_left}
use Rattle.std.proofs.lemmas.Bool.{cases_lt, cases_Bool}
use Rattle.tree.specs.Paths.{numbers}
use Rattle.tree.proofs.Paths.{kept_yes, kept_no}

module _ (f : ℕ → Bool) where
  abbrev pub first : ℕ → List ℕ
  first n = filter f (numbers n 1)

  -- one number more
  pub first_yes : (n : ℕ) → f (suc n) ≡ true → first (suc n) ≡ first n ++ suc n ∷ []
  first_yes n h = kept_yes f n (suc n) (omega arith) h

  pub first_no : (n : ℕ) → f (suc n) ≡ false → first (suc n) ≡ first n
  first_no n h = kept_no f n (suc n) (omega arith) h

  -- a number that passes stands behind those before it
  pub number_next : (n c : ℕ) → n < c → f (suc n) ≡ true → (length (first n) < length (first c)) × (get_or (first c) (length (first n)) 0 ≡ suc n)
  number_next n zero l h = absurd (omega arith)
  number_next n (suc c) l h = ⊎_elim
      (λ (g : n < c). let r = number_next n c g h in ⊎_elim
      (λ (v : f (suc c) ≡ true).
      let p = first_yes c v in
      (omega (arith, ap length p, length_push (first c) (suc c), r.0), ap (λ (z : List ℕ). get_or z (length (first n)) 0) p ∙ get_or_append_left (first c) (suc c ∷ []) 0 (length (first n)) r.0 ∙ r.1))
      (λ (v : f (suc c) ≡ false).
      let p = first_no c v in
      (omega (arith, ap length p, r.0), ap (λ (z : List ℕ). get_or z (length (first n)) 0) p ∙ r.1))
      (cases_Bool (f (suc c))))
      (λ (g : c ≤ n).
      let e : n ≡ c = omega arith in
      let p : first (suc c) ≡ first n ++ suc n ∷ [] = subst (λ (i : ℕ). first (suc i) ≡ first n ++ suc n ∷ []) e (first_yes n h) in
      (omega (arith, ap length p, length_push (first n) (suc n)), ap (λ (z : List ℕ). get_or z (length (first n)) 0) p ∙ get_or_at (first n) (suc n) [] 0 (length (first n)) refl))
      (cases_lt n c)

  -- each place has its number
  pub place : (n j : ℕ) → 1 ≤ j → j ≤ length (first n) → (m : ℕ) × (m < n) × (f (suc m) ≡ true) × (j ≡ suc (length (first m)))
  place zero j a b = absurd (omega arith)
  place (suc n) j a b = ⊎_elim
      (λ (g : j < suc (length (first n))). let r = place n j a (omega arith) in (r.0, omega (arith, r.1), r.2, r.3))
      (λ (g : suc (length (first n)) ≤ j). ⊎_elim
      (λ (h : f (suc n) ≡ true). (n, omega arith, h, omega (arith, ap length (first_yes n h), length_push (first n) (suc n))))
      (λ (h : f (suc n) ≡ false). absurd (omega (arith, ap length (first_no n h))))
      (cases_Bool (f (suc n))))
      (cases_lt j (suc (length (first n))))

  pub first_none : (n : ℕ) → ((m : ℕ) → m < n → f (suc m) ≡ false) → first n ≡ []
  first_none zero h = refl
  first_none (suc n) h = first_no n (h n (omega arith)) ∙ first_none n (λ m l. h m (omega arith))
