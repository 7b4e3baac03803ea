-- Numbers written in bytes and read again.
use Rattle.std.proofs.Common.{◌≡◌, ℕ, ◌+◌, ◌*◌, ◌/◌, ◌%◌, ◌<◌, ltb, List, [], ◌∷◌, ◌++◌, Some, None, sym, ap, ◌∙◌, ap₂, arith}
use native.Mathlib.Nat.{div-div-eq-div-mul}
use Rattle.std.proofs.lemmas.Bool.{cond-true, lt-ltb, ltb-true, and_parts, and_from}
use Rattle.std.proofs.lemmas.Option.{same_Some}
use Rattle.names.proofs.Found.{cond_some}
use Rattle.stored.specs.Bytes.{two, four, two_at, four_at}

pub two_read : (n : ℕ) (s : List ℕ) → n < 65536 → two_at (two n ++ s) ≡ Some (n, s)
two_read n s l =
    let value : n / 256 % 256 * 256 + n % 256 ≡ n = omega arith in
    cond-true _ _ None (and_from _ _ (lt-ltb (n / 256 % 256) 256 (omega arith)) (lt-ltb (n % 256) 256 (omega arith)))
    ∙ ap (λ (k : ℕ). Some (k, s)) value

pub two_written : (a b : ℕ) → a < 256 → b < 256 → two (a * 256 + b) ≡ a ∷ b ∷ []
two_written a b p q =
    let high : (a * 256 + b) / 256 % 256 ≡ a = omega arith in
    let low : (a * 256 + b) % 256 ≡ b = omega arith in
    ap₂ (λ (x : ℕ) (y : ℕ). x ∷ y ∷ []) high low

pub two_is : (s : List ℕ) (n : ℕ) (r : List ℕ) → two_at s ≡ Some (n, r) → (s ≡ two n ++ r) × (n < 65536)
two_is [] n r e = cc
two_is (a ∷ []) n r e = cc
two_is (a ∷ b ∷ s) n r e =
    let t = cond_some _ _ _ e in
    let p = and_parts (ltb a 256) (ltb b 256) t.0 in
    let high = ltb-true a 256 p.0 in
    let low = ltb-true b 256 p.1 in
    let same = same_Some (a * 256 + b, s) (n, r) t.1 in
    let is : a * 256 + b ≡ n = ap (λ q. q.0) same in
    let rest : s ≡ r = ap (λ q. q.1) same in
    (ap₂ (λ (x : List ℕ) (y : List ℕ). x ++ y) (sym (two_written a b high low) ∙ ap two is) rest, omega arith)

abbrev value : ℕ → ℕ → ℕ → ℕ → ℕ
value a b c d = a * 16777216 + b * 65536 + c * 256 + d

pub four_read : (n : ℕ) (s : List ℕ) → n < 4294967296 → four_at (four n ++ s) ≡ Some (n, s)
four_read n s l =
    let first : n / 16777216 % 256 ≡ n / 16777216 = omega arith in
    let second : n / 65536 ≡ n / 16777216 * 256 + n / 65536 % 256 = omega (arith, div-div-eq-div-mul n 65536 256) in
    let third : n / 256 ≡ n / 65536 * 256 + n / 256 % 256 = omega (arith, div-div-eq-div-mul n 256 256) in
    let fourth : n ≡ n / 256 * 256 + n % 256 = omega arith in
    let is : value (n / 16777216 % 256) (n / 65536 % 256) (n / 256 % 256) (n % 256) ≡ n = omega arith in
    cond-true _ _ None (and_from _ _ (lt-ltb (n / 16777216 % 256) 256 (omega arith)) (and_from _ _ (lt-ltb (n / 65536 % 256) 256 (omega arith)) (and_from _ _ (lt-ltb (n / 256 % 256) 256 (omega arith)) (lt-ltb (n % 256) 256 (omega arith)))))
    ∙ ap (λ (k : ℕ). Some (k, s)) is

module _ (a b c d : ℕ) (h : a < 256) (i : b < 256) (j : c < 256) (k : d < 256) where
  four_written : four (value a b c d) ≡ a ∷ b ∷ c ∷ d ∷ []
  four_written =
      let p : value a b c d / 16777216 % 256 ≡ a = omega arith in
      let q : value a b c d / 65536 % 256 ≡ b = omega arith in
      let r : value a b c d / 256 % 256 ≡ c = omega arith in
      let t : value a b c d % 256 ≡ d = omega arith in
      ap₂ (λ (x : ℕ) (y : ℕ). x ∷ y ∷ value a b c d / 256 % 256 ∷ value a b c d % 256 ∷ []) p q ∙ ap₂ (λ (x : ℕ) (y : ℕ). a ∷ b ∷ x ∷ y ∷ []) r t

pub four_is : (s : List ℕ) (n : ℕ) (r : List ℕ) → four_at s ≡ Some (n, r) → s ≡ four n ++ r
four_is [] n r e = cc
four_is (a ∷ []) n r e = cc
four_is (a ∷ b ∷ []) n r e = cc
four_is (a ∷ b ∷ c ∷ []) n r e = cc
four_is (a ∷ b ∷ c ∷ d ∷ s) n r e =
    let t = cond_some _ _ _ e in
    let p = and_parts _ _ t.0 in
    let q = and_parts _ _ p.1 in
    let u = and_parts _ _ q.1 in
    let same = same_Some (value a b c d, s) (n, r) t.1 in
    let is : value a b c d ≡ n = ap (λ z. z.0) same in
    let rest : s ≡ r = ap (λ z. z.1) same in
    ap₂ (λ (x : List ℕ) (y : List ℕ). x ++ y) (sym (four_written a b c d (ltb-true a 256 p.0) (ltb-true b 256 q.0) (ltb-true c 256 u.0) (ltb-true d 256 u.1)) ∙ ap four is) rest
