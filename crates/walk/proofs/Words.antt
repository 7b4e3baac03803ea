-- A word gets its bits one after the other, from the lowest up.
use Rattle.std.proofs.Common.{◌≡◌, ℕ, zero, suc, ◌+◌, ◌*◌, ◌^◌, ◌<◌, ◌≤◌, max, true, false, ◌||◌, eqb, List, get_or, sym, refl, ap, ◌∙◌, subst, ⊎_elim, arith}
use Rattle.std.proofs.lemmas.Bool.{cases_lt}
use Rattle.std.proofs.lemmas.Nat.{pow-add}
use Rattle.std.proofs.lemmas.Nat.Bits.{bit_at-lt, bit_at-zero, bit_at-pow_same, bit_at-pow_other, and_pow, same_from_bits}
use Rattle.std.proofs.lemmas.Nat.Bits.{bit_at_or as at_or}
use Rattle.std.specs.Int.{bit_at}
use Rattle.std.specs.Int.RustNames.{bit_or, bit_and}
use Rattle.tree.specs.declared.step.Step.{Step}
use Rattle.walk.specs.declared.marks.Marks.{Marks}
use Rattle.walk.specs.Marks.{bit, hit, any_step}

-- w has its bits for the first i steps
pub record Built (q : List Step) (p : Marks) (l i w : ℕ) : Type 0 where
  pub none : bit w 0 ≡ false
  pub set : (j : ℕ) → j < i → bit w (suc j) ≡ hit (get_or q j any_step) j p l
  pub unset : (j : ℕ) → i ≤ j → bit w (suc j) ≡ false

is_one : (x y : ℕ) → x ≡ y → eqb x 1 ≡ eqb y 1
is_one x y e = ap (λ (z : ℕ). eqb z 1) e

-- no bit for step i
pub built_no : (q : List Step) (p : Marks) (l i w : ℕ) → Built q p l i w → hit (get_or q i any_step) i p l ≡ false → Built q p l (i + 1) w
built_no q p l i w b e = record {
  none = b.none;
  set = λ j h. ⊎_elim (λ (g : j < i). b.set j g) (λ (g : i ≤ j). let k : i ≡ j = omega arith in b.unset j g ∙ sym (subst (λ (x : ℕ). hit (get_or q x any_step) x p l ≡ false) k e)) (cases_lt j i);
  unset = λ j h. b.unset j (omega arith);
}

pub built_yes : (q : List Step) (p : Marks) (l i w : ℕ) → Built q p l i w → hit (get_or q i any_step) i p l ≡ true → Built q p l (i + 1) (bit_or w (2 ^ (i + 1)))
built_yes q p l i w b e = record {
  none = other 0 (omega arith) ∙ b.none;
  set = λ j h. ⊎_elim (λ (g : j < i). other (suc j) (omega arith) ∙ b.set j g)
      (λ (g : i ≤ j). let k : i ≡ j = omega arith in same j (sym k) ∙ sym (subst (λ (x : ℕ). hit (get_or q x any_step) x p l ≡ true) k e)) (cases_lt j i);
  unset = λ j h. other (suc j) (omega arith) ∙ b.unset j (omega arith);
}
  where
    other : (k : ℕ) → (k ≡ i + 1 → ⊥) → bit (bit_or w (2 ^ (i + 1))) k ≡ bit w k
    other k n = is_one (bit_at (bit_or w (2 ^ (i + 1))) k) (bit_at w k) (omega (arith, at_or w (2 ^ (i + 1)) k, bit_at-pow_other (i + 1) k n))

    same : (j : ℕ) → j ≡ i → bit (bit_or w (2 ^ (i + 1))) (suc j) ≡ true
    same j k = let e : suc j ≡ i + 1 = omega arith in
        ap (bit (bit_or w (2 ^ (i + 1)))) e ∙ is_one (bit_at (bit_or w (2 ^ (i + 1))) (i + 1)) 1 (omega (arith, at_or w (2 ^ (i + 1)) (i + 1), bit_at-pow_same (i + 1), bit_at-lt w (i + 1)))

or_none : (w : ℕ) → bit_or w 0 ≡ w
or_none w = same_from_bits (bit_or w 0) w (λ k. omega (arith, at_or w 0 k, bit_at-zero k))

-- a step that admits the label gives the bit after its own, where the word that it goes on from has its own bit
pub built_next : (q : List Step) (p : Marks) (l i w f : ℕ) → Built q p l i w → hit (get_or q i any_step) i p l ≡ bit f i → Built q p l (i + 1) (bit_or w (2 * bit_and f (2 ^ i)))
built_next q p l i w f b e = go (bit_at f i) refl (bit_at-lt f i)
  where
    word : (v : ℕ) → bit_at f i ≡ v → 2 * bit_and f (2 ^ i) ≡ 2 * (v * 2 ^ i)
    word v s = ap (λ (x : ℕ). 2 * x) (and_pow f i ∙ ap (λ (x : ℕ). x * 2 ^ i) s)

    go : (v : ℕ) → bit_at f i ≡ v → v < 2 → Built q p l (i + 1) (bit_or w (2 * bit_and f (2 ^ i)))
    go zero s m =
        let z : 2 * (0 * 2 ^ i) ≡ 0 = omega arith in
        subst (Built q p l (i + 1)) (sym (ap (bit_or w) (word 0 s ∙ z) ∙ or_none w)) (built_no q p l i w b (e ∙ is_one (bit_at f i) 0 s))
    go (suc zero) s m =
        let z : 2 * (1 * 2 ^ i) ≡ 2 ^ (i + 1) = omega (arith, pow-add 2 i 1) in
        subst (λ x. Built q p l (i + 1) (bit_or w x)) (sym (word 1 s ∙ z)) (built_yes q p l i w b (e ∙ is_one (bit_at f i) 1 s))
    go (suc (suc v)) s m = absurd (omega arith)

pub bit_one : (j : ℕ) → bit 1 (suc j) ≡ false
bit_one j = is_one (bit_at 1 (suc j)) 0 (bit_at-pow_other 0 (suc j) (λ e. omega arith))

either_one : (x y : ℕ) → x < 2 → y < 2 → eqb (max x y) 1 ≡ (eqb x 1 || eqb y 1)
either_one zero zero a b = refl
either_one zero (suc zero) a b = refl
either_one zero (suc (suc y)) a b = absurd (omega arith)
either_one (suc zero) zero a b = refl
either_one (suc zero) (suc zero) a b = refl
either_one (suc zero) (suc (suc y)) a b = absurd (omega arith)
either_one (suc (suc x)) y a b = absurd (omega arith)

pub bit_at_or : (a b i : ℕ) → bit (bit_or a b) i ≡ (bit a i || bit b i)
bit_at_or a b i = is_one (bit_at (bit_or a b) i) (max (bit_at a i) (bit_at b i)) (at_or a b i) ∙ either_one (bit_at a i) (bit_at b i) (bit_at-lt a i) (bit_at-lt b i)
