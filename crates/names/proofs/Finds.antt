-- Finding a name among names.
use Rattle.std.proofs.Common.{◌≡◌, ℕ, suc, ◌≤◌, true, false, cond, ltb, List, [], ◌∷◌, length, Some, None, sym, refl, ap, ap₂, one-add, arith, Bor}
use Rattle.std.specs.List.{position}
use Rattle.std.specs.Str.{bytes_eq}
use Rattle.std.proofs.lemmas.List.Recursion.{is_position_or_len}
use lib.ListN.{length-map}
use Rattle.names.specs.Lists.{texts, before, place_of}

pub before_le : (n : List ℕ) (ms : List (List ℕ)) → before n ms ≤ length ms
before_le n [] = omega arith
before_le n (m ∷ ms) = let r = before_le n ms in elim (bytes_eq m n) as (λ b. cond b 0 (suc (before n ms)) ≤ suc (length ms)) [ true ↦ omega arith | false ↦ omega arith ]

-- the place that a search answers
pub place_is : (rs : List (Bor (List ℕ))) (n : List ℕ) → position (λ x. bytes_eq x.now n) rs ≡ place_of n (texts rs)
place_is rs n =
    let e = sym (is_position_or_len (λ xs. before n (texts xs)) (λ x. bytes_eq x.now n) refl (λ x xs. ap (cond (bytes_eq x.now n) 0) (sym (one-add (before n (texts xs))))) rs) in
    ap₂ (λ i l. cond (ltb i l) (Some i) None) e (sym (length-map rs (λ x. x.now)))
