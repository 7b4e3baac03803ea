-- Lines, from what the calls below answer.
use Rattle.std.proofs.Common.{◌≡◌, ℕ, ◌-◌, List, ◌++◌, length, take, ap, ◌∙◌, arith}
use Rattle.std.proofs.lemmas.List.{take_at}

-- the first n items, where they are told with what follows them, as `&xs[0..n]` reads them
pub part : {X : Type 0} (xs front rest : List X) (n : ℕ) → xs ≡ front ++ rest → n ≡ length front → take (n - 0) xs ≡ front
part xs front rest n e l = let z : length front ≡ n - 0 = omega arith in ap (take (n - 0)) e ∙ take_at front rest (n - 0) z
