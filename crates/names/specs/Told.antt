-- What an answer holds, with the texts that its references refer to. Assumes nothing.
use Rattle.std.specs.Prelude.{ℕ, List, Option}
use Rattle.std.specs.Borrow.{Bor}
use Rattle.std.specs.Option.{option_map}

-- a value and what follows it
abbrev pub told : {X : Type 0} → Option (X × Bor (List ℕ)) → Option (X × List ℕ)
told r = option_map (λ p. (p.0, p.1.now)) r

-- a text and what follows it
abbrev pub both_told : Option (Bor (List ℕ) × Bor (List ℕ)) → Option (List ℕ × List ℕ)
both_told r = option_map (λ p. (p.0.now, p.1.now)) r
