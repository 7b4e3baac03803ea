-- The bytes of an attribute's value. Assumes nothing.
--     quote b        a value can begin with b
--     in_value q b   b can stand in a value in the quote q
use Rattle.std.specs.Prelude.{ℕ, Bool, not, ◌&&◌, ◌||◌, ◌==◌}

abbrev pub quote : ℕ → Bool
quote b = b == 34 || b == 39

abbrev pub in_value : ℕ → ℕ → Bool
in_value q b = not (b == 60) && not (b == q)
