-- Names read from their fields. Assumes nothing.
--     readable k s      s begins with k name fields, each with a good name that is new
--     names_in k s      their names
use Rattle.std.specs.Prelude.{ℕ, Bool, true, false, List, [], Ok, Err}
use Rattle.stored.specs.Openings.{names_at}

abbrev pub readable : ℕ → List ℕ → Bool
readable k s = elim (names_at k [] s) [ Ok p ↦ true | Err at ↦ false ]

abbrev pub names_in : ℕ → List ℕ → List (List ℕ)
names_in k s = elim (names_at k [] s) [ Ok p ↦ p.0 | Err at ↦ [] ]
