-- Words: names by themselves, and the name that a text begins with. Assumes nothing.
--     Word w         w is a well-formed name
--     front p s      the longest run of bytes at the front of s that pass the test p
--     after p s      what follows it
use Rattle.std.specs.Prelude.{◌≡◌, ℕ, Bool, true, false, cond, List, [], ◌∷◌}
use Rattle.std.specs.List.{AllByRecursion}
use Rattle.names.specs.Bytes.{name_start, name_byte}

abbrev pub Word : List ℕ → Type 0
Word [] = ⊥
Word (b ∷ w) = (name_start b ≡ true) × AllByRecursion (λ c. name_byte c ≡ true) w

abbrev pub front : (ℕ → Bool) → List ℕ → List ℕ
front p [] = []
front p (b ∷ s) = cond (p b) (b ∷ front p s) []

abbrev pub after : (ℕ → Bool) → List ℕ → List ℕ
after p [] = []
after p (b ∷ s) = cond (p b) (after p s) (b ∷ s)

-- s begins with a byte that passes the test p
abbrev pub begins : (ℕ → Bool) → List ℕ → Bool
begins p [] = false
begins p (b ∷ s) = p b
