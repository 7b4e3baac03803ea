-- Numbers as bytes, the highest first. Assumes nothing.
--     two n, four n         the number n in two bytes, and in four
--     two_at s, four_at s   the number that the text s begins with, and what follows it; a number above 255 is no byte
use Rattle.std.specs.Prelude.{ℕ, ◌+◌, ◌*◌, ◌/◌, ◌%◌, cond, ◌&&◌, List, [], ◌∷◌, Some, None, Option, nat_lt}

abbrev pub two : ℕ → List ℕ
two n = n / 256 % 256 ∷ n % 256 ∷ []

abbrev pub four : ℕ → List ℕ
four n = n / 16777216 % 256 ∷ n / 65536 % 256 ∷ n / 256 % 256 ∷ n % 256 ∷ []

abbrev pub two_at : List ℕ → Option (ℕ × List ℕ)
two_at [] = None
two_at (a ∷ []) = None
two_at (a ∷ b ∷ s) = cond (nat_lt a 256 && nat_lt b 256) (Some (a * 256 + b, s)) None

abbrev pub four_at : List ℕ → Option (ℕ × List ℕ)
four_at [] = None
four_at (a ∷ []) = None
four_at (a ∷ b ∷ []) = None
four_at (a ∷ b ∷ c ∷ []) = None
four_at (a ∷ b ∷ c ∷ d ∷ s) = cond (nat_lt a 256 && (nat_lt b 256 && (nat_lt c 256 && nat_lt d 256))) (Some (a * 16777216 + b * 65536 + c * 256 + d, s)) None
