-- Which kinds of bytes exclude one another.
use Rattle.std.proofs.Common.{◌≡◌, ℕ, true, false, eqb, arith}
use Rattle.std.proofs.lemmas.Bool.Decides.{nat_tests}
use Rattle.std.proofs.lemmas.Bool.{or_left}
use Rattle.names.specs.Bytes.{name_start, name_byte}

pub start_is_name : (b : ℕ) → name_start b ≡ true → name_byte b ≡ true
start_is_name b h = or_left _ _ h

pub start_no_slash : (b : ℕ) → name_start b ≡ true → eqb b 47 ≡ false
start_no_slash b h = grind (arith, nat_tests)

pub start_no_star : (b : ℕ) → name_start b ≡ true → eqb b 42 ≡ false
start_no_star b h = grind (arith, nat_tests)
