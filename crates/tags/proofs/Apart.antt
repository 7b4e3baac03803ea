-- Which kinds of bytes exclude one another.
use Rattle.std.proofs.Common.{◌≡◌, ℕ, true, false, arith}
use Rattle.std.proofs.lemmas.Bool.Decides.{nat_tests}
use Rattle.names.specs.Bytes.{white, name_start, name_byte}
use Rattle.tags.specs.Values.{quote}

pub white_no_name : (b : ℕ) → white b ≡ true → name_byte b ≡ false
white_no_name b h = grind (arith, nat_tests)

pub start_no_white : (b : ℕ) → name_start b ≡ true → white b ≡ false
start_no_white b h = grind (arith, nat_tests)

pub quote_no_white : (b : ℕ) → quote b ≡ true → white b ≡ false
quote_no_white b h = grind (arith, nat_tests)

pub white_no_tag : (b : ℕ) → white b ≡ true → b ≡ 60 → ⊥
white_no_tag b h e = grind (arith, nat_tests)
