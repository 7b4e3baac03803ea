-- The kinds of bytes that names and tags are made of. Assumes nothing.
--     white b        b is white: 20, 09, 0D or 0A
--     name_start b   a name can begin with b: A to Z, a to z or `_`
--     name_byte b    a name can go on with b: also 0 to 9, `-` and `.`
use Rattle.std.specs.Prelude.{ℕ, Bool, ◌&&◌, ◌||◌, ◌==◌, nat_le}

abbrev pub white : ℕ → Bool
white b = b == 32 || (b == 9 || (b == 13 || b == 10))

abbrev pub name_start : ℕ → Bool
name_start b = (nat_le 65 b && nat_le b 90) || ((nat_le 97 b && nat_le b 122) || b == 95)

abbrev pub name_byte : ℕ → Bool
name_byte b = name_start b || ((nat_le 48 b && nat_le b 57) || (b == 45 || b == 46))
