-- The number and the place of each refusal. Assumes nothing.
use Rattle.std.specs.Prelude.{ℕ}
use Rattle.stored.specs.declared.fault.ImageFault.{ImageFault}
use Rattle.stored.specs.declared.fault.ImageFault.TheVariants.{Length, Version, Name, Node}
use Rattle.stored.specs.declared.fault.WriteFault.{WriteFault}
use Rattle.stored.specs.declared.fault.WriteFault.TheVariants.{Short, Nameless}

abbrev pub number : ImageFault → ℕ
number Length = 11
number Version = 12
number (Name p) = 13
number (Node p) = 14

abbrev pub place : ImageFault → ℕ
place Length = 0
place Version = 0
place (Name p) = p
place (Node p) = p

abbrev pub write_number : WriteFault → ℕ
write_number (Short n) = 15
write_number (Nameless k) = 16

abbrev pub write_place : WriteFault → ℕ
write_place (Short n) = n
write_place (Nameless k) = k
