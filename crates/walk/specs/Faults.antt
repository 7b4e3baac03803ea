-- The number and the place of each refusal. Assumes nothing.
use Rattle.std.specs.Prelude.{ℕ}
use Rattle.walk.specs.declared.fault.WalkFault.{WalkFault}
use Rattle.walk.specs.declared.fault.WalkFault.TheVariants.{NoQuestion, Short}

abbrev pub number : WalkFault → ℕ
number NoQuestion = 52
number (Short n) = 57

abbrev pub place : WalkFault → ℕ
place NoQuestion = 0
place (Short n) = n
