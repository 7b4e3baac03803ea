-- The number and the place of each refusal. Assumes nothing.
use Rattle.std.specs.Prelude.{ℕ}
use Rattle.path.specs.declared.fault.QuestionFault.{QuestionFault}
use Rattle.path.specs.declared.fault.QuestionFault.TheVariants.{Length, NoStep, TooMany}

abbrev pub number : QuestionFault → ℕ
number Length = 41
number (NoStep p) = 42
number (TooMany p) = 43

abbrev pub place : QuestionFault → ℕ
place Length = 0
place (NoStep p) = p
place (TooMany p) = p
