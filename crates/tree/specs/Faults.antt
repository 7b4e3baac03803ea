-- The number and the place of each refusal. Assumes nothing.
use Rattle.std.specs.Prelude.{ℕ}
use Rattle.tree.specs.declared.fault.TableFault.{TableFault}
use Rattle.tree.specs.declared.fault.TableFault.TheVariants.{NoTree}

abbrev pub number : TableFault → ℕ
number (NoTree k) = 21

abbrev pub place : TableFault → ℕ
place (NoTree k) = k
