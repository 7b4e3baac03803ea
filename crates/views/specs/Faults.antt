-- The number and the place of each refusal. Assumes nothing.
use Rattle.std.specs.Prelude.{ℕ}
use Rattle.views.specs.declared.fault.ViewFault.{ViewFault}
use Rattle.views.specs.declared.fault.ViewFault.TheVariants.{NoNode, ManyLabels, RootHidden}

abbrev pub number : ViewFault → ℕ
number NoNode = 31
number ManyLabels = 32
number RootHidden = 33

abbrev pub place : ViewFault → ℕ
place f = 0
