-- The number and the place of each refusal. Assumes nothing.
use Rattle.std.specs.Prelude.{ℕ}
use Rattle.plan.specs.declared.fault.Rule.{Rule}
use Rattle.plan.specs.declared.fault.Rule.TheVariants.{TooLong, NoTag, WrongEnd, Outside, Unfinished, LongName, TooDeep, NodesFull, NamesFull}
use Rattle.plan.specs.declared.fault.PlanFault.{PlanFault}

abbrev pub rule_number : Rule → ℕ
rule_number TooLong = 1
rule_number NoTag = 2
rule_number WrongEnd = 3
rule_number Outside = 4
rule_number Unfinished = 5
rule_number LongName = 6
rule_number TooDeep = 7
rule_number NodesFull = 8
rule_number NamesFull = 9

abbrev pub number : PlanFault → ℕ
number e = rule_number e.rule

abbrev pub place : PlanFault → ℕ
place e = e.place

abbrev pub fault : Rule → ℕ → PlanFault
fault k p = record { rule = k; place = p }
