-- A plan that is open. Assumes nothing.
--     nodes_of p, names_of p          the nodes and the names of the plan p
--     Opens m text before r after     opening the text with room m on the plan `before` answers r and leaves `after`
use Rattle.std.specs.Prelude.{◌≡◌, ℕ, List, Ok, Err, Result}
use Rattle.names.specs.NameLists.{listed}
use Rattle.tree.specs.Nodes.{Node}
use Rattle.tree.specs.Slots.{numbered}
use Rattle.tree.specs.Tables.{shown}
use Rattle.plan.specs.Plans.{outcome}
use Rattle.plan.specs.Documents.{Derived}
use Rattle.plan.specs.declared.counts.Counts.{Counts}
use Rattle.plan.specs.declared.counts.Room.{Room}
use Rattle.plan.specs.declared.fault.PlanFault.{PlanFault}
use Rattle.answers.specs.declared.opened.Plan.{Plan}

abbrev pub nodes_of : Plan → List Node
nodes_of p = numbered 1 (shown p.table)

abbrev pub names_of : Plan → List (List ℕ)
names_of p = listed p.names

-- the nodes and names are those that the grammar of plans derives from the text
abbrev pub Opens : Room → List ℕ → Plan → Result (Unit {0}) PlanFault → Plan → Type 0
Opens m text before (Ok u) after = (c : Counts) × Derived m text c (shown after.table) (names_of after)
Opens m text before (Err e) after = ((outcome m text).0 ≡ Err e) × (after ≡ before)
