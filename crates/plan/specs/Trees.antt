-- What the slots of an accepted plan hold: a tree, a list of names, and the places of tags. Assumes nothing.
--     Placed text ms s           the slot s has the place of a `<`, and the name among ms that its label numbers stands behind that
--     Source text ns ms k        where in the text the name numbered k + 1 stands
--     Plan text ns ms            the nodes ns and the names ms are those of a plan
--     FilledPlan text c ns ms   the first slots of ns and ms, as many as c counts, hold a plan
--     Planned text r ns ms       a reading that answered r left the nodes and names of a plan in the slots ns and ms
use Rattle.std.specs.Prelude.{◌≡◌, ℕ, ◌+◌, ◌-◌, ◌<◌, ◌≤◌, List, [], length, get_or, take, Ok, Err, Result, slice_index_or}
use Rattle.std.specs.Borrow.{Bor}
use Rattle.std.specs.List.{AllByRecursion}
use Rattle.names.specs.Lists.{IsNameList}
use Rattle.tags.specs.Pieces.{Stands}
use Rattle.tree.specs.declared.slot.Slot.{Slot}
use Rattle.tree.specs.Nodes.{Laws, node_limit}
use Rattle.tree.specs.Slots.{numbered}
use Rattle.plan.specs.declared.counts.Counts.{Counts}
use Rattle.plan.specs.declared.fault.PlanFault.{PlanFault}
use Rattle.plan.specs.Reads.{known}

pub record Placed (text : List ℕ) (ms : List (List ℕ)) (s : Slot) : Type 0 where
  pub tag : get_or text s.place 0 ≡ 60
  pub name : Stands text (s.place + 1) (slice_index_or ms (s.label - 1) [])

-- what is read for a slot that is not there
abbrev pub free : Slot
free = record { label = 0; depth = 0; place = 0 }

-- the name numbered k + 1 is a part of the text: it stands behind the `<` of the first node that bears its number,
-- and the nodes before that one bear lesser numbers
pub record Source (text : List ℕ) (ns : List Slot) (ms : List (List ℕ)) (k : ℕ) : Type 0 where
  pub node : ℕ
  pub within : node < length ns
  pub label : (get_or ns node free).label ≡ k + 1
  pub first : (j : ℕ) → j < node → (get_or ns j free).label ≤ k
  pub name : Stands text ((get_or ns node free).place + 1) (slice_index_or ms k [])

pub record Plan (text : List ℕ) (ns : List Slot) (ms : List (List ℕ)) : Type 0 where
  pub tree : Laws node_limit (numbered 1 ns)
  pub names : IsNameList ms
  pub places : AllByRecursion (Placed text ms) ns
  pub sources : (k : ℕ) → k < length ms → Source text ns ms k

pub record FilledPlan (text : List ℕ) (c : Counts) (ns : List Slot) (ms : List (Bor (List ℕ))) : Type 0 where
  pub nodes : c.nodes ≤ length ns
  pub names : c.names ≤ length ms
  pub plan : Plan text (take c.nodes ns) (known c.names ms)

abbrev pub Planned : List ℕ → Result Counts PlanFault → List Slot → List (Bor (List ℕ)) → Type 0
Planned text (Ok c) ns ms = FilledPlan text c ns ms
Planned text (Err e) ns ms = Unit {0}
