-- What the slots hold while a plan text is read, and afterwards.
--     room_in ns ms         how many nodes and names there is room for in the slots ns and ms
--     known k ms            the names in the first k slots
--     seen_of os ns ms c    what was seen, from the open tags, the slots and the counts
--     Filled f done was is  the slots were `was` and are `is`: the first ones hold `done`, all others what they held
--     Reading text r ns ns' ms ms'   reading the text answers r as its outcome says, and fills the slots with what was read
use Rattle.std.specs.Prelude.{◌≡◌, ℕ, ◌≤◌, List, map, length, take, drop, Result}
use Rattle.std.specs.Borrow.{Bor}
use Rattle.tags.specs.declared.token.Tag.{Tag}
use Rattle.tree.specs.declared.slot.Slot.{Slot}
use Rattle.plan.specs.declared.counts.Counts.{Counts}
use Rattle.plan.specs.declared.counts.Room.{Room}
use Rattle.plan.specs.declared.fault.PlanFault.{PlanFault}
use Rattle.plan.specs.Plans.{Seen, room, outcome}
use Rattle.names.specs.Lists.{texts}

abbrev pub room_in : List Slot → List (Bor (List ℕ)) → Room
room_in ns ms = room (length ns) (length ms)

abbrev pub known : ℕ → List (Bor (List ℕ)) → List (List ℕ)
known k ms = texts (take k ms)

abbrev pub name_of : Tag → List ℕ
name_of t = t.name.now

abbrev pub seen_of : List Tag → List Slot → List (Bor (List ℕ)) → Counts → Seen
seen_of os ns ms c = record { opened = map name_of os; nodes = take c.nodes ns; names = known c.names ms }

pub record Filled {X Y : Type 0} (f : X → Y) (done : List Y) (was is : List X) : Type 0 where
  pub front : map f (take (length done) is) ≡ done
  pub rest : drop (length done) is ≡ drop (length done) was

pub record Within (m : Room) (c : Counts) : Type 0 where
  pub nodes : c.nodes ≤ m.nodes
  pub names : c.names ≤ m.names

-- a reading answers r as the outcome o says, and fills the slots with the nodes and names of o
pub record Read (o : Result Counts PlanFault × Seen) (r : Result Counts PlanFault) (ns ns' : List Slot) (ms ms' : List (Bor (List ℕ))) : Type 0 where
  pub answer : r ≡ o.0
  pub nodes : Filled (λ (s : Slot). s) o.1.nodes ns ns'
  pub names : Filled (λ x. x.now) o.1.names ms ms'

abbrev pub Reading : List ℕ → Result Counts PlanFault → List Slot → List Slot → List (Bor (List ℕ)) → List (Bor (List ℕ)) → Type 0
Reading text r ns ns' ms ms' = Read (outcome (room_in ns ms) text) r ns ns' ms ms'
