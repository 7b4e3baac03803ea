-- A plan that is being read, as what was seen of it. Assumes nothing.
--     seen d          what was seen: the open tags, the nodes and the names of the draft d
--     names_of d      the names alone
--     room_of d       how many nodes and names there is room for
--     taken r s       what a step says that answered r and left s
--     ruled p r s     the same at the place p, where r holds the rule alone
--     Found ms n o    o is the place of the name n among the names ms, if it is among them
--     Follows d e     the draft e has the slots of d, and those past its counts hold what they held
--     SameSlots d e   all of them do
use Rattle.std.specs.Prelude.{◌≡◌, ℕ, ◌<◌, ◌≤◌, List, length, drop, Some, None, Ok, Err, Option, Result}
use Rattle.names.specs.Lists.{before}
use Rattle.tree.specs.Stacks.{items}
use Rattle.plan.specs.declared.counts.Room.{Room}
use Rattle.plan.specs.declared.draft.Draft.{Draft}
use Rattle.plan.specs.declared.fault.PlanFault.{PlanFault}
use Rattle.plan.specs.declared.fault.Rule.{Rule}
use Rattle.plan.specs.Faults.{fault}
use Rattle.plan.specs.Plans.{Seen}
use Rattle.plan.specs.Reads.{room_in, known, seen_of}

abbrev pub seen : Draft → Seen
seen d = seen_of (items d.opened.now) d.nodes.now d.names.now d.counts

abbrev pub names_of : Draft → List (List ℕ)
names_of d = known d.counts.names d.names.now

abbrev pub room_of : Draft → Room
room_of d = room_in d.nodes.now d.names.now

abbrev pub taken : Result (Unit {0}) PlanFault → Seen → Result Seen PlanFault
taken (Ok u) s = Ok s
taken (Err e) s = Err e

abbrev pub ruled : ℕ → Result (Unit {0}) Rule → Seen → Result Seen PlanFault
ruled p (Ok u) s = Ok s
ruled p (Err k) s = Err (fault k p)

abbrev pub Found : List (List ℕ) → List ℕ → Option ℕ → Type 0
Found ms n None = before n ms ≡ length ms
Found ms n (Some k) = (k < length ms) × (k ≡ before n ms)

pub record Follows (d e : Draft) : Type 0 where
  pub same_nodes : e.nodes.ghost_name ≡ d.nodes.ghost_name
  pub same_names : e.names.ghost_name ≡ d.names.ghost_name
  pub node_slots : length e.nodes.now ≡ length d.nodes.now
  pub name_slots : length e.names.now ≡ length d.names.now
  pub more_nodes : d.counts.nodes ≤ e.counts.nodes
  pub more_names : d.counts.names ≤ e.counts.names
  pub nodes : drop e.counts.nodes e.nodes.now ≡ drop e.counts.nodes d.nodes.now
  pub names : drop e.counts.names e.names.now ≡ drop e.counts.names d.names.now

pub record SameSlots (d e : Draft) : Type 0 where
  pub nodes : e.nodes.now ≡ d.nodes.now
  pub names : e.names.now ≡ d.names.now
