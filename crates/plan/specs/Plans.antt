-- What a plan text gives: its nodes, its names, and its refusal.
--     Seen              what the tags read so far have left: open names from the innermost on, nodes, names
--     step m p seen w   what the piece w at the place p does to it, within the room m
--     outcome m text    the result of reading the text, with the nodes and names read
use Rattle.std.specs.Prelude.{ℕ, ◌+◌, min, Bool, cond, not, ◌&&◌, ◌||◌, List, [], ◌∷◌, ◌++◌, length, Some, None, Ok, Err, Option, Result, ◌==◌, nat_le, nat_lt}
use Rattle.std.specs.Str.{bytes_eq}
use Rattle.tree.specs.declared.slot.Slot.{Slot}
use Rattle.plan.specs.declared.counts.Counts.{Counts}
use Rattle.plan.specs.declared.counts.Room.{Room}
use Rattle.plan.specs.declared.fault.Rule.{Rule}
use Rattle.plan.specs.declared.fault.Rule.TheVariants.{TooLong, NoTag, WrongEnd, Outside, Unfinished, LongName, TooDeep, NodesFull, NamesFull}
use Rattle.plan.specs.declared.fault.PlanFault.{PlanFault}
use Rattle.names.specs.Bytes.{white}
use Rattle.names.specs.Lists.{before, with_name}
use Rattle.plan.specs.Faults.{fault}
use Rattle.tags.specs.Tags.{start, empty, end}
use Rattle.tags.specs.Pieces.{Piece, byte, tag, no_tag, pieces}

abbrev pub room : ℕ → ℕ → Room
room n k = record { nodes = min n 4096; names = min k 512 }

pub record Seen : Type 0 where
  pub opened : List (List ℕ)
  pub nodes : List Slot
  pub names : List (List ℕ)

abbrev pub nothing : Seen
nothing = record { opened = []; nodes = []; names = [] }

-- a node with the name n at the place p
abbrev pub grown : ℕ → Seen → List ℕ → Seen
grown p seen n = record {
  opened = seen.opened;
  nodes = seen.nodes ++ record { label = before n seen.names + 1; depth = length seen.opened + 1; place = p } ∷ [];
  names = with_name n seen.names;
}

abbrev pub opens : Seen → List ℕ → Seen
opens seen n = record { opened = n ∷ seen.opened; nodes = seen.nodes; names = seen.names }

abbrev pub shuts : Seen → List (List ℕ) → Seen
shuts seen os = record { opened = os; nodes = seen.nodes; names = seen.names }

-- why a start or empty tag is refused: o tags are open, n nodes and k names seen, its name has l bytes and f names before it
abbrev pub hindrance : Room → ℕ → ℕ → ℕ → ℕ → ℕ → Option Rule
hindrance m o n k l f =
    cond (o == 0 && nat_lt 0 n) (Some Outside)
    (cond (nat_lt 64 l) (Some LongName)
    (cond (nat_le 64 o) (Some TooDeep)
    (cond (nat_le m.nodes n) (Some NodesFull)
    (cond (nat_le k f && nat_le m.names k) (Some NamesFull) None))))

abbrev pub refused_or : ℕ → Seen → Option Rule → Result Seen PlanFault
refused_or p seen (Some k) = Err (fault k p)
refused_or p seen None = Ok seen

abbrev pub enter : Room → ℕ → Seen → List ℕ → Result Seen PlanFault
enter m p seen n = refused_or p (grown p seen n) (hindrance m (length seen.opened) (length seen.nodes) (length seen.names) (length n) (before n seen.names))

abbrev pub leave : ℕ → Seen → List ℕ → List (List ℕ) → Result Seen PlanFault
leave p seen n [] = Err (fault WrongEnd p)
leave p seen n (o ∷ os) = cond (bytes_eq o n) (Ok (shuts seen os)) (Err (fault WrongEnd p))

abbrev pub then_open : List ℕ → Result Seen PlanFault → Result Seen PlanFault
then_open n (Ok seen) = Ok (opens seen n)
then_open n (Err e) = Err e

-- with d tags open, the byte b may stand as text
abbrev pub passes : ℕ → ℕ → Bool
passes d b = not (d == 0) || white b

abbrev pub passed : ℕ → Seen → ℕ → Result Seen PlanFault
passed p seen b = cond (passes (length seen.opened) b) (Ok seen) (Err (fault Outside p))

abbrev pub step : Room → ℕ → Seen → Piece → Result Seen PlanFault
step m p seen (byte b) = passed p seen b
step m p seen no_tag = Err (fault NoTag p)
step m p seen (tag (start n)) = then_open n (enter m p seen n)
step m p seen (tag (empty n)) = enter m p seen n
step m p seen (tag (end n)) = leave p seen n seen.opened

-- what is said where the text ends, at the place p, with d tags open
abbrev pub finish_at : ℕ → ℕ → Counts → Result Counts PlanFault
finish_at p d c = cond (d == 0 && nat_lt 0 c.nodes) (Ok c) (Err (fault Unfinished p))

abbrev pub finish : ℕ → Seen → Result Counts PlanFault
finish p seen = finish_at p (length seen.opened) (record { nodes = length seen.nodes; names = length seen.names })

abbrev pub run : Room → ℕ → Seen → List (ℕ × Piece) → Result Counts PlanFault × Seen
run m n seen [] = (finish n seen, seen)
run m n seen (p ∷ ps) = elim (step m p.0 seen p.1) [ Ok s ↦ run m n s ps | Err e ↦ (Err e, seen) ]

abbrev pub outcome : Room → List ℕ → Result Counts PlanFault × Seen
outcome m text = cond (nat_lt 65536 (length text)) (Err (fault TooLong 0), nothing) (run m (length text) nothing (pieces (length text) (length text) text))
