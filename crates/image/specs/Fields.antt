-- What reading fields answers, with the texts that references refer to. Assumes nothing.
use Rattle.std.specs.Prelude.{ℕ, List, max, cond, ◌&&◌, Some, None, Ok, Err, Option, Result}
use Rattle.std.specs.Borrow.{Bor}
use Rattle.std.specs.Option.{option_map}
use Rattle.names.specs.Lists.{texts}
use Rattle.tree.specs.Nodes.{Node, shape}
use Rattle.stored.specs.declared.fault.ImageFault.{ImageFault}
use Rattle.stored.specs.Openings.{in_turn}
use Rattle.image.specs.Numbered.{numbered}
use Rattle.image.specs.declared.fields.WrongAt.{WrongAt}
use Rattle.image.specs.declared.fields.Field.{Field}
use Rattle.image.specs.declared.fields.Turn.{Turn}

abbrev pub body_told : Result (Bor (List ℕ)) ImageFault → Result (List ℕ) ImageFault
body_told (Ok b) = Ok b.now
body_told (Err e) = Err e

-- a name was read into each slot
abbrev pub names_told : List (Bor (List ℕ)) → Result (Bor (List ℕ)) WrongAt → Result (List (List ℕ) × List ℕ) (List ℕ)
names_told slots (Ok rest) = Ok (texts slots, rest.now)
names_told slots (Err w) = Err w.0.now

abbrev pub field_told : Option (Field × Bor (List ℕ)) → Option ((ℕ × ℕ) × List ℕ)
field_told r = option_map (λ p. ((p.0.label, p.0.depth), p.1.now)) r

-- what is before the node after n, if n may come after t
abbrev pub turned : ℕ → Turn → Field → Option Turn
turned k t n = cond (in_turn k t.greatest n.label && shape t.depth n.label n.depth) (Some (record { greatest = max t.greatest n.label; depth = n.depth })) None

abbrev pub rest_told : Result (ℕ × Bor (List ℕ)) WrongAt → Result (ℕ × List ℕ) (List ℕ)
rest_told (Ok p) = Ok (p.0, p.1.now)
rest_told (Err w) = Err w.0.now

-- the node fields that are answered
abbrev pub nodes_told : Result (Bor (List (List ℕ))) WrongAt → Result (List Node) (List ℕ)
nodes_told (Ok fields) = Ok (numbered 1 fields.now)
nodes_told (Err w) = Err w.0.now
