use Rattle.std.proofs.Common.{◌≡◌, ◌+◌, ◌≤◌, List, length, get_or, sym, ap, ◌∙◌, subst, arith, Bor}
use Rattle.std.specs.List.{flat_map}
use Rattle.std.proofs.lemmas.List.{take_all}
use Rattle.std.proofs.lemmas.List.Folds.{length-flat_map-take}
use Rattle.stored.specs.Images.{name_field}
use Rattle.writer.specs.Numberings.{ordered}
use Rattle.writer.specs.Outputs.{rest, Wrote}
use Rattle.writer.proofs.Lengths.{no_text, fields_of, fields_more}
use Rattle.writer.proofs.Outputs.{wrote_more, room_left}
use Rattle.writer.proofs.write.write_names.Goals as goal
use Rattle.writer.proofs.write.write_names.Goals.{In-loop-name}

fields : (c : In-loop-name) → flat_map name_field (ordered c.args.numbering.now) ≡ flat_map (λ name. name_field name.now) c.names-name-items.result.now
fields c = fields_of c.args.numbering.now.names.items ∙ ap (flat_map (λ (name : Bor (List _)). name_field name.now)) (sym c.names-name-items.ensures)

-- there is room for the field of the next name
room : (c : In-loop-name) → 1 + length (get_or c.names-name-items.result.now c.loop-name.name-index no_text).now ≤ length (rest c.loop-name.output)
room c = omega (arith, c.requires, ap length (fields c), room_left c.loop-name.invariant, length-flat_map-take (λ (name : Bor (List _)). name_field name.now) c.names-name-items.result.now c.loop-name.name-index no_text c.loop-name-test.true)

pub write-requires : goal.write-requires
write-requires c = omega (arith, room (goal.at.write-requires c).In-loop-name)

pub write-requires-in-loop-name : goal.write-requires-in-loop-name
write-requires-in-loop-name c = omega (arith, room (goal.at.write-requires-in-loop-name c).In-loop-name, room_left c.write.ensures)

pub loop-name-preserved : goal.loop-name-preserved
loop-name-preserved c =
    subst (λ (p : List _). Wrote c.args.output.now p c.write-in-loop-name.new.self) (fields_more c.names-name-items.result.now c.loop-name.name-index c.loop-name-test.true)
    (wrote_more c.loop-name.invariant (wrote_more c.write.ensures c.write-in-loop-name.ensures))

pub returns : goal.returns
returns c =
    let names = c.names-name-items.result.now in
    let all = ap (flat_map (λ (name : Bor (List _)). name_field name.now)) (take_all c.loop-name.name-index names (omega arith)) ∙ ap (flat_map (λ (name : Bor (List _)). name_field name.now)) c.names-name-items.ensures ∙ sym (fields_of c.args.numbering.now.names.items) in
    subst (λ (p : List _). Wrote c.args.output.now p c.loop-name.output) all c.loop-name.invariant
