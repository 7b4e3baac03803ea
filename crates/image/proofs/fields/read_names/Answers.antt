use Rattle.std.proofs.Common.{length, take, ap, ◌∙◌, arith}
use Rattle.std.proofs.lemmas.Grind.{common_steps}
use Rattle.std.proofs.lemmas.List.{length-set, take_more_set, map_push}
use Rattle.names.specs.Lists.{texts}
use Rattle.image.proofs.Loops.{names_step}
use Rattle.image.proofs.fields.read_names.Goals as goal

pub loop-done-preserved : goal.loop-done-preserved
loop-done-preserved c =
    let slots = c.loop-done.slots in
    let done = c.loop-done.done in
    let long = length-set slots done c.in_ok-name.name in
    let more = ap texts (take_more_set slots done c.in_ok-name.name (omega arith)) ∙ map_push (λ x. x.now) (take done slots) c.in_ok-name.name in
    let e = names_step (length slots) done (texts (take done slots)) c.loop-done.rest.now (omega arith) in
    record { kept = long ∙ c.loop-done.invariant.kept; read = grind (arith, common_steps) }
