use Rattle.std.proofs.Common.{inl, inr, ⊎_elim, rules}
use Rattle.names.specs.NameLists.{listed}
use Rattle.path.proofs.Loops.{wrong_told, read_first, spelled_first}
use Rattle.path.proofs.question.read_question.Goals as goal

pub returns-then-is_empty : goal.returns-then-is_empty
returns-then-is_empty c =
    let r = wrong_told (listed c.args.names.now) c.args.text.now c.args.steps.now (⊎_elim (λ h. inl (search rules)) (λ h. inr h.1) c.then-is_empty.either) in
    record { read = r.0; spelled = r.1 }

pub returns : goal.returns
returns c =
    let ms = listed c.args.names.now in
    let s = c.args.text.now in
    let slots = c.args.steps.now in
    record {
      read = read_first ms s slots c.min-most.result c.min-most.ensures c.read_steps.result _ c.read_steps.ensures.read;
      spelled = spelled_first ms s slots c.min-most.result c.min-most.ensures c.read_steps.result c.read_steps.ensures.spelled;
    }
