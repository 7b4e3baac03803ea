use Rattle.std.proofs.Common.{None, sym, ap, ◌∙◌, ap₂, arith, rules, ltb-false}
use Rattle.std.proofs.lemmas.Bool.{cond-true}
use Rattle.names.specs.Bytes.{white, name_start, name_byte}
use Rattle.names.specs.Words.{after, front, begins}
use Rattle.tags.specs.Tags.{ended, placed}
use Rattle.tags.proofs.Scans.{ended_yes}
use Rattle.tags.proofs.tag.ending.Goals as goal

pub returns-in-62 : goal.returns-in-62
returns-in-62 c =
    let s = c.args.text.now in
    let rest = c.past.ensures ∙ ap (after white) c.split_name.ensures.rest in
    sym (ap (placed c.args.place)
    (cond-true (begins name_start s) (ended (front name_byte s) (after white (after name_byte s))) None (sym c.if-not-begins.ensures)
    ∙ sym (ap₂ ended c.split_name.ensures.name rest)
    ∙ ended_yes c.split_name.result.0.now c.past.result.now (omega (arith, ltb-false)) (search rules)))
