use Rattle.std.proofs.Common.{sym, ap, ◌∙◌, arith, rules, ltb-false}
use Rattle.names.specs.Bytes.{white}
use Rattle.names.specs.Words.{after}
use Rattle.tags.specs.Tags.{quoted, valued}
use Rattle.tags.proofs.Scans.{valued_yes}
use Rattle.tags.proofs.scan.past_attribute.Goals as goal

pub returns-in-61 : goal.returns-in-61
returns-in-61 c =
    c.past_quoted.ensures
    ∙ ap quoted c.past-in-61.ensures
    ∙ sym (valued_yes c.past-2.result.now (omega (arith, ltb-false)) (search rules))
    ∙ ap valued (c.past-2.ensures ∙ ap (after white) c.past.ensures)
