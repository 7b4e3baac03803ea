use Rattle.std.proofs.Common.{sym, ap, ◌∙◌, arith, rules, ltb-false}
use Rattle.tags.specs.Tags.{placed}
use Rattle.tags.proofs.Scans.{scan_opening}
use Rattle.tags.proofs.tag.scan.Goals as goal

pub returns-in-60-2 : goal.returns-in-60-2
returns-in-60-2 c = c.opening.ensures ∙ sym (ap (placed c.args.place) (scan_opening c.args.text.now (omega (arith, ltb-false)) (search rules) (sym c.if-starts_name.ensures)))
