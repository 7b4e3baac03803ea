use Rattle.std.proofs.Common.{◌≡◌, get_or, sym, ap, ◌∙◌, arith, ltb-false}
use Rattle.tags.specs.Tags.{quoted, closed}
use Rattle.tags.proofs.Scans.{closed_yes, quoted_yes}
use Rattle.tags.proofs.scan.past_quoted.Goals as goal
use Rattle.tags.proofs.scan.past_quoted.Goals.{After-past}

opened : (c : After-past) → quoted c.args.text.now ≡ closed (get_or c.args.text.now 0 0) c.past.result.now
opened c = quoted_yes c.args.text.now (omega (arith, ltb-false)) (sym c.if-not-is_quote.ensures) ∙ ap (closed (get_or c.args.text.now 0 0)) (sym c.past.ensures)

pub returns-then-end-quote : goal.returns-then-end-quote
returns-then-end-quote c = sym (opened (goal.at.returns-then-end-quote c).After-past ∙ closed_yes _ c.past.result.now (omega (arith, ltb-false)) c.if-end-quote.true)
