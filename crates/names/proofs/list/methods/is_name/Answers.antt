use Rattle.std.proofs.Common.{sym, ◌∙◌, arith, ltb-false, ltb-true}
use Rattle.names.proofs.Names.{word_yes}
use Rattle.names.proofs.list.methods.is_name.Goals as goal

pub returns-then-starts_name : goal.returns-then-starts_name
returns-then-starts_name c = c.is_empty.ensures ∙ word_yes c.args.name.now (omega (arith, ltb-true, ltb-false)) c.past.result.now (sym c.if-starts_name.ensures) c.past.ensures
