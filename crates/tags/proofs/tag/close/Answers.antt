use Rattle.std.proofs.Common.{ℕ, List, sym, ap, arith, rules, ltb-false}
use Rattle.tags.specs.Tags.{close, placed}
use Rattle.names.proofs.Runs.{with_two}
use Rattle.tags.proofs.tag.close.Goals as goal

pub returns-in-47 : goal.returns-in-47
returns-in-47 c = sym (ap (λ (s : List ℕ). placed c.args.tag.place (close c.args.tag.name.now s)) (with_two c.args.text.now 47 62 (omega (arith, ltb-false)) (search rules) (search rules)))
