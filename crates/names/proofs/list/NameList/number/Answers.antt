use Rattle.std.proofs.Common.{◌<◌, Some, sym, ap, ◌∙◌, subst, add-one, suc, arith}
use Rattle.std.specs.Option.{option_map}
use Rattle.std.proofs.lemmas.List.Quantifiers.{position-Some}
use lib.ListN.{length-map}
use Rattle.names.specs.Lists.{texts, NumberedIn}
use Rattle.names.proofs.Finds.{place_is}
use Rattle.names.proofs.Names.{list_to, numbered_in}
use Rattle.names.proofs.list.NameList.number.Goals as goal

pub returns-in_err-at-clause-value : goal.returns-in_err-at-clause-value
returns-in_err-at-clause-value c =
    c.from_residual.ensures ∙ ap (option_map suc) (sym c.in_err-at.was ∙ c.find.ensures ∙ place_is c.args.self.now.names.now c.args.name.now)

pub returns-in_err-at-clause-meaning : goal.returns-in_err-at-clause-meaning
returns-in_err-at-clause-meaning c = subst (NumberedIn _ _) (sym (returns-in_err-at-clause-value c)) (numbered_in c.args.name.now (texts c.args.self.now.names.now))

-- the place is that of one of at most 512 names
near : (c : goal.In_ok-at) → c.in_ok-at.at < 512
near c = omega (
  arith,
  (list_to (texts c.args.self.now.names.now) c.args.self.now.good).most,
  length-map c.args.self.now.names.now (λ x. x.now),
  (position-Some _ c.args.self.now.names.now c.in_ok-at.at c.args.name (sym c.find.ensures ∙ c.in_ok-at.was)).0,
)

pub overflow_cast-result : goal.overflow_cast-result
overflow_cast-result c = omega (arith, near c)

pub overflow_add-result : goal.overflow_add-result
overflow_add-result c = omega (arith, near c)

pub returns-clause-value : goal.returns-clause-value
returns-clause-value c = ap Some (add-one c.in_ok-at.at) ∙ ap (option_map suc) (sym c.in_ok-at.was ∙ c.find.ensures ∙ place_is c.args.self.now.names.now c.args.name.now)

pub returns-clause-meaning : goal.returns-clause-meaning
returns-clause-meaning c = subst (NumberedIn _ _) (sym (returns-clause-value c)) (numbered_in c.args.name.now (texts c.args.self.now.names.now))
