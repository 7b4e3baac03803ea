use Rattle.std.proofs.Common.{◌≡◌, ℕ, ◌≤◌, true, List, length, Bor, sym, refl, arith}
use lib.ListN.{length-map}
use Rattle.std.proofs.lemmas.Bool.{both_ways}
use Rattle.names.specs.Lists.{texts, apart, name_list}
use Rattle.names.proofs.Names.{list_to, list_from, list_apart}
use Rattle.names.proofs.list.NameList.set.Goals as goal

pub returns-then-names-gt-MOST_NAMES : goal.returns-then-names-gt-MOST_NAMES
returns-then-names-gt-MOST_NAMES c = (λ l. omega (arith, l.most, length-map c.args.names.now (λ x. x.now)), refl)

pub returns-then-not-all_apart : goal.returns-then-not-all_apart
returns-then-not-all_apart c = (λ l. both_ways _ (sym c.if-not-all_apart.ensures) (list_apart (texts c.args.names.now) l), refl)

-- names that pass both tests are a name list
tested : (names : List (Bor (List ℕ))) → length names ≤ 512 → true ≡ apart (texts names) → name_list (texts names) ≡ true
tested names few e = list_from (texts names) (omega (arith, few, length-map names (λ x. x.now))) (sym e)

pub invariant_of-self : goal.invariant_of-self
invariant_of-self c = record { good = tested c.args.names.now (omega arith) c.if-not-all_apart.ensures }

pub returns : goal.returns
returns c = (list_to (texts c.args.names.now) (tested c.args.names.now (omega arith) c.if-not-all_apart.ensures), refl)
