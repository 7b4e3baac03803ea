-- The names of a derivation are distinct, well-formed and short.
use Rattle.std.proofs.Common.{ℕ, ◌≤◌, List, [], ◌∷◌, length, fold, sym, subst, arith}
use Rattle.std.specs.List.{AllByRecursion}
use Rattle.std.proofs.ByRecursion.{All-append}
use Rattle.names.specs.Words.{Word}
use Rattle.names.specs.Lists.{with_name, IsNameList}
use Rattle.tree.specs.declared.slot.Slot.{Slot}
use Rattle.plan.specs.declared.counts.Counts.{Counts}
use Rattle.plan.specs.Plans.{room}
use Rattle.plan.specs.Documents.{Entry, Element, alone, around, Content, none, byte, child, Derived}
use Rattle.names.proofs.Firsts.{Good, good_none, good_with}

mutual
  element_words : {n d : ℕ} {s r : List ℕ} {es : List Entry} → Element n d s r es → AllByRecursion (λ e. Word e.name) es
  element_words (alone k t) = (t.3.0, tt)
  element_words (around k t u x content y) = (x.3.0, content_words content)

  content_words : {n d : ℕ} {s r : List ℕ} {es : List Entry} → Content n d s r es → AllByRecursion (λ e. Word e.name) es
  content_words none = tt
  content_words (byte b x content) = content_words content
  content_words (child {es = es} {fs = fs} t element content) = All-append (λ e. Word e.name) es fs (element_words element) (content_words content)

good_all : (ms : List (List ℕ)) (es : List Entry) → AllByRecursion (λ e. Word e.name) es → AllByRecursion (λ e. length e.name ≤ 64) es → Good ms → Good (fold (λ ns e. with_name e.name ns) ms es)
good_all ms [] a b g = g
good_all ms (e ∷ es) a b g = good_all (with_name e.name ms) es a.1 b.1 (good_with e.name ms (a.0, b.0) g)

pub derived_names : (n k : ℕ) (text : List ℕ) (c : Counts) (ns : List Slot) (ms : List (List ℕ)) → Derived (room n k) text c ns ms → IsNameList ms
derived_names n k text c ns ms d =
    let good = good_all [] d.entries (element_words d.document.element) d.limits.short good_none in
    subst IsNameList (sym d.names) (record { most = omega (arith, d.limits.names); names = good.names; distinct = good.distinct })
