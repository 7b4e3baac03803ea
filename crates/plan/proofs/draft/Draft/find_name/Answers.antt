use Rattle.std.proofs.Common.{◌<◌, Some, ap, sym, ◌∙◌, subst, arith}
use Rattle.std.proofs.lemmas.Slice.Eq.{slice_eq-Decides}
use Rattle.std.proofs.lemmas.Bool.{both_ways}
use Rattle.std.proofs.lemmas.Bool.Decides.{Decides-eqb}
use Rattle.chains.specs.Chains.{links}
use Rattle.chains.proofs.Searches.{upto}
use Rattle.plan.specs.Drafts.{names_of}
use Rattle.plan.proofs.Hashed.{Sought, sought_first, sought_within, sought_less, sought_more, found_here, found_none}
use Rattle.plan.proofs.Known.{known_at, names_many}
use Rattle.plan.proofs.draft.Draft.find_name.Goals as goal
use Rattle.plan.proofs.draft.Draft.find_name.Goals.{In-Some}

sought : (c : In-Some) → Sought (names_of c.args.self.now) c.args.name.now (Some c.in-Some.at)
sought c = subst (Sought (names_of c.args.self.now) c.args.name.now) c.in-Some.is c.loop-place.invariant

within : (c : In-Some) → c.in-Some.at < c.args.self.now.counts.names
within c = omega (arith, sought_within (names_of c.args.self.now) (links c.args.self.now.chain) c.args.name.now c.args.self.now.findable c.in-Some.at (sought c), names_many c.args.self.now)

pub loop-place-init : goal.loop-place-init
loop-place-init c = subst (Sought (names_of c.args.self.now) c.args.name.now) (sym c.first-place.ensures.value) (sought_first (names_of c.args.self.now) (links c.args.self.now.chain) c.args.name.now c.args.self.now.findable c.hash.result c.hash.ensures)

pub returns-then-eq : goal.returns-then-eq
returns-then-eq c =
    let h = (goal.at.returns-then-eq c).In-Some in
    found_here (names_of c.args.self.now) (links c.args.self.now.chain) c.args.name.now c.args.self.now.findable c.in-Some.at (sought h)
    (known_at c.args.self.now c.from.result c.in-Some.at _ c.from.ensures (within h) ∙ (slice_eq-Decides Decides-eqb _ _ _ c.eq.ensures).0 c.if-eq.true)

pub loop-place-smaller : goal.loop-place-smaller
loop-place-smaller c =
    let h = (goal.at.loop-place-smaller c).In-Some in
    let less = sought_less (names_of c.args.self.now) (links c.args.self.now.chain) c.args.name.now c.args.self.now.findable c.in-Some.at (sought h) in
    omega (arith, less, ap upto c.before-place.ensures.value, ap upto c.in-Some.is)

pub loop-place-preserved : goal.loop-place-preserved
loop-place-preserved c =
    let h = (goal.at.loop-place-preserved c).In-Some in
    subst (Sought (names_of c.args.self.now) c.args.name.now) (sym c.before-place.ensures.value)
    (sought_more (names_of c.args.self.now) (links c.args.self.now.chain) c.args.name.now c.args.self.now.findable c.in-Some.at (sought h)
    (λ e. both_ways _ c.if-eq.false ((slice_eq-Decides Decides-eqb _ _ _ c.eq.ensures).1 (sym (known_at c.args.self.now c.from.result c.in-Some.at _ c.from.ensures (within h)) ∙ e))))

pub returns : goal.returns
returns c = found_none (names_of c.args.self.now) (links c.args.self.now.chain) c.args.name.now c.args.self.now.findable (subst (Sought (names_of c.args.self.now) c.args.name.now) c.in_default.is c.loop-place.invariant)
