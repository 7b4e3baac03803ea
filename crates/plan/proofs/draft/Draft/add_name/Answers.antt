use Rattle.std.proofs.Common.{◌≡◌, ℕ, ◌+◌, length, set, sym, subst, arith}
use Rattle.chains.specs.Chains.{Links, links, hooked}
use Rattle.names.specs.Lists.{before}
use Rattle.plan.specs.Drafts.{names_of, Found}
use Rattle.plan.specs.Hashes.{Findable}
use Rattle.plan.specs.Reads.{known}
use Rattle.plan.proofs.Known.{known_findable}
use Rattle.plan.proofs.draft.Draft.add_name.Goals as goal

pub invariant_of-self-clause-findable : goal.invariant_of-self-clause-findable
invariant_of-self-clause-findable c =
    let d = c.args.self.now in
    let new : before c.args.name.now (names_of d) ≡ length (names_of d) = subst (Found (names_of d) c.args.name.now) c.in_default.is c.requires.found in
    let room = c.requires.room c.in_default.is in
    subst (λ (l : Links). Findable (known (d.counts.names + 1) (set d.names.now c.from.result c.args.name)) l) (sym c.hook.ensures)
    (subst (λ (j : ℕ). Findable (known (d.counts.names + 1) (set d.names.now j c.args.name)) (hooked (links d.chain) d.counts.names c.hash-key.result)) (sym c.from.ensures)
    (known_findable d c.args.name new (omega arith) c.hash-key.result c.hash-key.ensures (omega arith)))
