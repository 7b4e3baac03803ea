-- The slots that reading a plan fills are what the table and the name list then show.
use Rattle.std.proofs.Common.{◌≡◌, ℕ, ◌-◌, List, length, take, sym, ap, ◌∙◌, subst, arith, Bor}
use Rattle.std.proofs.lemmas.List.{map-id}
use Rattle.names.specs.Lists.{texts}
use Rattle.tree.specs.declared.slot.Slot.{Slot}
use Rattle.plan.specs.declared.counts.Counts.{Counts}
use Rattle.plan.specs.declared.counts.Room.{Room}
use Rattle.plan.specs.Documents.{Derived}
use Rattle.plan.specs.Reads.{Filled}

module _ (m : Room) (text : List ℕ) (c : Counts) (done : List Slot) (names : List (List ℕ)) (d : Derived m text c done names) where
  nodes_shown : (was is : List Slot) → Filled (λ (s : Slot). s) done was is → take (c.nodes - 0) is ≡ done
  nodes_shown was is f =
      let e : c.nodes - 0 ≡ length done = omega (arith, ap (λ (k : Counts). k.nodes) d.counts) in
      ap (λ (n : ℕ). take n is) e ∙ sym (map-id (take (length done) is)) ∙ f.front

  names_held : (was is : List (Bor (List ℕ))) → Filled (λ x. x.now) names was is → texts (take (c.names - 0) is) ≡ names
  names_held was is f =
      let e : c.names - 0 ≡ length names = omega (arith, ap (λ (k : Counts). k.names) d.counts) in
      ap (λ (n : ℕ). texts (take n is)) e ∙ f.front

  pub opened : (ns ns' : List Slot) (ms ms' : List (Bor (List ℕ))) → Filled (λ (s : Slot). s) done ns ns' → Filled (λ x. x.now) names ms ms'
      → (shown : List Slot) (held : List (List ℕ)) → shown ≡ take (c.nodes - 0) ns' → held ≡ texts (take (c.names - 0) ms') → Derived m text c shown held
  opened ns ns' ms ms' f g shown held s h =
      subst (λ (z : List Slot). Derived m text c z held) (sym (s ∙ nodes_shown ns ns' f)) (subst (Derived m text c done) (sym (h ∙ names_held ms ms' g)) d)
