-- The slots after a reading hold the plan that was derived.
use Rattle.std.proofs.Common.{◌≡◌, ℕ, List, length, take, Ok, Err, Result, sym, ap, ◌∙◌, subst, arith, length-take, Bor}
use lib.ListN.{length-map}
use Rattle.std.proofs.lemmas.List.{map-id}
use Rattle.tree.specs.declared.slot.Slot.{Slot}
use Rattle.plan.specs.declared.counts.Counts.{Counts}
use Rattle.plan.specs.declared.fault.PlanFault.{PlanFault}
use Rattle.plan.specs.Plans.{Seen, room, outcome}
use Rattle.plan.specs.Reads.{known, Read}
use Rattle.plan.specs.Documents.{Derived, Judged}
use Rattle.plan.specs.Trees.{Plan, Planned}
use Rattle.plan.proofs.Trees.{derived_tree}
use Rattle.plan.proofs.Listed.{derived_names}
use Rattle.plan.proofs.Tagged.{derived_places}
use Rattle.plan.proofs.Sources.{derived_sources}

derived_plan : (n k : ℕ) (text : List ℕ) (c : Counts) (ns : List Slot) (ms : List (List ℕ)) → Derived (room n k) text c ns ms → Plan text ns ms
derived_plan n k text c ns ms d =
    let places = derived_places (room n k) text c ns ms d in
    record { tree = derived_tree n k text c ns ms d; names = derived_names n k text c ns ms d; places = places; sources = derived_sources (room n k) text c ns ms d places }

pub planned : (n k : ℕ) (text : List ℕ) (r : Result Counts PlanFault) (ns ns' : List Slot) (ms ms' : List (Bor (List ℕ))) → Judged (room n k) text r → Read (outcome (room n k) text) r ns ns' ms ms' → Planned text r ns' ms'
planned n k text (Err e) ns ns' ms ms' d h = tt
planned n k text (Ok c) ns ns' ms ms' d h =
    let seen : Seen = (outcome (room n k) text).1 in
    let many : c.nodes ≡ length seen.nodes = ap (λ (z : Counts). z.nodes) d.counts in
    let named : c.names ≡ length seen.names = ap (λ (z : Counts). z.names) d.counts in
    let nodes : take c.nodes ns' ≡ seen.nodes = ap (λ (j : ℕ). take j ns') many ∙ sym (map-id _) ∙ h.nodes.front in
    let names : known c.names ms' ≡ seen.names = ap (λ (j : ℕ). known j ms') named ∙ h.names.front in
    record {
      nodes = omega (arith, ap length nodes, length-take c.nodes ns');
      names = omega (arith, ap length names, length-map (take c.names ms') (λ x. x.now), length-take c.names ms');
      plan = subst (λ (z : List Slot). Plan text z (known c.names ms')) (sym nodes) (subst (Plan text seen.nodes) (sym names) (derived_plan n k text c seen.nodes seen.names d));
    }
