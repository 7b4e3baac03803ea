-- The nodes of a derivation are a tree.
use Rattle.std.proofs.Common.{◌≡◌, ℕ, zero, suc, ◌+◌, ◌≤◌, true, List, [], ◌∷◌, ◌++◌, map, length, Some, None, sym, refl, ap, ◌∙◌, subst, arith}
use lib.ListN.{length-map}
use Rattle.std.specs.List.{AllByRecursion}
use Rattle.std.proofs.lemmas.List.{map-append}
use Rattle.std.proofs.lemmas.Bool.{le-leb, and_from, cond-true}
use Rattle.names.specs.Lists.{before}
use Rattle.names.proofs.Finds.{before_le}
use Rattle.tree.specs.declared.slot.Slot.{Slot}
use Rattle.tree.specs.Nodes.{Laws, node_limit, least, shape, lawful}
use Rattle.tree.specs.Slots.{numbered, wrong}
use Rattle.tree.specs.Laws.{lawful_laws}
use Rattle.tree.proofs.Slots.{right_lawful}
use Rattle.plan.specs.declared.counts.Counts.{Counts}
use Rattle.plan.specs.Plans.{room}
use Rattle.plan.specs.Documents.{Entry, Element, alone, around, Content, none, byte, child, slot_in, Derived}
use Rattle.plan.proofs.Derives.{element_some}

abbrev depths : List Entry → List ℕ
depths es = map (λ (e : Entry). e.depth) es

-- the depths that can follow a node of depth p
abbrev Climbs : ℕ → List ℕ → Type 0
Climbs p [] = Unit {0}
Climbs p (d ∷ ds) = (least p ≤ d) × (d ≤ p + 1) × Climbs d ds

-- the depth of the last node, where one of depth p comes first
abbrev deepest : ℕ → List ℕ → ℕ
deepest p [] = p
deepest p (d ∷ ds) = deepest d ds

climbs_on : (p : ℕ) (ds gs : List ℕ) → Climbs p ds → Climbs (deepest p ds) gs → Climbs p (ds ++ gs)
climbs_on p [] gs a b = b
climbs_on p (d ∷ ds) gs a b = (a.0, a.1, climbs_on d ds gs a.2 b)

deepest_on : (p : ℕ) (ds gs : List ℕ) → deepest p (ds ++ gs) ≡ deepest (deepest p ds) gs
deepest_on p [] gs = refl
deepest_on p (d ∷ ds) gs = deepest_on d ds gs

-- the last node has at least the depth d
abbrev Under : ℕ → ℕ → List ℕ → Type 0
Under d p ds = Climbs p ds × (d ≤ deepest p ds)

under_on : (d p : ℕ) (es fs : List Entry) → Under d p (depths es) → Under d (deepest p (depths es)) (depths fs) → Under d p (depths (es ++ fs))
under_on d p es fs a b =
    subst (λ (z : List ℕ). Under d p z) (sym (map-append (λ (e : Entry). e.depth) es fs))
    (climbs_on p (depths es) (depths fs) a.0 b.0, subst (λ (z : ℕ). d ≤ z) (sym (deepest_on p (depths es) (depths fs))) b.1)

least_most : (d : ℕ) → least d ≤ 2
least_most zero = omega arith
least_most (suc d) = omega arith

mutual
  element_climbs : {n d : ℕ} {s r : List ℕ} {es : List Entry} → Element n d s r es → (p : ℕ) → least p ≤ d + 1 → d ≤ p → Under d p (depths es)
  element_climbs (alone k t) p a b = ((a, omega arith, tt), omega arith)
  element_climbs {n} {d} (around k t u x content y) p a b =
      let c = content_climbs content (d + 1) (omega arith) (omega arith) in
      ((a, omega arith, c.0), omega (arith, c.1))

  content_climbs : {n d : ℕ} {s r : List ℕ} {es : List Entry} → Content n d s r es → (p : ℕ) → 1 ≤ d → d ≤ p → Under d p (depths es)
  content_climbs none p a b = (tt, b)
  content_climbs (byte b x content) p a l = content_climbs content p a l
  content_climbs {n} {d} (child {es = es} {fs = fs} t element content) p a b =
      let e = element_climbs element p (omega (arith, least_most p)) b in
      under_on d p es fs e (content_climbs content (deepest p (depths es)) a e.1)

right_shape : (p l d : ℕ) → 1 ≤ l → l ≤ 65535 → least p ≤ d → d ≤ 64 → d ≤ p + 1 → shape p l d ≡ true
right_shape p l d a b c e f = and_from _ _ (le-leb 1 l a) (and_from _ _ (le-leb l 65535 b) (and_from _ _ (le-leb (least p) d c) (and_from _ _ (le-leb d 64 e) (le-leb d (p + 1) f))))

-- slots whose depths climb so have no wrong one among them
none_wrong : (ms : List (List ℕ)) (es : List Entry) (p i : ℕ) → length ms ≤ 512 → AllByRecursion (λ e. e.depth ≤ 64) es → Climbs p (depths es) → wrong p i (map (slot_in ms) es) ≡ None
none_wrong ms [] p i l a c = refl
none_wrong ms (e ∷ es) p i l a c =
    cond-true (shape p (before e.name ms + 1) e.depth) (wrong e.depth (suc i) (map (slot_in ms) es)) (Some i) (right_shape p (before e.name ms + 1) e.depth (omega arith) (omega (arith, before_le e.name ms)) c.0 a.0 c.1)
    ∙ none_wrong ms es e.depth (suc i) l a.1 c.2

pub derived_tree : (n k : ℕ) (text : List ℕ) (c : Counts) (ns : List Slot) (ms : List (List ℕ)) → Derived (room n k) text c ns ms → Laws node_limit (numbered 1 ns)
derived_tree n k text c ns ms d =
    let es = d.entries in
    let long = length-map es (slot_in ms) in
    let right : wrong 0 1 (map (slot_in ms) es) ≡ None = none_wrong ms es 0 1 (omega (arith, ap length d.names, d.limits.names)) d.limits.shallow (element_climbs d.document.element 0 (omega arith) (omega arith)).0 in
    lawful_laws node_limit (numbered 1 ns)
    (subst (λ (z : List Slot). lawful node_limit (numbered 1 z) ≡ true) (sym d.nodes)
    (right_lawful (map (slot_in ms) es) (omega (arith, element_some d.document.element)) (omega (arith, d.limits.nodes)) right))
