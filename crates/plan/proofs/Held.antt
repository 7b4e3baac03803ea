-- The nodes and names that entries leave, one after the other.
use Rattle.std.proofs.Common.{◌≡◌, ℕ, ◌+◌, ◌<◌, ◌≤◌, List, [], ◌∷◌, ◌++◌, map, length, fold, sym, refl, ap, ◌∙◌, ⊎_elim, append_assoc, append-nil, arith, length-append}
use Rattle.std.specs.List.{AllByRecursion}
use Rattle.std.proofs.lemmas.Bool.{cases_lt}
use Rattle.tree.specs.declared.slot.Slot.{Slot}
use Rattle.plan.specs.declared.counts.Room.{Room}
use Rattle.names.specs.Lists.{before, with_name}
use Rattle.names.proofs.Firsts.{with_known, with_new, with_more, before_with}
use Rattle.plan.specs.Documents.{Entry, slot_in, Limits}

pub record Held : Type 0 where
  pub nodes : List Slot
  pub names : List (List ℕ)

abbrev pub add : Held → Entry → Held
add h e = record { nodes = h.nodes ++ slot_in h.names e ∷ []; names = with_name e.name h.names }

abbrev pub grow : Held → List Entry → Held
grow h [] = h
grow h (e ∷ es) = grow (add h e) es

abbrev pub bare : Held
bare = record { nodes = []; names = [] }

-- there is room for the entry e beside what is held
pub record Fits (m : Room) (h : Held) (e : Entry) : Type 0 where
  pub short : length e.name ≤ 64
  pub shallow : e.depth ≤ 64
  pub nodes : length h.nodes < m.nodes
  pub names : length h.names ≤ before e.name h.names → length h.names < m.names

abbrev pub AllFit : Room → Held → List Entry → Type 0
AllFit m h [] = Unit {0}
AllFit m h (e ∷ es) = Fits m h e × AllFit m (add h e) es

pub grow_names : (h : Held) (es : List Entry) → (more : List (List ℕ)) × ((grow h es).names ≡ h.names ++ more)
grow_names h [] = ([], sym (append-nil h.names))
grow_names h (e ∷ es) =
    let a = with_more e.name h.names in
    let b = grow_names (add h e) es in
    (a.0 ++ b.0, b.1 ∙ ap (λ (z : List (List ℕ)). z ++ b.0) a.1 ∙ append_assoc h.names a.0 b.0)

pub names_are : (h : Held) (es : List Entry) → (grow h es).names ≡ fold (λ ms e. with_name e.name ms) h.names es
names_are h [] = refl
names_are h (e ∷ es) = names_are (add h e) es

pub nodes_are : (h : Held) (es : List Entry) → (grow h es).nodes ≡ h.nodes ++ map (slot_in (grow h es).names) es
nodes_are h [] = sym (append-nil h.nodes)
nodes_are h (e ∷ es) =
    let b = grow_names (add h e) es in
    let label : before e.name h.names ≡ before e.name (grow h (e ∷ es)).names = sym (ap (before e.name) b.1 ∙ before_with e.name h.names b.0) in
    let slot : slot_in h.names e ≡ slot_in (grow h (e ∷ es)).names e = λ i. record { label = label i + 1; depth = e.depth; place = e.place } in
    nodes_are (add h e) es
    ∙ append_assoc h.nodes (slot_in h.names e ∷ []) (map (slot_in (grow h (e ∷ es)).names) es)
    ∙ ap (λ (z : Slot). h.nodes ++ (z ∷ map (slot_in (grow h (e ∷ es)).names) es)) slot

names_le : (h : Held) (es : List Entry) → length h.names ≤ length (grow h es).names
names_le h es = let a = grow_names h es in omega (arith, ap length a.1 ∙ length-append h.names a.0)

nodes_more : (h : Held) (e : Entry) → length (add h e).nodes ≡ length h.nodes + 1
nodes_more h e = length-append h.nodes (slot_in h.names e ∷ [])

-- the limits of all together are limits of each in its turn
fit_each : (m : Room) (h : Held) (es : List Entry) → AllByRecursion (λ e. length e.name ≤ 64) es → AllByRecursion (λ e. e.depth ≤ 64) es → length h.nodes + length es ≤ m.nodes → length (grow h es).names ≤ m.names → AllFit m h es
fit_each m h [] a b c d = tt
fit_each m h (e ∷ es) a b c d = (
  record {
    short = a.0;
    shallow = b.0;
    nodes = omega arith;
    names = λ new. omega (arith, names_le (add h e) es, ap length (with_new e.name h.names new) ∙ length-append h.names (e.name ∷ []));
  },
  fit_each m (add h e) es a.1 b.1 (omega (arith, nodes_more h e)) d,
)

pub limits_fit : (m : Room) (es : List Entry) → Limits m es → AllFit m bare es
limits_fit m es k = fit_each m bare es k.short k.shallow (omega (arith, k.nodes)) (omega (arith, ap length (names_are bare es), k.names))

fit_short : (m : Room) (h : Held) (es : List Entry) → AllFit m h es → AllByRecursion (λ e. length e.name ≤ 64) es
fit_short m h [] a = tt
fit_short m h (e ∷ es) a = (a.0.short, fit_short m (add h e) es a.1)

fit_shallow : (m : Room) (h : Held) (es : List Entry) → AllFit m h es → AllByRecursion (λ e. e.depth ≤ 64) es
fit_shallow m h [] a = tt
fit_shallow m h (e ∷ es) a = (a.0.shallow, fit_shallow m (add h e) es a.1)

fit_nodes : (m : Room) (h : Held) (es : List Entry) → length h.nodes ≤ m.nodes → AllFit m h es → length h.nodes + length es ≤ m.nodes
fit_nodes m h [] l a = omega arith
fit_nodes m h (e ∷ es) l a = omega (arith, nodes_more h e, fit_nodes m (add h e) es (omega (arith, nodes_more h e, a.0.nodes)) a.1)

fit_names : (m : Room) (h : Held) (es : List Entry) → length h.names ≤ m.names → AllFit m h es → length (grow h es).names ≤ m.names
fit_names m h [] l a = l
fit_names m h (e ∷ es) l a = fit_names m (add h e) es (⊎_elim (λ old. omega (arith, ap length (with_known e.name h.names old))) (λ new. omega (arith, ap length (with_new e.name h.names new) ∙ length-append h.names (e.name ∷ []), a.0.names new)) (cases_lt (before e.name h.names) (length h.names))) a.1

pub fit_limits : (m : Room) (es : List Entry) → AllFit m bare es → Limits m es
fit_limits m es a = record {
  short = fit_short m bare es a;
  shallow = fit_shallow m bare es a;
  nodes = omega (arith, fit_nodes m bare es (omega arith) a);
  names = omega (arith, ap length (names_are bare es), fit_names m bare es (omega arith) a);
}
