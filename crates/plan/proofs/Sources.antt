-- Each name of a derivation is that of a node, and names are numbered as they first appear.
use Rattle.std.proofs.Common.{◌≡◌, ℕ, zero, suc, ◌+◌, ◌-◌, ◌<◌, ◌≤◌, List, [], ◌∷◌, map, length, get_or, sym, ap, ◌∙◌, subst, ⊎_elim, arith}
use Rattle.std.specs.List.{AllByRecursion}
use Rattle.std.proofs.lemmas.List.{get_or-map, length-map, length_push}
use Rattle.std.proofs.ByRecursion.{All-get_or}
use Rattle.std.proofs.lemmas.Bool.{cases_lt}
use Rattle.names.specs.Lists.{before}
use Rattle.names.proofs.Finds.{before_le}
use Rattle.tags.specs.Pieces.{Stands}
use Rattle.tree.specs.declared.slot.Slot.{Slot}
use Rattle.plan.specs.declared.counts.Counts.{Counts}
use Rattle.plan.specs.declared.counts.Room.{Room}
use Rattle.plan.specs.Documents.{Entry, entry, slot_in, Derived}
use Rattle.plan.specs.Trees.{free, Placed, Source}
use Rattle.plan.proofs.Held.{Held, add, grow, bare, grow_names, names_are}
use Rattle.names.proofs.Firsts.{before_with, with_known, with_new}

abbrev nobody : Entry
nobody = entry [] 0 0

abbrev number_at : List (List ℕ) → List Entry → ℕ → ℕ
number_at ms es i = before (get_or es i nobody).name ms

-- the first of the entries es whose name is the one with k names of ms before it
record First (ms : List (List ℕ)) (es : List Entry) (k : ℕ) : Type 0 where
  at : ℕ
  within : at < length es
  here : number_at ms es at ≡ k
  earlier : (j : ℕ) → j < at → number_at ms es j < k

first_here : (ms : List (List ℕ)) (e : Entry) (es : List Entry) (k : ℕ) → before e.name ms ≡ k → First ms (e ∷ es) k
first_here ms e es k h = record { at = 0; within = omega arith; here = h; earlier = λ j l. absurd (omega arith) }

first_later : (ms : List (List ℕ)) (e : Entry) (es : List Entry) (k : ℕ) → before e.name ms < k → First ms es k → First ms (e ∷ es) k
first_later ms e es k h f = record { at = suc f.at; within = omega (arith, f.within); here = f.here; earlier = earlier }
  where
    earlier : (j : ℕ) → j < suc f.at → number_at ms (e ∷ es) j < k
    earlier zero l = h
    earlier (suc j) l = f.earlier j (omega arith)

first_of : (h : Held) (es : List Entry) (k : ℕ) → length h.names ≤ k → k < length (grow h es).names → First (grow h es).names es k
first_of h [] k a b = absurd (omega arith)
first_of h (e ∷ es) k a b =
    let more = grow_names (add h e) es in
    let label : before e.name (grow h (e ∷ es)).names ≡ before e.name h.names = ap (before e.name) more.1 ∙ before_with e.name h.names more.0 in
    ⊎_elim
    (λ (l : before e.name h.names < length h.names).
    first_later (grow h (e ∷ es)).names e es k (omega arith) (first_of (add h e) es k (omega (arith, ap length (with_known e.name h.names l))) b))
    (λ (l : length h.names ≤ before e.name h.names).
    let new = before_le e.name h.names in
    let long = ap length (with_new e.name h.names l) ∙ length_push h.names e.name in
    ⊎_elim
    (λ (g : length h.names < k). first_later (grow h (e ∷ es)).names e es k (omega arith) (first_of (add h e) es k (omega (arith, long)) b))
    (λ (g : k ≤ length h.names). first_here (grow h (e ∷ es)).names e es k (omega arith))
    (cases_lt (length h.names) k))
    (cases_lt (before e.name h.names) (length h.names))

module _ (text : List ℕ) (ms : List (List ℕ)) (es : List Entry) (k : ℕ) (f : First ms es k) where
  slot_at : (j : ℕ) → j < length es → get_or (map (slot_in ms) es) j free ≡ slot_in ms (get_or es j nobody)
  slot_at j l = get_or-map (slot_in ms) es j nobody free l

  source_of : AllByRecursion (Placed text ms) (map (slot_in ms) es) → Source text (map (slot_in ms) es) ms k
  source_of places =
      let long = length-map es (slot_in ms) in
      let label : (get_or (map (slot_in ms) es) f.at free).label ≡ k + 1 = ap (λ (s : Slot). s.label) (slot_at f.at f.within) ∙ ap (λ (i : ℕ). i + 1) f.here in
      let back : (get_or (map (slot_in ms) es) f.at free).label - 1 ≡ k = omega arith in
      record {
        node = f.at;
        within = omega (arith, f.within);
        label = label;
        first = λ j l. omega (arith, ap (λ (s : Slot). s.label) (slot_at j (omega (arith, f.within))), f.earlier j l);
        name = subst (λ (i : ℕ). Stands text ((get_or (map (slot_in ms) es) f.at free).place + 1) (get_or ms i [])) back
            (All-get_or (Placed text ms) (map (slot_in ms) es) f.at free (omega (arith, f.within)) places).name;
      }

pub derived_sources : (m : Room) (text : List ℕ) (c : Counts) (ns : List Slot) (ms : List (List ℕ)) → Derived m text c ns ms → AllByRecursion (Placed text ms) ns → (k : ℕ) → k < length ms → Source text ns ms k
derived_sources m text c ns ms d places k l =
    let es = d.entries in
    let same : (grow bare es).names ≡ ms = names_are bare es ∙ sym d.names in
    let f : First ms es k = subst (λ (z : List (List ℕ)). First z es k) same (first_of bare es k (omega arith) (omega (arith, ap length same))) in
    subst (λ (z : List Slot). Source text z ms k) (sym d.nodes) (source_of text ms es k f (subst (AllByRecursion (Placed text ms)) d.nodes places))
