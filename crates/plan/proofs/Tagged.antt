-- The place of each node of a derivation is that of its tag in the text, and its name is among the names.
use Rattle.std.proofs.Common.{◌≡◌, ℕ, ◌+◌, ◌-◌, ◌<◌, ◌≤◌, List, [], ◌∷◌, ◌++◌, map, length, get_or, sym, refl, ap, ◌∙◌, subst, ⊎_elim, arith, length-append}
use Rattle.std.specs.List.{AllByRecursion}
use Rattle.std.proofs.lemmas.List.{get_or_at}
use Rattle.std.proofs.ByRecursion.{All-append}
use Rattle.std.proofs.lemmas.List.Prefix.{end_rest}
use Rattle.std.proofs.lemmas.Bool.{cases_lt}
use Rattle.names.specs.Lists.{before, with_name}
use Rattle.names.proofs.Finds.{before_le}
use Rattle.names.proofs.Names.{before_is}
use Rattle.tags.specs.Tags.{Tag, start, empty, end, TagAt}
use Rattle.tags.specs.Pieces.{Stands, TagNamed}
use Rattle.tags.proofs.Ends.{Ends, ends_on, ends_cons, tag_ends}
use Rattle.tags.proofs.Named.{tag_named}
use Rattle.tree.specs.declared.slot.Slot.{Slot}
use Rattle.plan.specs.declared.counts.Counts.{Counts}
use Rattle.plan.specs.declared.counts.Room.{Room}
use Rattle.plan.specs.Documents.{Entry, Element, alone, around, Content, none, byte, child, slot_in, Derived}
use Rattle.plan.specs.Trees.{Placed}
use Rattle.plan.proofs.Held.{Held, add, grow, bare, grow_names, names_are}
use Rattle.names.proofs.Firsts.{before_with, with_known, with_new}

-- what follows an element is an end of the text that begins with it
tag_on : (s : List ℕ) (t : Tag) (r : List ℕ) → TagAt s t r → Ends s r
tag_on s t r h = let k = tag_ends s t r h in ends_cons k.0 s k.1 r k.2 k.3

mutual
  element_ends : {n d : ℕ} {s r : List ℕ} {es : List Entry} → Element n d s r es → Ends s r
  element_ends {s = s} {r = r} (alone k t) = tag_on s (empty k) r t
  element_ends {s = s} {r = r} (around k t u x content y) = ends_on s t r (tag_on s (start k) t x) (ends_on t u r (content_ends content) (tag_on u (end k) r y))

  content_ends : {n d : ℕ} {s r : List ℕ} {es : List Entry} → Content n d s r es → Ends s r
  content_ends none = ([], refl)
  content_ends {r = r} (byte {s = s} b x content) = ends_cons b (b ∷ s) s r refl (content_ends content)
  content_ends {s = s} {r = r} (child t element content) = ends_on s t r (element_ends element) (content_ends content)

-- an entry's place is that of a `<`, and its name stands behind that
record Stood (text : List ℕ) (e : Entry) : Type 0 where
  tag : get_or text e.place 0 ≡ 60
  name : Stands text (e.place + 1) e.name

module _ (text : List ℕ) where
  opens_at : (s a : List ℕ) → Ends text s → s ≡ 60 ∷ a → get_or text (length text - length s) 0 ≡ 60
  opens_at s a (w, e) b =
      let place : length w ≡ length text - length s = omega (arith, ap length e ∙ length-append w s) in
      ap (λ (z : List ℕ). get_or z (length text - length s) 0) (e ∙ ap (λ (z : List ℕ). w ++ z) b) ∙ get_or_at w 60 a 0 (length text - length s) place

  named_at : (s : List ℕ) (t : Tag) (r : List ℕ) → Ends text s → TagAt s t r → TagNamed text (length text - length s) t
  named_at s t r (w, e) h = tag_named text (length text - length s) t r (subst (λ (z : List ℕ). TagAt z t r) (sym (end_rest text s w e)) h)

  mutual
    element_stood : {d : ℕ} {s r : List ℕ} {es : List Entry} → Element (length text) d s r es → Ends text s → AllByRecursion (Stood text) es
    element_stood {s = s} {r = r} (alone k t) w = (record { tag = opens_at s t.0 w t.2; name = named_at s (empty k) r w t }, tt)
    element_stood {s = s} (around k t u x content y) w = (
      record { tag = opens_at s x.0 w x.2; name = named_at s (start k) t w x },
      content_stood content (ends_on text s t w (tag_on s (start k) t x)),
    )

    content_stood : {d : ℕ} {s r : List ℕ} {es : List Entry} → Content (length text) d s r es → Ends text s → AllByRecursion (Stood text) es
    content_stood none w = tt
    content_stood (byte {s = s} b x content) w = content_stood content (ends_on text (b ∷ s) s w (b ∷ [], refl))
    content_stood {s = s} (child {es = es} {fs = fs} t element content) w =
        All-append (Stood text) es fs (element_stood element w) (content_stood content (ends_on text s t w (element_ends element)))

-- the name of each entry is among the names that the entries leave
with_has : (n : List ℕ) (ms more : List (List ℕ)) → before n (with_name n ms ++ more) < length (with_name n ms ++ more)
with_has n ms more =
    let same = before_with n ms more in
    let long = length-append (with_name n ms) more in
    ⊎_elim
    (λ (h : before n ms < length ms). omega (arith, ap length (with_known n ms h)))
    (λ (h : length ms ≤ before n ms). omega (arith, before_le n ms, ap length (with_new n ms h) ∙ length-append ms (n ∷ [])))
    (cases_lt (before n ms) (length ms))

abbrev Known : List (List ℕ) → Entry → Type 0
Known ms e = before e.name ms < length ms

all_known : (h : Held) (es : List Entry) → AllByRecursion (Known (grow h es).names) es
all_known h [] = tt
all_known h (e ∷ es) =
    let more = grow_names (add h e) es in
    (subst (λ (z : List (List ℕ)). Known z e) (sym more.1) (with_has e.name h.names more.0), all_known (add h e) es)

slot_placed : (text : List ℕ) (ms : List (List ℕ)) (e : Entry) → Stood text e → Known ms e → Placed text ms (slot_in ms e)
slot_placed text ms e s k =
    let back : before e.name ms ≡ before e.name ms + 1 - 1 = omega arith in
    record { tag = s.tag; name = subst (Stands text (e.place + 1)) (sym (before_is e.name ms k) ∙ ap (λ (i : ℕ). get_or ms i []) back) s.name }

slots_placed : (text : List ℕ) (ms : List (List ℕ)) (es : List Entry) → AllByRecursion (Stood text) es → AllByRecursion (Known ms) es → AllByRecursion (Placed text ms) (map (slot_in ms) es)
slots_placed text ms [] a b = tt
slots_placed text ms (e ∷ es) a b = (slot_placed text ms e a.0 b.0, slots_placed text ms es a.1 b.1)

pub derived_places : (m : Room) (text : List ℕ) (c : Counts) (ns : List Slot) (ms : List (List ℕ)) → Derived m text c ns ms → AllByRecursion (Placed text ms) ns
derived_places m text c ns ms d =
    let es = d.entries in
    let white = d.document.before_root in
    let same : (grow bare es).names ≡ ms = names_are bare es ∙ sym d.names in
    subst (AllByRecursion (Placed text ms)) (sym d.nodes)
    (slots_placed text ms es (element_stood text d.document.element (white.0, white.2)) (subst (λ (z : List (List ℕ)). AllByRecursion (Known z) es) same (all_known bare es)))
