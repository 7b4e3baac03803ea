-- A document of the grammar is accepted, with its nodes and names.
use Rattle.std.proofs.Common.{◌≡◌, ℕ, ◌+◌, ◌-◌, ◌<◌, ◌≤◌, true, false, not, ◌&&◌, eqb, ltb, leb, List, [], ◌∷◌, ◌++◌, map, length, Some, None, Ok, Err, Result, sym, refl, ap, ◌∙◌, subst, ⊎_elim, arith, length-append}
use Rattle.std.specs.List.{AllByRecursion}
use Rattle.std.specs.Str.{bytes_eq}
use Rattle.std.proofs.lemmas.Slice.Eq.{bytes_eq-Decides}
use Rattle.std.proofs.lemmas.Bool.{cond-true, cond-false, ne_eqb, lt-ltb, le-ltb, lt-leb, or_left, and_left, and_right, cases_lt}
use Rattle.tree.specs.declared.slot.Slot.{Slot}
use Rattle.plan.specs.declared.counts.Counts.{Counts}
use Rattle.plan.specs.declared.counts.Room.{Room}
use Rattle.plan.specs.declared.fault.Rule.TheVariants.{Outside, Unfinished, LongName, TooDeep, NodesFull, NamesFull, WrongEnd}
use Rattle.plan.specs.declared.fault.PlanFault.{PlanFault}
use Rattle.names.specs.Bytes.{white}
use Rattle.tags.specs.Tags.{start, empty, end, Run, TagAt}
use Rattle.tags.specs.Pieces.{Piece, byte as plain, tag, first, pieces}
use Rattle.plan.specs.Plans.{Seen, hindrance, refused_or, grown, enter, passes, then_open, step, run}
use Rattle.plan.specs.Faults.{fault}
use Rattle.names.specs.Lists.{before}
use Rattle.plan.specs.Documents.{Entry, entry, Element, alone, around, Content, none, byte, child, slot_in, Accepted, Derived}
use Rattle.plan.proofs.Held.{Held, add, grow, bare, Fits, AllFit, names_are, nodes_are, limits_fit}
use Rattle.tags.proofs.Apart.{white_no_tag}
use Rattle.plan.proofs.Outcomes.{run_end, run_more, outcome_is}
use Rattle.tags.proofs.Firsts.{byte_first, tag_first}

abbrev pub seen_with : List (List ℕ) → Held → Seen
seen_with os h = record { opened = os; nodes = h.nodes; names = h.names }

-- nothing hinders an entry that fits
hindrance_free : (m : Room) (o n k l f : ℕ) → (eqb o 0 && ltb 0 n) ≡ false → l ≤ 64 → o < 64 → n < m.nodes → (k ≤ f → k < m.names) → hindrance m o n k l f ≡ None
hindrance_free m o n k l f a b c d e =
    cond-false (eqb o 0 && ltb 0 n) (Some Outside) _ a
    ∙ cond-false (ltb 64 l) (Some LongName) _ (le-ltb 64 l b)
    ∙ cond-false (leb 64 o) (Some TooDeep) _ (lt-leb 64 o c)
    ∙ cond-false (leb m.nodes n) (Some NodesFull) _ (lt-leb m.nodes n d)
    ∙ cond-false (leb k f && leb m.names k) (Some NamesFull) None (⊎_elim (λ h. and_left (leb k f) (leb m.names k) (lt-leb k f h)) (λ h. and_right (leb k f) (leb m.names k) (lt-leb m.names k (e h))) (cases_lt f k))

enter_fits : (m : Room) (p d : ℕ) (os : List (List ℕ)) (h : Held) (n : List ℕ) → length os ≡ d → (eqb (length os) 0 && ltb 0 (length h.nodes)) ≡ false → Fits m h (entry n (d + 1) p) → enter m p (seen_with os h) n ≡ Ok (seen_with os (add h (entry n (d + 1) p)))
enter_fits m p d os h n e inside fits =
    ap (refused_or p (grown p (seen_with os h) n)) (hindrance_free m (length os) (length h.nodes) (length h.names) (length n) (before n h.names) inside fits.short (omega (arith, fits.shallow)) fits.nodes fits.names)
    ∙ ap (λ (z : ℕ). Ok (seen_with os (add h (entry n (z + 1) p)))) e

grow_more : (h : Held) (es fs : List Entry) → grow h (es ++ fs) ≡ grow (grow h es) fs
grow_more h [] fs = refl
grow_more h (e ∷ es) fs = grow_more (add h e) es fs

fit_left : (m : Room) (h : Held) (es fs : List Entry) → AllFit m h (es ++ fs) → AllFit m h es
fit_left m h [] fs a = tt
fit_left m h (e ∷ es) fs a = (a.0, fit_left m (add h e) es fs a.1)

fit_right : (m : Room) (h : Held) (es fs : List Entry) → AllFit m h (es ++ fs) → AllFit m (grow h es) fs
fit_right m h [] fs a = a
fit_right m h (e ∷ es) fs a = fit_right m (add h e) es fs a.1

module _ (m : Room) (n : ℕ) where
  -- reading goes from s to r, and what was seen becomes next
  abbrev Goes : Seen → List ℕ → Seen → List ℕ → Type 0
  Goes seen s next r = (f : ℕ) → length s ≤ f → (g : ℕ) × (length r ≤ g) × (run m n next (pieces g n r) ≡ run m n seen (pieces f n s))

  goes_on : (a b c : Seen) (s t r : List ℕ) → Goes a s b t → Goes b t c r → Goes a s c r
  goes_on a b c s t r x y f l = let u = x f l in let v = y u.0 u.1 in (v.0, v.1, v.2 ∙ u.2)

  goes_step : (seen next : Seen) (s r : List ℕ) (p : Piece) → first s ≡ Some (p, r) → step m (n - length s) seen p ≡ Ok next → Goes seen s next r
  goes_step seen next s r p e d f l = run_more m n seen s p r e f next l d

  goes_text : (os : List (List ℕ)) (h : Held) (b : ℕ) (s : List ℕ) → (b ≡ 60 → ⊥) → passes (length os) b ≡ true → Goes (seen_with os h) (b ∷ s) (seen_with os h) s
  goes_text os h b s x y = goes_step (seen_with os h) (seen_with os h) (b ∷ s) s (plain b) (byte_first b s x) (cond-true (passes (length os) b) (Ok (seen_with os h)) (Err (fault Outside (n - length (b ∷ s)))) y)

  goes_end : (os : List (List ℕ)) (h : Held) (s r k : List ℕ) → TagAt s (end k) r → Goes (seen_with (k ∷ os) h) s (seen_with os h) r
  goes_end os h s r k t = goes_step (seen_with (k ∷ os) h) (seen_with os h) s r (tag (end k)) (tag_first s (end k) r t) (cond-true (bytes_eq k k) (Ok (seen_with os h)) (Err (fault WrongEnd (n - length s))) ((bytes_eq-Decides k k).1 refl))

  mutual
    goes_element : {d : ℕ} {s r : List ℕ} {es : List Entry} → Element n d s r es → (os : List (List ℕ)) (h : Held) → length os ≡ d → (eqb (length os) 0 && ltb 0 (length h.nodes)) ≡ false → AllFit m h es → Goes (seen_with os h) s (seen_with os (grow h es)) r
    goes_element {d} {s} {r} (alone k t) os h e inside fits =
        goes_step (seen_with os h) (seen_with os (add h (entry k (d + 1) (n - length s)))) s r (tag (empty k)) (tag_first s (empty k) r t) (enter_fits m (n - length s) d os h k e inside fits.0)
    goes_element {d} {s} {r} {es} (around {es = fs} k t u open-tag content end-tag) os h e inside fits =
        let held : Held = add h (entry k (d + 1) (n - length s)) in
        goes_on (seen_with os h) (seen_with (k ∷ os) held) (seen_with os (grow held fs)) s t r
        (goes_step (seen_with os h) (seen_with (k ∷ os) held) s t (tag (start k)) (tag_first s (start k) t open-tag) (ap (then_open k) (enter_fits m (n - length s) d os h k e inside fits.0)))
        (goes_on (seen_with (k ∷ os) held) (seen_with (k ∷ os) (grow held fs)) (seen_with os (grow held fs)) t u r
        (goes_content content (k ∷ os) held (omega arith) (omega arith) fits.1)
        (goes_end os (grow held fs) u r k end-tag))

    goes_content : {d : ℕ} {s r : List ℕ} {es : List Entry} → Content n d s r es → (os : List (List ℕ)) (h : Held) → length os ≡ d → 1 ≤ d → AllFit m h es → Goes (seen_with os h) s (seen_with os (grow h es)) r
    goes_content none os h e deep fits = λ f l. (f, l, refl)
    goes_content {d} {r = r} {es} (byte {s = s} b x content) os h e deep fits =
        goes_on (seen_with os h) (seen_with os h) (seen_with os (grow h es)) (b ∷ s) s r
        (goes_text os h b s x (or_left (not (eqb (length os) 0)) (white b) (ap not (ne_eqb (length os) 0 (λ z. omega arith)))))
        (goes_content content os h e deep fits)
    goes_content {d} {s} {r} (child {es = es} {fs = fs} t element content) os h e deep fits =
        subst (λ (z : Held). Goes (seen_with os h) s (seen_with os z) r) (sym (grow_more h es fs))
        (goes_on (seen_with os h) (seen_with os (grow h es)) (seen_with os (grow (grow h es) fs)) s t r
        (goes_element element os h e (and_left (eqb (length os) 0) (ltb 0 (length h.nodes)) (ne_eqb (length os) 0 (λ z. omega arith))) (fit_left m h es fs fits))
        (goes_content content os (grow h es) e deep (fit_right m h es fs fits)))

  goes_white : (h : Held) (w s : List ℕ) → AllByRecursion (λ b. white b ≡ true) w → Goes (seen_with [] h) (w ++ s) (seen_with [] h) s
  goes_white h [] s a = λ f l. (f, l, refl)
  goes_white h (b ∷ w) s a =
      goes_on (seen_with [] h) (seen_with [] h) (seen_with [] h) (b ∷ (w ++ s)) (w ++ s) s
      (goes_text [] h b (w ++ s) (λ e. white_no_tag b a.0 e) a.0)
      (goes_white h w s a.1)

  goes_run : (h : Held) (s r : List ℕ) → Run white s r → Goes (seen_with [] h) s (seen_with [] h) r
  goes_run h s r u = subst (λ (z : List ℕ). Goes (seen_with [] h) z (seen_with [] h) r) (sym u.2) (goes_white h u.0 r u.1)

-- entries only add nodes
grow_nodes : (h : Held) (es : List Entry) → length (grow h es).nodes ≡ length h.nodes + length es
grow_nodes h [] = omega arith
grow_nodes h (e ∷ es) = omega (arith, grow_nodes (add h e) es, length-append h.nodes (record { label = before e.name h.names + 1; depth = e.depth; place = e.place } ∷ []))

pub element_some : {n d : ℕ} {s r : List ℕ} {es : List Entry} → Element n d s r es → 1 ≤ length es
element_some (alone k t) = omega arith
element_some (around k t u a b c) = omega arith

pub derived : (m : Room) (text : List ℕ) (c : Counts) (ns : List Slot) (ms : List (List ℕ)) → Derived m text c ns ms → Accepted m text c ns ms
derived m text c ns ms k =
    let n : ℕ = length text in
    let doc = k.document in
    let es : List Entry = k.entries in
    let h : Held = grow bare es in
    let there = goes_on m n (seen_with [] bare) (seen_with [] bare) (seen_with [] h) text doc.root [] (goes_run m n bare text doc.root doc.before_root)
    (goes_on m n (seen_with [] bare) (seen_with [] h) (seen_with [] h) doc.root doc.past [] (goes_element m n doc.element [] bare refl refl (limits_fit m es k.limits)) (goes_run m n h doc.past [] doc.behind_root)) in
    let last = there n (omega arith) in
    let some : 1 ≤ length h.nodes = omega (arith, grow_nodes bare es, element_some doc.element) in
    sym (outcome_is m text k.short)
    ∙ sym last.2
    ∙ run_end m n (seen_with [] h) [] last.0 refl
    ∙ ap (λ (z : Result Counts PlanFault). (z, seen_with [] h)) (cond-true (ltb 0 (length h.nodes)) (Ok (record { nodes = length h.nodes; names = length h.names })) (Err (fault Unfinished n)) (lt-ltb 0 (length h.nodes) some))
    ∙ (λ i. (Ok (sym (k.counts ∙ (λ j. record { nodes = length (nodes j); names = length (names j) })) i), record { opened = []; nodes = sym nodes i; names = sym names i }))
  where
    names : ms ≡ (grow bare k.entries).names
    names = k.names ∙ sym (names_are bare k.entries)

    nodes : ns ≡ (grow bare k.entries).nodes
    nodes = k.nodes ∙ ap (λ (z : List (List ℕ)). map (slot_in z) k.entries) names ∙ sym (nodes_are bare k.entries)
