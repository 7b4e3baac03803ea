-- A text that is accepted is a document of the grammar, with its nodes and names.
use Rattle.std.proofs.Common.{◌≡◌, ℕ, zero, suc, ◌+◌, ◌-◌, ◌<◌, ◌≤◌, Bool, true, false, cond, ◌&&◌, eqb, ltb, ◌⊎◌, List, [], ◌∷◌, ◌++◌, map, length, Some, None, Ok, Err, Option, Result, sym, refl, ap, ◌∙◌, subst, inl, inr, ⊎_elim, append_assoc, append-nil, add-one, arith, length-append}
use Rattle.std.specs.Str.{bytes_eq}
use Rattle.std.proofs.lemmas.Slice.Eq.{bytes_eq-Decides}
use Rattle.std.proofs.lemmas.Bool.{cond-true, lt-ltb, cases_lt, eqb-true, and_parts, both_ways, ltb-true}
use Rattle.plan.specs.declared.counts.Counts.{Counts}
use Rattle.plan.specs.declared.counts.Room.{Room}
use Rattle.plan.specs.declared.fault.Rule.{Rule}
use Rattle.plan.specs.declared.fault.Rule.TheVariants.{TooLong, NoTag, Outside, Unfinished, WrongEnd}
use Rattle.plan.specs.declared.fault.PlanFault.{PlanFault}
use Rattle.names.specs.Bytes.{white}
use Rattle.tags.specs.Tags.{start, empty, end, Run, TagAt}
use Rattle.tags.specs.Pieces.{Piece, byte as plain, tag, no_tag, first, pieces}
use Rattle.plan.specs.Plans.{Seen, nothing, hindrance, refused_or, grown, enter, opens, leave, passes, passed, then_open, step, finish, run, outcome}
use Rattle.plan.specs.Faults.{fault}
use Rattle.names.specs.Lists.{before}
use Rattle.plan.specs.Documents.{Entry, entry, Element, alone, around, Content, none, byte, child, slot_in, Derived, Judged}
use Rattle.plan.proofs.Held.{Held, add, grow, bare, Fits, AllFit, names_are, nodes_are, fit_limits}
use Rattle.plan.proofs.Outcomes.{outcome_is}
use Rattle.tags.proofs.Firsts.{first_shorter, first_none, piece_at}
use Rattle.plan.proofs.Derives.{seen_with, derived}
use Rattle.plan.proofs.Enters.{hindrance_none}

-- what an answer of a step tells
ok_same : {A B : Type 0} (x y : A) → ◌≡◌ {A = Result A B} (Ok x) (Ok y) → x ≡ y
ok_same x y h = cc

ok_not : {A B : Type 0} (x : A) (e : B) → Err e ≡ Ok x → ⊥
ok_not x e h = let q : ◌≡◌ {A = ℕ} 0 1 = cc in omega arith

cond_ok : {A B : Type 0} (b : Bool) (x y : A) (e : B) → cond b (Ok x) (Err e) ≡ Ok y → (b ≡ true) × (x ≡ y)
cond_ok true x y e h = (refl, ok_same x y h)
cond_ok false x y e h = absurd (ok_not y e h)

abbrev pair : Result Counts PlanFault → Seen → Result Counts PlanFault × Seen
pair r s = (r, s)

enter_told : (m : Room) (p : ℕ) (os : List (List ℕ)) (h : Held) (k : List ℕ) (next : Seen) → enter m p (seen_with os h) k ≡ Ok next → ((eqb (length os) 0 && ltb 0 (length h.nodes)) ≡ false) × Fits m h (entry k (length os + 1) p) × (seen_with os (add h (entry k (length os + 1) p)) ≡ next)
enter_told m p os h k next e = go (hindrance m (length os) (length h.nodes) (length h.names) (length k) (before k h.names)) refl e
  where
    go : (o : Option Rule) → hindrance m (length os) (length h.nodes) (length h.names) (length k) (before k h.names) ≡ o → refused_or p (grown p (seen_with os h) k) o ≡ Ok next → ((eqb (length os) 0 && ltb 0 (length h.nodes)) ≡ false) × Fits m h (entry k (length os + 1) p) × (seen_with os (add h (entry k (length os + 1) p)) ≡ next)
    go (Some x) d r = absurd (ok_not next (fault x p) r)
    go None d r =
        let free = hindrance_none m (length os) (length h.nodes) (length h.names) (length k) (before k h.names) d in
        (free.inside, record { short = free.short; shallow = omega (arith, free.shallow); nodes = free.nodes; names = free.names }, ok_same _ next r)

-- what is left of a document in which the tags os are open: content and end tag of each, and white
abbrev Open : ℕ → List (List ℕ) → List ℕ → List Entry → Type 0
Open n [] s es = Run white s [] × (es ≡ [])
Open n (o ∷ os) s es = (u v : List ℕ) × (fs gs : List Entry) × Content n (suc (length os)) s u fs × TagAt u (end o) v × Open n os v gs × (es ≡ fs ++ gs)

open_byte : (n : ℕ) (os : List (List ℕ)) (b : ℕ) (s : List ℕ) (es : List Entry) → (b ≡ 60 → ⊥) → passes (length os) b ≡ true → Open n os s es → Open n os (b ∷ s) es
open_byte n [] b s es x y (u, e) = ((b ∷ u.0, (y, u.1), ap (λ (z : List ℕ). b ∷ z) u.2), e)
open_byte n (o ∷ os) b s es x y (u, v, fs, gs, c, t, k, e) = (u, v, fs, gs, byte b x c, t, k, e)

open_end : (n : ℕ) (os : List (List ℕ)) (o : List ℕ) (s r : List ℕ) (es : List Entry) → TagAt s (end o) r → Open n os r es → Open n (o ∷ os) s es
open_end n os o s r es t k = (s, r, [], es, none, t, k, refl)

-- an element inside the innermost open tag
open_element : (n : ℕ) (os : List (List ℕ)) (o : List ℕ) (s r : List ℕ) (es fs : List Entry) → Element n (suc (length os)) s r es → Open n (o ∷ os) r fs → Open n (o ∷ os) s (es ++ fs)
open_element n os o s r es fs x (u, v, gs, hs, c, t, k, e) = (u, v, es ++ gs, hs, child r x c, t, k, ap (λ (z : List Entry). es ++ z) e ∙ sym (append_assoc es gs hs))

-- the element that a start tag opens and the rest closes
abbrev Closed : ℕ → List (List ℕ) → List ℕ → List ℕ → ℕ → List Entry → Type 0
Closed n os k s d es = (v : List ℕ) × (fs gs : List Entry) × Element n d s v (entry k (d + 1) (n - length s) ∷ fs) × Open n os v gs × (es ≡ fs ++ gs)

closes : (n : ℕ) (os : List (List ℕ)) (k s r : List ℕ) (es : List Entry) → TagAt s (start k) r → Open n (k ∷ os) r es → Closed n os k s (length os) es
closes n os k s r es t (u, v, fs, gs, c, x, o, e) = (v, fs, gs, around k r u t (subst (λ (z : ℕ). Content n z r u fs) (sym (add-one (length os))) c) x, o, e)

module _ (m : Room) (n : ℕ) (c : Counts) (last : Seen) where
  -- how the rest of the reading ended
  pub record Accepts (os : List (List ℕ)) (h : Held) (s : List ℕ) : Type 0 where
    pub entries : List Entry
    pub rest : Open n os s entries
    pub limits : AllFit m h entries
    pub seen : seen_with [] (grow h entries) ≡ last
    pub counts : c ≡ record { nodes = length last.nodes; names = length last.names }

  finish_told : (seen : Seen) → pair (finish n seen) seen ≡ pair (Ok c) last → (eqb (length seen.opened) 0 ≡ true) × (0 < length seen.nodes) × (seen ≡ last) × (c ≡ record { nodes = length last.nodes; names = length last.names })
  finish_told seen e =
      let k = cond_ok (eqb (length seen.opened) 0 && ltb 0 (length seen.nodes)) (record { nodes = length seen.nodes; names = length seen.names }) c (fault Unfinished n) (ap (λ (z : Result Counts PlanFault × Seen). z.0) e) in
      let a = and_parts (eqb (length seen.opened) 0) (ltb 0 (length seen.nodes)) k.0 in
      let same : seen ≡ last = ap (λ (z : Result Counts PlanFault × Seen). z.1) e in
      (a.0, ltb-true 0 (length seen.nodes) a.1, same, sym k.1 ∙ ap (λ (z : Seen). record { nodes = length z.nodes; names = length z.names }) same)

  step_told : (f : ℕ) (seen : Seen) (r : List ℕ) (o : Result Seen PlanFault) → elim o as (λ _. Result Counts PlanFault × Seen) [ Ok z ↦ run m n z (pieces f n r) | Err e ↦ (Err e, seen) ] ≡ pair (Ok c) last → (next : Seen) × (o ≡ Ok next) × (run m n next (pieces f n r) ≡ pair (Ok c) last)
  step_told f seen r (Ok z) e = (z, refl, e)
  step_told f seen r (Err x) e = absurd (ok_not c x (ap (λ (z : Result Counts PlanFault × Seen). z.0) e))

  -- the first piece, what it does, and the reading of the rest
  first_told : (f : ℕ) (seen : Seen) (s : List ℕ) → run m n seen (pieces (suc f) n s) ≡ pair (Ok c) last → ((first s ≡ None) × (pair (finish n seen) seen ≡ pair (Ok c) last)) ⊎ ((p : Piece) × (r : List ℕ) × (first s ≡ Some (p, r)) × ((next : Seen) × (step m (n - length s) seen p ≡ Ok next) × (run m n next (pieces f n r) ≡ pair (Ok c) last)))
  first_told f seen s e = go (first s) refl e
    where
      go : (o : Option (Piece × List ℕ)) → first s ≡ o → run m n seen (elim o as (λ _. List (ℕ × Piece)) [ None ↦ [] | Some p ↦ (n - length s, p.0) ∷ pieces f n p.1 ]) ≡ pair (Ok c) last → ((first s ≡ None) × (pair (finish n seen) seen ≡ pair (Ok c) last)) ⊎ ((p : Piece) × (r : List ℕ) × (first s ≡ Some (p, r)) × ((next : Seen) × (step m (n - length s) seen p ≡ Ok next) × (run m n next (pieces f n r) ≡ pair (Ok c) last)))
      go None d k = inl (d, k)
      go (Some p) d k = inr (p.0, p.1, d, step_told f seen p.1 (step m (n - length s) seen p.0) k)

  at_end : (os : List (List ℕ)) (h : Held) (s : List ℕ) → length s ≡ 0 → pair (finish n (seen_with os h)) (seen_with os h) ≡ pair (Ok c) last → Accepts os h s
  at_end [] h [] l e = let k = finish_told (seen_with [] h) e in record { entries = []; rest = (([], tt, refl), refl); limits = tt; seen = k.2; counts = k.3 }
  at_end [] h (b ∷ s) l e = absurd (omega arith)
  at_end (o ∷ os) h s l e = absurd (omega (arith, eqb-true (suc (length os)) 0 (finish_told (seen_with (o ∷ os) h) e).0))

  abbrev Reads : ℕ → Type 0
  Reads f = (s : List ℕ) (os : List (List ℕ)) (h : Held) → length s ≤ f → 1 ≤ length h.nodes → run m n (seen_with os h) (pieces f n s) ≡ pair (Ok c) last → Accepts os h s

  -- a node was added
  added : (h : Held) (e : Entry) → 1 ≤ length (add h e).nodes
  added h e = omega (arith, length-append h.nodes (record { label = before e.name h.names + 1; depth = e.depth; place = e.place } ∷ []))

  -- a root was seen, so no further tag opens outside it
  no_root : (h : Held) → 1 ≤ length h.nodes → (eqb 0 0 && ltb 0 (length h.nodes)) ≡ false → ⊥
  no_root h some e = both_ways (ltb 0 (length h.nodes)) e (lt-ltb 0 (length h.nodes) some)

  module _ (f : ℕ) (ih : Reads f) (s : List ℕ) (l : length s ≤ suc f) (r : List ℕ) (next : Seen) (e : run m n next (pieces f n r) ≡ pair (Ok c) last) where
    read_on : (z : Seen) → z ≡ next → run m n z (pieces f n r) ≡ pair (Ok c) last
    read_on z d = ap (λ (y : Seen). run m n y (pieces f n r)) d ∙ e

    by_text : (os : List (List ℕ)) (h : Held) (b : ℕ) → 1 ≤ length h.nodes → first s ≡ Some (plain b, r) → passed (n - length s) (seen_with os h) b ≡ Ok next → Accepts os h s
    by_text os h b some d st =
        let at = piece_at s (plain b) r d in
        let k = cond_ok (passes (length os) b) (seen_with os h) next (fault Outside (n - length s)) st in
        let a = ih r os h (omega (arith, first_shorter s (plain b) r d)) some (read_on (seen_with os h) k.1) in
        record { entries = a.entries; rest = subst (λ (z : List ℕ). Open n os z a.entries) (sym at.0) (open_byte n os b r a.entries at.1 k.0 a.rest); limits = a.limits; seen = a.seen; counts = a.counts }

    by_end : (os : List (List ℕ)) (h : Held) (k : List ℕ) → 1 ≤ length h.nodes → first s ≡ Some (tag (end k), r) → leave (n - length s) (seen_with os h) k os ≡ Ok next → Accepts os h s
    by_end [] h k some d st = absurd (ok_not next (fault WrongEnd (n - length s)) st)
    by_end (o ∷ os) h k some d st =
        let t = cond_ok (bytes_eq o k) (seen_with os h) next (fault WrongEnd (n - length s)) st in
        let same : o ≡ k = (bytes_eq-Decides o k).0 t.0 in
        let a = ih r os h (omega (arith, first_shorter s (tag (end k)) r d)) some (read_on (seen_with os h) t.1) in
        record { entries = a.entries; rest = open_end n os o s r a.entries (subst (λ (z : List ℕ). TagAt s (end z) r) (sym same) (piece_at s (tag (end k)) r d)) a.rest; limits = a.limits; seen = a.seen; counts = a.counts }

    by_empty : (os : List (List ℕ)) (h : Held) (k : List ℕ) → 1 ≤ length h.nodes → first s ≡ Some (tag (empty k), r) → enter m (n - length s) (seen_with os h) k ≡ Ok next → Accepts os h s
    by_empty [] h k some d st = absurd (no_root h some (enter_told m (n - length s) [] h k next st).0)
    by_empty (o ∷ os) h k some d st =
        let t = enter_told m (n - length s) (o ∷ os) h k next st in
        let x : Entry = entry k (suc (length os) + 1) (n - length s) in
        let a = ih r (o ∷ os) (add h x) (omega (arith, first_shorter s (tag (empty k)) r d)) (added h x) (read_on (seen_with (o ∷ os) (add h x)) t.2) in
        record { entries = x ∷ a.entries; rest = open_element n os o s r (x ∷ []) a.entries (alone k (piece_at s (tag (empty k)) r d)) a.rest; limits = (t.1, a.limits); seen = a.seen; counts = a.counts }

    then_told : (k : List ℕ) (o : Result Seen PlanFault) → then_open k o ≡ Ok next → (z : Seen) × (o ≡ Ok z) × (opens z k ≡ next)
    then_told k (Ok z) d = (z, refl, ok_same (opens z k) next d)
    then_told k (Err x) d = absurd (ok_not next x d)

    by_start : (os : List (List ℕ)) (h : Held) (k : List ℕ) → 1 ≤ length h.nodes → first s ≡ Some (tag (start k), r) → then_open k (enter m (n - length s) (seen_with os h) k) ≡ Ok next → Accepts os h s
    by_start [] h k some d st =
        let y = then_told k (enter m (n - length s) (seen_with [] h) k) st in
        absurd (no_root h some (enter_told m (n - length s) [] h k y.0 y.1).0)
    by_start (o ∷ os) h k some d st =
        let y = then_told k (enter m (n - length s) (seen_with (o ∷ os) h) k) st in
        let t = enter_told m (n - length s) (o ∷ os) h k y.0 y.1 in
        let x : Entry = entry k (suc (length os) + 1) (n - length s) in
        let a = ih r (k ∷ o ∷ os) (add h x) (omega (arith, first_shorter s (tag (start k)) r d)) (added h x) (read_on (seen_with (k ∷ o ∷ os) (add h x)) (ap (λ (z : Seen). opens z k) t.2 ∙ y.2)) in
        let w = closes n (o ∷ os) k s r a.entries (piece_at s (tag (start k)) r d) a.rest in
        record {
          entries = x ∷ a.entries;
          rest = subst (λ (z : List Entry). Open n (o ∷ os) s (x ∷ z)) (sym w.5) (open_element n os o s w.0 (x ∷ w.1) w.2 w.3 w.4);
          limits = (t.1, a.limits);
          seen = a.seen;
          counts = a.counts;
        }

    by_piece : (os : List (List ℕ)) (h : Held) (p : Piece) → 1 ≤ length h.nodes → first s ≡ Some (p, r) → step m (n - length s) (seen_with os h) p ≡ Ok next → Accepts os h s
    by_piece os h (plain b) some d st = by_text os h b some d st
    by_piece os h no_tag some d st = absurd (ok_not next (fault NoTag (n - length s)) st)
    by_piece os h (tag (start k)) some d st = by_start os h k some d st
    by_piece os h (tag (empty k)) some d st = by_empty os h k some d st
    by_piece os h (tag (end k)) some d st = by_end os h k some d st

  accepts : (f : ℕ) → Reads f
  accepts zero s os h l some e = at_end os h s (omega arith) e
  accepts (suc f) s os h l some e =
      ⊎_elim
      (λ k. at_end os h s (first_none s k.0) k.1)
      (λ k. by_piece f (accepts f) s l k.1 k.3.0 k.3.2 os h k.0 some k.2 k.3.1)
      (first_told f (seen_with os h) s e)

  -- the same before the root: white, and then the root and what follows it
  pub record Roots (s : List ℕ) : Type 0 where
    pub entries : List Entry
    pub root : List ℕ
    pub past : List ℕ
    pub before_root : Run white s root
    pub element : Element n 0 root past entries
    pub behind_root : Run white past []
    pub limits : AllFit m bare entries
    pub seen : seen_with [] (grow bare entries) ≡ last
    pub counts : c ≡ record { nodes = length last.nodes; names = length last.names }

  module _ (f : ℕ) (s : List ℕ) (l : length s ≤ suc f) (r : List ℕ) (next : Seen) (e : run m n next (pieces f n r) ≡ pair (Ok c) last) where
    root_empty : (k : List ℕ) → first s ≡ Some (tag (empty k), r) → enter m (n - length s) (seen_with [] bare) k ≡ Ok next → Roots s
    root_empty k d st =
        let t = enter_told m (n - length s) [] bare k next st in
        let x : Entry = entry k 1 (n - length s) in
        let a = accepts f r [] (add bare x) (omega (arith, first_shorter s (tag (empty k)) r d)) (added bare x) (ap (λ (z : Seen). run m n z (pieces f n r)) t.2 ∙ e) in
        record {
          entries = x ∷ a.entries;
          root = s;
          past = r;
          before_root = ([], tt, refl);
          element = subst (λ (z : List Entry). Element n 0 s r (x ∷ z)) (sym a.rest.1) (alone k (piece_at s (tag (empty k)) r d));
          behind_root = a.rest.0;
          limits = (t.1, a.limits);
          seen = a.seen;
          counts = a.counts;
        }

    root_start : (k : List ℕ) → first s ≡ Some (tag (start k), r) → then_open k (enter m (n - length s) (seen_with [] bare) k) ≡ Ok next → Roots s
    root_start k d st =
        let y = then_told f (accepts f) s l r next e k (enter m (n - length s) (seen_with [] bare) k) st in
        let t = enter_told m (n - length s) [] bare k y.0 y.1 in
        let x : Entry = entry k 1 (n - length s) in
        let a = accepts f r (k ∷ []) (add bare x) (omega (arith, first_shorter s (tag (start k)) r d)) (added bare x) (ap (λ (z : Seen). run m n z (pieces f n r)) (ap (λ (z : Seen). opens z k) t.2 ∙ y.2) ∙ e) in
        let w = closes n [] k s r a.entries (piece_at s (tag (start k)) r d) a.rest in
        let all : a.entries ≡ w.1 = w.5 ∙ ap (λ (z : List Entry). w.1 ++ z) w.4.1 ∙ append-nil w.1 in
        record {
          entries = x ∷ a.entries;
          root = s;
          past = w.0;
          before_root = ([], tt, refl);
          element = subst (λ (z : List Entry). Element n 0 s w.0 (x ∷ z)) (sym all) w.3;
          behind_root = w.4.0;
          limits = (t.1, a.limits);
          seen = a.seen;
          counts = a.counts;
        }

    root_text : (b : ℕ) → (run m n (seen_with [] bare) (pieces f n r) ≡ pair (Ok c) last → Roots r) → first s ≡ Some (plain b, r) → passed (n - length s) (seen_with [] bare) b ≡ Ok next → Roots s
    root_text b ih d st =
        let at = piece_at s (plain b) r d in
        let k = cond_ok (passes 0 b) (seen_with [] bare) next (fault Outside (n - length s)) st in
        let a = ih (ap (λ (z : Seen). run m n z (pieces f n r)) k.1 ∙ e) in
        let w = a.before_root in
        record {
          entries = a.entries;
          root = a.root;
          past = a.past;
          before_root = (b ∷ w.0, (k.0, w.1), at.0 ∙ ap (λ (z : List ℕ). b ∷ z) w.2);
          element = a.element;
          behind_root = a.behind_root;
          limits = a.limits;
          seen = a.seen;
          counts = a.counts;
        }

    root_piece : (p : Piece) → (run m n (seen_with [] bare) (pieces f n r) ≡ pair (Ok c) last → Roots r) → first s ≡ Some (p, r) → step m (n - length s) (seen_with [] bare) p ≡ Ok next → Roots s
    root_piece (plain b) ih d st = root_text b ih d st
    root_piece no_tag ih d st = absurd (ok_not next (fault NoTag (n - length s)) st)
    root_piece (tag (start k)) ih d st = root_start k d st
    root_piece (tag (empty k)) ih d st = root_empty k d st
    root_piece (tag (end k)) ih d st = absurd (ok_not next (fault WrongEnd (n - length s)) st)

  no_end : (s : List ℕ) → pair (finish n (seen_with [] bare)) (seen_with [] bare) ≡ pair (Ok c) last → Roots s
  no_end s e = absurd (omega (arith, (finish_told (seen_with [] bare) e).1))

  roots : (f : ℕ) (s : List ℕ) → length s ≤ f → run m n (seen_with [] bare) (pieces f n s) ≡ pair (Ok c) last → Roots s
  roots zero s l e = no_end s e
  roots (suc f) s l e =
      ⊎_elim
      (λ k. no_end s k.1)
      (λ k. root_piece f s l k.1 k.3.0 k.3.2 k.0 (λ z. roots f k.1 (omega (arith, first_shorter s k.0 k.1 k.2)) z) k.2 k.3.1)
      (first_told f (seen_with [] bare) s e)

pub accepted : (m : Room) (text : List ℕ) (c : Counts) → (outcome m text).0 ≡ Ok c → Derived m text c (outcome m text).1.nodes (outcome m text).1.names
accepted m text c e =
    ⊎_elim
    (λ long. absurd (ok_not c (fault TooLong 0) (sym (ap (λ (z : Result Counts PlanFault × Seen). z.0) (cond-true (ltb 65536 (length text)) (Err (fault TooLong 0), nothing) (run m (length text) nothing (pieces (length text) (length text) text)) (lt-ltb 65536 (length text) long))) ∙ e)))
    (λ short.
    let last : Seen = (outcome m text).1 in
    let a = roots m (length text) c last (length text) text (omega arith) (outcome_is m text short ∙ (λ i. pair (e i) last)) in
    let names : last.names ≡ (grow bare a.entries).names = ap (λ (z : Seen). z.names) (sym a.seen) in
    record {
      entries = a.entries;
      short = short;
      document = record { root = a.root; past = a.past; before_root = a.before_root; element = a.element; behind_root = a.behind_root };
      limits = fit_limits m a.entries a.limits;
      names = names ∙ names_are bare a.entries;
      nodes = ap (λ (z : Seen). z.nodes) (sym a.seen) ∙ nodes_are bare a.entries ∙ ap (λ (z : List (List ℕ)). map (slot_in z) a.entries) (sym names);
      counts = a.counts;
    })
    (cases_lt 65536 (length text))

-- a reading's answer says whether the grammar derives the text
pub judged : (m : Room) (text : List ℕ) (r : Result Counts PlanFault) → r ≡ (outcome m text).0 → Judged m text r
judged m text (Ok c) e = accepted m text c (sym e)
judged m text (Err x) e = λ c ns ms k. ok_not c x (e ∙ ap (λ (z : Result Counts PlanFault × Seen). z.0) (derived m text c ns ms k))
