-- What the scanner finds is a tag of the grammar.
use Rattle.std.proofs.Common.{◌≡◌, ℕ, zero, suc, ◌<◌, ◌≤◌, Bool, true, false, cond, ◌&&◌, eqb, ◌⊎◌, List, [], ◌∷◌, ◌++◌, length, Some, None, Option, sym, refl, ap, ◌∙◌, subst, ap₂, inl, inr, ⊎_elim, arith}
use Rattle.std.proofs.lemmas.Bool.{eqb-true, and_parts, both_ways}
use Rattle.std.proofs.lemmas.Option.{none-some, same_Some}
use Rattle.names.specs.Bytes.{white, name_start, name_byte}
use Rattle.tags.specs.Values.{quote, in_value}
use Rattle.tags.specs.Tags.{Tag, start, empty, end, Run, Name, Gap, Value, Attribute, Attributes, none, more, TagAt, closed, quoted, valued, attribute, and_then, attributes, shut, close, opening, ended, ending, inside, scan}
use Rattle.names.specs.Words.{Word, after, front, begins}
use Rattle.names.proofs.Runs.{split, after_le, all_front}
use Rattle.names.proofs.Found.{cond_some, cond_either}
use Rattle.names.proofs.Apart.{start_is_name}

then_some : {A B : Type 0} (o : Option A) (f : A → Option B) (y : B) → and_then o f ≡ Some y → (x : A) × (o ≡ Some x) × (f x ≡ Some y)
then_some (Some x) f y e = (x, refl, e)
then_some None f y e = absurd (none-some y e)

run_after : (p : ℕ → Bool) (s r : List ℕ) → after p s ≡ r → Run p s r
run_after p s r e = (front p s, all_front p s, split p s ∙ ap (λ (z : List ℕ). front p s ++ z) e)

closed_sound : (q : ℕ) (s r : List ℕ) → closed q s ≡ Some r → s ≡ q ∷ r
closed_sound q [] r e = absurd (none-some r e)
closed_sound q (b ∷ s) r e =
    let k = cond_some (eqb b q) (Some s) r e in
    let same : b ≡ q = eqb-true b q k.0 in
    let rest : s ≡ r = same_Some s r k.1 in
    cc

quoted_sound : (s r : List ℕ) → quoted s ≡ Some r → Value s r
quoted_sound [] r e = absurd (none-some r e)
quoted_sound (q ∷ s) r e =
    let k = cond_some (quote q) (closed q (after (in_value q) s)) r e in
    (q, s, refl, k.0, run_after (in_value q) s (q ∷ r) (closed_sound q _ r k.1))

valued_sound : (s r : List ℕ) → valued s ≡ Some r → (past : List ℕ) × (s ≡ 61 ∷ past) × Value (after white past) r
valued_sound [] r e = absurd (none-some r e)
valued_sound (b ∷ s) r e =
    let k = cond_some (eqb b 61) (quoted (after white s)) r e in
    let same : b ≡ 61 = eqb-true b 61 k.0 in
    (s, ap (λ z. z ∷ s) same, quoted_sound (after white s) r k.1)

-- a value is shorter than the text that begins with it
value_shorter : (s r : List ℕ) → quoted s ≡ Some r → length r < length s
value_shorter [] r e = absurd (none-some r e)
value_shorter (q ∷ s) r e =
    let k = cond_some (quote q) (closed q (after (in_value q) s)) r e in
    omega (arith, ap length (closed_sound q _ r k.1), after_le (in_value q) s)

pub attribute_shorter : (s r : List ℕ) → attribute s ≡ Some r → length r < length s
attribute_shorter s r e = go (after white (after name_byte s)) (omega (arith, after_le white (after name_byte s), after_le name_byte s)) e
  where
    go : (t : List ℕ) → length t ≤ length s → valued t ≡ Some r → length r < length s
    go [] h v = absurd (none-some r v)
    go (b ∷ t) h v = omega (arith, value_shorter (after white t) r (cond_some (eqb b 61) (quoted (after white t)) r v).1, after_le white t)

-- a text that begins as a name does is its run of name bytes and what follows
name_sound : (s : List ℕ) → begins name_start s ≡ true → Name s (front name_byte s) (after name_byte s)
name_sound [] h = absurd (both_ways false refl h)
name_sound (b ∷ s) h = subst P (sym (start_is_name b h)) ((h, all_front name_byte s), ap (λ (z : List ℕ). b ∷ z) (split name_byte s))
  where
    P : Bool → Type 0
    P c = Word (cond c (b ∷ front name_byte s) []) × (b ∷ s ≡ cond c (b ∷ front name_byte s) [] ++ cond c (after name_byte s) (b ∷ s))

gap_sound : (s : List ℕ) → begins white s ≡ true → Gap s (after white s)
gap_sound [] h = absurd (both_ways false refl h)
gap_sound (b ∷ s) h = (b, s, refl, h, run_after white s _ (ap (λ c. cond c (after white s) (b ∷ s)) (sym h) ∙ refl))

attribute_sound : (s r : List ℕ) → begins white s ≡ true → begins name_start (after white s) ≡ true → attribute (after white s) ≡ Some r → Attribute s r
attribute_sound s r w n e =
    let named : List ℕ = after white s in
    let equals : List ℕ = after name_byte named in
    let v = valued_sound (after white equals) r e in
    record {
      named = named;
      name = front name_byte named;
      equals = equals;
      past = v.0;
      value = after white v.0;
      gap = gap_sound s w;
      has_name = name_sound named n;
      before = run_after white equals (61 ∷ v.0) v.1;
      behind = run_after white v.0 (after white v.0) refl;
      has_value = v.2;
    }

attributes_sound : (f : ℕ) (s t : List ℕ) → attributes f s ≡ Some t → (u : List ℕ) × Attributes u s × Run white u t
attributes_sound zero s t e = absurd (none-some t e)
attributes_sound (suc f) s t e =
    ⊎_elim
    (λ k. let a = and_parts (begins white s) (begins name_start (after white s)) k.0 in
    let m = then_some (attribute (after white s)) (attributes f) t k.1 in
    let r = attributes_sound f m.0 t m.2 in
    (r.0, more (attribute_sound s m.0 a.0 a.1 m.1) r.1, r.2))
    (λ k. (s, none, run_after white s t (same_Some (after white s) t k.1)))
    (cond_either (begins white s && begins name_start (after white s)) (and_then (attribute (after white s)) (attributes f)) (Some (after white s)) t e)

close_sound : (n s : List ℕ) (t : Tag) (r : List ℕ) → close n s ≡ Some (t, r) → ((start n ≡ t) × (s ≡ 62 ∷ r)) ⊎ ((empty n ≡ t) × (s ≡ 47 ∷ 62 ∷ r))
close_sound n [] t r e = absurd (none-some (t, r) e)
close_sound n (b ∷ s) t r e =
    ⊎_elim
    (λ k. let same : b ≡ 62 = eqb-true b 62 k.0 in
    let pair = same_Some (start n, s) (t, r) k.1 in
    inl (ap (λ (z : Tag × List ℕ). z.0) pair, ap₂ (λ (x : ℕ) (z : List ℕ). x ∷ z) same (ap (λ (z : Tag × List ℕ). z.1) pair)))
    (λ k. let m = cond_some (eqb b 47) (shut n s) (t, r) k.1 in
    let same : b ≡ 47 = eqb-true b 47 m.0 in
    let last = shut_sound s m.1 in
    inr (last.0, ap₂ (λ (x : ℕ) (z : List ℕ). x ∷ z) same last.1))
    (cond_either (eqb b 62) (Some (start n, s)) (cond (eqb b 47) (shut n s) None) (t, r) e)
  where
    shut_sound : (z : List ℕ) → shut n z ≡ Some (t, r) → (empty n ≡ t) × (z ≡ 62 ∷ r)
    shut_sound [] e = absurd (none-some (t, r) e)
    shut_sound (c ∷ z) e =
        let k = cond_some (eqb c 62) (Some (empty n, z)) (t, r) e in
        let same : c ≡ 62 = eqb-true c 62 k.0 in
        let pair = same_Some (empty n, z) (t, r) k.1 in
        (ap (λ (y : Tag × List ℕ). y.0) pair, ap₂ (λ (x : ℕ) (y : List ℕ). x ∷ y) same (ap (λ (y : Tag × List ℕ). y.1) pair))

opening_sound : (a : List ℕ) (t : Tag) (r : List ℕ) → begins name_start a ≡ true → opening a ≡ Some (t, r) → TagAt (60 ∷ a) t r
opening_sound a t r h e =
    let n : List ℕ = front name_byte a in
    let b : List ℕ = after name_byte a in
    let m = then_some (attributes (suc (length b)) b) (close n) (t, r) e in
    let ats = attributes_sound (suc (length b)) b m.0 m.1 in
    ⊎_elim
    (λ k. subst (λ (z : Tag). TagAt (60 ∷ a) z r) k.0 (a, b, refl, name_sound a h, (ats.0, ats.1, subst (Run white ats.0) k.1 ats.2)))
    (λ k. subst (λ (z : Tag). TagAt (60 ∷ a) z r) k.0 (a, b, refl, name_sound a h, (ats.0, ats.1, subst (Run white ats.0) k.1 ats.2)))
    (close_sound n m.0 t r m.2)

ending_sound : (a : List ℕ) (t : Tag) (r : List ℕ) → ending a ≡ Some (t, r) → TagAt (60 ∷ 47 ∷ a) t r
ending_sound a t r e =
    let n : List ℕ = front name_byte a in
    let b : List ℕ = after name_byte a in
    let k = cond_some (begins name_start a) (ended n (after white b)) (t, r) e in
    let last = ended_sound n (after white b) k.1 in
    subst (λ (z : Tag). TagAt (60 ∷ 47 ∷ a) z r) last.0 (a, b, refl, name_sound a k.0, run_after white b (62 ∷ r) last.1)
  where
    ended_sound : (n z : List ℕ) → ended n z ≡ Some (t, r) → (end n ≡ t) × (z ≡ 62 ∷ r)
    ended_sound n [] e = absurd (none-some (t, r) e)
    ended_sound n (c ∷ z) e =
        let k = cond_some (eqb c 62) (Some (end n, z)) (t, r) e in
        let same : c ≡ 62 = eqb-true c 62 k.0 in
        let pair = same_Some (end n, z) (t, r) k.1 in
        (ap (λ (y : Tag × List ℕ). y.0) pair, ap₂ (λ (x : ℕ) (y : List ℕ). x ∷ y) same (ap (λ (y : Tag × List ℕ). y.1) pair))

inside_sound : (a : List ℕ) (t : Tag) (r : List ℕ) → inside a ≡ Some (t, r) → TagAt (60 ∷ a) t r
inside_sound [] t r e = absurd (none-some (t, r) e)
inside_sound (b ∷ a) t r e =
    ⊎_elim
    (λ k. subst (λ (x : ℕ). TagAt (60 ∷ x ∷ a) t r) (sym (eqb-true b 47 k.0)) (ending_sound a t r k.1))
    (λ k. let m = cond_some (name_start b) (opening (b ∷ a)) (t, r) k.1 in opening_sound (b ∷ a) t r m.0 m.1)
    (cond_either (eqb b 47) (ending a) (cond (name_start b) (opening (b ∷ a)) None) (t, r) e)

pub scan_sound : (s : List ℕ) (t : Tag) (r : List ℕ) → scan s ≡ Some (t, r) → TagAt s t r
scan_sound [] t r e = absurd (none-some (t, r) e)
scan_sound (b ∷ s) t r e =
    let k = cond_some (eqb b 60) (inside s) (t, r) e in
    subst (λ (x : ℕ). TagAt (x ∷ s) t r) (sym (eqb-true b 60 k.0)) (inside_sound s t r k.1)
