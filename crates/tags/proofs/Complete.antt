-- Each tag of the grammar is found by the scanner, so at most one begins at a place.
use Rattle.std.proofs.Common.{◌≡◌, ℕ, zero, suc, ◌<◌, Bool, true, false, cond, not, ◌&&◌, eqb, List, [], ◌∷◌, ◌++◌, length, Some, None, Option, sym, refl, ap, ◌∙◌, ap₂, arith}
use Rattle.std.proofs.lemmas.Bool.{eq-eqb, and_from, and_right, cond-true, cond-false}
use Rattle.std.specs.List.{AllByRecursion}
use Rattle.std.proofs.lemmas.Option.{same_Some}
use Rattle.names.specs.Bytes.{white, name_start, name_byte}
use Rattle.tags.specs.Values.{quote, in_value}
use Rattle.tags.specs.Tags.{Tag, start, empty, end, Run, Name, Gap, Value, Attribute, Attributes, none, more, TagAt, closed, quoted, valued, attribute, and_then, attributes, close, opening, ended, ending, inside, scan}
use Rattle.names.specs.Words.{Word, after, front, begins}
use Rattle.tags.proofs.Apart.{white_no_name, start_no_white, quote_no_white}
use Rattle.tags.proofs.Attributes.{shorter}
use Rattle.names.proofs.Apart.{start_no_slash, start_is_name}
use Rattle.names.proofs.Runs.{after_append, front_append}
use Rattle.tags.specs.Grammar.{OneTag}

after_run : (p : ℕ → Bool) (s r : List ℕ) → Run p s r → begins p r ≡ false → after p s ≡ r
after_run p s r u h = ap (after p) u.2 ∙ after_append p u.0 r u.1 h

-- a run, then a byte x: the text begins with one of its bytes or with x
run_begins : (p q : ℕ → Bool) (w r : List ℕ) → ((b : ℕ) → p b ≡ true → q b ≡ false) → AllByRecursion (λ b. p b ≡ true) w → begins q r ≡ false → begins q (w ++ r) ≡ false
run_begins p q [] r d a h = h
run_begins p q (b ∷ w) r d a h = d b a.0

run_begins_at : (p q : ℕ → Bool) (s r : List ℕ) → ((b : ℕ) → p b ≡ true → q b ≡ false) → Run p s r → begins q r ≡ false → begins q s ≡ false
run_begins_at p q s r d u h = ap (begins q) u.2 ∙ run_begins p q u.0 r d u.1 h

-- the end of a value is no part of it
not_inside : (q : ℕ) → in_value q q ≡ false
not_inside q = and_right (not (eqb q 60)) (not (eqb q q)) (ap not (eq-eqb q q refl))

value_complete : (s r : List ℕ) → Value s r → quoted s ≡ Some r
value_complete s r (q, a, e, k, u) =
    ap quoted e
    ∙ cond-true (quote q) (closed q (after (in_value q) a)) None k
    ∙ ap (closed q) (after_run (in_value q) a (q ∷ r) u (not_inside q))
    ∙ cond-true (eqb q q) (Some r) None (eq-eqb q q refl)

-- what a name begins with, and what does not go on with it
name_begins : (s n r : List ℕ) → Name s n r → begins name_start s ≡ true
name_begins s [] r (w, e) = absurd w
name_begins s (b ∷ n) r (w, e) = ap (begins name_start) e ∙ w.0

word_run : (n : List ℕ) → Word n → AllByRecursion (λ b. name_byte b ≡ true) n
word_run [] w = tt
word_run (b ∷ n) w = (start_is_name b w.0, w.1)

name_after : (s n r : List ℕ) → Name s n r → begins name_byte r ≡ false → after name_byte s ≡ r
name_after s n r (w, e) h = ap (after name_byte) e ∙ after_append name_byte n r (word_run n w) h

name_front : (s n r : List ℕ) → Name s n r → begins name_byte r ≡ false → front name_byte s ≡ n
name_front s n r (w, e) h = ap (front name_byte) e ∙ front_append name_byte n r (word_run n w) h

start_not_white : (s : List ℕ) → begins name_start s ≡ true → begins white s ≡ false
start_not_white [] h = refl
start_not_white (b ∷ s) h = start_no_white b h

value_not_white : (s r : List ℕ) → Value s r → begins white s ≡ false
value_not_white s r (q, a, e, k, u) = ap (begins white) e ∙ quote_no_white q k

gap_begins : (s r : List ℕ) → Gap s r → begins white s ≡ true
gap_begins s r (b, t, e, w, u) = ap (begins white) e ∙ w

gap_after : (s r : List ℕ) → Gap s r → begins white r ≡ false → after white s ≡ r
gap_after s r (b, t, e, w, u) h = ap (after white) e ∙ cond-true (white b) (after white t) (b ∷ t) w ∙ after_run white t r u h

-- an attribute is found where the grammar has one
module _ (s r : List ℕ) (a : Attribute s r) where
  attribute_named : after white s ≡ a.named
  attribute_named = gap_after s a.named a.gap (start_not_white a.named (name_begins a.named a.name a.equals a.has_name))

  attribute_begins : (begins white s && begins name_start (after white s)) ≡ true
  attribute_begins = and_from (begins white s) (begins name_start (after white s)) (gap_begins s a.named a.gap) (ap (begins name_start) attribute_named ∙ name_begins a.named a.name a.equals a.has_name)

  attribute_complete : attribute (after white s) ≡ Some r
  attribute_complete =
      let stops : begins name_byte a.equals ≡ false = run_begins_at white name_byte a.equals (61 ∷ a.past) white_no_name a.before refl in
      ap attribute attribute_named
      ∙ ap (λ (z : List ℕ). valued (after white z)) (name_after a.named a.name a.equals a.has_name stops)
      ∙ ap valued (after_run white a.equals (61 ∷ a.past) a.before refl)
      ∙ ap quoted (after_run white a.past a.value a.behind (value_not_white a.value r a.has_value))
      ∙ value_complete a.value r a.has_value

attributes_complete : (f : ℕ) (u s t : List ℕ) → Attributes u s → Run white u t → begins white t ≡ false → begins name_start t ≡ false → length s < f → attributes f s ≡ Some t
attributes_complete zero u s t ats w h k l = absurd (omega arith)
attributes_complete (suc f) u s t none w h k l =
    let there : after white s ≡ t = after_run white s t w h in
    cond-false (begins white s && begins name_start (after white s)) (and_then (attribute (after white s)) (attributes f)) (Some (after white s)) (and_right (begins white s) (begins name_start (after white s)) (ap (begins name_start) there ∙ k))
    ∙ ap Some there
attributes_complete (suc f) u s t (more {t = m} a ats) w h k l =
    let less = shorter s m (attribute_begins s m a) (attribute_complete s m a) in
    cond-true (begins white s && begins name_start (after white s)) (and_then (attribute (after white s)) (attributes f)) (Some (after white s)) (attribute_begins s m a)
    ∙ ap (λ (o : Option (List ℕ)). and_then o (attributes f)) (attribute_complete s m a)
    ∙ attributes_complete f u m t ats w h k (omega arith)

-- what stands after a tag's name does not go on with it
rest_stops : (u s t : List ℕ) → Attributes u s → Run white u t → begins name_byte t ≡ false → begins name_byte s ≡ false
rest_stops u s t none w h = run_begins_at white name_byte s t white_no_name w h
rest_stops u s t (more {t = m} a ats) w h = go s (gap_begins s a.named a.gap)
  where
    go : (z : List ℕ) → begins white z ≡ true → begins name_byte z ≡ false
    go [] e = refl
    go (b ∷ z) e = white_no_name b e

-- a start or empty tag is found behind its `<`
opening_complete : (c : ℕ) (a n b d r : List ℕ) (t : Tag) → begins white (c ∷ d) ≡ false → begins name_start (c ∷ d) ≡ false → begins name_byte (c ∷ d) ≡ false → Name a n b → (u : List ℕ) → Attributes u b → Run white u (c ∷ d) → close n (c ∷ d) ≡ Some (t, r) → opening a ≡ Some (t, r)
opening_complete c a n b d r t w k m na u ats run shuts =
    let stops : begins name_byte b ≡ false = rest_stops u b (c ∷ d) ats run m in
    let rest : after name_byte a ≡ b = name_after a n b na stops in
    ap₂ (λ (x : List ℕ) (z : List ℕ). and_then (attributes (suc (length x)) x) (close z)) rest (name_front a n b na stops)
    ∙ ap (λ (o : Option (List ℕ)). and_then o (close n)) (attributes_complete (suc (length b)) u b (c ∷ d) ats run w k (omega arith))
    ∙ shuts

inside_opening : (a n b : List ℕ) → Name a n b → inside a ≡ opening a
inside_opening a [] b (w, e) = absurd w
inside_opening a (c ∷ n) b (w, e) =
    ap inside e
    ∙ cond-false (eqb c 47) (ending (n ++ b)) (cond (name_start c) (opening (c ∷ (n ++ b))) None) (start_no_slash c w.0)
    ∙ cond-true (name_start c) (opening (c ∷ (n ++ b))) None w.0
    ∙ ap opening (sym e)

pub scan_complete : (s : List ℕ) (t : Tag) (r : List ℕ) → TagAt s t r → scan s ≡ Some (t, r)
scan_complete s (start n) r (a, b, e, na, (u, ats, run)) = ap scan e ∙ inside_opening a n b na ∙ opening_complete 62 a n b r r (start n) refl refl refl na u ats run refl
scan_complete s (empty n) r (a, b, e, na, (u, ats, run)) = ap scan e ∙ inside_opening a n b na ∙ opening_complete 47 a n b (62 ∷ r) r (empty n) refl refl refl na u ats run refl
scan_complete s (end n) r (a, b, e, na, run) =
    let stops : begins name_byte b ≡ false = run_begins_at white name_byte b (62 ∷ r) white_no_name run refl in
    ap scan e
    ∙ cond-true (begins name_start a) (ended (front name_byte a) (after white (after name_byte a))) None (name_begins a n b na)
    ∙ ap₂ ended (name_front a n b na stops) (ap (after white) (name_after a n b na stops) ∙ after_run white b (62 ∷ r) run refl)

pub one_tag : OneTag
one_tag s t u q r a b =
    let pair = same_Some (t, q) (u, r) (sym (scan_complete s t q a) ∙ scan_complete s u r b) in
    (ap (λ (z : Tag × List ℕ). z.0) pair, ap (λ (z : Tag × List ℕ). z.1) pair)
