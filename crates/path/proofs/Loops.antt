-- The loop that reads a question: what is read, what is left, and what the slots hold.
use Rattle.std.proofs.Common.{◌≡◌, ℕ, zero, suc, ◌+◌, ◌-◌, ◌<◌, ◌≤◌, true, false, cond, ◌⊎◌, List, [], ◌∷◌, ◌++◌, map, length, get_or, drop, set, Some, None, Err, Option, Result, sym, refl, ap, ◌∙◌, min, take, ap₂, subst, add-one, ⊎_elim, arith}
use Rattle.std.proofs.lemmas.List.{length-append, length-drop, length-take-le, take-append-drop, append-nil, append_assoc, length-map, length_push, map_push, drop_more, set_at}
use Rattle.std.proofs.Math.Nat.{min-le_left, min-le_right, min-eq_left}
use Rattle.std.proofs.lemmas.Bool.{cond-true, cond-false, eq-eqb, lt-ltb, or_left, or_right}
use Rattle.std.specs.Option.{option_map}
use Rattle.std.proofs.lemmas.Option.{none-some, same_Some}
use Rattle.tree.specs.declared.stack.Stack.{Stack}
use Rattle.tree.specs.Stacks.{items, lent, Grown}
use Rattle.tree.specs.declared.step.Axis.TheVariants.{Child}
use Rattle.tree.specs.declared.step.Test.TheVariants.{Any}
use Rattle.tree.specs.declared.step.Step.{Step}
use Rattle.path.specs.declared.fault.QuestionFault.{QuestionFault}
use Rattle.path.specs.declared.fault.QuestionFault.TheVariants.{Length}
use Rattle.path.specs.Wordings.{Wording, meant, first_step}
use Rattle.path.specs.Reads.{step_of}
use Rattle.path.specs.Questions.{Stop, at_end, no_step, enough, Reading, stopped, behind, ending, read_on, step_room, wrong_length, answered, answer, steps_read, Read, Reads, Stops, Spelled}
use Rattle.path.proofs.Wordings.{step_shorter}
use Rattle.path.proofs.Readings.{reads, read_step, right_length, spelled, spelled_not}

-- what a step that was found stands for
pub step_told : (ms : List (List ℕ)) (s : List ℕ) (p : Step) (r : List ℕ) → Some (p, r) ≡ step_of ms s → (w : Wording) × (first_step s ≡ Some (w, r)) × (p ≡ meant ms w)
step_told ms s p r e = go (first_step s) refl e
  where
    go : (o : Option (Wording × List ℕ)) → first_step s ≡ o → ◌≡◌ {A = Option (Step × List ℕ)} (Some (p, r)) (option_map (λ z. (meant ms z.0, z.1)) o) → (w : Wording) × (first_step s ≡ Some (w, r)) × (p ≡ meant ms w)
    go None h e = absurd (none-some (p, r) (sym e))
    go (Some z) h e =
        let k = same_Some (p, r) (meant ms z.0, z.1) e in
        (z.0, h ∙ ap (λ (q : Step × List ℕ). Some (z.0, q.1)) (sym k), ap (λ (q : Step × List ℕ). q.0) k)

pub no_step_told : (ms : List (List ℕ)) (s : List ℕ) → None ≡ step_of ms s → first_step s ≡ None
no_step_told ms s e = go (first_step s) refl e
  where
    go : (o : Option (Wording × List ℕ)) → first_step s ≡ o → ◌≡◌ {A = Option (Step × List ℕ)} None (option_map (λ z. (meant ms z.0, z.1)) o) → first_step s ≡ None
    go None h e = h
    go (Some z) h e = absurd (none-some (meant ms z.0, z.1) e)

pub record Sofar (ms : List (List ℕ)) (text : List ℕ) (before : List Step) (rest : List ℕ) (count : ℕ) (steps : List Step) : Type 0 where
  pub words : List Wording
  pub number : length words ≡ count
  pub few : count ≤ length before
  pub part : length rest ≤ length text
  pub read : read_on (length before) text ≡ behind words (read_on (length before - count) rest)
  pub filled : steps ≡ map (meant ms) words ++ drop count before

abbrev any_step : Step
any_step = record { axis = Child; test = Any }

module _ (ms : List (List ℕ)) (text : List ℕ) (before : List Step) where
  module _ (rest : List ℕ) (count : ℕ) (steps : List Step) (so : Sofar ms text before rest count steps) where
    -- as many slots as before
    pub as_long : length steps ≡ length before
    as_long = omega (arith, so.few, ap length so.filled, length-append (map (meant ms) so.words) (drop count before), length-map so.words (meant ms), so.number, length-drop count before)

    pub one_more : (p : Step) (r : List ℕ) → Some (p, r) ≡ step_of ms rest → count < length before → Sofar ms text before r (count + 1) (set steps count p)
    one_more p r e h =
        let k = step_told ms rest p r e in
        let w = k.0 in
        let c : (length before) - count ≡ suc ((length before) - (count + 1)) = omega arith in
        let long : length (map (meant ms) so.words) ≡ count = length-map so.words (meant ms) ∙ so.number in
        record {
          words = so.words ++ w ∷ [];
          number = length_push so.words w ∙ ap (λ (n : ℕ). n + 1) so.number;
          few = omega arith;
          part = omega (arith, so.part, step_shorter rest w r k.1);
          read = so.read ∙ ap (λ (n : ℕ). behind so.words (read_on n rest)) c ∙ ap (behind so.words) (read_step ((length before) - (count + 1)) rest w r k.1)
              ∙ ap (λ (z : List Wording). record { words = z; rest = (read_on ((length before) - (count + 1)) r).rest; stop = (read_on ((length before) - (count + 1)) r).stop }) (sym (append_assoc so.words (w ∷ []) (read_on ((length before) - (count + 1)) r).words));
          filled = ap₂ (λ (z : List Step) (y : Step). set z count y) (so.filled ∙ ap (λ (z : List Step). map (meant ms) so.words ++ z) (drop_more before count any_step h)) k.2
              ∙ set_at (map (meant ms) so.words) (get_or before count any_step) (drop (count + 1) before) (meant ms w) count long
              ∙ sym (append_assoc (map (meant ms) so.words) (meant ms w ∷ []) (drop (count + 1) before))
              ∙ ap (λ (z : List Step). z ++ drop (count + 1) before) (sym (map_push (meant ms) so.words w));
        }

    -- where reading stops, its answer and its slots are known
    module _ (a : 1 ≤ length text) (b : length text ≤ 512) (room : length before ≡ step_room (length before)) (e : Stop) (stops : read_on ((length before) - count) rest ≡ stopped rest e) where
      whole : read_on (length before) text ≡ record { words = so.words; rest = rest; stop = e }
      whole = so.read ∙ ap (behind so.words) stops ∙ ap (λ (z : List Wording). record { words = z; rest = rest; stop = e }) (append-nil so.words)

      value_is : answer (length before) text ≡ answered (length text) (record { words = so.words; rest = rest; stop = e }) e
      value_is = cond-false (wrong_length text) (Err Length) (answered (length text) (read_on (length before) text) (read_on (length before) text).stop) (right_length text a b) ∙ ap (λ (r : Reading). answered (length text) r r.stop) whole

      slots_are : steps ≡ steps_read ms (length before) text ++ drop (length (steps_read ms (length before) text)) before
      slots_are =
          let z : steps_read ms (length before) text ≡ map (meant ms) so.words = cond-false (wrong_length text) [] (map (meant ms) (read_on (length before) text).words) (right_length text a b) ∙ ap (λ (r : Reading). map (meant ms) r.words) whole in
          so.filled ∙ ap (λ (n : ℕ). map (meant ms) so.words ++ drop n before) (sym (length-map so.words (meant ms) ∙ so.number)) ∙ ap (λ (q : List Step). q ++ drop (length q) before) (sym z)

      done : (r : Result ℕ QuestionFault) → r ≡ answered (length text) (record { words = so.words; rest = rest; stop = e }) e → Read ms text before r steps × Spelled (step_room (length before)) text r
      done r is = (
        record {
          value = is ∙ sym value_is ∙ ap (λ (c : ℕ). answer c text) room;
          slots = slots_are ∙ ap (λ (c : ℕ). steps_read ms c text ++ drop (length (steps_read ms c text)) before) room;
          reads = reads (step_room (length before)) text;
        },
        spelled (step_room (length before)) text a b r (is ∙ sym value_is ∙ ap (λ (c : ℕ). answer c text) room),
      )

-- one more on a stack
pub pushed_more : (ms : List (List ℕ)) (text : List ℕ) (before : List Step) (rest : List ℕ) (s t : Stack Step) (p : Step) (r : List ℕ)
    → Sofar ms text before rest (length (items s)) (lent s) → Grown s p t → Some (p, r) ≡ step_of ms rest → Sofar ms text before r (length (items t)) (lent t)
pushed_more ms text before rest s t p r so g e =
    let long = as_long ms text before rest (length (items s)) (lent s) so in
    let more = one_more ms text before rest (length (items s)) (lent s) so p r e (omega (arith, g.room, long)) in
    subst (λ (n : ℕ). Sofar ms text before r n (lent t)) (add-one (length (items s)) ∙ sym (ap length g.after))
    (subst (λ (z : List Step). Sofar ms text before r (length (items s) + 1) z) (sym g.written) more)

-- where reading stops, what is read and how it is spelled are known
pub stop_told : {ms : List (List ℕ)} {text rest : List ℕ} {before steps : List Step} {count : ℕ}
    → (so : Sofar ms text before rest count steps) → 1 ≤ length text → length text ≤ 512 → length before ≤ 32 → (e : Stop) → read_on (length before - count) rest ≡ stopped rest e
    → (r : Result ℕ QuestionFault) → r ≡ answered (length text) (record { words = so.words; rest = rest; stop = e }) e → Read ms text before r steps × Spelled (step_room (length before)) text r
stop_told {ms} {text} {rest} {before} {steps} {count} so a b few e stops r is = done ms text before rest count steps so a b (sym (min-eq_left few)) e stops r is

-- the same slots under another name
pub read_same : {ms : List (List ℕ)} {text : List ℕ} {before steps others : List Step} {r : Result ℕ QuestionFault} → others ≡ steps → Read ms text before r steps → Read ms text before r others
read_same {ms} {text} {before} {r = r} e h = subst (λ (z : List Step). Read ms text before r z) (sym e) h

-- the three ways in which reading stops
pub stops_at_end : (c : ℕ) (s : List ℕ) → length s ≤ 0 → read_on c s ≡ stopped s at_end
stops_at_end zero [] l = refl
stops_at_end (suc c) [] l = refl
stops_at_end c (b ∷ s) l = absurd (omega arith)

pub stops_no_step : (c : ℕ) (s : List ℕ) → 1 ≤ length s → first_step s ≡ None → read_on c s ≡ stopped s no_step
stops_no_step c [] l e = absurd (omega arith)
stops_no_step zero (b ∷ s) l e = ap (λ (o : Option (Wording × List ℕ)). stopped (b ∷ s) (elim o as (λ _. Stop) [ None ↦ no_step | Some p ↦ enough ])) e
stops_no_step (suc c) (b ∷ s) l e = ap (λ (o : Option (Wording × List ℕ)). elim o as (λ _. Reading) [ None ↦ stopped (b ∷ s) no_step | Some p ↦ behind (p.0 ∷ []) (read_on c p.1) ]) e

pub stops_enough : (c : ℕ) (s : List ℕ) (p : Wording × List ℕ) → c ≡ 0 → first_step s ≡ Some p → read_on c s ≡ stopped s enough
stops_enough c s p z e = ap (λ (n : ℕ). read_on n s) z ∙ ap (λ (o : Option (Wording × List ℕ)). stopped s (elim o as (λ _. Stop) [ None ↦ ending s | Some p ↦ enough ])) e

-- a text of a wrong length is refused with nothing read
pub wrong_told : (ms : List (List ℕ)) (text : List ℕ) (before : List Step) → (length text ≡ 0) ⊎ (512 < length text) → Read ms text before (Err Length) before × Spelled (step_room (length before)) text (Err Length)
wrong_told ms text before h =
    let wrong : wrong_length text ≡ true = ⊎_elim (λ e. or_left _ _ (eq-eqb (length text) 0 e)) (λ l. or_right _ _ (lt-ltb 512 (length text) l)) h in
    let none : steps_read ms (step_room (length before)) text ≡ [] = cond-true (wrong_length text) [] (map (meant ms) (read_on (step_room (length before)) text).words) wrong in (
      record {
        value = sym (cond-true (wrong_length text) (Err Length) (answered (length text) (read_on (step_room (length before)) text) (read_on (step_room (length before)) text).stop) wrong);
        slots = ap (λ (q : List Step). q ++ drop (length q) before) (sym none);
        reads = reads (step_room (length before)) text;
      },
      spelled_not (step_room (length before)) text (λ a b. ⊎_elim (λ e. omega arith) (λ l. omega arith) h),
    )

drop_take : {X : Type 0} (i m : ℕ) (xs : List X) → i ≤ m → m ≤ length xs → drop i (take m xs) ++ drop m xs ≡ drop i xs
drop_take zero m xs a b = take-append-drop m xs
drop_take (suc i) m [] a b = absurd (omega arith)
drop_take (suc i) zero (x ∷ xs) a b = absurd (omega arith)
drop_take (suc i) (suc m) (x ∷ xs) a b = drop_take i m xs (omega arith) (omega arith)

words_few : (c : ℕ) (r : Reading) (e : Stop) → Stops c r e → length r.words ≤ c
words_few c r at_end h = h.1
words_few c r no_step h = h.2
words_few c r enough h = omega (arith, h.1)

steps_few : (ms : List (List ℕ)) (c : ℕ) (s : List ℕ) → length (steps_read ms c s) ≤ length (read_on c s).words
steps_few ms c s = elim (wrong_length s) as (λ b. length (cond b [] (map (meant ms) (read_on c s).words)) ≤ length (read_on c s).words) [ true ↦ omega arith | false ↦ omega (arith, length-map (read_on c s).words (meant ms)) ]

-- steps read into the first slots
module _ (ms : List (List ℕ)) (text : List ℕ) (before : List Step) (m : ℕ) (is : m ≡ min (length before) 32) (r : Result ℕ QuestionFault) where
  within : m ≤ length before
  within = omega (arith, is, min-le_left (length before) 32)

  few : step_room (length (take m before)) ≡ step_room (length before)
  few = ap (λ (n : ℕ). min n 32) (length-take-le m before within) ∙ min-eq_left (omega (arith, is, min-le_right (length before) 32)) ∙ is

  pub read_first : (front : List Step) → Read ms text (take m before) r front → Read ms text before r (front ++ drop m before)
  read_first front h = let room = step_room (length before) in let steps = steps_read ms room text in let reads_here : Reads room text (read_on room text) = subst (λ (c : ℕ). Reads c text (read_on c text)) few h.reads in record {
    value = h.value ∙ ap (λ (c : ℕ). answer c text) few;
    slots =
        ap (λ (z : List Step). z ++ drop m before) (subst (λ (c : ℕ). front ≡ steps_read ms c text ++ drop (length (steps_read ms c text)) (take m before)) few h.slots)
        ∙ append_assoc steps (drop (length steps) (take m before)) (drop m before)
        ∙ ap (λ (z : List Step). steps ++ z) (drop_take (length steps) m before (omega (arith, is, steps_few ms room text, words_few room (read_on room text) (read_on room text).stop reads_here.stops)) within);
    reads = reads_here;
  }

  pub spelled_first : Spelled (step_room (length (take m before))) text r → Spelled (step_room (length before)) text r
  spelled_first h = subst (λ (c : ℕ). Spelled c text r) few h
