-- What reading a question text finds, and when a text is steps written one after another.
use Rattle.std.proofs.Common.{◌≡◌, ℕ, zero, suc, ◌≤◌, Bool, false, ◌||◌, ltb, List, [], ◌∷◌, ◌++◌, length, map, Some, None, Ok, Err, Option, Result, sym, refl, ap, ◌∙◌, subst, arith}
use Rattle.std.specs.List.{flat_map, AllByRecursion}
use Rattle.std.proofs.lemmas.List.{length-append, length-map}
use Rattle.std.proofs.lemmas.Bool.{ne_eqb, le-ltb, cond-false}
use Rattle.std.proofs.lemmas.Option.{none-some}
use Rattle.names.specs.Bytes.{name_byte}
use Rattle.names.specs.Words.{begins}
use Rattle.tree.specs.declared.step.Axis.TheVariants.{Child, Descendant}
use Rattle.path.specs.declared.fault.QuestionFault.{QuestionFault}
use Rattle.path.specs.declared.fault.QuestionFault.TheVariants.{Length}
use Rattle.path.specs.Wordings.{WordTest, star, named, meant, Wording, slashes, test_bytes, written, Good, Longest, Steps, none, more, first_step}
use Rattle.path.specs.Questions.{Stop, at_end, no_step, enough, Reading, stopped, behind, ending, read_on, IsNoStep, Stops, Reads, wrong_length, answered, answer, steps_read, Spelled}
use Rattle.path.proofs.Wordings.{step_sound, step_complete, test_some}

no_step_here : (s : List ℕ) → first_step s ≡ None → IsNoStep s
no_step_here s e w r b = none-some (w, r) (sym e ∙ step_complete s w r b)

stops_here : (c : ℕ) (s : List ℕ) → first_step s ≡ None → Reads c s (stopped s (ending s))
stops_here c [] e = record { steps = none; stops = (refl, omega arith) }
stops_here c (b ∷ s) e = record { steps = none; stops = (omega arith, no_step_here (b ∷ s) e, omega arith) }

stops_later : (c : ℕ) (w : Wording) (r : Reading) (e : Stop) → Stops c r e → Stops (suc c) (behind (w ∷ []) r) e
stops_later c w r at_end h = (h.0, omega (arith, h.1))
stops_later c w r no_step h = (h.0, h.1, omega (arith, h.2))
stops_later c w r enough h = (h.0, ap suc h.1)

pub reads : (c : ℕ) (s : List ℕ) → Reads c s (read_on c s)
reads zero s = go (first_step s) refl
  where
    go : (o : Option (Wording × List ℕ)) → first_step s ≡ o → Reads 0 s (stopped s (elim o as (λ _. Stop) [ None ↦ ending s | Some p ↦ enough ]))
    go None e = stops_here 0 s e
    go (Some p) e = record { steps = none; stops = ((p.0, p.1, step_sound s p.0 p.1 e), refl) }
reads (suc c) s = go (first_step s) refl (reads c)
  where
    go : (o : Option (Wording × List ℕ)) → first_step s ≡ o → ((t : List ℕ) → Reads c t (read_on c t)) → Reads (suc c) s (elim o as (λ _. Reading) [ None ↦ stopped s (ending s) | Some p ↦ behind (p.0 ∷ []) (read_on c p.1) ])
    go None e ih = stops_here (suc c) s e
    go (Some p) e ih =
        let r = ih p.1 in
        record { steps = more (step_sound s p.0 p.1 e) r.steps; stops = stops_later c p.0 (read_on c p.1) (read_on c p.1).stop r.stops }

-- a step begins with a slash, which goes on no name
slash_first : (ws : List Wording) → begins name_byte (flat_map written ws) ≡ false
slash_first [] = refl
slash_first (w ∷ ws) = elim w.axis as (λ x. begins name_byte ((slashes x ++ test_bytes w.test) ++ flat_map written ws) ≡ false) [ Child ↦ refl | Descendant ↦ refl ]

longest_here : (t : WordTest) (ws : List Wording) → Longest t (flat_map written ws)
longest_here star ws = tt
longest_here (named n) ws = slash_first ws

pub steps_written : (ws : List Wording) (s : List ℕ) → Steps [] ws s → AllByRecursion Good ws × (s ≡ flat_map written ws)
steps_written [] s none = (tt, refl)
steps_written (w ∷ ws) s (more {t = t} b k) =
    let r = steps_written ws t k in
    ((b.good, r.0), b.is ∙ ap (λ (z : List ℕ). written w ++ z) r.1)

read_empty : (c : ℕ) → read_on c [] ≡ stopped [] at_end
read_empty zero = refl
read_empty (suc c) = refl

pub read_step : (c : ℕ) (s : List ℕ) (w : Wording) (r : List ℕ) → first_step s ≡ Some (w, r) → read_on (suc c) s ≡ behind (w ∷ []) (read_on c r)
read_step c s w r e = ap (λ (o : Option (Wording × List ℕ)). elim o as (λ _. Reading) [ None ↦ stopped s (ending s) | Some p ↦ behind (p.0 ∷ []) (read_on c p.1) ]) e

pub written_read : (c : ℕ) (ws : List Wording) (s : List ℕ) → length ws ≤ c → AllByRecursion Good ws → s ≡ flat_map written ws → read_on c s ≡ record { words = ws; rest = []; stop = at_end }
written_read c [] s l g e = ap (read_on c) e ∙ read_empty c
written_read zero (w ∷ ws) s l g e = absurd (omega arith)
written_read (suc c) (w ∷ ws) s l g e =
    read_step c s w (flat_map written ws) (step_complete s w (flat_map written ws) (record { is = e; good = g.0; longest = longest_here w.test ws }))
    ∙ ap (behind (w ∷ [])) (written_read c ws (flat_map written ws) (omega arith) g.1 refl)

written_some : (ws : List Wording) (s : List ℕ) → 1 ≤ length ws → AllByRecursion Good ws → s ≡ flat_map written ws → 1 ≤ length s
written_some [] s l g e = absurd (omega arith)
written_some (w ∷ ws) s l g e =
    omega (arith, ap length e, length-append (written w) (flat_map written ws), length-append (slashes w.axis) (test_bytes w.test), test_some w.test w.axis g.0)

pub right_length : (s : List ℕ) → 1 ≤ length s → length s ≤ 512 → wrong_length s ≡ false
right_length s a b = ap (λ (v : Bool). v || ltb 512 (length s)) (ne_eqb (length s) 0 (λ e. omega arith)) ∙ le-ltb 512 (length s) b

ok_not_err : (n : ℕ) (e : QuestionFault) → Err e ≡ Ok n → ⊥
ok_not_err n e h = let z : ◌≡◌ {A = ℕ} 0 1 = cc in omega arith

-- an answer of steps is that of the text at its end
ended : (n k : ℕ) (r : Reading) (e : Stop) → answered n r e ≡ Ok k → (e ≡ at_end) × (k ≡ length r.words)
ended n k r at_end h = (refl, (let z : length r.words ≡ k = cc in sym z))
ended n k r no_step h = absurd (ok_not_err k _ h)
ended n k r enough h = absurd (ok_not_err k _ h)

words_some : (ws : List Wording) (s : List ℕ) → 1 ≤ length s → s ≡ flat_map written ws → 1 ≤ length ws
words_some [] s l e = absurd (omega (arith, ap length e))
words_some (w ∷ ws) s l e = omega arith

module _ (c : ℕ) (s : List ℕ) (a : 1 ≤ length s) (b : length s ≤ 512) where
  answer_is : answer c s ≡ answered (length s) (read_on c s) (read_on c s).stop
  answer_is = cond-false (wrong_length s) (Err Length) (answered (length s) (read_on c s) (read_on c s).stop) (right_length s a b)

  pub spelled : (r : Result ℕ QuestionFault) → r ≡ answer c s → Spelled c s r
  spelled (Ok n) e =
      let k = ended (length s) n (read_on c s) (read_on c s).stop (sym answer_is ∙ sym e) in
      let r = reads c s in
      let stops = subst (Stops c (read_on c s)) k.0 r.stops in
      let w = steps_written (read_on c s).words s (subst (λ (z : List ℕ). Steps z (read_on c s).words s) stops.0 r.steps) in
      ((read_on c s).words, record { some = words_some (read_on c s).words s a w.1; few = stops.1; short = b; good = w.0; is = w.1 }, k.1, refl)
  spelled (Err f) e = λ ws w.
      let r = written_read c ws s w.few w.good w.is in
      ok_not_err (length ws) f (e ∙ answer_is ∙ ap (λ (z : Reading). answered (length s) z z.stop) r)

-- no text of a wrong length is steps
pub spelled_not : (c : ℕ) (s : List ℕ) → (1 ≤ length s → length s ≤ 512 → ⊥) → Spelled c s (Err Length)
spelled_not c s n ws w = n (written_some ws s w.some w.good w.is) w.short

-- the steps of an accepted text are as many as are answered
pub steps_answered : (ms : List (List ℕ)) (c : ℕ) (s : List ℕ) (n : ℕ) → Spelled c s (Ok n) → (n ≡ length (steps_read ms c s)) × (1 ≤ n) × (n ≤ c)
steps_answered ms c s n (ws, w, k, e) =
    let right = right_length s (written_some ws s w.some w.good w.is) w.short in
    let are : steps_read ms c s ≡ map (meant ms) ws = cond-false (wrong_length s) [] (map (meant ms) (read_on c s).words) right ∙ ap (map (meant ms)) e in
    (k ∙ sym (length-map ws (meant ms)) ∙ ap length (sym are), omega (arith, w.some), omega (arith, w.few))
