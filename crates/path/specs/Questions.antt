-- Reading a question text. Assumes nothing.
--     read_on c s                       the steps that s begins with, at most c of them, what follows, and why reading stops there
--     Reads c s r                       r is that, said of the steps
--     Read ms s before r after          reading s answers r and turns the step slots `before` into `after`
--     Spelled c s r                     r is an Ok exactly if s is at most c steps, written one after another
use Rattle.std.specs.Prelude.{◌≡◌, ℕ, zero, suc, ◌-◌, ◌≤◌, min, Bool, cond, ◌||◌, List, [], ◌∷◌, ◌++◌, map, length, drop, Some, None, Ok, Err, Result, ◌==◌, nat_lt}
use Rattle.std.specs.List.{flat_map, AllByRecursion}
use Rattle.tree.specs.declared.step.Step.{Step}
use Rattle.path.specs.declared.fault.QuestionFault.{QuestionFault}
use Rattle.path.specs.declared.fault.QuestionFault.TheVariants.{Length, NoStep, TooMany}
use Rattle.path.specs.Wordings.{Wording, written, meant, Good, Begins, Steps, first_step}

-- why reading stops: the text is at its end, no step begins, or there are steps enough
pub data Stop : Type 0 where
  at_end : Stop
  no_step : Stop
  enough : Stop

pub record Reading : Type 0 where
  pub words : List Wording
  pub rest : List ℕ
  pub stop : Stop

abbrev pub stopped : List ℕ → Stop → Reading
stopped s e = record { words = []; rest = s; stop = e }

abbrev pub behind : List Wording → Reading → Reading
behind ws r = record { words = ws ++ r.words; rest = r.rest; stop = r.stop }

-- where no step begins
abbrev pub ending : List ℕ → Stop
ending [] = at_end
ending (b ∷ s) = no_step

abbrev pub read_on : ℕ → List ℕ → Reading
read_on zero s = stopped s (elim (first_step s) [ None ↦ ending s | Some p ↦ enough ])
read_on (suc c) s = elim (first_step s) [ None ↦ stopped s (ending s) | Some p ↦ behind (p.0 ∷ []) (read_on c p.1) ]

abbrev pub IsNoStep : List ℕ → Type 0
IsNoStep s = (w : Wording) (r : List ℕ) → Begins s w r → ⊥

abbrev pub Stops : ℕ → Reading → Stop → Type 0
Stops c r at_end = (r.rest ≡ []) × (length r.words ≤ c)
Stops c r no_step = (1 ≤ length r.rest) × IsNoStep r.rest × (length r.words ≤ c)
Stops c r enough = ((w : Wording) × (t : List ℕ) × Begins r.rest w t) × (length r.words ≡ c)

pub record Reads (c : ℕ) (s : List ℕ) (r : Reading) : Type 0 where
  pub steps : Steps r.rest r.words s
  pub stops : Stops c r r.stop

-- how many steps there is room for in n slots
abbrev pub step_room : ℕ → ℕ
step_room n = min n 32

abbrev pub wrong_length : List ℕ → Bool
wrong_length s = length s == 0 || nat_lt 512 (length s)

-- what is answered where reading a text of n bytes stops
abbrev pub answered : ℕ → Reading → Stop → Result ℕ QuestionFault
answered n r at_end = Ok (length r.words)
answered n r no_step = Err (NoStep (n - length r.rest))
answered n r enough = Err (TooMany (n - length r.rest))

abbrev pub answer : ℕ → List ℕ → Result ℕ QuestionFault
answer c s = cond (wrong_length s) (Err Length) (answered (length s) (read_on c s) (read_on c s).stop)

-- the steps that are read, refused or not
abbrev pub steps_read : List (List ℕ) → ℕ → List ℕ → List Step
steps_read ms c s = cond (wrong_length s) [] (map (meant ms) (read_on c s).words)

pub record Read (ms : List (List ℕ)) (s : List ℕ) (before : List Step) (r : Result ℕ QuestionFault) (after : List Step) : Type 0 where
  pub value : r ≡ answer (step_room (length before)) s
  pub slots : after ≡ steps_read ms (step_room (length before)) s ++ drop (length (steps_read ms (step_room (length before)) s)) before
  pub reads : Reads (step_room (length before)) s (read_on (step_room (length before)) s)

-- the text s is the steps ws, written one after another
pub record Written (c : ℕ) (s : List ℕ) (ws : List Wording) : Type 0 where
  pub some : 1 ≤ length ws
  pub few : length ws ≤ c
  pub short : length s ≤ 512
  pub good : AllByRecursion Good ws
  pub is : s ≡ flat_map written ws

abbrev pub Spelled : ℕ → List ℕ → Result ℕ QuestionFault → Type 0
Spelled c s (Ok n) = (ws : List Wording) × Written c s ws × (n ≡ length ws) × ((read_on c s).words ≡ ws)
Spelled c s (Err e) = (ws : List Wording) → Written c s ws → ⊥
