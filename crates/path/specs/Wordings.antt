-- Steps as they are written. Assumes nothing.
--     written w         the bytes of the step w
--     meant ms w        the step that w stands for, where ms are the names that have numbers
--     Begins s w r      the text s begins with the step w, its name as long as it goes, and r follows
--     Steps r ws s      the text s is the steps ws one after another, and then r
--     first_step s      the step that s begins with, and what follows it
use Rattle.std.specs.Prelude.{◌≡◌, ℕ, false, cond, List, [], ◌∷◌, ◌++◌, Some, None, Option, ◌==◌}
use Rattle.names.specs.Bytes.{name_start, name_byte}
use Rattle.names.specs.Words.{Word, front, after, begins}
use Rattle.names.specs.Lists.{number_of}
use Rattle.tree.specs.declared.step.Axis.{Axis}
use Rattle.tree.specs.declared.step.Axis.TheVariants.{Child, Descendant}
use Rattle.tree.specs.declared.step.Test.{Test}
use Rattle.tree.specs.declared.step.Test.TheVariants.{Any, Label}
use Rattle.tree.specs.declared.step.Step.{Step}

-- `*`, or a name
pub data WordTest : Type 0 where
  star : WordTest
  named : List ℕ → WordTest

pub record Wording : Type 0 where
  pub axis : Axis
  pub test : WordTest

-- `/` and `//`
abbrev pub slashes : Axis → List ℕ
slashes Child = 47 ∷ []
slashes Descendant = 47 ∷ 47 ∷ []

abbrev pub test_bytes : WordTest → List ℕ
test_bytes star = 42 ∷ []
test_bytes (named n) = n

abbrev pub written : Wording → List ℕ
written w = slashes w.axis ++ test_bytes w.test

-- a name that is not among ms has the number 0
abbrev pub test_meant : List (List ℕ) → WordTest → Test
test_meant ms star = Any
test_meant ms (named n) = Label (number_of n ms)

abbrev pub meant : List (List ℕ) → Wording → Step
meant ms w = record { axis = w.axis; test = test_meant ms w.test }

-- a name is well-formed
abbrev pub Good : Wording → Type 0
Good w = elim w.test [ star ↦ Unit {0} | named n ↦ Word n ]

-- and as long as it goes, where r follows
abbrev pub Longest : WordTest → List ℕ → Type 0
Longest star r = Unit {0}
Longest (named n) r = begins name_byte r ≡ false

pub record Begins (s : List ℕ) (w : Wording) (r : List ℕ) : Type 0 where
  pub is : s ≡ written w ++ r
  pub good : Good w
  pub longest : Longest w.test r

pub data Steps (r : List ℕ) : List Wording → List ℕ → Type 0 where
  none : Steps r [] r
  more : {w : Wording} {ws : List Wording} {s t : List ℕ} → Begins s w t → Steps r ws t → Steps r (w ∷ ws) s

-- behind a first `/`: a second one, or none
abbrev pub axis_behind : List ℕ → Axis × List ℕ
axis_behind [] = (Child, [])
axis_behind (b ∷ s) = cond (b == 47) (Descendant, s) (Child, b ∷ s)

abbrev pub axis_at : List ℕ → Option (Axis × List ℕ)
axis_at [] = None
axis_at (a ∷ s) = cond (a == 47) (Some (axis_behind s)) None

abbrev pub test_at : List ℕ → Option (WordTest × List ℕ)
test_at [] = None
test_at (b ∷ s) = cond (b == 42) (Some (star, s)) (cond (name_start b) (Some (named (front name_byte (b ∷ s)), after name_byte (b ∷ s))) None)

abbrev pub with_axis : Axis → Option (WordTest × List ℕ) → Option (Wording × List ℕ)
with_axis x None = None
with_axis x (Some t) = Some (record { axis = x; test = t.0 }, t.1)

abbrev pub test_behind : Option (Axis × List ℕ) → Option (Wording × List ℕ)
test_behind None = None
test_behind (Some a) = with_axis a.0 (test_at a.1)

abbrev pub first_step : List ℕ → Option (Wording × List ℕ)
first_step s = test_behind (axis_at s)
