-- Words of marks. Assumes nothing.
--     bit w i          bit i of the word w
--     hit s i p l      a node with label l below one with marks p ends i + 1 steps, the last of which is s
use Rattle.std.specs.Prelude.{◌≡◌, ℕ, ◌/◌, ◌%◌, ◌^◌, ◌≤◌, Bool, ◌&&◌, ◌||◌, List, length, take, ◌==◌}
use Rattle.tree.specs.Nodes.{Node}
use Rattle.tree.specs.Paths.{admits, member, met, selects}
use Rattle.tree.specs.declared.step.Axis.{Axis}
use Rattle.tree.specs.declared.step.Axis.TheVariants.{Child, Descendant}
use Rattle.tree.specs.declared.step.Test.TheVariants.{Any}
use Rattle.tree.specs.declared.step.Step.{Step}
use Rattle.walk.specs.declared.marks.Marks.{Marks}

abbrev pub bit : ℕ → ℕ → Bool
bit w i = (w / 2 ^ i) % 2 == 1

abbrev pub from : Axis → Marks → ℕ
from Child p = p.here
from Descendant p = p.over

abbrev pub hit : Step → ℕ → Marks → ℕ → Bool
hit s i p l = admits s.test l && bit (from s.axis p) i

abbrev pub any_step : Step
any_step = record { axis = Child; test = Any }

-- the node k ends the first i steps of q
unfoldable pub ends : List Node → List Step → ℕ → ℕ → Bool
ends ns q i k = member (selects ns (take i q)) k

-- the node k, or one that it is below, ends the first i steps of q
unfoldable pub over : List Node → List Step → ℕ → ℕ → Bool
over ns q i k = ends ns q i k || met ns (selects ns (take i q)) k k

-- p are the marks of the node k
pub record Marked (ns : List Node) (q : List Step) (k : ℕ) (p : Marks) : Type 0 where
  pub here : (i : ℕ) → i ≤ length q → bit p.here i ≡ ends ns q i k
  pub over : (i : ℕ) → i ≤ length q → bit p.over i ≡ over ns q i k
