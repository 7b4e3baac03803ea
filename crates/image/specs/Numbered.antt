-- The nodes of fields of three bytes. Assumes nothing.
--     node i f          the node that the field f holds, with the number i
--     numbered i fs     the nodes of the fields fs, numbered from i on
use Rattle.std.specs.Prelude.{ℕ, zero, suc, Option, None, ◌+◌, ◌*◌, List, [], ◌∷◌, slice_index}
use Rattle.std.specs.List.{slice_get}
use Rattle.tree.specs.Nodes.{Node}

abbrev pub node : ℕ → List ℕ → Node
node i f = record { label = slice_index f 0 * 256 + slice_index f 1; depth = slice_index f 2; origin = i }

abbrev pub numbered : ℕ → List (List ℕ) → List Node
numbered i [] = []
numbered i (f ∷ fs) = node i f ∷ numbered (suc i) fs

-- the field of the node k
abbrev pub field_at : List (List ℕ) → ℕ → Option (List ℕ)
field_at fs zero = None
field_at fs (suc k) = slice_get fs k
