-- The nodes that a branch and a tree without some labels show. Assumes nothing.
--     branch k ns       the node k of ns and the nodes below it, moved up so that k has depth 1
--     hide ls ns        the nodes of ns that bear none of the labels ls and are below no node that does
use Rattle.std.specs.Prelude.{ℕ, ◌-◌, Bool, not, ◌||◌, List, [], ◌∷◌, map, filter}
use Rattle.tree.specs.Nodes.{Node, count, node_at, label_at, depth_at}
use Rattle.tree.specs.Paths.{member, met, numbers}

-- the node m is in the set s, or below a node of s
unfoldable pub under : List Node → List ℕ → ℕ → Bool
under ns s m = member s m || met ns s m m

-- the numbers of the nodes that pass a test, rising
abbrev pub passing : List Node → (ℕ → Bool) → List ℕ
passing ns test = filter test (numbers (count ns) 1)

abbrev pub raised : ℕ → Node → Node
raised levels n = record { label = n.label; depth = n.depth - levels; origin = n.origin }

abbrev pub branch : ℕ → List Node → List Node
branch k ns = map (λ m. raised (depth_at ns k - 1) (node_at ns m)) (passing ns (under ns (k ∷ [])))

-- the nodes that bear one of the labels
abbrev pub bearers : List ℕ → List Node → List ℕ
bearers ls ns = passing ns (λ m. member ls (label_at ns m))

abbrev pub hide : List ℕ → List Node → List Node
hide ls ns = map (node_at ns) (passing ns (λ m. not (under ns (bearers ls ns) m)))
