-- A plan apart from how it is held: the name and the depth of each node, in document order. Assumes nothing.
--     plan_of ms ns     the plan of a tree with the nodes ns, whose labels are numbers of the names ms
--     names_of ps       the different names of the plan ps, in the order of their first appearance
--     stored ps         what is stored of the plan ps: these names, and nodes whose labels are their numbers
--     Storable ps       the plan ps keeps the limits of a tree and of a name list
use Rattle.std.specs.Prelude.{ℕ, suc, List, [], ◌∷◌, map, slice_index_or}
use Rattle.names.specs.Lists.{number_of, first_names, IsNameList}
use Rattle.tree.specs.Nodes.{Node, Laws, node_limit}

pub record Named : Type 0 where
  pub name : List ℕ
  pub depth : ℕ

-- the name with the number l, from 1
abbrev pub name_at : List (List ℕ) → ℕ → List ℕ
name_at ms l = slice_index_or ([] ∷ ms) l []

abbrev pub named_by : List (List ℕ) → Node → Named
named_by ms n = record { name = name_at ms n.label; depth = n.depth }

abbrev pub plan_of : List (List ℕ) → List Node → List Named
plan_of ms ns = map (named_by ms) ns

abbrev pub names_of : List Named → List (List ℕ)
names_of ps = first_names (λ p. p.name) ps

abbrev pub node_by : List (List ℕ) → ℕ → Named → Node
node_by ms i p = record { label = number_of p.name ms; depth = p.depth; origin = i }

-- the nodes of a plan, numbered from i on
abbrev pub nodes_by : List (List ℕ) → ℕ → List Named → List Node
nodes_by ms i [] = []
nodes_by ms i (p ∷ ps) = node_by ms i p ∷ nodes_by ms (suc i) ps

pub record Stored : Type 0 where
  pub names : List (List ℕ)
  pub nodes : List Node

abbrev pub stored : List Named → Stored
stored ps = record { names = names_of ps; nodes = nodes_by (names_of ps) 1 ps }

pub record Storable (ps : List Named) : Type 0 where
  pub names : IsNameList (stored ps).names
  pub nodes : Laws node_limit (stored ps).nodes
