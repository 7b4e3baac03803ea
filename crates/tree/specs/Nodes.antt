-- A tree's meaning is its nodes in document order; they are numbered from 1, and node 0 stands for the document. Assumes nothing.
--     node_at ns k         the node k; also label_at, depth_at, origin_at
--     Laws limit ns       ns are a tree of at most limit nodes
--     lawful limit ns     the same as a test, for the invariants of types
--     node_limit          the limit of this version
use Rattle.std.specs.Prelude.{◌≡◌, ℕ, zero, suc, ◌+◌, ◌<◌, ◌≤◌, Bool, true, ◌&&◌, List, [], ◌∷◌, length, nat_le, nat_lt, slice_index_or}
use Rattle.tree.specs.declared.node.Node.{Node as Entry}

abbrev pub Node : Type 0
Node = Entry

-- what is read for a number that no node has
abbrev pub nowhere : Node
nowhere = record { label = 0; depth = 0; origin = 0 }

abbrev pub count : List Node → ℕ
count ns = length ns

abbrev pub node_at : List Node → ℕ → Node
node_at ns k = slice_index_or (nowhere ∷ ns) k nowhere

abbrev pub label_at : List Node → ℕ → ℕ
label_at ns k = (node_at ns k).label

abbrev pub depth_at : List Node → ℕ → ℕ
depth_at ns k = (node_at ns k).depth

abbrev pub origin_at : List Node → ℕ → ℕ
origin_at ns k = (node_at ns k).origin

abbrev pub node_limit : ℕ
node_limit = 4096

-- the four laws of a tree: how many nodes, their labels, their depths (`root`, `depths`) and their origins (`origins`, `rise`)
pub record Laws (limit : ℕ) (ns : List Node) : Type 0 where
  pub some : 1 ≤ count ns
  pub most : count ns ≤ limit
  pub labels : (k : ℕ) → 1 ≤ k → k ≤ count ns → (1 ≤ label_at ns k) × (label_at ns k ≤ 65535)
  pub root : depth_at ns 1 ≡ 1
  pub depths : (k : ℕ) → 1 ≤ k → k < count ns → (2 ≤ depth_at ns (suc k)) × (depth_at ns (suc k) ≤ 64) × (depth_at ns (suc k) ≤ depth_at ns k + 1)
  pub origins : (k : ℕ) → 1 ≤ k → k ≤ count ns → (1 ≤ origin_at ns k) × (origin_at ns k ≤ 65535)
  pub rise : (j k : ℕ) → 1 ≤ j → j < k → k ≤ count ns → origin_at ns j < origin_at ns k

-- the least depth after a node of depth d; only the first node comes after depth 0
abbrev pub least : ℕ → ℕ
least zero = 1
least (suc d) = 2

-- a node with label l and depth e may come after one of depth d
abbrev pub shape : ℕ → ℕ → ℕ → Bool
shape d l e = nat_le 1 l && (nat_le l 65535 && (nat_le (least d) e && (nat_le e 64 && nat_le e (d + 1))))

abbrev pub follows : Node → Node → Bool
follows p n = shape p.depth n.label n.depth && (nat_lt p.origin n.origin && nat_le n.origin 65535)

-- each node may follow the one before, and the first one p
abbrev pub chain : Node → List Node → Bool
chain p [] = true
chain p (n ∷ ns) = follows p n && chain n ns

unfoldable pub lawful : ℕ → List Node → Bool
lawful limit ns = nat_le 1 (count ns) && (nat_le (count ns) limit && chain nowhere ns)
