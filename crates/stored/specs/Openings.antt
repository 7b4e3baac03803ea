-- What opening an image finds, field by field. Assumes nothing.
-- Reading fields of one kind gives what they hold and what follows them, or else what begins with the first wrong field.
--     names_at k ms s       k names behind the names ms
--     nodes_at k n g d s    n nodes with labels up to k, where g is the greatest label and d the depth before them
--     opened s              what the image s holds, or why it is refused
use Rattle.std.specs.Prelude.{ℕ, zero, suc, ◌+◌, ◌-◌, ◌*◌, max, Bool, cond, ◌&&◌, List, [], ◌∷◌, ◌++◌, length, take, drop, Some, None, Ok, Err, Option, Result, ◌==◌, nat_le, nat_lt}
use Rattle.names.specs.Lists.{good_beside}
use Rattle.tree.specs.Nodes.{Node as TreeNode, shape}
use Rattle.stored.specs.declared.fault.ImageFault.{ImageFault}
use Rattle.stored.specs.declared.fault.ImageFault.TheVariants.{Length, Version, Name, Node}
use Rattle.stored.specs.Bytes.{two_at, four_at}
use Rattle.stored.specs.Plans.{Stored}

-- a count of 1 to `most`
abbrev pub counted : ℕ → Option (ℕ × List ℕ) → Option (ℕ × List ℕ)
counted most None = None
counted most (Some p) = cond (nat_le 1 p.0 && nat_le p.0 most) (Some p) None

abbrev pub count_at : ℕ → List ℕ → Option (ℕ × List ℕ)
count_at most s = counted most (two_at s)

-- a good name that is not among ms
abbrev pub name_field_at : List (List ℕ) → List ℕ → Option (List ℕ × List ℕ)
name_field_at ms [] = None
name_field_at ms (k ∷ s) = cond (nat_le k (length s) && good_beside (take k s) ms) (Some (take k s, drop k s)) None

abbrev pub names_at : ℕ → List (List ℕ) → List ℕ → Result (List (List ℕ) × List ℕ) (List ℕ)
names_at zero ms s = Ok (ms, s)
names_at (suc k) ms s = elim (name_field_at ms s) [ None ↦ Err s | Some p ↦ names_at k (ms ++ p.0 ∷ []) p.1 ]

-- a label in its turn is at most one more than the greatest before it, and has a name
abbrev pub in_turn : ℕ → ℕ → ℕ → Bool
in_turn k g l = nat_le l (suc g) && nat_le l k

-- the label and the depth of a node
abbrev pub node_field_at : List ℕ → Option ((ℕ × ℕ) × List ℕ)
node_field_at [] = None
node_field_at (a ∷ []) = None
node_field_at (a ∷ b ∷ []) = None
node_field_at (a ∷ b ∷ e ∷ s) = cond (nat_lt a 256 && nat_lt b 256) (Some ((a * 256 + b, e), s)) None

abbrev pub nodes_at : ℕ → ℕ → ℕ → ℕ → List ℕ → Result (ℕ × List ℕ) (List ℕ)
nodes_at k zero g d s = Ok (g, s)
nodes_at k (suc n) g d s = elim (node_field_at s) [ None ↦ Err s | Some p ↦ cond (in_turn k g p.0.0 && shape d p.0.0 p.0.1) (nodes_at k n (max g p.0.0) p.0.1 p.1) (Err s) ]

-- the nodes of fields of three bytes, numbered from i on
abbrev pub nodes_in : ℕ → List ℕ → List TreeNode
nodes_in i [] = []
nodes_in i (a ∷ []) = []
nodes_in i (a ∷ b ∷ []) = []
nodes_in i (a ∷ b ∷ e ∷ s) = record { label = a * 256 + b; depth = e; origin = i } ∷ nodes_in (suc i) s

abbrev pub all_names_at : List ℕ → Result (List (List ℕ) × List ℕ) (List ℕ)
all_names_at s = elim (count_at 512 s) [ None ↦ Err s | Some p ↦ names_at p.0 [] p.1 ]

-- no byte may follow the last node, and each of the k names must have been borne
abbrev pub ended : ℕ → List ℕ → Result (ℕ × List ℕ) (List ℕ) → Result (List TreeNode) (List ℕ)
ended k s (Err at) = Err at
ended k s (Ok p) = cond (length p.1 == 0 && p.0 == k) (Ok (nodes_in 1 s)) (Err p.1)

abbrev pub all_nodes_at : ℕ → List ℕ → Result (List TreeNode) (List ℕ)
all_nodes_at k s = elim (count_at 4096 s) [ None ↦ Err s | Some p ↦ ended k p.1 (nodes_at k p.0 0 0 p.1) ]

-- the place in the image where `at` begins, s being all that follows the length field
abbrev pub place_of : List ℕ → List ℕ → ℕ
place_of s at = 5 + (length s - length at)

abbrev pub with_nodes : List ℕ → List (List ℕ) → Result (List TreeNode) (List ℕ) → Result Stored ImageFault
with_nodes s ms (Err at) = Err (Node (place_of s at))
with_nodes s ms (Ok ns) = Ok (record { names = ms; nodes = ns })

abbrev pub with_names : List ℕ → Result (List (List ℕ) × List ℕ) (List ℕ) → Result Stored ImageFault
with_names s (Err at) = Err (Name (place_of s at))
with_names s (Ok p) = with_nodes s p.0 (all_nodes_at (length p.0) p.1)

abbrev pub opened_body : List ℕ → Result Stored ImageFault
opened_body s = with_names s (all_names_at s)

abbrev pub sized : Option (ℕ × List ℕ) → Result (List ℕ) ImageFault
sized None = Err Length
sized (Some p) = cond (p.0 == length p.1) (Ok p.1) (Err Length)

-- what follows the length field
abbrev pub body_at : List ℕ → Result (List ℕ) ImageFault
body_at [] = Err Length
body_at (v ∷ s) = cond (v == 1) (sized (four_at s)) (Err Version)

abbrev pub opened : List ℕ → Result Stored ImageFault
opened s = elim (body_at s) [ Err e ↦ Err e | Ok b ↦ opened_body b ]
