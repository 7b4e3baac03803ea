-- Parents, what lies below what, and the nodes that a step and a question select.
use Rattle.std.specs.Prelude.{◌≡◌, ℕ, zero, suc, pred, ◌≤◌, Bool, true, false, ◌&&◌, ◌||◌, List, [], ◌∷◌, filter, ◌==◌}
use Rattle.tree.specs.Nodes.{Node, depth_at, label_at, count}
use Rattle.tree.specs.declared.step.Axis.{Axis}
use Rattle.tree.specs.declared.step.Axis.TheVariants.{Child, Descendant}
use Rattle.tree.specs.declared.step.Test.{Test}
use Rattle.tree.specs.declared.step.Test.TheVariants.{Any, Label}
use Rattle.tree.specs.declared.step.Step.{Step}

-- the nearest node at or before k whose depth is d, or 0
abbrev pub nearest : List Node → ℕ → ℕ → ℕ
nearest ns d zero = 0
nearest ns d (suc k) = elim (depth_at ns (suc k) == d) [ true ↦ suc k | false ↦ nearest ns d k ]

-- the nearest earlier node whose depth is one less; node 1 has the document, 0
abbrev pub parent : List Node → ℕ → ℕ
parent ns zero = 0
parent ns (suc k) = nearest ns (pred (depth_at ns (suc k))) k

abbrev pub member : List ℕ → ℕ → Bool
member [] k = false
member (x ∷ xs) k = x == k || member xs k

-- n is reached from m by going to the parent one or more times
pub data Below (ns : List Node) (n : ℕ) : ℕ → Type 0 where
  direct : {m : ℕ} → 1 ≤ m → parent ns m ≡ n → Below ns n m
  above : {m : ℕ} → 1 ≤ m → Below ns n (parent ns m) → Below ns n m

-- some node of s is met on the way up from m, in at most f moves to the parent
abbrev pub met : List Node → List ℕ → ℕ → ℕ → Bool
met ns s zero m = false
met ns s (suc f) zero = false
met ns s (suc f) (suc k) = member s (parent ns (suc k)) || met ns s f (parent ns (suc k))

-- a node with label l passes the test
abbrev pub admits : Test → ℕ → Bool
admits Any l = true
admits (Label k) l = l == k

abbrev pub passes : List Node → Test → ℕ → Bool
passes ns t m = admits t (label_at ns m)

abbrev pub reached : List Node → List ℕ → Axis → ℕ → Bool
reached ns s Child m = member s (parent ns m)
reached ns s Descendant m = met ns s m m

-- from, from + 1, ..: n numbers
abbrev pub numbers : ℕ → ℕ → List ℕ
numbers zero from = []
numbers (suc n) from = from ∷ numbers n (suc from)

-- a step from the set s selects the node m
unfoldable pub chosen : List Node → List ℕ → Step → ℕ → Bool
chosen ns s p m = passes ns p.test m && reached ns s p.axis m

-- the nodes that a step selects from the set s, rising
unfoldable pub select : List Node → List ℕ → Step → List ℕ
select ns s p = filter (chosen ns s p) (numbers (count ns) 1)

-- the nodes that steps select, one after the other, from the set s
abbrev pub follow : List Node → List ℕ → List Step → List ℕ
follow ns s [] = s
follow ns s (p ∷ ps) = follow ns (select ns s p) ps

-- the document alone
abbrev pub root : List ℕ
root = 0 ∷ []

abbrev pub selects : List Node → List Step → List ℕ
selects ns q = follow ns root q

-- numbers from b on, each greater than the one before
abbrev pub Rises : ℕ → List ℕ → Type 0
Rises b [] = Unit {0}
Rises b (k ∷ ks) = (b ≤ k) × Rises (suc k) ks
