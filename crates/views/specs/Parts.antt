-- A tree that is made of some nodes of another. Assumes nothing.
--     Within ns n m            the node m is n, or is below it
--     Part ns P change ms      ms are the nodes of ns for which P holds, each after a change, below the parents that they have in ns
use Rattle.std.specs.Prelude.{◌≡◌, ℕ, ◌≤◌, true, ◌⊎◌, List, ◌∷◌, map, slice_index}
use Rattle.tree.specs.Nodes.{Node, count, node_at}
use Rattle.tree.specs.Paths.{member, parent, Below, Rises}
use Rattle.tree.specs.XPath.{Both}

abbrev pub Within : List Node → ℕ → ℕ → Type 0
Within ns n m = (m ≡ n) ⊎ Below ns n m

-- the number at place j, counted from 1; the document, 0, stays 0
abbrev pub number : List ℕ → ℕ → ℕ
number ks j = slice_index (0 ∷ ks) j

-- `from` are the numbers that the nodes of ms have in ns; the first node of ms is its root, so it has no parent there
pub record Part (ns : List Node) (P : ℕ → Type 0) (change : Node → Node) (ms : List Node) : Type 0 where
  pub from : List ℕ
  pub rise : Rises 1 from
  pub members : (m : ℕ) → Both (member from m ≡ true) ((1 ≤ m) × (m ≤ count ns) × P m)
  pub nodes : ms ≡ map (λ m. change (node_at ns m)) from
  pub parents : (j : ℕ) → 2 ≤ j → j ≤ count ms → number from (parent ms j) ≡ parent ns (number from j)
