-- What the setting of a view answers and what is shown afterwards. Assumes nothing.
--     SetsBranch ns k before r after      setting a branch over the nodes ns to k answers r and turns what is shown from `before` into `after`
--     SetsHide ns ls before r after       the same for hiding the labels ls
use Rattle.std.specs.Prelude.{◌≡◌, ℕ, ◌-◌, ◌<◌, ◌≤◌, true, false, List, length, Ok, Err, Result}
use Rattle.tree.specs.Nodes.{Node, count, label_at, depth_at}
use Rattle.tree.specs.Paths.{member}
use Rattle.views.specs.declared.shown.Shown.{Shown}
use Rattle.views.specs.declared.fault.ViewFault.{ViewFault}
use Rattle.views.specs.declared.fault.ViewFault.TheVariants.{NoNode, ManyLabels, RootHidden}
use Rattle.views.specs.Views.{branch, hide, raised}
use Rattle.views.specs.Parts.{Part, Within}

abbrev pub showing : Shown → List Node
showing s = s.row.items

-- exactly k and the nodes below k
abbrev pub BranchOf : ℕ → List Node → List Node → Type 0
BranchOf k ns ms = Part ns (Within ns k) (raised (depth_at ns k - 1)) ms

-- exactly the nodes that bear none of the labels and are below no node that does, as they are
abbrev pub FreeOf : List ℕ → List Node → List Node → Type 0
FreeOf ls ns ms = Part ns (λ m. (n : ℕ) → 1 ≤ n → Within ns n m → member ls (label_at ns n) ≡ false) (λ n. n) ms

abbrev pub SetsBranch : List Node → ℕ → List Node → Result (Unit {0}) ViewFault → List Node → Type 0
SetsBranch ns k before (Ok u) after = (1 ≤ k) × (k ≤ count ns) × (after ≡ branch k ns) × BranchOf k ns after
SetsBranch ns k before (Err NoNode) after = (1 ≤ k → k ≤ count ns → ⊥) × (after ≡ before)
SetsBranch ns k before (Err ManyLabels) after = ⊥
SetsBranch ns k before (Err RootHidden) after = ⊥

abbrev pub SetsHide : List Node → List ℕ → List Node → Result (Unit {0}) ViewFault → List Node → Type 0
SetsHide ns ls before (Ok u) after = (length ls ≤ 8) × (member ls (label_at ns 1) ≡ false) × (after ≡ hide ls ns) × FreeOf ls ns after
SetsHide ns ls before (Err NoNode) after = ⊥
SetsHide ns ls before (Err ManyLabels) after = (8 < length ls) × (after ≡ before)
SetsHide ns ls before (Err RootHidden) after = (length ls ≤ 8) × (member ls (label_at ns 1) ≡ true) × (after ≡ before)
