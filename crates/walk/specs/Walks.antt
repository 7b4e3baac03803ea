-- What a walk answers. Assumes nothing.
--     origins ns q                   the origins of the nodes that the steps q select, in document order
--     left ns q m                    those of them that come after the node m
--     Walked ns q before r after     a walk over the nodes ns by the steps q answers r and turns the slots `before` into `after`
--     XPathSelects ns q             q selects the nodes that its path locates from the document
--     Open ns q m st                 st are the marks of the node m and of all nodes that it is below, the document last
use Rattle.std.specs.Prelude.{◌≡◌, ℕ, suc, ◌-◌, ◌<◌, ◌≤◌, true, List, [], ◌∷◌, ◌++◌, map, filter, length, drop, Ok, Err, Result}
use Rattle.tree.specs.Nodes.{Node, count, origin_at}
use Rattle.tree.specs.Paths.{parent, member, numbers, selects}
use Rattle.tree.specs.XPath.{Both, Located}
use Rattle.tree.specs.declared.step.Step.{Step}
use Rattle.walk.specs.declared.marks.Marks.{Marks}
use Rattle.walk.specs.declared.fault.WalkFault.{WalkFault}
use Rattle.walk.specs.declared.fault.WalkFault.TheVariants.{NoQuestion, Short}
use Rattle.walk.specs.Marks.{Marked, ends}

abbrev pub origins : List Node → List Step → List ℕ
origins ns q = map (origin_at ns) (selects ns q)

abbrev pub left : List Node → List Step → ℕ → List ℕ
left ns q m = map (origin_at ns) (filter (ends ns q (length q)) (numbers (count ns - m) (suc m)))

pub record Question (q : List Step) : Type 0 where
  pub some : 1 ≤ length q
  pub most : length q ≤ 32

abbrev pub Walked : List Node → List Step → List ℕ → Result ℕ WalkFault → List ℕ → Type 0
Walked ns q before (Ok n) after = Question q × (n ≡ length (origins ns q)) × (n ≤ length before) × (after ≡ origins ns q ++ drop n before)
Walked ns q before (Err NoQuestion) after = (Question q → ⊥) × (after ≡ before)
Walked ns q before (Err (Short n)) after = Question q × (n ≡ length (origins ns q)) × (length before < n) × (after ≡ before)

abbrev pub XPathSelects : List Node → List Step → Type 0
XPathSelects ns q = (m : ℕ) → Both (member (selects ns q) m ≡ true) (Located ns q 0 m)

abbrev pub Open : List Node → List Step → ℕ → List Marks → Type 0
Open ns q m [] = ⊥
Open ns q m (x ∷ []) = (m ≡ 0) × Marked ns q m x
Open ns q m (x ∷ y ∷ st) = (1 ≤ m) × Marked ns q m x × Open ns q (parent ns m) (y ∷ st)
