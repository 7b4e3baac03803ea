-- Steps and questions in the words of XPath 1.0. Assumes nothing.
--     StepOf ns p n m      the step p leads from the context node n to m
--     Located ns q n m      the steps q lead from the context node n to m
use Rattle.std.specs.Prelude.{◌≡◌, ℕ, ◌≤◌, true, ◌⊎◌, List, [], ◌∷◌}
use Rattle.tree.specs.Nodes.{Node, Laws, count, label_at}
use Rattle.tree.specs.Paths.{parent, member, select, selects}
use Rattle.tree.specs.declared.step.Axis.{Axis}
use Rattle.tree.specs.declared.step.Axis.TheVariants.{Child, Descendant}
use Rattle.tree.specs.declared.step.Test.{Test}
use Rattle.tree.specs.declared.step.Test.TheVariants.{Any, Label}
use Rattle.tree.specs.declared.step.Step.{Step}

-- the child axis: the children of the context node n
abbrev pub ChildOf : List Node → ℕ → ℕ → Type 0
ChildOf ns n m = (1 ≤ m) × (m ≤ count ns) × (parent ns m ≡ n)

-- the descendant axis: a child, or a child of a descendant
pub data DescendantOf (ns : List Node) (n : ℕ) : ℕ → Type 0 where
  child : {m : ℕ} → ChildOf ns n m → DescendantOf ns n m
  further : {k m : ℕ} → DescendantOf ns n k → ChildOf ns k m → DescendantOf ns n m

abbrev pub DescendantOrSelf : List Node → ℕ → ℕ → Type 0
DescendantOrSelf ns n m = (n ≡ m) ⊎ DescendantOf ns n m

-- the node test: `*`, or a name
abbrev pub Passes : List Node → Test → ℕ → Type 0
Passes ns Any m = Unit {0}
Passes ns (Label l) m = label_at ns m ≡ l

-- `child::test`, and `descendant-or-self::node()/child::test`
abbrev pub AxisOf : List Node → Axis → ℕ → ℕ → Type 0
AxisOf ns Child n m = ChildOf ns n m
AxisOf ns Descendant n m = (k : ℕ) × DescendantOrSelf ns n k × ChildOf ns k m

abbrev pub StepOf : List Node → Step → ℕ → ℕ → Type 0
StepOf ns p n m = AxisOf ns p.axis n m × Passes ns p.test m

abbrev pub Located : List Node → List Step → ℕ → ℕ → Type 0
Located ns [] n m = n ≡ m
Located ns (p ∷ q) n m = (k : ℕ) × StepOf ns p n k × Located ns q k m

pub record Both (P Q : Type 0) : Type 0 where
  pub to : P → Q
  pub from : Q → P

-- a step selects from a set what XPath selects from its members as context nodes
abbrev pub StepsAreXPath : Type 0
StepsAreXPath = (limit : ℕ) (ns : List Node) → Laws limit ns → (s : List ℕ) (p : Step) (m : ℕ) → Both (member (select ns s p) m ≡ true) ((n : ℕ) × (member s n ≡ true) × StepOf ns p n m)

-- a question selects what the path selects from the document
abbrev pub QuestionsAreXPath : Type 0
QuestionsAreXPath = (limit : ℕ) (ns : List Node) → Laws limit ns → (q : List Step) (m : ℕ) → Both (member (selects ns q) m ≡ true) (Located ns q 0 m)
