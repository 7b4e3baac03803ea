-- `Open` has at most one proof, so that a struct may keep one. Assumes nothing.
use Rattle.std.specs.Prelude.{ℕ, List, [], ◌∷◌}
use Rattle.std.specs.Coded.{×_prop, le_prop, Coded-set, coded_ℕ, coded_bool}
use Rattle.tree.specs.Nodes.{Node}
use Rattle.tree.specs.Paths.{parent}
use Rattle.tree.specs.declared.step.Step.{Step}
use Rattle.walk.specs.declared.marks.Marks.{Marks}
use Rattle.walk.specs.Marks.{Marked}
use Rattle.walk.specs.Walks.{Open}

marked_once : (ns : List Node) (q : List Step) (k : ℕ) (p : Marks) → IsProp (Marked ns q k p)
marked_once ns q k p a b = λ i. record { here = λ j l. Coded-set coded_bool _ _ (a.here j l) (b.here j l) i; over = λ j l. Coded-set coded_bool _ _ (a.over j l) (b.over j l) i }

pub open_once : (ns : List Node) (q : List Step) (m : ℕ) (st : List Marks) → IsProp (Open ns q m st)
open_once ns q m [] = λ a b. absurd a
open_once ns q m (x ∷ []) = ×_prop (Coded-set coded_ℕ m 0) (marked_once ns q m x)
open_once ns q m (x ∷ y ∷ st) = λ a b i. (le_prop {n = 1} {m = m} a.0 b.0 i, marked_once ns q m x a.1 b.1 i, open_once ns q (parent ns m) (y ∷ st) a.2 b.2 i)
