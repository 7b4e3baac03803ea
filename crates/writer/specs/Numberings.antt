-- Names numbered as they first appear. Assumes nothing.
--     ordered n             the names of the numbering n, by number
--     number_at ks l        the number among ks of the label l, or 0 where its name has not appeared
--     Added n l m o         adding the name m for the label l turns the numbering n into o
--     Numbers ms ns n       n numbers the names of the nodes ns, whose labels are numbers of the names ms
use Rattle.std.specs.Prelude.{◌≡◌, ℕ, zero, suc, ◌+◌, ◌≤◌, List, [], ◌∷◌, ◌++◌, length, Some, None, Option, ◌≢◌, slice_index_or, slice_set}
use Rattle.std.specs.Option.{unwrap_or}
use Rattle.names.specs.Lists.{texts, number_of}
use Rattle.tree.specs.Nodes.{Node}
use Rattle.stored.specs.Plans.{name_at, plan_of, names_of}
use Rattle.writer.specs.declared.numbering.Numbering.{Numbering}

abbrev pub ordered : Numbering → List (List ℕ)
ordered n = texts n.names.items

abbrev pub number_at : List (Option ℕ) → ℕ → ℕ
number_at ks l = unwrap_or (slice_index_or ks l None) 0

-- a number as the option that is held; 0 stands for none
abbrev pub held : ℕ → Option ℕ
held zero = None
held (suc k) = Some (suc k)

pub record Added (n : Numbering) (l : ℕ) (m : List ℕ) (o : Numbering) : Type 0 where
  pub known : slice_index_or n.numbers l None ≢ None → o ≡ n
  pub names : slice_index_or n.numbers l None ≡ None → ordered o ≡ ordered n ++ m ∷ []
  pub numbers : slice_index_or n.numbers l None ≡ None → o.numbers ≡ slice_set n.numbers l (Some (length (ordered n) + 1))

pub record Numbers (ms : List (List ℕ)) (ns : List Node) (n : Numbering) : Type 0 where
  pub names : ordered n ≡ names_of (plan_of ms ns)
  pub numbers : (l : ℕ) → 1 ≤ l → l ≤ length ms → slice_index_or n.numbers l None ≡ held (number_of (name_at ms l) (names_of (plan_of ms ns)))
