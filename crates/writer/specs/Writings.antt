-- What writing an image answers, and every byte afterwards. Assumes nothing.
--     Writes ms ns was r is     writing the tree with the nodes ns and the names ms answers r and turns the bytes `was` into `is`
use Rattle.std.specs.Prelude.{◌≡◌, ℕ, ◌<◌, ◌≤◌, List, [], ◌∷◌, ◌++◌, length, drop, Ok, Err, Option, Result}
use Rattle.std.specs.List.{flat_map, AllByRecursion}
use Rattle.tree.specs.Nodes.{Node, count, label_at}
use Rattle.stored.specs.declared.fault.WriteFault.{WriteFault}
use Rattle.stored.specs.declared.fault.WriteFault.TheVariants.{Short, Nameless}
use Rattle.stored.specs.Bytes.{two, four}
use Rattle.stored.specs.Plans.{plan_of}
use Rattle.stored.specs.Images.{name_field, image}
use Rattle.writer.specs.declared.numbering.Numbering.{Numbering}
use Rattle.writer.specs.Numberings.{ordered, number_at, Numbers}

-- every label is the number of a name
abbrev pub AllNamed : List (List ℕ) → List Node → Type 0
AllNamed ms ns = AllByRecursion (λ n. n.label ≤ length ms) ns

-- the node k is the first whose label is above the number of names
pub record FirstNameless (ms : List (List ℕ)) (ns : List Node) (k : ℕ) : Type 0 where
  pub some : 1 ≤ k
  pub within : k ≤ count ns
  pub before : (j : ℕ) → 1 ≤ j → j < k → label_at ns j ≤ length ms
  pub here : length ms < label_at ns k

abbrev pub Writes : List (List ℕ) → List Node → List ℕ → Result ℕ WriteFault → List ℕ → Type 0
Writes ms ns was (Ok n) is = AllNamed ms ns × (n ≡ length (image (plan_of ms ns))) × (n ≤ length was) × (is ≡ image (plan_of ms ns) ++ drop n was)
Writes ms ns was (Err (Short n)) is = AllNamed ms ns × (n ≡ length (image (plan_of ms ns))) × (length was < n) × (is ≡ was)
Writes ms ns was (Err (Nameless k)) is = FirstNameless ms ns k × (is ≡ was)

-- the field of a node whose label, from 1 on, has its number among `numbers`
abbrev pub numbered_field : List (Option ℕ) → Node → List ℕ
numbered_field numbers n = two (number_at numbers n.label) ++ n.depth ∷ []

-- numbering the names of all nodes answers r
abbrev pub NumberedAll : List (List ℕ) → List Node → Result Numbering WriteFault → Type 0
NumberedAll ms ns (Ok n) = AllNamed ms ns × Numbers ms ns n
NumberedAll ms ns (Err (Short k)) = ⊥
NumberedAll ms ns (Err (Nameless k)) = FirstNameless ms ns k

-- what follows the length field, and the whole image, of the nodes ns with the numbering n
abbrev pub numbered_body : Numbering → List Node → List ℕ
numbered_body n ns = two (length (ordered n)) ++ (flat_map name_field (ordered n) ++ (two (length ns) ++ flat_map (numbered_field n.numbers) ns))

abbrev pub numbered_image : Numbering → List Node → List ℕ
numbered_image n ns = 1 ∷ (four (length (numbered_body n ns)) ++ numbered_body n ns)
