-- The laws of stored images. Assumes nothing.
use Rattle.std.specs.Prelude.{◌≡◌, ℕ, ◌≤◌, List, length, Ok}
use Rattle.std.specs.List.{AllByRecursion}
use Rattle.names.specs.Lists.{IsNameList}
use Rattle.tree.specs.Nodes.{Node, Laws, node_limit}
use Rattle.stored.specs.Plans.{Named, Stored, plan_of, stored, Storable}
use Rattle.stored.specs.Images.{image}
use Rattle.stored.specs.Openings.{opened}

-- what is stored of a plan tells the plan
abbrev pub PlansAreStored : Type 0
PlansAreStored = (ps : List Named) → Storable ps → plan_of (stored ps).names (stored ps).nodes ≡ ps

-- a tree whose labels are numbers of names is a plan that can be stored
abbrev pub TreesArePlans : Type 0
TreesArePlans = (ms : List (List ℕ)) (ns : List Node) → IsNameList ms → Laws node_limit ns → AllByRecursion (λ n. n.label ≤ length ms) ns → Storable (plan_of ms ns)

-- the image of a plan opens as what is stored of it
abbrev pub ImagesOpen : Type 0
ImagesOpen = (ps : List Named) → Storable ps → opened (image ps) ≡ Ok (stored ps)

-- bytes that open are the image of a plan, namely of the one that they open as
abbrev pub OpenedAreImages : Type 0
OpenedAreImages = (s : List ℕ) (st : Stored) → opened s ≡ Ok st → (ps : List Named) × Storable ps × (s ≡ image ps) × (st ≡ stored ps)
