-- The bytes of an image. Assumes nothing.
--     written st        the bytes of what is stored
--     image ps          the image of the plan ps
use Rattle.std.specs.Prelude.{ℕ, List, [], ◌∷◌, ◌++◌, length}
use Rattle.std.specs.List.{flat_map}
use Rattle.tree.specs.Nodes.{Node}
use Rattle.stored.specs.Bytes.{two, four}
use Rattle.stored.specs.Plans.{Named, Stored, stored}

abbrev pub name_field : List ℕ → List ℕ
name_field m = length m ∷ m

abbrev pub node_field : Node → List ℕ
node_field n = two n.label ++ n.depth ∷ []

-- what follows the length field
abbrev pub body : Stored → List ℕ
body st = two (length st.names) ++ (flat_map name_field st.names ++ (two (length st.nodes) ++ flat_map node_field st.nodes))

-- the version is 1
abbrev pub written : Stored → List ℕ
written st = 1 ∷ (four (length (body st)) ++ body st)

abbrev pub image : List Named → List ℕ
image ps = written (stored ps)
