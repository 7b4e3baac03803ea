-- What is printed of an image, byte for byte. Assumes nothing.
--     hex_line bs          the bytes bs on one line: `image 01 00`
--     node_lines ms ns     a line for each of the nodes ns, with its label, its depth and its name among ms: `2 3 LESSON`
--     seen_text s          both for the bytes s, with the refusal where they are no image: `refused 13 at 5`
--     image_text ps        both for the image of the plan ps
use Rattle.std.specs.Prelude.{◌≡◌, ℕ, ◌/◌, ◌%◌, List, [], ◌∷◌, ◌++◌, Ok, Err, codes, decimal, Result, slice_index}
use Rattle.std.specs.List.{flat_map}
use Rattle.answers.specs.Lines.{refused_line}
use Rattle.tree.specs.Nodes.{Node as TreeNode}
use Rattle.stored.specs.Plans.{Named, Stored, name_at, plan_of, stored}
use Rattle.stored.specs.Images.{image}
use Rattle.stored.specs.Openings.{opened}
use Rattle.stored.specs.Faults.{number, place}
use Rattle.stored.specs.declared.fault.ImageFault.{ImageFault}
use Rattle.writer.specs.Writings.{AllNamed, FirstNameless}

abbrev pub digit_of : ℕ → ℕ
digit_of n = slice_index (codes "0123456789ABCDEF") n

abbrev pub hex_byte : ℕ → List ℕ
hex_byte b = codes " " ++ digit_of (b / 16) ∷ digit_of (b % 16) ∷ []

abbrev pub hex_line : List ℕ → List ℕ
hex_line bs = codes "image" ++ (flat_map hex_byte bs ++ codes "\n")

abbrev pub label_line : ℕ → ℕ → List ℕ → List ℕ
label_line l d n = decimal l ++ (codes " " ++ (decimal d ++ (codes " " ++ (n ++ codes "\n"))))

abbrev pub node_line : List (List ℕ) → TreeNode → List ℕ
node_line ms n = label_line n.label n.depth (name_at ms n.label)

abbrev pub node_lines : List (List ℕ) → List TreeNode → List ℕ
node_lines ms ns = flat_map (node_line ms) ns

abbrev pub opened_lines : Result Stored ImageFault → List ℕ
opened_lines (Ok st) = node_lines st.names st.nodes
opened_lines (Err e) = refused_line (number e) (place e)

abbrev pub seen_text : List ℕ → List ℕ
seen_text s = hex_line s ++ opened_lines (opened s)

abbrev pub image_text : List Named → List ℕ
image_text ps = hex_line (image ps) ++ node_lines (stored ps).names (stored ps).nodes

-- a tree's image is shown with what it is stored as; a node without a name is told instead
pub record Returns (ms : List (List ℕ)) (ns : List TreeNode) (text : List ℕ) : Type 0 where
  pub named : AllNamed ms ns → text ≡ image_text (plan_of ms ns)
  pub nameless : (k : ℕ) → FirstNameless ms ns k → text ≡ refused_line 16 k
