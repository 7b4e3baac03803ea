-- The image that a numbering gives is that of the plan.
use Rattle.std.proofs.Common.{◌≡◌, ℕ, suc, ◌+◌, ◌*◌, ◌<◌, ◌≤◌, List, [], ◌∷◌, ◌++◌, length, get_or, drop, None, Ok, Err, Option, sym, refl, ap, ◌∙◌, ap₂, arith}
use lib.ListN.{length-map}
use Rattle.std.specs.List.{flat_map, sum_by, AllByRecursion}
use Rattle.std.specs.Option.{unwrap_or}
use Rattle.std.proofs.lemmas.List.{length-append}
use Rattle.names.specs.Lists.{number_of}
use Rattle.tree.specs.Nodes.{Node, Laws, nowhere, node_limit}
use Rattle.tree.specs.Laws.{laws_chain}
use Rattle.stored.specs.declared.fault.WriteFault.TheVariants.{Short}
use Rattle.stored.specs.Bytes.{two, four}
use Rattle.stored.specs.Plans.{name_at, named_by, plan_of, names_of, nodes_by}
use Rattle.stored.specs.Images.{name_field, node_field, image}
use Rattle.stored.proofs.Storable.{Borne, chain_borne}
use Rattle.stored.proofs.Turns.{length_by}
use Rattle.writer.specs.declared.numbering.Numbering.{Numbering}
use Rattle.writer.specs.Numberings.{ordered, held, Numbers}
use Rattle.writer.specs.Writings.{AllNamed, Writes, numbered_field, numbered_body, numbered_image}
use Rattle.writer.proofs.Appearances.{unwrap_held}
use Rattle.writer.proofs.Lengths.{length_fields_of}
use Rattle.writer.proofs.NodeFields.{length_fields}

pub body_long : (n : Numbering) (ns : List Node) → length (numbered_body n ns) ≡ 4 + (length (flat_map name_field (ordered n)) + 3 * length ns)
body_long n ns = omega (arith, length-append (flat_map name_field (ordered n)) (two (length ns) ++ flat_map (numbered_field n.numbers) ns), length_fields n.numbers ns)

fields_same : (ms : List (List ℕ)) (numbers : List (Option ℕ)) (names : List (List ℕ)) (i : ℕ) (ns : List Node) → AllByRecursion (Borne ms) ns → ((l : ℕ) → 1 ≤ l → l ≤ length ms → get_or numbers l None ≡ held (number_of (name_at ms l) names))
    → flat_map (numbered_field numbers) ns ≡ flat_map node_field (nodes_by names i (plan_of ms ns))
fields_same ms numbers names i [] a h = refl
fields_same ms numbers names i (n ∷ ns) a h =
    ap₂ (λ (l : ℕ) (z : List ℕ). (two l ++ n.depth ∷ []) ++ z) (ap (λ (o : Option ℕ). unwrap_or o 0) (h n.label a.0.0 a.0.1) ∙ unwrap_held (number_of (name_at ms n.label) names)) (fields_same ms numbers names (suc i) ns a.1 h)

pub image_is : (ms : List (List ℕ)) (ns : List Node) (n : Numbering) → Laws node_limit ns → AllNamed ms ns → Numbers ms ns n → numbered_image n ns ≡ image (plan_of ms ns)
image_is ms ns n laws named k =
    let names = names_of (plan_of ms ns) in
    let borne = chain_borne ms nowhere ns (laws_chain node_limit ns laws) named in
    let many : length ns ≡ length (nodes_by names 1 (plan_of ms ns)) = sym (length_by names 1 (plan_of ms ns) ∙ length-map ns (named_by ms)) in
    let same : numbered_body n ns ≡ two (length names) ++ (flat_map name_field names ++ (two (length (nodes_by names 1 (plan_of ms ns))) ++ flat_map node_field (nodes_by names 1 (plan_of ms ns)))) =
    ap (λ (z : List (List ℕ)). two (length z) ++ (flat_map name_field z ++ (two (length ns) ++ flat_map (numbered_field n.numbers) ns))) k.names
    ∙ ap₂ (λ (x : ℕ) (z : List ℕ). two (length names) ++ (flat_map name_field names ++ (two x ++ z))) many (fields_same ms n.numbers names 1 ns borne k.numbers) in
    ap (λ (b : List ℕ). 1 ∷ (four (length b) ++ b)) same

pub image_long : (n : Numbering) (ns : List Node) → length (numbered_image n ns) ≡ 9 + (sum_by (λ name. 1 + length name.now) n.names.items + 3 * length ns)
image_long n ns = omega (arith, body_long n ns, length_fields_of n.names.items)

-- what is promised of a writing with this numbering, whose image has k bytes
module _ (ms : List (List ℕ)) (ns : List Node) (n : Numbering) (laws : Laws node_limit ns) (named : AllNamed ms ns) (h : Numbers ms ns n) (k : ℕ) (long : k ≡ length (numbered_image n ns)) (was : List ℕ) where
  length_is : k ≡ length (image (plan_of ms ns))
  length_is = long ∙ ap length (image_is ms ns n laws named h)

  pub too_short : length was < k → Writes ms ns was (Err (Short k)) was
  too_short l = (named, length_is, l, refl)

  pub all_written : (is : List ℕ) → k ≤ length was → is ≡ numbered_image n ns ++ drop k was → Writes ms ns was (Ok k) is
  all_written is l e = (named, length_is, l, e ∙ ap (λ (x : List ℕ). x ++ drop k was) (image_is ms ns n laws named h))
