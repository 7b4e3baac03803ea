-- The fields of nodes, one after another, and how long those of numbered nodes are.
use Rattle.std.proofs.Common.{◌≡◌, ℕ, ◌+◌, ◌-◌, ◌*◌, ◌≤◌, List, [], ◌∷◌, ◌++◌, length, take, Option, sym, refl, ap, ◌∙◌, subst, arith}
use Rattle.std.specs.List.{flat_map}
use Rattle.std.proofs.lemmas.List.{flat_map_more, length-take-le}
use Rattle.tree.specs.Nodes.{Node, count, node_at}
use Rattle.tree.proofs.Slots.{take_next}
use Rattle.writer.specs.Writings.{numbered_field}

-- the nodes up to the node k, from those before it
pub taken : (ns : List Node) (k : ℕ) → 1 ≤ k → k ≤ count ns → take k ns ≡ take (k - 1) ns ++ node_at ns k ∷ []
taken ns k some most =
    let e : k - 1 + 1 ≡ k = omega arith in
    subst (λ (j : ℕ). take j ns ≡ take (k - 1) ns ++ node_at ns j ∷ []) e (take_next ns (k - 1) (omega arith))

pub fields_more : (f : Node → List ℕ) (ns : List Node) (k : ℕ) → 1 ≤ k → k ≤ count ns → flat_map f (take (k - 1) ns) ++ f (node_at ns k) ≡ flat_map f (take k ns)
fields_more f ns k some most = flat_map_more f [] (take (k - 1) ns) (node_at ns k) ∙ ap (flat_map f) (sym (taken ns k some most))

pub length_fields : (numbers : List (Option ℕ)) (ns : List Node) → length (flat_map (numbered_field numbers) ns) ≡ 3 * length ns
length_fields numbers [] = refl
length_fields numbers (n ∷ ns) = let r = length_fields numbers ns in omega arith

pub front_long : (numbers : List (Option ℕ)) (ns : List Node) (m : ℕ) → m ≤ count ns → length (flat_map (numbered_field numbers) (take m ns)) ≡ 3 * m
front_long numbers ns m l = length_fields numbers (take m ns) ∙ ap (λ (k : ℕ). 3 * k) (length-take-le m ns l)
