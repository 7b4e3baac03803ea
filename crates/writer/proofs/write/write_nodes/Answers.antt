use Rattle.std.proofs.Common.{◌≡◌, ℕ, Option, ◌+◌, ◌-◌, List, [], ◌∷◌, ◌++◌, get_or, take, ap, ◌∙◌, subst, ap₂, arith}
use Rattle.std.specs.List.{flat_map}
use Rattle.std.specs.Option.{unwrap_or}
use Rattle.std.proofs.lemmas.List.{take_all}
use Rattle.tree.specs.Nodes.{node_at, label_at}
use Rattle.stored.specs.Bytes.{two}
use Rattle.writer.specs.Numberings.{number_at}
use Rattle.writer.specs.Outputs.{Wrote}
use Rattle.writer.specs.Writings.{numbered_field}
use Rattle.writer.proofs.NodeFields.{fields_more, front_long}
use Rattle.writer.proofs.Outputs.{wrote_more, room_left}
use Rattle.writer.proofs.write.write_nodes.Goals as goal
use Rattle.writer.proofs.write.write_nodes.Goals.{After-write}

pub write-requires : goal.write-requires
write-requires g c = omega (arith, room_left c.loop-node.invariant, front_long c.args.numbering.now.numbers (g.T.Tree.nodes c.args.tree.now) (c.loop-node.node - 1) (omega arith))

-- the field of the node is written behind those before it
field_wrote : (g : _) (c : After-write g) → Wrote c.args.output.now (flat_map (numbered_field c.args.numbering.now.numbers) (take c.loop-node.node (g.T.Tree.nodes c.args.tree.now))) c.write.new.self
field_wrote g c =
    let ns = g.T.Tree.nodes c.args.tree.now in
    let numbers = c.args.numbering.now.numbers in
    let k = c.loop-node.node in
    let part = get_or c.to_be_bytes.result 0 0 ∷ get_or c.to_be_bytes.result 1 0 ∷ c.depth.result ∷ [] in
    let number : c.unwrap_or-number.result ≡ number_at numbers (label_at ns k) = c.unwrap_or-number.ensures ∙ ap (λ (o : Option ℕ). unwrap_or o 0) c.number.ensures ∙ ap (number_at numbers) c.label.ensures in
    let bytes : c.to_be_bytes.result ≡ two (number_at numbers (label_at ns k)) = c.to_be_bytes.ensures ∙ ap two number in
    let field : part ≡ numbered_field numbers (node_at ns k) = ap₂ (λ (x : List ℕ) (d : ℕ). get_or x 0 0 ∷ get_or x 1 0 ∷ d ∷ []) bytes c.depth.ensures in
    subst (λ (p : List ℕ). Wrote c.args.output.now p c.write.new.self)
    (ap (λ (z : List ℕ). flat_map (numbered_field numbers) (take (k - 1) ns) ++ z) field ∙ fields_more (numbered_field numbers) ns k (omega arith) (omega arith))
    (wrote_more c.loop-node.invariant c.write.ensures)

pub loop-node-preserved : goal.loop-node-preserved
loop-node-preserved g c =
    let e : c.loop-node.node ≡ c.loop-node.node + 1 - 1 = omega arith in
    subst (λ (k : ℕ). Wrote c.args.output.now (flat_map (numbered_field c.args.numbering.now.numbers) (take k (g.T.Tree.nodes c.args.tree.now))) c.write.new.self) e (field_wrote g (goal.at.loop-node-preserved g c).After-write)

pub returns-2 : goal.returns-2
returns-2 g c =
    subst (λ (s : List _). Wrote c.args.output.now (flat_map (numbered_field c.args.numbering.now.numbers) s) c.write.new.self) (take_all c.loop-node.node (g.T.Tree.nodes c.args.tree.now) (omega arith)) (field_wrote g (goal.at.returns-2 g c).After-write)
