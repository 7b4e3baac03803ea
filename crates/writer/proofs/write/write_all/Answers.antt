use Rattle.std.proofs.Common.{◌≡◌, ℕ, ◌-◌, List, ◌∷◌, ◌++◌, length, drop, sym, ap, ◌∙◌, ap₂, arith, rules}
use lib.ListN.{length-map}
use Rattle.std.specs.List.{flat_map}
use Rattle.stored.specs.Bytes.{two, four}
use Rattle.stored.specs.Images.{name_field}
use Rattle.writer.specs.Numberings.{ordered}
use Rattle.writer.specs.Writings.{numbered_field, numbered_body, numbered_image}
use Rattle.writer.proofs.Images.{image_long}
use Rattle.writer.proofs.Lengths.{lengths_most, length_fields_of}
use Rattle.writer.proofs.Outputs.{wrote_more, room_left, whole}
use Rattle.writer.proofs.write.write_all.Goals as goal

pub overflow_cast-body : goal.overflow_cast-body
overflow_cast-body g c =
    let n = c.args.numbering.now in
    let names = lengths_most n.names.items n.short n.few in
    let nodes = (g.T.Tree.keeps c.args.tree.now).most in
    let value = c.requires.value ∙ image_long n (g.T.Tree.nodes c.args.tree.now) in
    search rules

pub write_nodes-requires : goal.write_nodes-requires
write_nodes-requires g c =
    let long = image_long c.args.numbering.now (g.T.Tree.nodes c.args.tree.now) in
    let names = length_fields_of c.args.numbering.now.names.items in
    let b4 : length c.to_be_bytes.result ≡ 4 = ap length c.to_be_bytes.ensures in
    let b2 : length c.to_be_bytes-2.result ≡ 2 = ap length c.to_be_bytes-2.ensures in
    let d2 : length c.to_be_bytes-3.result ≡ 2 = ap length c.to_be_bytes-3.ensures in
    omega (arith, c.requires.room, c.requires.value, long, names, ap length c.new-output.ensures.rest, room_left c.write.ensures, room_left c.write-2.ensures, room_left c.write-3.ensures, room_left c.write_names.ensures, room_left c.write-4.ensures)

pub returns : goal.returns
returns g c =
    let n = c.args.numbering.now in
    let ns = g.T.Tree.nodes c.args.tree.now in
    let header : c.args.length - 5 ≡ length (numbered_body n ns) = omega (arith, c.requires.value) in
    let many : length c.names.result.now ≡ length (ordered n) = ap length c.names.ensures ∙ sym (length-map n.names.items (λ x. x.now)) in
    let a = c.to_be_bytes.ensures ∙ ap four header in
    let b = c.to_be_bytes-2.ensures ∙ ap two many in
    let d = c.to_be_bytes-3.ensures ∙ ap two c.count.ensures in
    let long : length (numbered_image n ns) ≡ c.args.length = sym c.requires.value in
    let nodes = flat_map (numbered_field n.numbers) ns in
    let fields = flat_map name_field (ordered n) in
    let all = wrote_more c.write.ensures (wrote_more c.write-2.ensures (wrote_more c.write-3.ensures (wrote_more c.write_names.ensures (wrote_more c.write-4.ensures c.write_nodes.ensures)))) in
    let bytes = whole c.args.out.now c.new-output.ensures.written c.new-output.ensures.rest all in
    let back : c.write_nodes.new.output.bytes.now ≡ numbered_image n ns ++ drop (length (numbered_image n ns)) c.args.out.now =
    bytes
    ∙ ap₂ (λ (x : List ℕ) (y : List ℕ). let z = 1 ∷ (x ++ (y ++ (fields ++ (c.to_be_bytes-3.result ++ nodes)))) in z ++ drop (length z) c.args.out.now) a b
    ∙ ap (λ (x : List ℕ). let z = 1 ∷ (four (length (numbered_body n ns)) ++ (two (length (ordered n)) ++ (fields ++ (x ++ nodes)))) in z ++ drop (length z) c.args.out.now) d in
    search rules ∙ back ∙ ap (λ (k : ℕ). numbered_image n ns ++ drop k c.args.out.now) long
