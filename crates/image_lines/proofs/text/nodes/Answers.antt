use Rattle.std.proofs.Common.{◌≡◌, ℕ, ◌+◌, ◌-◌, List, ◌++◌, take, ap, ◌∙◌, ap₂, arith}
use Rattle.names.specs.NameLists.{listed}
use Rattle.tree.specs.Nodes.{node_at, depth_at}
use Rattle.stored.specs.Plans.{name_at}
use Rattle.writer.proofs.NodeFields.{fields_more}
use Rattle.image_lines.specs.Texts.{node_line, node_lines, label_line}
use Rattle.image_lines.proofs.text.nodes.Goals as goal

pub loop-node-preserved : goal.loop-node-preserved
loop-node-preserved g c =
    let ms = listed c.args.names.now in
    let ns = g.T.Tree.nodes c.args.tree.now in
    let k = c.loop-node.node in
    let line : c.as_slice.result.now ≡ node_line ms (node_at ns k) =
    c.as_slice.ensures.value
    ∙ c.in_ok-line.ensures
    ∙ ap₂ (λ (d : ℕ) (n : List ℕ). label_line c.label-label.result d n) c.depth.ensures c.name_of.ensures
    ∙ ap (λ (l : ℕ). label_line l (depth_at ns k) (name_at ms l)) c.label-label.ensures in
    let next : k ≡ k + 1 - 1 = omega arith in
    c.in_ok-extend_from_slice.ensures.items
    ∙ ap₂ (λ (x : List ℕ) (y : List ℕ). x ++ y) c.loop-node.invariant line
    ∙ fields_more (node_line ms) ns k (omega arith) (omega arith)
    ∙ ap (λ (j : ℕ). node_lines ms (take j ns)) next
