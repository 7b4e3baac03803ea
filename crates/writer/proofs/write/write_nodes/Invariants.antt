use Rattle.std.proofs.Common.{◌-◌, take}
use Rattle.std.specs.List.{flat_map}
use Rattle.writer.specs.Outputs.{Wrote}
use Rattle.writer.specs.Writings.{numbered_field}
use Rattle.writer.proofs.write.write_nodes.Given as goal

abbrev pub invariant-loop-node : goal.invariant-loop-node
invariant-loop-node g l = Wrote l.initial.output (flat_map (numbered_field l.numbering.numbers) (take (l.node - 1) (g.T.Tree.nodes l.tree))) l.output
