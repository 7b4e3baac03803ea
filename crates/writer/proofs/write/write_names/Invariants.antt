use Rattle.std.proofs.Common.{take}
use Rattle.std.specs.List.{flat_map}
use Rattle.stored.specs.Images.{name_field}
use Rattle.writer.specs.Outputs.{Wrote}
use Rattle.writer.proofs.write.write_names.Given as goal

abbrev pub invariant-loop-name : goal.invariant-loop-name
invariant-loop-name l = Wrote l.initial.output (flat_map (λ name. name_field name.now) (take l.name-index l.name-items)) l.output
