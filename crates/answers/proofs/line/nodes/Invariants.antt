use Rattle.std.proofs.Common.{◌≡◌, ◌++◌, length, take, string_bytes, decimal}
use Rattle.std.specs.List.{flat_map}
use Rattle.answers.specs.Lines.{spaced}
use Rattle.answers.proofs.line.nodes.Given as goal

abbrev pub invariant-loop-origin : goal.invariant-loop-origin
invariant-loop-origin l = string_bytes l.line ≡ decimal (length l.origins) ++ flat_map spaced (take l.origin-index l.origins)
