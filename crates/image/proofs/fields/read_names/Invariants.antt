use Rattle.std.proofs.Common.{◌≡◌, ◌-◌, [], length, take}
use Rattle.names.specs.Lists.{texts}
use Rattle.stored.specs.Openings.{names_at}
use Rattle.image.proofs.fields.read_names.Given as goal

abbrev pub invariant-loop-done : goal.invariant-loop-done
invariant-loop-done l = record {
  kept : length l.slots ≡ length l.initial.slots;
  read : names_at (length l.slots - l.done) (texts (take l.done l.slots)) l.rest ≡ names_at (length l.slots) [] l.fields;
}
