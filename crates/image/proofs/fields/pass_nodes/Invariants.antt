use Rattle.std.proofs.Common.{◌≡◌, ◌-◌}
use Rattle.stored.specs.Openings.{nodes_at}
use Rattle.image.proofs.fields.pass_nodes.Given as goal

abbrev pub invariant-loop : goal.invariant-loop
invariant-loop l = nodes_at l.names (l.count - l.counter) l.turn.greatest l.turn.depth l.rest ≡ nodes_at l.names l.count 0 0 l.fields
