use Rattle.std.proofs.Common.{arith}
use Rattle.image_lines.proofs.text.round_trip.Goals as goal

pub written-requires : goal.written-requires
written-requires g c = omega (arith, c.as_mut_slice.ensures.len, c.in_ok-out.ensures.len)
