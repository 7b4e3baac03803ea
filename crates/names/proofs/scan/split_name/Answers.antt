use Rattle.std.proofs.Common.{◌≡◌, ◌-◌, length, take, ap, ◌∙◌, arith}
use Rattle.names.specs.Bytes.{name_byte}
use Rattle.names.specs.Words.{after}
use Rattle.names.proofs.Runs.{after_le, front_is}
use Rattle.names.proofs.scan.split_name.Goals as goal

pub overflow_sub-result : goal.overflow_sub-result
overflow_sub-result c = omega (arith, after_le name_byte c.args.text.now, ap length c.past-rest.ensures)

pub returns : goal.returns
returns c =
    let s = c.args.text.now in
    let long : length s - length c.past-rest.result.now - 0 ≡ length s - length (after name_byte s) = omega (arith, ap length c.past-rest.ensures) in
    record { name = ap (λ n. take n s) long ∙ front_is name_byte s; rest = c.past-rest.ensures }
