use Rattle.std.proofs.Common.{◌≡◌, ◌+◌, ◌≤◌, length, arith, rules}
use Rattle.std.specs.List.{sum_by}
use Rattle.writer.proofs.Lengths.{lengths_most}
use Rattle.writer.proofs.numbering.Numbering.image_length.Goals as goal
use Rattle.writer.proofs.numbering.Numbering.image_length.Goals.{After-sum-names}

pub sum-names-requires-clause-fits : goal.sum-names-requires-clause-fits
sum-names-requires-clause-fits c =
    let n = c.args.self.now in
    let most = lengths_most n.names.items n.short n.few in
    search rules

sum_most : (c : After-sum-names) → c.sum-names.result ≤ 33280
sum_most c =
    let n = c.args.self.now in
    let most = lengths_most n.names.items n.short n.few in
    let sum : c.sum-names.result ≡ sum_by (λ name. 1 + length name.now) n.names.items = search rules in
    omega arith

pub overflow_add-result : goal.overflow_add-result
overflow_add-result c = let most = sum_most (goal.at.overflow_add-result c).After-sum-names in search rules

pub overflow_add-result-2 : goal.overflow_add-result-2
overflow_add-result-2 c = let most = sum_most (goal.at.overflow_add-result-2 c).After-sum-names in search rules
