use Rattle.std.proofs.Common.{◌≡◌, ℕ, ◌+◌, ◌*◌, length, sym, ap, ◌∙◌, rules}
use Rattle.std.specs.List.{sum_by}
use Rattle.names.specs.NameLists.{listed}
use Rattle.writer.specs.Writings.{numbered_image}
use Rattle.writer.proofs.Lengths.{lengths_most}
use Rattle.writer.proofs.Images.{image_long, too_short, all_written}
use Rattle.writer.proofs.write.write.Goals as goal
use Rattle.writer.proofs.write.write.Goals.{After-image_length-length}

pub overflow_cast-result : goal.overflow_cast-result
overflow_cast-result g c =
    let n = c.in_ok-numbering.numbering in
    let names = lengths_most n.names.items n.short n.few in
    let nodes = (g.T.Tree.keeps c.args.tree.now).most in
    let count = c.count.ensures in
    let value = c.image_length-length.ensures.value in
    search rules

-- the length of the image that is written
value : (g : _) (c : After-image_length-length g) → c.image_length-length.result ≡ length (numbered_image c.in_ok-numbering.numbering (g.T.Tree.nodes c.args.tree.now))
value g c =
    let n = c.in_ok-numbering.numbering in
    c.image_length-length.ensures.value ∙ ap (λ (k : ℕ). 9 + (sum_by (λ name. 1 + length name.now) n.names.items + 3 * k)) c.count.ensures ∙ sym (image_long n (g.T.Tree.nodes c.args.tree.now))

pub returns-then-out-length : goal.returns-then-out-length
returns-then-out-length g c =
    let done = c.in_ok-numbering.ensures in
    too_short (listed c.args.names.now) (g.T.Tree.nodes c.args.tree.now) c.in_ok-numbering.numbering (g.T.Tree.keeps c.args.tree.now) done.0 done.1 c.image_length-length.result (value g (goal.at.returns-then-out-length g c).After-image_length-length) c.args.out.now c.if-out-length.true

pub write_all-requires-clause-value : goal.write_all-requires-clause-value
write_all-requires-clause-value g c = value g (goal.at.write_all-requires-clause-value g c).After-image_length-length

pub returns : goal.returns
returns g c =
    let done = c.in_ok-numbering.ensures in
    all_written (listed c.args.names.now) (g.T.Tree.nodes c.args.tree.now) c.in_ok-numbering.numbering (g.T.Tree.keeps c.args.tree.now) done.0 done.1 c.image_length-length.result (value g (goal.at.returns g c).After-image_length-length) c.args.out.now c.write_all.new.out c.if-out-length.false c.write_all.ensures
