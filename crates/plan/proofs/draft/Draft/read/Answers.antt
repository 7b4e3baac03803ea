use Rattle.std.proofs.Common.{Err, Result, sym, ap, ◌∙◌, subst}
use Rattle.std.proofs.lemmas.Result.{err_from_is_err_and}
use Rattle.plan.specs.declared.counts.Counts.{Counts}
use Rattle.plan.specs.declared.fault.PlanFault.{PlanFault}
use Rattle.plan.specs.Reads.{Reading}
use Rattle.tags.specs.Readers.{piece_of, piece_place}
use Rattle.plan.proofs.Sofar.{less, refused, one_more, ended, follows_on}
use Rattle.plan.proofs.draft.Draft.read.Goals as goal

pub loop-piece-smaller : goal.loop-piece-smaller
loop-piece-smaller c = less c.args.text.now c.args.self.now c.loop-piece.self c.loop-piece.reader c.loop-piece.invariant (piece_place c.in-Some.piece) (piece_of c.in-Some.piece) c.next.new.self c.in-Some.ensures.moved

pub loop-piece-preserved : goal.loop-piece-preserved
loop-piece-preserved c = one_more c.args.text.now c.args.self.now c.loop-piece.self c.loop-piece.reader c.loop-piece.invariant (piece_place c.in-Some.piece) (piece_of c.in-Some.piece) c.next.new.self c.in-Some.ensures.moved c.take.new.self c.in_ok-take.ensures.taken c.take.ensures.follows c.in-Some.ensures.text

pub returns-in_err-take-clause-read : goal.returns-in_err-take-clause-read
returns-in_err-take-clause-read c =
    let left = err_from_is_err_and c.from_residual.result c.from_residual.ensures.1 in
    let base = refused c.args.text.now c.args.self.now c.loop-piece.self c.loop-piece.reader c.loop-piece.invariant (piece_place c.in-Some.piece) (piece_of c.in-Some.piece) c.next.new.self c.in-Some.ensures.moved c.take.new.self c.in_err-take.field-0.0 c.in_err-take.ensures.taken c.in_err-take.ensures.refused in
    subst (λ (r : Result Counts PlanFault). Reading c.args.text.now r c.args.self.now.nodes.now c.take.new.self.nodes.now c.args.self.now.names.now c.take.new.self.names.now) (sym (left.1 ∙ ap Err left.2)) base

pub returns-in_err-take-clause-follows : goal.returns-in_err-take-clause-follows
returns-in_err-take-clause-follows c = follows_on c.args.self.now c.loop-piece.self c.take.new.self c.loop-piece.invariant.follows c.take.ensures.follows

pub returns-clause-read : goal.returns-clause-read
returns-clause-read c = ended c.args.text.now c.args.self.now c.loop-piece.self c.loop-piece.reader c.loop-piece.invariant c.finish.result c.in_default.ensures.moved c.finish.ensures
