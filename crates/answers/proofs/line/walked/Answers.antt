use Rattle.walk.proofs.Picks.{never_refused}
use Rattle.answers.proofs.line.walked.Goals as goal

pub returns-in-Err : goal.returns-in-Err
returns-in-Err g c =
    absurd (never_refused (g.T.Tree.nodes c.args.tree.now) c.args.steps.now _ c.in-Err.fault _ c.requires (g.T.Tree.keeps c.args.tree.now).most c.in-Err.ensures.walked)
