use Rattle.chains.proofs.Searches.{upto}
use Rattle.plan.specs.Drafts.{names_of}
use Rattle.plan.proofs.Hashed.{Sought}
use Rattle.plan.proofs.draft.Draft.find_name.Given as goal

abbrev pub invariant-loop-place : goal.invariant-loop-place
invariant-loop-place l = Sought (names_of l.self) l.name l.place

abbrev pub decreases-loop-place : goal.decreases-loop-place
decreases-loop-place l = upto l.place
