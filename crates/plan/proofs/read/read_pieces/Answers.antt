use Rattle.std.proofs.Common.{[], sym, subst}
use Rattle.plan.specs.Hashes.{Findable}
use Rattle.plan.proofs.Hashed.{findable_none}
use Rattle.plan.proofs.read.read_pieces.Goals as goal

pub invariant_of-draft-clause-findable : goal.invariant_of-draft-clause-findable
invariant_of-draft-clause-findable c = subst (Findable []) (sym c.new.ensures) (findable_none 1024 512)
