use Rattle.tags.proofs.Complete.{one_tag}
use Rattle.tags.proofs.laws.one_tag_at_a_place.Goals as goal

pub returns : goal.returns
returns c = one_tag
