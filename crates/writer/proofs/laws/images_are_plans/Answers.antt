use Rattle.writer.proofs.SamePlans.{images_are_of_plans}
use Rattle.writer.proofs.laws.images_are_plans.Goals as goal

pub returns : goal.returns
returns c = images_are_of_plans
