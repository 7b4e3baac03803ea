use Rattle.stored.proofs.Openings.{images_open, opened_are_images}
use Rattle.stored.proofs.Storable.{trees_are_plans}
use Rattle.stored.proofs.Turns.{plan_back}
use Rattle.stored.proofs.laws.images_tell_plans.Goals as goal

pub returns : goal.returns
returns c = record { plans = λ ps s. plan_back ps; trees = trees_are_plans; images = images_open; bytes = opened_are_images }
