use Rattle.std.proofs.Common.{refl}
use Rattle.std.specs.Fmt.{digits}
use Rattle.tree.specs.Paths.{select, chosen}
use Rattle.views.specs.Views.{under}
use Rattle.worked.proofs.table_is_worked.Goals as goal

pub returns : goal.returns
unfolding select chosen under digits
returns c = record {
  labels = refl;
  depths = refl;
  origins = refl;
  answered = (refl, (refl, (refl, (refl, (refl, (refl, (refl, tt)))))));
  hidden = refl;
  branched = refl;
  refused = (refl, (refl, (refl, (refl, tt))));
}
