use Rattle.std.proofs.Common.{refl}
use Rattle.names.specs.Lists.{name_list}
use Rattle.names.proofs.list.NameList.new.Goals as goal

pub invariant_of-result : goal.invariant_of-result
unfolding name_list
invariant_of-result c = record { good = refl }
