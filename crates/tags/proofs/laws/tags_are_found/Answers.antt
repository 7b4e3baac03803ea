use Rattle.tags.proofs.Sound.{scan_sound}
use Rattle.tags.proofs.Complete.{scan_complete}
use Rattle.tags.proofs.laws.tags_are_found.Goals as goal

pub returns : goal.returns
returns c = λ s t r. (scan_complete s t r, scan_sound s t r)
