-- What an image shows, and what opening bytes does to it. Assumes nothing.
--     shown i                   the names and nodes that the image i shows
--     Opens s before r after    opening the bytes s answers r and turns the image `before` into `after`
--     Judged s r after          r is an Ok exactly if the bytes s are the image of a plan, and `after` then shows that plan
use Rattle.std.specs.Prelude.{◌≡◌, ℕ, List, Ok, Err, Result, ◌≢◌}
use Rattle.stored.specs.declared.fault.ImageFault.{ImageFault}
use Rattle.stored.specs.Plans.{Named, Stored, stored, Storable}
use Rattle.stored.specs.Images.{image}
use Rattle.stored.specs.Openings.{opened}
use Rattle.image.specs.Named.{names_in}
use Rattle.image.specs.Numbered.{numbered}
use Rattle.image.specs.declared.image.Image.{Image}

abbrev pub shown : Image → Stored
shown i = record { names = names_in i.count i.names.now; nodes = numbered 1 i.nodes.now }

abbrev pub Opens : List ℕ → Image → Result (Unit {0}) ImageFault → Image → Type 0
Opens s before (Ok u) after = opened s ≡ Ok (shown after)
Opens s before (Err e) after = (opened s ≡ Err e) × (after ≡ before)

abbrev pub Judged : List ℕ → Result (Unit {0}) ImageFault → Image → Type 0
Judged s (Ok u) after = (ps : List Named) × Storable ps × (s ≡ image ps) × (shown after ≡ stored ps)
Judged s (Err e) after = (ps : List Named) → Storable ps → s ≢ image ps
