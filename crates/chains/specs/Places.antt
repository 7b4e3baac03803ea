-- Which places can be held. Assumes nothing.
--     Few ps   each place that one of ps holds is one of the first 65,535
use Rattle.std.specs.Prelude.{◌≡◌, ℕ, ◌<◌, List, Option, Some, None, slice_index_or}

abbrev pub Few : List (Option ℕ) → Type 0
Few ps = (k at : ℕ) → slice_index_or ps k None ≡ Some at → at < 65535
