-- What is printed of a refusal. Assumes nothing.
--     told_text n p     the refusal n at the place p: `refused 42 at 0`
use Rattle.std.specs.Prelude.{ℕ, List, ◌++◌, codes, decimal}

abbrev pub told_text : ℕ → ℕ → List ℕ
told_text n p = codes "refused " ++ (decimal n ++ (codes " at " ++ decimal p))
