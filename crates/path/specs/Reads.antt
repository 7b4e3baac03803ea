-- What the parts of the question reader answer. Assumes nothing.
--     test_of ms s, step_of ms s     the test and the step that s begins with, where ms are the names that have numbers, and what follows
use Rattle.std.specs.Prelude.{ℕ, List, Option}
use Rattle.std.specs.Option.{option_map}
use Rattle.tree.specs.declared.step.Test.{Test}
use Rattle.tree.specs.declared.step.Step.{Step}
use Rattle.path.specs.Wordings.{test_meant, meant, test_at, first_step}

abbrev pub test_of : List (List ℕ) → List ℕ → Option (Test × List ℕ)
test_of ms s = option_map (λ p. (test_meant ms p.0, p.1)) (test_at s)

abbrev pub step_of : List (List ℕ) → List ℕ → Option (Step × List ℕ)
step_of ms s = option_map (λ p. (meant ms p.0, p.1)) (first_step s)
