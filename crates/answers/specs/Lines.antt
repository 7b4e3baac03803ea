-- The lines that the program prints, byte for byte. Assumes nothing.
--     nodes_line os             how many origins there are, and each of them: `3 3 5 7`
--     refused_line n p          the refusal n at the place p: `refused 42 at 0`
--     plan_refused_line n p     the same of a plan: `plan refused 5 at 3`
--     answer_line ns ms s       the answer to the question text s, asked of the nodes ns, whose labels are the numbers of the names ms
use Rattle.std.specs.Prelude.{ℕ, List, ◌++◌, length, Ok, Err, codes, decimal, Result}
use Rattle.std.specs.List.{flat_map}
use Rattle.tree.specs.Nodes.{Node}
use Rattle.tree.specs.Told.{told_text}
use Rattle.path.specs.Faults.{number, place}
use Rattle.path.specs.Questions.{step_room, answer, steps_read}
use Rattle.path.specs.declared.fault.QuestionFault.{QuestionFault}
use Rattle.walk.specs.Walks.{origins}

abbrev pub spaced : ℕ → List ℕ
spaced n = codes " " ++ decimal n

abbrev pub nodes_line : List ℕ → List ℕ
nodes_line os = decimal (length os) ++ (flat_map spaced os ++ codes "\n")

abbrev pub refused_line : ℕ → ℕ → List ℕ
refused_line n p = told_text n p ++ codes "\n"

abbrev pub plan_refused_line : ℕ → ℕ → List ℕ
plan_refused_line n p = codes "plan " ++ refused_line n p

-- the line for a question text with this answer, whose steps select nodes with the origins os
abbrev pub answered_line : List ℕ → Result ℕ QuestionFault → List ℕ
answered_line os (Ok n) = nodes_line os
answered_line os (Err e) = refused_line (number e) (place e)

abbrev pub answer_line : List Node → List (List ℕ) → List ℕ → List ℕ
answer_line ns ms s = answered_line (origins ns (steps_read ms (step_room 32) s)) (answer (step_room 32) s)
