-- A plan worked through: what the definitions give, as a table. Assumes nothing.
--     Worked     every row of the table is what the definitions give
use Rattle.std.specs.Prelude.{◌≡◌, ℕ, List, [], ◌∷◌, map, Ok, Err, codes, Result}
use Rattle.std.specs.List.{AllByRecursion}
use Rattle.tree.specs.Nodes.{Node}
use Rattle.tree.specs.Slots.{numbered}
use Rattle.plan.specs.Plans.{outcome, room, Seen}
use Rattle.plan.specs.Faults.{number, place}
use Rattle.plan.specs.declared.counts.Counts.{Counts}
use Rattle.plan.specs.declared.fault.PlanFault.{PlanFault}
use Rattle.names.specs.Lists.{number_of}
use Rattle.views.specs.Views.{branch, hide}
use Rattle.answers.specs.Lines.{answer_line, plan_refused_line}

abbrev pub plan_text : List ℕ
plan_text = codes "<PLAN><MON><LESSON/><DRAFT><LESSON/></DRAFT></MON><TUE><LESSON/></TUE></PLAN>"

abbrev pub read_plan : List ℕ → Result Counts PlanFault × Seen
read_plan text = outcome (room 4096 512) text

abbrev pub nodes : List Node
nodes = numbered 1 (read_plan plan_text).1.nodes

abbrev pub names : List (List ℕ)
names = (read_plan plan_text).1.names

-- a question and the line that answers it
abbrev pub Answers : List ℕ × List ℕ → Type 0
Answers row = answer_line nodes names row.0 ≡ row.1

abbrev pub refusal : Result Counts PlanFault → List ℕ
refusal (Ok c) = []
refusal (Err e) = plan_refused_line (number e) (place e)

-- a plan and the line that refuses it
abbrev pub Refuses : List ℕ × List ℕ → Type 0
Refuses row = refusal (read_plan row.0).0 ≡ row.1

abbrev pub questions : List (List ℕ × List ℕ)
questions =
    (codes "//LESSON", codes "3 3 5 7\n")
    ∷ (codes "//*/LESSON", codes "3 3 5 7\n")
    ∷ (codes "/PLAN/*/LESSON", codes "2 3 7\n")
    ∷ (codes "//MON//MON", codes "0\n")
    ∷ (codes "//*/*", codes "6 2 3 4 5 6 7\n")
    ∷ (codes "///A", codes "refused 42 at 0\n")
    ∷ (codes "/A*", codes "refused 42 at 2\n")
    ∷ []

abbrev pub plans : List (List ℕ × List ℕ)
plans =
    (codes "<A></B>", codes "plan refused 3 at 3\n")
    ∷ (codes "<A/><B/>", codes "plan refused 4 at 4\n")
    ∷ (codes "<A>", codes "plan refused 5 at 3\n")
    ∷ (codes "<?xml?>", codes "plan refused 2 at 0\n")
    ∷ []

pub record Worked : Type 0 where
  pub labels : map (λ (n : Node). n.label) nodes ≡ 1 ∷ 2 ∷ 3 ∷ 4 ∷ 3 ∷ 5 ∷ 3 ∷ []
  pub depths : map (λ (n : Node). n.depth) nodes ≡ 1 ∷ 2 ∷ 3 ∷ 3 ∷ 4 ∷ 2 ∷ 3 ∷ []
  pub origins : map (λ (n : Node). n.origin) nodes ≡ 1 ∷ 2 ∷ 3 ∷ 4 ∷ 5 ∷ 6 ∷ 7 ∷ []
  pub answered : AllByRecursion Answers questions
  pub hidden : answer_line (hide (number_of (codes "DRAFT") names ∷ []) nodes) names (codes "//LESSON") ≡ codes "2 3 7\n"
  pub branched : answer_line (branch 2 nodes) names (codes "/MON/LESSON") ≡ codes "1 3\n"
  pub refused : AllByRecursion Refuses plans
