-- The outcome of a text, piece after piece.
use Rattle.std.proofs.Common.{◌≡◌, ℕ, zero, suc, ◌-◌, ◌≤◌, ltb, List, [], ◌∷◌, length, Some, None, Ok, Err, Option, Result, sym, refl, ap, ◌∙◌, arith}
use Rattle.std.proofs.lemmas.Bool.{cond-false, le-ltb}
use Rattle.plan.specs.declared.counts.Counts.{Counts}
use Rattle.plan.specs.declared.counts.Room.{Room}
use Rattle.plan.specs.declared.fault.Rule.TheVariants.{TooLong}
use Rattle.plan.specs.declared.fault.PlanFault.{PlanFault}
use Rattle.tags.specs.Pieces.{Piece, first, pieces}
use Rattle.plan.specs.Plans.{Seen, nothing, step, finish, run, outcome}
use Rattle.plan.specs.Faults.{fault}
use Rattle.tags.proofs.Firsts.{first_shorter}

abbrev cut : ℕ → ℕ → List ℕ → Option (Piece × List ℕ) → List (ℕ × Piece)
cut f n s o = elim o [ None ↦ [] | Some p ↦ (n - length s, p.0) ∷ pieces f n p.1 ]

module _ (m : Room) (n : ℕ) (seen : Seen) (s : List ℕ) where
  pub run_end : (f : ℕ) → first s ≡ None → run m n seen (pieces f n s) ≡ (finish n seen, seen)
  run_end zero e = refl
  run_end (suc f) e = ap (λ (o : Option (Piece × List ℕ)). run m n seen (cut f n s o)) e

  module _ (p : Piece) (r : List ℕ) (got : first s ≡ Some (p, r)) where
    abbrev after_step : ℕ → Result Seen PlanFault → Result Counts PlanFault × Seen
    after_step f o = elim o [ Ok z ↦ run m n z (pieces f n r) | Err e ↦ (Err e, seen) ]

    run_one : (f : ℕ) → run m n seen (pieces (suc f) n s) ≡ after_step f (step m (n - length s) seen p)
    run_one f = ap (λ (o : Option (Piece × List ℕ)). run m n seen (cut f n s o)) got

    pub run_more : (f : ℕ) (next : Seen) → length s ≤ f → step m (n - length s) seen p ≡ Ok next → (g : ℕ) × (length r ≤ g) × (run m n next (pieces g n r) ≡ run m n seen (pieces f n s))
    run_more zero next h e = absurd (omega (arith, first_shorter s p r got))
    run_more (suc f) next h e = (f, omega (arith, first_shorter s p r got), sym (run_one f ∙ ap (after_step f) e))

    pub run_refused : (f : ℕ) (e : PlanFault) → length s ≤ f → step m (n - length s) seen p ≡ Err e → run m n seen (pieces f n s) ≡ (Err e, seen)
    run_refused zero e h d = absurd (omega (arith, first_shorter s p r got))
    run_refused (suc f) e h d = run_one f ∙ ap (after_step f) d

pub outcome_is : (m : Room) (text : List ℕ) → length text ≤ 65536 → run m (length text) nothing (pieces (length text) (length text) text) ≡ outcome m text
outcome_is m text h = sym (cond-false (ltb 65536 (length text)) (Err (fault TooLong 0), nothing) (run m (length text) nothing (pieces (length text) (length text) text)) (le-ltb 65536 (length text) h))
