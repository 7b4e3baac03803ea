use Rattle.std.proofs.Common.{◌≡◌, ℕ, ◌+◌, ◌*◌, ◌^◌, ◌&&◌, Bool, get_or, bit_or, bit_and, sym, ap, ◌∙◌, ap₂, subst, arith}
use Rattle.std.proofs.lemmas.Nat.{pow-add}
use Rattle.walk.specs.Marks.{bit, from, any_step}
use Rattle.walk.proofs.Words.{Built, built_next, built_no}
use Rattle.walk.proofs.marks.Marks.child.Goals as goal
use Rattle.walk.proofs.marks.Marks.child.Goals.{then-admits, else-admits}

pub loop-step-preserved : goal.loop-step-preserved
loop-step-preserved c =
    let q = c.args.steps.now in
    let p = c.args.self in
    let l = c.args.label in
    let i = c.loop-step.step-index in
    let b = c.loop-step.invariant.0 in
    let power : c.loop-step.mark ≡ 2 ^ i = c.loop-step.invariant.1 in
    let reaches = bit (from (get_or q i any_step).axis p) i in (
      elim c.if-admits.branch [
        | then-admits w ↦
            subst (Built q p l (i + 1)) (sym (w.here-is ∙ ap₂ (λ (f m : ℕ). bit_or c.loop-step.here (2 * bit_and f m)) w.from.ensures power))
            (built_next q p l i c.loop-step.here (from (get_or q i any_step).axis p) b (ap (λ (a : Bool). a && reaches) (sym c.admits.ensures ∙ w.if-admits.true)))
        | else-admits w ↦
            subst (Built q p l (i + 1)) (sym w.here-is) (built_no q p l i c.loop-step.here b (ap (λ (a : Bool). a && reaches) (sym c.admits.ensures ∙ w.if-admits.false)))
      ],
      omega (arith, power, pow-add 2 i 1),
    )
