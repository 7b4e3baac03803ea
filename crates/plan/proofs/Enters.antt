-- What it means that nothing hinders a node.
use Rattle.std.proofs.Common.{◌≡◌, ℕ, ◌<◌, ◌≤◌, Bool, true, false, cond, ◌&&◌, eqb, ltb, leb, Some, None, Option, sym, refl, ⊎_elim, arith}
use Rattle.std.proofs.lemmas.Bool.{ltb-false, leb-false, and_cases}
use Rattle.std.proofs.lemmas.Option.{none-some}
use Rattle.plan.specs.declared.counts.Room.{Room}
use Rattle.plan.specs.declared.fault.Rule.TheVariants.{Outside, LongName, TooDeep, NodesFull, NamesFull}
use Rattle.plan.specs.Plans.{hindrance}

cond_none : {A : Type 0} (b : Bool) (x : A) (o : Option A) → cond b (Some x) o ≡ None → (b ≡ false) × (o ≡ None)
cond_none true x o e = absurd (none-some x (sym e))
cond_none false x o e = (refl, e)

-- nothing hinders the node
pub record Free (m : Room) (o n k l f : ℕ) : Type 0 where
  pub inside : (eqb o 0 && ltb 0 n) ≡ false
  pub short : l ≤ 64
  pub shallow : o < 64
  pub nodes : n < m.nodes
  pub names : k ≤ f → k < m.names

pub hindrance_none : (m : Room) (o n k l f : ℕ) → hindrance m o n k l f ≡ None → Free m o n k l f
hindrance_none m o n k l f e =
    let a = cond_none (eqb o 0 && ltb 0 n) Outside _ e in
    let b = cond_none (ltb 64 l) LongName _ a.1 in
    let c = cond_none (leb 64 o) TooDeep _ b.1 in
    let d = cond_none (leb m.nodes n) NodesFull _ c.1 in
    let g = cond_none (leb k f && leb m.names k) NamesFull None d.1 in
    record {
      inside = a.0;
      short = ltb-false 64 l b.0;
      shallow = leb-false 64 o c.0;
      nodes = leb-false m.nodes n d.0;
      names = λ h. ⊎_elim (λ x. absurd (omega (arith, leb-false k f x))) (λ x. leb-false m.names k x) (and_cases (leb k f) (leb m.names k) g.0);
    }
