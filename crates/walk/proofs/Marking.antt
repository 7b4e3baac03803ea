-- The marks of a node follow from those of its parent.
use Rattle.std.proofs.Common.{◌≡◌, ℕ, zero, suc, ◌<◌, ◌≤◌, Bool, false, ◌&&◌, ◌||◌, List, [], ◌∷◌, ◌++◌, length, get_or, take, sym, refl, ap, ◌∙◌, ap₂, add-one, arith}
use lib.Bits.{bit_or}
use Rattle.std.proofs.lemmas.List.{take_more}
use Rattle.std.proofs.lemmas.Bool.{ne_eqb}
use Rattle.std.proofs.Math.Bool.{or-false}
use Rattle.tree.specs.Nodes.{Node, count, label_at}
use Rattle.tree.specs.Paths.{parent, member, admits, reached, chosen, select, follow, selects, root}
use Rattle.tree.proofs.Paths.{met_up, member_in, member_out}
use Rattle.tree.specs.declared.step.Axis.{Axis}
use Rattle.tree.specs.declared.step.Axis.TheVariants.{Child, Descendant}
use Rattle.tree.specs.declared.step.Step.{Step}
use Rattle.walk.specs.declared.marks.Marks.{Marks}
use Rattle.walk.specs.Marks.{bit, from, hit, any_step, ends, over, Marked}
use Rattle.walk.proofs.Words.{bit_one, bit_at_or}

pub member_select : (ns : List Node) (s : List ℕ) (p : Step) (k : ℕ) → 1 ≤ k → k ≤ count ns → member (select ns s p) k ≡ chosen ns s p k
unfolding select
member_select ns s p k a b = member_in (chosen ns s p) (count ns) 1 k a (omega arith)

no_document : (ns : List Node) (s : List ℕ) (p : Step) → member (select ns s p) 0 ≡ false
unfolding select
no_document ns s p = member_out (chosen ns s p) (count ns) 1 0 (omega arith)

follow_last : (ns : List Node) (s : List ℕ) (q : List Step) (p : Step) → follow ns s (q ++ p ∷ []) ≡ select ns (follow ns s q) p
follow_last ns s [] p = refl
follow_last ns s (r ∷ q) p = follow_last ns (select ns s r) q p

-- one step more
pub selects_next : (ns : List Node) (q : List Step) (i : ℕ) → i < length q → selects ns (take (suc i) q) ≡ select ns (selects ns (take i q)) (get_or q i any_step)
selects_next ns q i l =
    ap (λ (j : ℕ). selects ns (take j q)) (sym (add-one i)) ∙ ap (selects ns) (take_more q i any_step l) ∙ follow_last ns root (take i q) (get_or q i any_step)

pub ends_next : (ns : List Node) (q : List Step) (i k : ℕ) → i < length q → 1 ≤ k → k ≤ count ns → ends ns q (suc i) k ≡ chosen ns (selects ns (take i q)) (get_or q i any_step) k
unfolding ends
ends_next ns q i k l a b = ap (λ (s : List ℕ). member s k) (selects_next ns q i l) ∙ member_select ns (selects ns (take i q)) (get_or q i any_step) k a b

ends_none : (ns : List Node) (q : List Step) (k : ℕ) → 1 ≤ k → ends ns q 0 k ≡ false
unfolding ends
ends_none ns q k l = ap (λ (b : Bool). b || false) (ne_eqb 0 k (λ e. omega arith))

ends_document : (ns : List Node) (q : List Step) (i : ℕ) → i < length q → ends ns q (suc i) 0 ≡ false
unfolding ends
ends_document ns q i l = ap (λ (s : List ℕ). member s 0) (selects_next ns q i l) ∙ no_document ns (selects ns (take i q)) (get_or q i any_step)

over_up : (ns : List Node) (q : List Step) (i k : ℕ) → 1 ≤ k → over ns q i k ≡ (ends ns q i k || over ns q i (parent ns k))
unfolding over ends
over_up ns q i k l = ap (λ (b : Bool). member (selects ns (take i q)) k || b) (met_up ns (selects ns (take i q)) k l)

over_document : (ns : List Node) (q : List Step) (i : ℕ) → over ns q i 0 ≡ ends ns q i 0
unfolding over
over_document ns q i = or-false (ends ns q i 0)

document_bit : (ns : List Node) (q : List Step) (i : ℕ) → i ≤ length q → bit 1 i ≡ ends ns q i 0
unfolding ends
document_bit ns q zero l = refl
document_bit ns q (suc i) l = bit_one i ∙ sym (ends_document ns q i (omega arith))

pub marked_document : (ns : List Node) (q : List Step) → Marked ns q 0 (record { here = 1; over = 1 })
marked_document ns q = record { here = document_bit ns q; over = λ i l. document_bit ns q i l ∙ sym (over_document ns q i) }

-- the axis of a step looks at the parent's marks
axis_bit : (ns : List Node) (q : List Step) (k i : ℕ) (p : Marks) (x : Axis) → 1 ≤ k → i ≤ length q → Marked ns q (parent ns k) p → bit (from x p) i ≡ reached ns (selects ns (take i q)) x k
unfolding over ends
axis_bit ns q k i p Child a l h = h.here i l
axis_bit ns q k i p Descendant a l h = h.over i l ∙ sym (met_up ns (selects ns (take i q)) k a)

module _ (ns : List Node) (q : List Step) (k : ℕ) (p : Marks) (w : ℕ) (a : 1 ≤ k) (b : k ≤ count ns) (h : Marked ns q (parent ns k) p)
    (none : bit w 0 ≡ false) (bits : (i : ℕ) → i < length q → bit w (suc i) ≡ hit (get_or q i any_step) i p (label_at ns k)) where
  pub word_bit : (i : ℕ) → i ≤ length q → bit w i ≡ ends ns q i k
  unfolding chosen
  word_bit zero l = none ∙ sym (ends_none ns q k a)
  word_bit (suc i) l =
      bits i (omega arith)
      ∙ ap (λ (v : Bool). admits (get_or q i any_step).test (label_at ns k) && v) (axis_bit ns q k i p (get_or q i any_step).axis a (omega arith) h)
      ∙ sym (ends_next ns q i k (omega arith) a b)

  pub marked_below : (x : Marks) → x.here ≡ w → x.over ≡ bit_or w p.over → Marked ns q k x
  marked_below x e f = record {
    here = λ i l. ap (λ (v : ℕ). bit v i) e ∙ word_bit i l;
    over = λ i l. ap (λ (v : ℕ). bit v i) f ∙ bit_at_or w p.over i ∙ ap₂ (λ (x : Bool) (y : Bool). x || y) (word_bit i l) (h.over i l) ∙ sym (over_up ns q i k a);
  }
