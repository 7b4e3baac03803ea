-- Nodes that pass a test, where the parent of each but the first passes too: the first is the root.
use Rattle.std.proofs.Common.{◌≡◌, ℕ, zero, suc, ◌<◌, ◌≤◌, Bool, true, false, ◌⊎◌, List, ap, ⊎_elim, arith}
use Rattle.std.proofs.lemmas.Bool.{cases_Bool}
use Rattle.tree.specs.Nodes.{Node, Laws, count, depth_at}
use Rattle.tree.specs.Paths.{parent}
use Rattle.tree.proofs.Paths.{parent_depth, parent_lt}

-- r is a node that passes, at depth b + 1, and the parent of every other node that passes does too
pub record Rooted (ns : List Node) (f : ℕ → Bool) (r b : ℕ) : Type 0 where
  pub low : 1 ≤ r
  pub high : r ≤ count ns
  pub here : f r ≡ true
  pub top : depth_at ns r ≡ suc b
  pub up : (m : ℕ) → 1 ≤ m → m ≤ count ns → f m ≡ true → (m ≡ r) ⊎ ((1 ≤ parent ns m) × (f (parent ns m) ≡ true))

module _ (limit : ℕ) (ns : List Node) (laws : Laws limit ns) (f : ℕ → Bool) (r b : ℕ) (w : Rooted ns f r b) where
  pub after_root : (g m : ℕ) → m ≤ g → 1 ≤ m → m ≤ count ns → f m ≡ true → (r ≤ m) × (b < depth_at ns m)
  after_root zero m x a c h = absurd (omega arith)
  after_root (suc g) m x a c h = ⊎_elim
      (λ (e : m ≡ r). (omega arith, omega (arith, ap (depth_at ns) e, w.top)))
      (λ (p : (1 ≤ parent ns m) × (f (parent ns m) ≡ true)).
      let l = parent_lt ns m a in
      let q = after_root g (parent ns m) (omega arith) p.0 (omega arith) p.1 in
      (omega (arith, q.0), omega (arith, q.1, parent_depth limit ns laws m a c)))
      (w.up m a c h)

  pub before_root : (m : ℕ) → suc m < r → f (suc m) ≡ false
  before_root m l = ⊎_elim
      (λ (h : f (suc m) ≡ true). absurd (omega (arith, (after_root (suc m) (suc m) (omega arith) (omega arith) (omega (arith, w.high)) h).0)))
      (λ (h : f (suc m) ≡ false). h)
      (cases_Bool (f (suc m)))
