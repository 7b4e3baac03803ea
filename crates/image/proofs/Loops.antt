-- One name more, and one node more.
use Rattle.std.proofs.Common.{◌≡◌, ℕ, suc, ◌+◌, ◌-◌, ◌<◌, max, cond, ◌&&◌, List, [], ◌∷◌, ◌++◌, Some, None, Err, Result, ap, arith}
use Rattle.tree.specs.Nodes.{shape}
use Rattle.stored.specs.Openings.{name_field_at, names_at, in_turn, node_field_at, nodes_at}

pub names_step : (n i : ℕ) (ms : List (List ℕ)) (s : List ℕ) → i < n → names_at (n - i) ms s ≡ elim (name_field_at ms s) as (λ _. Result (List (List ℕ) × List ℕ) (List ℕ)) [ None ↦ Err s | Some p ↦ names_at (n - (i + 1)) (ms ++ p.0 ∷ []) p.1 ]
names_step n i ms s l = let less : n - i ≡ suc (n - (i + 1)) = omega arith in ap (λ (k : ℕ). names_at k ms s) less

pub nodes_step : (k n i g d : ℕ) (s : List ℕ) → i < n
    → nodes_at k (n - i) g d s ≡ elim (node_field_at s) as (λ _. Result (ℕ × List ℕ) (List ℕ)) [ None ↦ Err s | Some p ↦ cond (in_turn k g p.0.0 && shape d p.0.0 p.0.1) (nodes_at k (n - (i + 1)) (max g p.0.0) p.0.1 p.1) (Err s) ]
nodes_step k n i g d s l = let less : n - i ≡ suc (n - (i + 1)) = omega arith in ap (λ (j : ℕ). nodes_at k j g d s) less
