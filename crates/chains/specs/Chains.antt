-- Places that hold the same key, linked from the newest to the oldest. Assumes nothing.
--     Links             for each key its newest place, and for each place the one before it with the same key, if any
--     links c           those of the chains c
--     unlinked n m      those of n keys and m places of which none holds a key
--     hooked l at key   the links l with `at` as the newest place that holds the key
--     latest ks b k     of the first k keys the last place that holds b, if any
--     Chained ks l      l are the links of places that hold the keys ks
use Rattle.std.specs.Prelude.{◌≡◌, ℕ, zero, suc, ◌<◌, Bool, cond, ◌&&◌, List, length, replicate, Some, None, Option, ◌==◌, nat_lt, slice_index, slice_index_or, slice_set}
use Rattle.chains.specs.declared.chain.Chain.{Chain}

pub record Links : Type 0 where
  pub heads : List (Option ℕ)
  pub nexts : List (Option ℕ)

abbrev pub links : {n m : ℕ} → Chain n m → Links
links c = record { heads = c.heads; nexts = c.nexts }

abbrev pub unlinked : ℕ → ℕ → Links
unlinked n m = record { heads = replicate n None; nexts = replicate m None }

-- there are such a place, of the first 65,535, and such a key
abbrev pub inside : Links → ℕ → ℕ → Bool
inside l at key = nat_lt at 65535 && (nat_lt at (length l.nexts) && nat_lt key (length l.heads))

abbrev pub hooked : Links → ℕ → ℕ → Links
hooked l at key = cond (inside l at key) (record { heads = slice_set l.heads key (Some at); nexts = slice_set l.nexts at (slice_index_or l.heads key None) }) l

abbrev pub latest : List ℕ → ℕ → ℕ → Option ℕ
latest ks b zero = None
latest ks b (suc k) = cond (slice_index ks k == b) (Some k) (latest ks b k)

pub record Chained (ks : List ℕ) (l : Links) : Type 0 where
  pub tops : (b : ℕ) → slice_index_or l.heads b None ≡ latest ks b (length ks)
  pub hooks : (k : ℕ) → k < length ks → slice_index_or l.nexts k None ≡ latest ks (slice_index ks k) k
