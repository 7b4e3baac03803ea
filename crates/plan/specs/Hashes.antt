-- Names that are found by a hash of their bytes. Assumes nothing.
--     hash_of s         the hash of the bytes s
--     Findable ms l     the names ms are distinct, and l links them by their hashes
use Rattle.std.specs.Prelude.{ℕ, ◌+◌, ◌*◌, ◌%◌, List, map, fold}
use Rattle.chains.specs.Chains.{Links, Chained}
use Rattle.names.specs.Lists.{Distinct}

unfoldable pub hash_of : List ℕ → ℕ
hash_of s = fold (λ h b. (h * 31 + b) % 1024) 0 s

pub record Findable (ms : List (List ℕ)) (l : Links) : Type 0 where
  pub distinct : Distinct ms
  pub chained : Chained (map hash_of ms) l
