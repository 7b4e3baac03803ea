-- What the calls of a name list answer. Assumes nothing.
--     listed l               the names of the list l, in order
--     named ms k             the name with the number k among ms, from 1, if there is one
--     Sets new old r held    setting a list that holds `old` to the names `new` answers r, and it then holds `held`
use Rattle.std.specs.Prelude.{◌≡◌, ℕ, zero, suc, cond, List, [], length, Some, None, Ok, Err, Option, Result, nat_lt, slice_index_or}
use Rattle.names.specs.declared.list.NoNameList.{NoNameList}
use Rattle.names.specs.declared.list.NameList.{NameList}
use Rattle.names.specs.Lists.{texts, IsNameList}

abbrev pub listed : NameList → List (List ℕ)
listed l = texts l.names.now

abbrev pub named : List (List ℕ) → ℕ → Option (List ℕ)
named ms zero = None
named ms (suc k) = cond (nat_lt k (length ms)) (Some (slice_index_or ms k [])) None

abbrev pub Sets : List (List ℕ) → List (List ℕ) → Result (Unit {0}) NoNameList → List (List ℕ) → Type 0
Sets new old (Ok u) held = IsNameList new × (held ≡ new)
Sets new old (Err e) held = (IsNameList new → ⊥) × (held ≡ old)
