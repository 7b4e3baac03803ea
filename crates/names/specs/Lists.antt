-- Lists of names. Assumes nothing.
--     before n ms       how many names of ms stand before the first that is n; all of them where none is
--     place_of n ms     the place of the first name of ms that is n, from 0, if there is one
--     number_in n ms    the number of the name n among ms, from 1, if it is among them
--     number_of n ms    the same, or 0 where it is not among them
--     with_name n ms    the names ms with n among them
--     first_names f xs  the different names that f gives of xs, in the order of their first appearance
--     IsNameList ms      ms are at most 512 distinct names, each well-formed and of at most 64 bytes
--     name_list ms      the same as a test, for the invariant of a type
--     Numbered ms n r   r is the number of the name n among distinct names ms, or 0 where it is not among them
--     NumberedIn ms n r the same of a number that may be missing
use Rattle.std.specs.Prelude.{◌≡◌, ℕ, zero, suc, ◌<◌, ◌≤◌, Bool, true, false, cond, ◌&&◌, List, [], ◌∷◌, ◌++◌, map, length, fold, ◌==◌, ◌≢◌, Option, Some, None, nat_le, nat_lt, slice_index_or}
use Rattle.std.specs.Option.{option_map}
use Rattle.std.specs.Borrow.{Bor}
use Rattle.std.specs.List.{AllByRecursion}
use Rattle.std.specs.Str.{bytes_eq}
use Rattle.names.specs.Bytes.{name_start, name_byte}
use Rattle.names.specs.Words.{Word}

-- the texts that references refer to
abbrev pub texts : List (Bor (List ℕ)) → List (List ℕ)
texts rs = map (λ x. x.now) rs

abbrev pub before : List ℕ → List (List ℕ) → ℕ
before n [] = 0
before n (m ∷ ms) = cond (bytes_eq m n) 0 (suc (before n ms))

abbrev pub place_of : List ℕ → List (List ℕ) → Option ℕ
place_of n ms = cond (nat_lt (before n ms) (length ms)) (Some (before n ms)) None

abbrev pub number_in : List ℕ → List (List ℕ) → Option ℕ
number_in n ms = option_map suc (place_of n ms)

abbrev pub number_of : List ℕ → List (List ℕ) → ℕ
number_of n ms = cond (nat_lt (before n ms) (length ms)) (suc (before n ms)) 0

abbrev pub with_name : List ℕ → List (List ℕ) → List (List ℕ)
with_name n ms = cond (nat_lt (before n ms) (length ms)) ms (ms ++ n ∷ [])

abbrev pub first_names : {X : Type 0} → (X → List ℕ) → List X → List (List ℕ)
first_names f xs = fold (λ ms x. with_name (f x) ms) [] xs

abbrev pub Numbered : List (List ℕ) → List ℕ → ℕ → Type 0
Numbered ms n zero = (k : ℕ) → k < length ms → slice_index_or ms k [] ≢ n
Numbered ms n (suc k) = (k < length ms) × (slice_index_or ms k [] ≡ n)

abbrev pub NumberedIn : List (List ℕ) → List ℕ → Option ℕ → Type 0
NumberedIn ms n None = Numbered ms n 0
NumberedIn ms n (Some k) = (1 ≤ k) × Numbered ms n k

abbrev pub ShortName : List ℕ → Type 0
ShortName m = Word m × (length m ≤ 64)

-- no two of the names are the same
abbrev pub Distinct : List (List ℕ) → Type 0
Distinct ms = (i j : ℕ) → i < j → j < length ms → slice_index_or ms i [] ≢ slice_index_or ms j []

pub record IsNameList (ms : List (List ℕ)) : Type 0 where
  pub most : length ms ≤ 512
  pub names : AllByRecursion ShortName ms
  pub distinct : (i j : ℕ) → i < j → j < length ms → slice_index_or ms i [] ≢ slice_index_or ms j []

abbrev pub all_in : (ℕ → Bool) → List ℕ → Bool
all_in p [] = true
all_in p (b ∷ w) = p b && all_in p w

abbrev pub word : List ℕ → Bool
word [] = false
word (b ∷ w) = name_start b && all_in name_byte w

abbrev pub short_name : List ℕ → Bool
short_name m = word m && nat_le (length m) 64

-- the name m is good and not among ms
abbrev pub good_beside : List ℕ → List (List ℕ) → Bool
good_beside m ms = short_name m && before m ms == length ms

-- so is each name beside those after it
abbrev pub apart : List (List ℕ) → Bool
apart [] = true
apart (m ∷ ms) = good_beside m ms && apart ms

unfoldable pub name_list : List (List ℕ) → Bool
name_list ms = nat_le (length ms) 512 && apart ms
