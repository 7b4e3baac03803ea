-- The tags of XML, without declarations, comments and the like. Assumes nothing.
-- A production relates a text s that begins with it to the text r that follows it there.
--     Name s n r           s begins with the name n
--     Attribute s r        s begins with white and an attribute
--     Attributes s r       s begins with any number of them
--     TagAt s t r          s begins with the tag t
--     scan s               the tag that s begins with, and what follows it
--     placed p o           what o holds, with the place p
use Rattle.std.specs.Prelude.{◌≡◌, ℕ, zero, suc, Bool, true, cond, ◌&&◌, List, [], ◌∷◌, ◌++◌, length, Some, None, Option, ◌==◌}
use Rattle.std.specs.List.{AllByRecursion}
use Rattle.names.specs.Bytes.{white, name_start, name_byte}
use Rattle.names.specs.Words.{Word, after, front, begins}
use Rattle.tags.specs.Values.{quote, in_value}

pub data Tag : Type 0 where
  start : List ℕ → Tag
  empty : List ℕ → Tag
  end : List ℕ → Tag

-- s begins with bytes that pass the test p, none or more
abbrev pub Run : (ℕ → Bool) → List ℕ → List ℕ → Type 0
Run p s r = (w : List ℕ) × AllByRecursion (λ b. p b ≡ true) w × (s ≡ w ++ r)

abbrev pub Name : List ℕ → List ℕ → List ℕ → Type 0
Name s n r = Word n × (s ≡ n ++ r)

abbrev pub Gap : List ℕ → List ℕ → Type 0
Gap s r = (b : ℕ) × (t : List ℕ) × (s ≡ b ∷ t) × (white b ≡ true) × Run white t r

abbrev pub Value : List ℕ → List ℕ → Type 0
Value s r = (q : ℕ) × (a : List ℕ) × (s ≡ q ∷ a) × (quote q ≡ true) × Run (in_value q) a (q ∷ r)

pub record Attribute (s r : List ℕ) : Type 0 where
  pub named : List ℕ
  pub name : List ℕ
  pub equals : List ℕ
  pub past : List ℕ
  pub value : List ℕ
  pub gap : Gap s named
  pub has_name : Name named name equals
  pub before : Run white equals (61 ∷ past)
  pub behind : Run white past value
  pub has_value : Value value r

pub data Attributes (r : List ℕ) : List ℕ → Type 0 where
  none : Attributes r r
  more : {s t : List ℕ} → Attribute s t → Attributes r t → Attributes r s

-- attributes, optional white and the bytes c
abbrev pub Rest : List ℕ → List ℕ → List ℕ → Type 0
Rest c s r = (t : List ℕ) × Attributes t s × Run white t (c ++ r)

abbrev pub TagAt : List ℕ → Tag → List ℕ → Type 0
TagAt s (start n) r = (a b : List ℕ) × (s ≡ 60 ∷ a) × Name a n b × Rest (62 ∷ []) b r
TagAt s (empty n) r = (a b : List ℕ) × (s ≡ 60 ∷ a) × Name a n b × Rest (47 ∷ 62 ∷ []) b r
TagAt s (end n) r = (a b : List ℕ) × (s ≡ 60 ∷ 47 ∷ a) × Name a n b × Run white b (62 ∷ r)

-- what follows the attribute whose name s begins with
abbrev pub closed : ℕ → List ℕ → Option (List ℕ)
closed q [] = None
closed q (b ∷ s) = cond (b == q) (Some s) None

abbrev pub quoted : List ℕ → Option (List ℕ)
quoted [] = None
quoted (q ∷ s) = cond (quote q) (closed q (after (in_value q) s)) None

abbrev pub valued : List ℕ → Option (List ℕ)
valued [] = None
valued (b ∷ s) = cond (b == 61) (quoted (after white s)) None

abbrev pub attribute : List ℕ → Option (List ℕ)
attribute s = valued (after white (after name_byte s))

abbrev pub and_then : {A B : Type 0} → Option A → (A → Option B) → Option B
and_then (Some x) f = f x
and_then None f = None

-- what follows the attributes that s begins with, and the white after them; f is above their number
abbrev pub attributes : ℕ → List ℕ → Option (List ℕ)
attributes zero s = None
attributes (suc f) s = cond (begins white s && begins name_start (after white s)) (and_then (attribute (after white s)) (attributes f)) (Some (after white s))

-- how a start or empty tag with the name n ends
abbrev pub shut : List ℕ → List ℕ → Option (Tag × List ℕ)
shut n [] = None
shut n (b ∷ s) = cond (b == 62) (Some (empty n, s)) None

abbrev pub close : List ℕ → List ℕ → Option (Tag × List ℕ)
close n [] = None
close n (b ∷ s) = cond (b == 62) (Some (start n, s)) (cond (b == 47) (shut n s) None)

-- the start or empty tag whose name s begins with
abbrev pub opening : List ℕ → Option (Tag × List ℕ)
opening s = and_then (attributes (suc (length (after name_byte s))) (after name_byte s)) (close (front name_byte s))

-- the end tag whose name s begins with
abbrev pub ended : List ℕ → List ℕ → Option (Tag × List ℕ)
ended n [] = None
ended n (b ∷ s) = cond (b == 62) (Some (end n, s)) None

abbrev pub ending : List ℕ → Option (Tag × List ℕ)
ending s = cond (begins name_start s) (ended (front name_byte s) (after white (after name_byte s))) None

abbrev pub inside : List ℕ → Option (Tag × List ℕ)
inside [] = None
inside (b ∷ s) = cond (b == 47) (ending s) (cond (name_start b) (opening (b ∷ s)) None)

abbrev pub scan : List ℕ → Option (Tag × List ℕ)
scan [] = None
scan (b ∷ s) = cond (b == 60) (inside s) None

-- what was found, with the place p before it
abbrev pub placed : {A B : Type 0} → ℕ → Option (A × B) → Option (ℕ × A × B)
placed p (Some x) = Some (p, x.0, x.1)
placed p None = None
