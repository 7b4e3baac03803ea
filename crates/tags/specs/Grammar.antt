-- The theorems on tags.
--     TagsFound    the scanner finds a tag exactly where one begins
--     OneTag       at most one tag begins a text: it has one kind, one name and one end
use Rattle.std.specs.Prelude.{◌≡◌, ℕ, List, Some}
use Rattle.tags.specs.Tags.{Tag, TagAt, scan}

abbrev pub TagsFound : Type 0
TagsFound = (s : List ℕ) (t : Tag) (r : List ℕ) → (TagAt s t r → scan s ≡ Some (t, r)) × (scan s ≡ Some (t, r) → TagAt s t r)

abbrev pub OneTag : Type 0
OneTag = (s : List ℕ) (t u : Tag) (q r : List ℕ) → TagAt s t q → TagAt s u r → (t ≡ u) × (q ≡ r)
