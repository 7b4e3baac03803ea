-- The fields of names, and how long they are.
use Rattle.std.proofs.Common.{◌≡◌, ℕ, ◌+◌, ◌<◌, ◌≤◌, List, [], ◌++◌, length, get_or, take, sym, ap, ◌∙◌, arith, Bor}
use Rattle.std.specs.List.{flat_map, sum_by, All}
use Rattle.std.proofs.lemmas.List.{flat_map_more, take_more}
use Rattle.std.proofs.lemmas.List.Concat.{length-flat_map}
use Rattle.std.proofs.lemmas.List.Folds.{flat_map-map}
use Rattle.std.proofs.lemmas.List.Sums.{sum_by-le}
use Rattle.names.specs.Lists.{texts}
use Rattle.stored.specs.Images.{name_field}

pub lengths_most : (names : List (Bor (List ℕ))) → All (λ name. length name.now ≤ 64) names → length names ≤ 512 → sum_by (λ name. 1 + length name.now) names ≤ 33280
lengths_most names short few = omega (arith, sum_by-le (λ name. 1 + length name.now) 65 names (λ k d l. omega (arith, short k d l)))

pub fields_of : (names : List (Bor (List ℕ))) → flat_map name_field (texts names) ≡ flat_map (λ name. name_field name.now) names
fields_of names = flat_map-map name_field (λ name. name.now) names

pub length_fields_of : (names : List (Bor (List ℕ))) → length (flat_map name_field (texts names)) ≡ sum_by (λ name. 1 + length name.now) names
length_fields_of names =
    let one : (name : Bor (List ℕ)) → length (name_field name.now) ≡ 1 + length name.now = λ name. omega arith in
    ap length (fields_of names) ∙ length-flat_map (λ (name : Bor (List ℕ)). name_field name.now) names ∙ (λ i. sum_by (λ (name : Bor (List ℕ)). one name i) names)

-- what a read of a slot past the end stands for
abbrev pub no_text : Bor (List ℕ)
no_text = record { ref_ptr = (0, 0); now = [] }

pub fields_more : (names : List (Bor (List ℕ))) (i : ℕ) → i < length names → flat_map (λ name. name_field name.now) (take i names) ++ name_field (get_or names i no_text).now ≡ flat_map (λ name. name_field name.now) (take (i + 1) names)
fields_more names i l = flat_map_more (λ (name : Bor (List ℕ)). name_field name.now) [] (take i names) (get_or names i no_text) ∙ ap (flat_map (λ (name : Bor (List ℕ)). name_field name.now)) (sym (take_more names i no_text l))
