-- One turn of the loop over attributes.
use Rattle.std.proofs.Common.{◌≡◌, ℕ, zero, suc, ◌<◌, ◌≤◌, true, false, cond, ◌&&◌, List, [], ◌∷◌, length, Some, Option, sym, refl, ap, ◌∙◌, arith}
use Rattle.std.proofs.lemmas.Bool.{cond-true, and_parts, both_ways}
use Rattle.names.specs.Bytes.{white, name_start}
use Rattle.names.specs.Words.{after, begins}
use Rattle.tags.specs.Tags.{attribute, attributes, and_then}
use Rattle.names.proofs.Runs.{after_le}
use Rattle.tags.proofs.Sound.{attribute_shorter}

-- white at the front is passed over
gap_shorter : (s : List ℕ) → begins white s ≡ true → length (after white s) < length s
gap_shorter [] h = absurd (both_ways false refl h)
gap_shorter (b ∷ s) h = omega (arith, ap length (ap (λ c. cond c (after white s) (b ∷ s)) h), after_le white s)

module _ (s r : List ℕ) (here : (begins white s && begins name_start (after white s)) ≡ true) (got : attribute (after white s) ≡ Some r) where
  pub shorter : length r < length s
  shorter = omega (arith, gap_shorter s (and_parts _ _ here).0, attribute_shorter (after white s) r got)

  one : (f : ℕ) → attributes (suc f) s ≡ attributes f r
  one f = cond-true _ (and_then (attribute (after white s)) (attributes f)) (Some (after white s)) here ∙ ap (λ (o : Option (List ℕ)). and_then o (attributes f)) got

  pub one_more : (o : Option (List ℕ)) (f : ℕ) → length s ≤ f → attributes (suc f) s ≡ o → (g : ℕ) × (length r ≤ g) × (attributes (suc g) r ≡ o)
  one_more o zero h e = absurd (omega (arith, shorter))
  one_more o (suc f) h e = (f, omega (arith, shorter), sym (one (suc f)) ∙ e)
