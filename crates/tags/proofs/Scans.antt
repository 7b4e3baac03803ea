-- What the parts of a tag compute to, by the first byte of a text.
use Rattle.std.proofs.Common.{◌≡◌, ℕ, ◌-◌, ◌≤◌, true, cond, eqb, List, [], ◌∷◌, length, get_or, take, drop, Some, None, sym, ap, ◌∙◌, arith}
use Rattle.std.proofs.lemmas.List.{take_rest}
use Rattle.std.proofs.lemmas.Bool.{eq-eqb, cond-true, cond-false}
use Rattle.names.specs.Bytes.{white, name_start}
use Rattle.tags.specs.Values.{quote, in_value}
use Rattle.tags.specs.Tags.{end, closed, quoted, valued, ended, ending, opening, inside, scan}
use Rattle.names.specs.Words.{after}
use Rattle.names.proofs.Runs.{tl, at_first}
use Rattle.names.proofs.Apart.{start_no_slash}

pub closed_yes : (q : ℕ) (s : List ℕ) → 1 ≤ length s → get_or s 0 0 ≡ q → closed q s ≡ Some (tl s)
closed_yes q s h e = at_first (closed q) s h ∙ cond-true (eqb (get_or s 0 0) q) (Some (tl s)) None (eq-eqb (get_or s 0 0) q e)

pub quoted_yes : (s : List ℕ) → 1 ≤ length s → quote (get_or s 0 0) ≡ true → quoted s ≡ closed (get_or s 0 0) (after (in_value (get_or s 0 0)) (tl s))
quoted_yes s h e = at_first quoted s h ∙ cond-true (quote (get_or s 0 0)) (closed (get_or s 0 0) (after (in_value (get_or s 0 0)) (tl s))) None e

pub valued_yes : (s : List ℕ) → 1 ≤ length s → get_or s 0 0 ≡ 61 → valued s ≡ quoted (after white (tl s))
valued_yes s h e = at_first valued s h ∙ cond-true (eqb (get_or s 0 0) 61) (quoted (after white (tl s))) None (eq-eqb (get_or s 0 0) 61 e)

pub ended_yes : (n s : List ℕ) → 1 ≤ length s → get_or s 0 0 ≡ 62 → ended n s ≡ Some (end n, tl s)
ended_yes n s h e = at_first (ended n) s h ∙ cond-true (eqb (get_or s 0 0) 62) (Some (end n, tl s)) None (eq-eqb (get_or s 0 0) 62 e)

pub scan_opening : (s : List ℕ) → 2 ≤ length s → get_or s 0 0 ≡ 60 → name_start (get_or s 1 0) ≡ true → scan s ≡ opening (take (length s - 1) (drop 1 s))
scan_opening [] h e n = absurd (omega arith)
scan_opening (a ∷ []) h e n = absurd (omega arith)
scan_opening (a ∷ b ∷ s) h e n =
    cond-true (eqb a 60) (inside (b ∷ s)) None (eq-eqb a 60 e)
    ∙ cond-false (eqb b 47) (ending s) (cond (name_start b) (opening (b ∷ s)) None) (start_no_slash b n)
    ∙ cond-true (name_start b) (opening (b ∷ s)) None n
    ∙ ap opening (sym (take_rest (a ∷ b ∷ s) 1))
