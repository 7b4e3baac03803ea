-- Finding a name by its hash, and adding one.
use Rattle.std.proofs.Common.{◌≡◌, ℕ, ◌+◌, ◌*◌, ◌%◌, ◌<◌, ◌≤◌, List, [], ◌∷◌, ◌++◌, map, fold, length, get_or, Some, None, Option, sym, ap, ◌∙◌, subst, ⊎_elim, arith}
use Rattle.std.proofs.lemmas.List.{get_or-map, map_push, length-map}
use Rattle.std.proofs.lemmas.Bool.{cases_lt}
use Rattle.chains.specs.Chains.{Links, Chained, unlinked, hooked}
use Rattle.chains.proofs.Chained.{chained_none, chained_more}
use Rattle.chains.proofs.Searches.{upto, Search, search_first, search_less, search_more}
use Rattle.names.specs.Lists.{before, with_name}
use Rattle.names.proofs.Finds.{before_le}
use Rattle.names.proofs.Names.{before_is, before_first}
use Rattle.names.proofs.Firsts.{with_new, distinct_new}
use Rattle.plan.specs.Hashes.{hash_of, Findable}
use Rattle.plan.specs.Drafts.{Found}

low_from : (h : ℕ) (s : List ℕ) → h < 1024 → fold (λ h b. (h * 31 + b) % 1024) h s < 1024
low_from h [] l = l
low_from h (b ∷ s) l = low_from ((h * 31 + b) % 1024) s (omega arith)

pub hash_low : (s : List ℕ) → hash_of s < 1024
unfolding hash_of
hash_low s = low_from 0 s (omega arith)

pub findable_none : (k m : ℕ) → Findable [] (unlinked k m)
findable_none k m = record { distinct = λ i j a b e. omega arith; chained = chained_none k m }

-- a search for the name n among the names ms has come to the place that o holds, or to the end
abbrev pub Sought : List (List ℕ) → List ℕ → Option ℕ → Type 0
Sought ms n o = Search (map hash_of ms) (hash_of n) (λ j. get_or ms j [] ≡ n) o

module _ (ms : List (List ℕ)) (l : Links) (n : List ℕ) (h : Findable ms l) where
  same_hash : (j : ℕ) → j < length (map hash_of ms) → get_or ms j [] ≡ n → get_or (map hash_of ms) j 0 ≡ hash_of n
  same_hash j m e = get_or-map hash_of ms j [] 0 (omega (arith, length-map ms hash_of)) ∙ ap hash_of e

  pub sought_first : (key : ℕ) → key ≡ hash_of n → Sought ms n (get_or l.heads key None)
  sought_first key e = subst (λ (x : ℕ). Sought ms n (get_or l.heads x None)) (sym e) (search_first (map hash_of ms) l (hash_of n) _ h.chained same_hash)

  module _ (k : ℕ) (s : Sought ms n (Some k)) where
    pub sought_within : k < length ms
    sought_within = omega (arith, s.low, length-map ms hash_of)

    pub sought_less : upto (get_or l.nexts k None) ≤ k
    sought_less = search_less (map hash_of ms) l (hash_of n) _ h.chained same_hash k s

    pub sought_more : (get_or ms k [] ≡ n → ⊥) → Sought ms n (get_or l.nexts k None)
    sought_more not = search_more (map hash_of ms) l (hash_of n) _ h.chained same_hash k s not

    -- the names are distinct, so this is the first
    pub found_here : get_or ms k [] ≡ n → Found ms n (Some k)
    found_here e = (
      sought_within,
      ⊎_elim
          (λ (a : before n ms < k). absurd (h.distinct (before n ms) k a sought_within (before_is n ms (omega (arith, sought_within)) ∙ sym e)))
          (λ (a : k ≤ before n ms). omega (arith, before_first n ms k sought_within e))
          (cases_lt (before n ms) k),
    )

  pub found_none : Sought ms n None → Found ms n None
  found_none s =
      ⊎_elim
      (λ (a : before n ms < length ms). absurd (s.none (before n ms) (omega arith) (omega (arith, length-map ms hash_of)) (before_is n ms a)))
      (λ (a : length ms ≤ before n ms). omega (arith, before_le n ms))
      (cases_lt (before n ms) (length ms))

  -- a new name is hooked in the next place
  pub findable_more : (at key : ℕ) → length ms ≤ before n ms → at ≡ length ms → at < 512 → key ≡ hash_of n → length l.heads ≡ 1024 → length l.nexts ≡ 512 → Findable (with_name n ms) (hooked l at key)
  findable_more at key new here few is heads nexts =
      let long = length-map ms hash_of in
      let low = hash_low n in
      let place : at ≡ length (map hash_of ms) = omega arith in
      let keys : map hash_of ms ++ key ∷ [] ≡ map hash_of (ms ++ n ∷ []) = ap (λ (x : ℕ). map hash_of ms ++ x ∷ []) is ∙ sym (map_push hash_of ms n) in
      let more = chained_more (map hash_of ms) l key h.chained (omega arith) (omega arith) (omega arith) in
      subst (λ (ns : List (List ℕ)). Findable ns (hooked l at key)) (sym (with_new n ms new)) (record {
        distinct = distinct_new n ms new h.distinct;
        chained =
            subst (λ (x : ℕ). Chained (map hash_of (ms ++ n ∷ [])) (hooked l x key)) (sym place)
            (subst (λ (ks : List ℕ). Chained ks (hooked l (length (map hash_of ms)) key)) keys more);
      })
