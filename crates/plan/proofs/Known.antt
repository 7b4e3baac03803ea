-- The names that a draft knows, and adding one.
use Rattle.std.proofs.Common.{◌≡◌, ℕ, ◌+◌, ◌<◌, ◌≤◌, List, [], length, get_or, take, set, sym, ap, ◌∙◌, subst, arith, Bor}
use lib.ListN.{length-map}
use Rattle.std.proofs.lemmas.List.{take_more_set, map_push, length-take-le, get_or-map, get_or-take}
use Rattle.chains.specs.Chains.{links, hooked}
use Rattle.names.specs.Lists.{before, with_name, texts}
use Rattle.names.proofs.Firsts.{with_new}
use Rattle.plan.specs.declared.draft.Draft.{Draft}
use Rattle.plan.specs.Drafts.{names_of}
use Rattle.plan.specs.Hashes.{hash_of, Findable}
use Rattle.plan.specs.Reads.{known}
use Rattle.plan.proofs.Hashed.{findable_more}

pub known_length : (k : ℕ) (ms : List (Bor (List ℕ))) → k ≤ length ms → length (known k ms) ≡ k
known_length k ms h = length-map (take k ms) (λ x. x.now) ∙ length-take-le k ms h

-- a known name is that in its slot
pub known_at : (d : Draft) (j k : ℕ) (x : Bor (List ℕ)) → j ≡ k → k < d.counts.names → get_or (names_of d) k [] ≡ (get_or d.names.now j x).now
known_at d j k x e h =
    get_or-map (λ y. y.now) (take d.counts.names d.names.now) k x [] (omega (arith, length-take-le d.counts.names d.names.now (omega (arith, d.within.names))))
    ∙ ap (λ (y : Bor (List ℕ)). y.now) (get_or-take d.counts.names d.names.now k x h ∙ ap (λ (i : ℕ). get_or d.names.now i x) (sym e))

-- the names of a draft are as many as it counts
pub names_many : (d : Draft) → length (names_of d) ≡ d.counts.names
names_many d = known_length d.counts.names d.names.now (omega (arith, d.within.names))

module _ (d : Draft) (name : Bor (List ℕ)) (new : before name.now (names_of d) ≡ length (names_of d)) (room : d.counts.names < length d.names.now) where
  pub known_more : known (d.counts.names + 1) (set d.names.now d.counts.names name) ≡ with_name name.now (names_of d)
  known_more =
      ap texts (take_more_set d.names.now d.counts.names name room)
      ∙ map_push (λ x. x.now) (take d.counts.names d.names.now) name
      ∙ sym (with_new name.now (names_of d) (omega arith))

  pub known_findable : (key : ℕ) → key ≡ hash_of name.now → d.counts.names < 512 → Findable (known (d.counts.names + 1) (set d.names.now d.counts.names name)) (hooked (links d.chain) d.counts.names key)
  known_findable key is few =
      subst (λ (ns : List (List ℕ)). Findable ns (hooked (links d.chain) d.counts.names key)) (sym known_more)
      (findable_more (names_of d) (links d.chain) name.now d.findable d.counts.names key (omega arith) (sym (names_many d)) few is d.chain.keys d.chain.places)
