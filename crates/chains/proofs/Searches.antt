-- Searching along a chain for a place that has a property, and so has a key.
use Rattle.std.proofs.Common.{◌≡◌, ℕ, zero, suc, ◌<◌, ◌≤◌, Bool, true, false, cond, eqb, List, length, get_or, Some, None, Option, sym, refl, ap, ◌∙◌, subst, ⊎_elim, arith}
use Rattle.std.proofs.lemmas.Bool.{cases_lt, eqb-true, eqb-false}
use Rattle.chains.specs.Chains.{Links, latest, Chained}

-- how many places there are up to the one that is held, if any
abbrev pub upto : Option ℕ → ℕ
upto None = 0
upto (Some k) = suc k

abbrev HasKey : List ℕ → ℕ → Option ℕ → Type 0
HasKey ks b None = Unit {0}
HasKey ks b (Some k) = get_or ks k 0 ≡ b

-- o holds the newest of the first k places that hold the key b, if any
record Newest (ks : List ℕ) (b k : ℕ) (o : Option ℕ) : Type 0 where
  low : upto o ≤ k
  key : HasKey ks b o
  none : (j : ℕ) → upto o ≤ j → j < k → get_or ks j 0 ≡ b → ⊥

newest : (ks : List ℕ) (b k : ℕ) → Newest ks b k (latest ks b k)
newest ks b zero = record { low = omega arith; key = tt; none = λ j l h e. omega arith }
newest ks b (suc k) = go (newest ks b k) (eqb (get_or ks k 0) b) refl
  where
    go : Newest ks b k (latest ks b k) → (t : Bool) → eqb (get_or ks k 0) b ≡ t → Newest ks b (suc k) (cond t (Some k) (latest ks b k))
    go n true t = record { low = omega arith; key = eqb-true (get_or ks k 0) b t; none = λ j l h e. omega arith }
    go n false t = record {
      low = omega (arith, n.low);
      key = n.key;
      none = λ j l h e. ⊎_elim (λ (a : j < k). n.none j l a e) (λ (a : k ≤ j). let q : k ≡ j = omega arith in eqb-false (get_or ks k 0) b t (ap (λ (x : ℕ). get_or ks x 0) q ∙ e)) (cases_lt j k);
    }

-- a search for a place that has P, and then the key b, has come to the place that o holds, or to the end
pub record Search (ks : List ℕ) (b : ℕ) (P : ℕ → Type 0) (o : Option ℕ) : Type 0 where
  pub low : upto o ≤ length ks
  pub key : HasKey ks b o
  pub none : (j : ℕ) → upto o ≤ j → j < length ks → P j → ⊥

module _ (ks : List ℕ) (l : Links) (b : ℕ) (P : ℕ → Type 0) (h : Chained ks l) (only : (j : ℕ) → j < length ks → P j → get_or ks j 0 ≡ b) where
  pub search_first : Search ks b P (get_or l.heads b None)
  search_first =
      let n = subst (Newest ks b (length ks)) (sym (h.tops b)) (newest ks b (length ks)) in
      record { low = n.low; key = n.key; none = λ j a m p. n.none j a m (only j m p) }

  module _ (k : ℕ) (s : Search ks b P (Some k)) where
    older : Newest ks b k (get_or l.nexts k None)
    older = subst (Newest ks b k) (sym (h.hooks k (omega (arith, s.low)) ∙ ap (λ (x : ℕ). latest ks x k) s.key)) (newest ks b k)

    pub search_less : upto (get_or l.nexts k None) ≤ k
    search_less = older.low

    pub search_more : (P k → ⊥) → Search ks b P (get_or l.nexts k None)
    search_more not = record {
      low = omega (arith, older.low, s.low);
      key = older.key;
      none = λ j a m p. ⊎_elim
          (λ (x : j < k). older.none j a x (only j m p))
          (λ (x : k ≤ j). ⊎_elim
          (λ (y : j < suc k). let e : j ≡ k = omega arith in not (subst P e p))
          (λ (y : suc k ≤ j). s.none j y m p)
          (cases_lt j (suc k)))
          (cases_lt j k);
    }
