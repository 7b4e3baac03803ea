-- Which links are those of places that hold given keys.
use Rattle.std.proofs.Common.{◌≡◌, ℕ, zero, suc, ◌+◌, ◌<◌, ◌≤◌, true, cond, eqb, List, [], ◌∷◌, ◌++◌, length, get_or, set, replicate, Some, None, Option, sym, refl, ap, ◌∙◌, subst, ⊎_elim, add-one, arith}
use lib.ListN.{length-replicate}
use Rattle.std.proofs.lemmas.List.{get_or-set_same, get_or-set_other, get_or-replicate, get_or_past, get_or_append_left, get_or_push, length_push}
use Rattle.std.proofs.lemmas.Bool.{cases_eq, cases_lt, eq-eqb, ne_eqb, cond-true, cond-false, and_from, lt-ltb}
use Rattle.chains.specs.Chains.{Links, unlinked, inside, hooked, latest, Chained}

-- no key is held yet
pub chained_none : (n m : ℕ) → Chained [] (unlinked n m)
chained_none n m = record {
  tops = λ b. ⊎_elim (λ (h : b < n). get_or-replicate n b None None h) (λ (h : n ≤ b). get_or_past (replicate n None) b None (omega (arith, length-replicate {A = Option ℕ} n None))) (cases_lt b n);
  hooks = λ k h. absurd (omega arith);
}

latest_here : (ks : List ℕ) (b k : ℕ) → get_or ks k 0 ≡ b → latest ks b (k + 1) ≡ Some k
latest_here ks b k e = ap (latest ks b) (add-one k) ∙ cond-true _ (Some k) (latest ks b k) (eq-eqb (get_or ks k 0) b e)

latest_next : (ks : List ℕ) (b k : ℕ) → (get_or ks k 0 ≡ b → ⊥) → latest ks b (k + 1) ≡ latest ks b k
latest_next ks b k n = ap (latest ks b) (add-one k) ∙ cond-false _ (Some k) (latest ks b k) (ne_eqb (get_or ks k 0) b n)

-- keys behind the first k do not matter
latest_push : (ks : List ℕ) (key b k : ℕ) → k ≤ length ks → latest (ks ++ key ∷ []) b k ≡ latest ks b k
latest_push ks key b zero l = refl
latest_push ks key b (suc k) l =
    ap (λ (x : ℕ). cond (eqb x b) (Some k) (latest (ks ++ key ∷ []) b k)) (get_or_append_left ks (key ∷ []) 0 k (omega arith))
    ∙ ap (λ (x : Option ℕ). cond (eqb (get_or ks k 0) b) (Some k) x) (latest_push ks key b k (omega arith))

module _ (ks : List ℕ) (l : Links) (key : ℕ) (h : Chained ks l) (place : length ks < length l.nexts) (low : key < length l.heads) where
  tops_more : (b : ℕ) → get_or (set l.heads key (Some (length ks))) b None ≡ latest (ks ++ key ∷ []) b (length ks + 1)
  tops_more b = ⊎_elim
      (λ (e : b ≡ key).
      ap (λ (x : ℕ). get_or (set l.heads key (Some (length ks))) x None) e
      ∙ get_or-set_same l.heads key (Some (length ks)) None low
      ∙ sym (latest_here (ks ++ key ∷ []) b (length ks) (get_or_push ks key 0 (length ks) refl ∙ sym e)))
      (λ (n : b ≡ key → ⊥).
      get_or-set_other l.heads key b (Some (length ks)) None n
      ∙ h.tops b
      ∙ sym (latest_next (ks ++ key ∷ []) b (length ks) (λ e. n (sym e ∙ get_or_push ks key 0 (length ks) refl)) ∙ latest_push ks key b (length ks) (omega arith)))
      (cases_eq b key)

  hooks_more : (k : ℕ) → k < length ks + 1 → get_or (set l.nexts (length ks) (get_or l.heads key None)) k None ≡ latest (ks ++ key ∷ []) (get_or (ks ++ key ∷ []) k 0) k
  hooks_more k m = ⊎_elim
      (λ (a : k < length ks).
      get_or-set_other l.nexts (length ks) k (get_or l.heads key None) None (λ e. omega arith)
      ∙ h.hooks k a
      ∙ sym (latest_push ks key (get_or ks k 0) k (omega arith))
      ∙ ap (λ (x : ℕ). latest (ks ++ key ∷ []) x k) (sym (get_or_append_left ks (key ∷ []) 0 k a)))
      (λ (a : length ks ≤ k).
      let e : k ≡ length ks = omega arith in
      subst (λ (x : ℕ). get_or (set l.nexts (length ks) (get_or l.heads key None)) x None ≡ latest (ks ++ key ∷ []) (get_or (ks ++ key ∷ []) x 0) x) (sym e)
      (get_or-set_same l.nexts (length ks) (get_or l.heads key None) None place
      ∙ h.tops key
      ∙ sym (latest_push ks key key (length ks) (omega arith))
      ∙ ap (λ (x : ℕ). latest (ks ++ key ∷ []) x (length ks)) (sym (get_or_push ks key 0 (length ks) refl))))
      (cases_lt k (length ks))

  -- the next place is hooked
  pub chained_more : length ks < 65535 → Chained (ks ++ key ∷ []) (hooked l (length ks) key)
  chained_more few =
      let long = length_push ks key in
      let yes : inside l (length ks) key ≡ true = and_from _ _ (lt-ltb _ _ few) (and_from _ _ (lt-ltb _ _ place) (lt-ltb _ _ low)) in
      subst (Chained (ks ++ key ∷ [])) (sym (cond-true (inside l (length ks) key) _ l yes)) (record {
        tops = λ b. tops_more b ∙ ap (latest (ks ++ key ∷ []) b) (sym long);
        hooks = λ k m. hooks_more k (omega arith);
      })
