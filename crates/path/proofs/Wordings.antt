-- The step that a text begins with: it is found exactly if it is there.
use Rattle.std.proofs.Common.{◌≡◌, ℕ, ◌-◌, ◌<◌, ◌≤◌, Bool, true, false, cond, eqb, List, [], ◌∷◌, ◌++◌, length, get_or, take, drop, Some, None, Option, sym, refl, ap, ◌∙◌, subst, ap₂, ⊎_elim, arith}
use Rattle.std.specs.List.{AllByRecursion}
use Rattle.std.proofs.lemmas.List.{append_assoc, length-append}
use Rattle.std.proofs.lemmas.Slice.{first_rest}
use Rattle.std.proofs.lemmas.Bool.{eqb-true, cond-true, cond-false}
use Rattle.std.proofs.lemmas.Option.{none-some, same_Some}
use Rattle.names.specs.Bytes.{name_start, name_byte}
use Rattle.names.specs.Words.{Word, front, after}
use Rattle.names.proofs.Apart.{start_is_name, start_no_slash, start_no_star}
use Rattle.names.proofs.Found.{cond_some, cond_either}
use Rattle.names.proofs.Runs.{tl, split, all_front, begins_after, after_append, front_append}
use Rattle.tree.specs.declared.step.Axis.{Axis}
use Rattle.tree.specs.declared.step.Axis.TheVariants.{Child, Descendant}
use Rattle.path.specs.Wordings.{WordTest, star, named, Wording, slashes, test_bytes, written, Good, Longest, Begins, axis_behind, axis_at, test_at, with_axis, test_behind, first_step}
use Rattle.path.specs.Reads.{test_of}
use Rattle.tree.specs.declared.step.Test.TheVariants.{Any}

pub test_star : (ms : List (List ℕ)) (s : List ℕ) → 1 ≤ length s → get_or s 0 0 ≡ 42 → Some (Any, take (length s - 1) (drop 1 s)) ≡ test_of ms s
test_star ms s h a = sym (ap (test_of ms) (first_rest s 0 (omega arith) ∙ ap (λ b. b ∷ take (length s - 1) (drop 1 s)) a))

module _ (s : List ℕ) (h : 1 ≤ length s) (a : get_or s 0 0 ≡ 47) where
  axis_yes : axis_at s ≡ Some (axis_behind (tl s))
  axis_yes = ap axis_at (first_rest s 0 (omega arith) ∙ ap (λ b. b ∷ tl s) a)

  pub axis_two : 1 ≤ length (tl s) → get_or (tl s) 0 0 ≡ 47 → Some (Descendant, tl (tl s)) ≡ axis_at s
  axis_two l b = sym (axis_yes ∙ ap (λ (t : List ℕ). Some (axis_behind t)) (first_rest (tl s) 0 (omega arith) ∙ ap (λ b. b ∷ tl (tl s)) b))

-- the step that is found is there
behind_sound : (s : List ℕ) (x : Axis) (r : List ℕ) → axis_behind s ≡ (x, r) → 47 ∷ s ≡ slashes x ++ r
behind_sound [] x r e = go x r e
  where
    go : (x : Axis) (r : List ℕ) → ◌≡◌ {A = Axis × List ℕ} (Child, []) (x, r) → 47 ∷ [] ≡ slashes x ++ r
    go x r e = subst (λ (p : Axis × List ℕ). 47 ∷ [] ≡ slashes p.0 ++ p.1) e refl
behind_sound (b ∷ s) x r e = go (eqb b 47) refl e
  where
    go : (c : Bool) → eqb b 47 ≡ c → ◌≡◌ {A = Axis × List ℕ} (cond c (Descendant, s) (Child, b ∷ s)) (x, r) → 47 ∷ b ∷ s ≡ slashes x ++ r
    go true h e = subst (λ (p : Axis × List ℕ). 47 ∷ b ∷ s ≡ slashes p.0 ++ p.1) e (ap (λ z. 47 ∷ z ∷ s) (eqb-true b 47 h))
    go false h e = subst (λ (p : Axis × List ℕ). 47 ∷ b ∷ s ≡ slashes p.0 ++ p.1) e refl

axis_sound : (s : List ℕ) (x : Axis) (r : List ℕ) → axis_at s ≡ Some (x, r) → s ≡ slashes x ++ r
axis_sound [] x r e = absurd (none-some (x, r) e)
axis_sound (a ∷ s) x r e =
    let k = cond_some (eqb a 47) (Some (axis_behind s)) (x, r) e in
    ap (λ z. z ∷ s) (eqb-true a 47 k.0) ∙ behind_sound s x r (same_Some (axis_behind s) (x, r) k.1)

-- what test_at finds, said of the text
record Tested (s : List ℕ) (t : WordTest) (r : List ℕ) : Type 0 where
  is : s ≡ test_bytes t ++ r
  good : Good (record { axis = Child; test = t })
  longest : Longest t r

name_word : (b : ℕ) (s : List ℕ) → name_start b ≡ true → Word (front name_byte (b ∷ s))
name_word b s h = subst Word (sym (cond-true (name_byte b) (b ∷ front name_byte s) [] (start_is_name b h))) (h, all_front name_byte s)

test_sound : (s : List ℕ) (t : WordTest) (r : List ℕ) → test_at s ≡ Some (t, r) → Tested s t r
test_sound [] t r e = absurd (none-some (t, r) e)
test_sound (b ∷ s) t r e = ⊎_elim
    (λ k. subst (λ (p : WordTest × List ℕ). Tested (b ∷ s) p.0 p.1) (same_Some (star, s) (t, r) k.1) (record { is = ap (λ z. z ∷ s) (eqb-true b 42 k.0); good = tt; longest = tt }))
    (λ k.
    let n = cond_some (name_start b) (Some (named (front name_byte (b ∷ s)), after name_byte (b ∷ s))) (t, r) k.1 in
    subst (λ (p : WordTest × List ℕ). Tested (b ∷ s) p.0 p.1) (same_Some (named (front name_byte (b ∷ s)), after name_byte (b ∷ s)) (t, r) n.1)
    (record { is = split name_byte (b ∷ s); good = name_word b s n.0; longest = begins_after name_byte (b ∷ s) }))
    (cond_either (eqb b 42) (Some (star, s)) (cond (name_start b) (Some (named (front name_byte (b ∷ s)), after name_byte (b ∷ s))) None) (t, r) e)

behind_told : (o : Option (Axis × List ℕ)) (w : Wording) (r : List ℕ) → test_behind o ≡ Some (w, r) → (t : List ℕ) × (o ≡ Some (w.axis, t)) × (test_at t ≡ Some (w.test, r))
behind_told None w r e = absurd (none-some (w, r) e)
behind_told (Some a) w r e = go (test_at a.1) refl e
  where
    go : (o : Option (WordTest × List ℕ)) → test_at a.1 ≡ o → with_axis a.0 o ≡ Some (w, r) → (t : List ℕ) × (Some a ≡ Some (w.axis, t)) × (test_at t ≡ Some (w.test, r))
    go None h e = absurd (none-some (w, r) e)
    go (Some t) h e =
        let p = same_Some (record { axis = a.0; test = t.0 }, t.1) (w, r) e in
        (a.1, ap (λ (q : Wording × List ℕ). Some (q.0.axis, a.1)) p, h ∙ ap (λ (q : Wording × List ℕ). Some (q.0.test, q.1)) p)

pub step_sound : (s : List ℕ) (w : Wording) (r : List ℕ) → first_step s ≡ Some (w, r) → Begins s w r
step_sound s w r e =
    let k = behind_told (axis_at s) w r e in
    let t = test_sound k.0 w.test r k.2 in
    record {
      is = axis_sound s w.axis k.0 k.1 ∙ ap (λ (z : List ℕ). slashes w.axis ++ z) t.is ∙ sym (append_assoc (slashes w.axis) (test_bytes w.test) r);
      good = t.good;
      longest = t.longest;
    }

-- the step that is there is found
test_complete : (t : WordTest) (r : List ℕ) → Good (record { axis = Child; test = t }) → Longest t r → test_at (test_bytes t ++ r) ≡ Some (t, r)
test_complete star r g l = refl
test_complete (named []) r g l = absurd g
test_complete (named (b ∷ n)) r g l =
    let all : AllByRecursion (λ c. name_byte c ≡ true) (b ∷ n) = (start_is_name b g.0, g.1) in
    cond-false (eqb b 42) (Some (star, n ++ r)) _ (start_no_star b g.0)
    ∙ cond-true (name_start b) (Some (named (front name_byte (b ∷ (n ++ r))), after name_byte (b ∷ (n ++ r)))) None g.0
    ∙ ap₂ (λ (x : List ℕ) (y : List ℕ). Some (named x, y)) (front_append name_byte (b ∷ n) r all l) (after_append name_byte (b ∷ n) r all l)

-- a test does not begin with a slash
axis_complete : (x : Axis) (t : WordTest) (r : List ℕ) → Good (record { axis = x; test = t }) → axis_at (slashes x ++ (test_bytes t ++ r)) ≡ Some (x, test_bytes t ++ r)
axis_complete Descendant t r g = refl
axis_complete Child star r g = refl
axis_complete Child (named []) r g = absurd g
axis_complete Child (named (b ∷ n)) r g = ap Some (cond-false (eqb b 47) (Descendant, n ++ r) (Child, b ∷ (n ++ r)) (start_no_slash b g.0))

pub step_complete : (s : List ℕ) (w : Wording) (r : List ℕ) → Begins s w r → first_step s ≡ Some (w, r)
step_complete s w r b =
    ap first_step (b.is ∙ append_assoc (slashes w.axis) (test_bytes w.test) r)
    ∙ ap test_behind (axis_complete w.axis w.test r b.good)
    ∙ ap (with_axis w.axis) (test_complete w.test r b.good b.longest)

pub test_some : (t : WordTest) (x : Axis) → Good (record { axis = x; test = t }) → 1 ≤ length (test_bytes t)
test_some star x g = omega arith
test_some (named []) x g = absurd g
test_some (named (b ∷ n)) x g = omega arith

pub step_shorter : (s : List ℕ) (w : Wording) (r : List ℕ) → first_step s ≡ Some (w, r) → length r < length s
step_shorter s w r e =
    let b = step_sound s w r e in
    omega (arith, ap length b.is ∙ length-append (written w) r, length-append (slashes w.axis) (test_bytes w.test), test_some w.test w.axis b.good)
