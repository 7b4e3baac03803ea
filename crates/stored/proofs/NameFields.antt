-- Name fields written and read again.
use Rattle.std.proofs.Common.{◌≡◌, ℕ, zero, suc, ◌≤◌, true, leb, List, [], ◌∷◌, ◌++◌, length, take, drop, Some, None, Ok, Err, Option, Result, sym, refl, ap, ◌∙◌, subst, ap₂, arith}
use Rattle.std.specs.List.{flat_map, AllByRecursion}
use Rattle.std.proofs.lemmas.List.{append-nil, append_assoc, length-append, length-take-le, take_at, drop_at, take-append-drop}
use Rattle.std.proofs.lemmas.Bool.{cond-true, le-leb, leb-true, and_parts, and_from}
use Rattle.std.proofs.lemmas.Option.{same_Some}
use Rattle.names.specs.Lists.{before, good_beside, ShortName, Distinct}
use Rattle.names.proofs.Finds.{before_le}
use Rattle.names.proofs.Found.{cond_some}
use Rattle.names.proofs.Names.{good_to, good_from}
use Rattle.names.proofs.Firsts.{Good, good_new, distinct_before}
use Rattle.stored.specs.Images.{name_field}
use Rattle.stored.specs.Openings.{name_field_at, names_at}

field_read : (ms : List (List ℕ)) (m r : List ℕ) → good_beside m ms ≡ true → name_field_at ms (name_field m ++ r) ≡ Some (m, r)
field_read ms m r h =
    let front : take (length m) (m ++ r) ≡ m = take_at m r (length m) refl in
    let back : drop (length m) (m ++ r) ≡ r = drop_at m r (length m) refl in
    cond-true _ _ None (and_from _ _ (le-leb (length m) (length (m ++ r)) (omega (arith, length-append m r))) (ap (λ (z : List ℕ). good_beside z ms) front ∙ h))
    ∙ ap₂ (λ (x : List ℕ) (y : List ℕ). Some (x, y)) front back

-- what reading k names gives, by what the first field is
abbrev after_field : ℕ → List (List ℕ) → List ℕ → Option (List ℕ × List ℕ) → Result (List (List ℕ) × List ℕ) (List ℕ)
after_field k ms s o = elim o as (λ _. Result (List (List ℕ) × List ℕ) (List ℕ)) [ None ↦ Err s | Some p ↦ names_at k (ms ++ p.0 ∷ []) p.1 ]

pub names_read : (done ms : List (List ℕ)) (r : List ℕ) → AllByRecursion ShortName ms → Distinct (done ++ ms) → names_at (length ms) done (flat_map name_field ms ++ r) ≡ Ok (done ++ ms, r)
names_read done [] r a d = ap (λ (z : List (List ℕ)). Ok (z, r)) (sym (append-nil done))
names_read done (m ∷ ms) r a d =
    let new = distinct_before done m ms d in
    let good = good_from m done a.0 (omega (arith, before_le m done)) in
    let same : (done ++ m ∷ []) ++ ms ≡ done ++ m ∷ ms = append_assoc done (m ∷ []) ms in
    ap (names_at (suc (length ms)) done) (append_assoc (name_field m) (flat_map name_field ms) r)
    ∙ ap (after_field (length ms) done (name_field m ++ (flat_map name_field ms ++ r))) (field_read done m (flat_map name_field ms ++ r) good)
    ∙ names_read (done ++ m ∷ []) ms r a.1 (subst Distinct (sym same) d)
    ∙ ap (λ (z : List (List ℕ)). Ok (z, r)) same

pub field_is : (ms : List (List ℕ)) (s m r : List ℕ) → name_field_at ms s ≡ Some (m, r) → (s ≡ name_field m ++ r) × ShortName m × (length ms ≤ before m ms)
field_is ms [] m r e = cc
field_is ms (k ∷ s) m r e =
    let t = cond_some _ _ _ e in
    let p = and_parts (leb k (length s)) _ t.0 in
    let same = same_Some (take k s, drop k s) (m, r) t.1 in
    let front : take k s ≡ m = ap (λ q. q.0) same in
    let back : drop k s ≡ r = ap (λ q. q.1) same in
    let g = good_to (take k s) ms p.1 in
    let long : k ≡ length m = sym (length-take-le k s (leb-true k (length s) p.0)) ∙ ap length front in
    let whole : s ≡ m ++ r = sym (take-append-drop k s) ∙ ap₂ (λ (x : List ℕ) (y : List ℕ). x ++ y) front back in
    (ap₂ (λ (x : ℕ) (y : List ℕ). x ∷ y) long whole, subst ShortName front g.0, subst (λ (z : List ℕ). length ms ≤ before z ms) front (omega (arith, g.1)))

pub ok_same : {A B : Type 0} (x y : A) → ◌≡◌ {A = Result A B} (Ok x) (Ok y) → x ≡ y
ok_same x y e = cc

pub err_ok : {A B : Type 0} (x : B) (y : A) → ◌≡◌ {A = Result A B} (Err x) (Ok y) → ⊥
err_ok x y e = cc

-- k names were read behind the names `done`, and r follows them in s
pub record NamesRead (k : ℕ) (done : List (List ℕ)) (s : List ℕ) (ms : List (List ℕ)) (r : List ℕ) : Type 0 where
  pub more : List (List ℕ)
  pub all : ms ≡ done ++ more
  pub is : s ≡ flat_map name_field more ++ r
  pub many : length more ≡ k
  pub good : Good ms

pub names_are : (k : ℕ) (done : List (List ℕ)) (s : List ℕ) (ms : List (List ℕ)) (r : List ℕ) → Good done → names_at k done s ≡ Ok (ms, r) → NamesRead k done s ms r
names_are zero done s ms r g e =
    let same = ok_same (done, s) (ms, r) e in
    record { more = []; all = sym (ap (λ p. p.0) same) ∙ sym (append-nil done); is = ap (λ p. p.1) same; many = refl; good = subst Good (ap (λ p. p.0) same) g }
names_are (suc k) done s ms r g e = go (name_field_at done s) refl e (names_are k)
  where
    go : (o : Option (List ℕ × List ℕ)) → name_field_at done s ≡ o → after_field k done s o ≡ Ok (ms, r)
        → ((d : List (List ℕ)) (t : List ℕ) (ns : List (List ℕ)) (u : List ℕ) → Good d → names_at k d t ≡ Ok (ns, u) → NamesRead k d t ns u) → NamesRead (suc k) done s ms r
    go None i h ih = cc
    go (Some p) i h ih =
        let f = field_is done s p.0 p.1 i in
        let n = ih (done ++ p.0 ∷ []) p.1 ms r (good_new p.0 done f.1 f.2 g) h in
        record {
          more = p.0 ∷ n.more;
          all = n.all ∙ append_assoc done (p.0 ∷ []) n.more;
          is = f.0 ∙ ap (λ (z : List ℕ). name_field p.0 ++ z) n.is ∙ sym (append_assoc (name_field p.0) (flat_map name_field n.more) r);
          many = ap suc n.many;
          good = n.good;
        }
