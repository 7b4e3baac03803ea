-- How far into an image its fields lie.
use Rattle.std.proofs.Common.{◌≡◌, ℕ, zero, suc, ◌+◌, ◌*◌, ◌≤◌, max, Bool, true, false, cond, ◌&&◌, eqb, List, [], ◌∷◌, ◌++◌, length, Some, None, Ok, Err, Option, Result, refl, ap, ◌∙◌, subst, arith}
use Rattle.std.proofs.lemmas.List.{length-append}
use Rattle.tree.specs.Nodes.{Node, shape}
use Rattle.stored.specs.Images.{name_field}
use Rattle.stored.specs.Bytes.{two}
use Rattle.stored.specs.Openings.{count_at, name_field_at, names_at, in_turn, node_field_at, nodes_at, nodes_in, ended, all_nodes_at}
use Rattle.stored.proofs.NameFields.{field_is}
use Rattle.stored.proofs.NodeFields.{field_is as node-is}
use Rattle.stored.proofs.Openings.{count_is}

-- at is an end of s, with at most w bytes before it
pub record Near (w : ℕ) (s at : List ℕ) : Type 0 where
  pub inside : length at ≤ length s
  pub near : length s ≤ length at + w

pub near_here : (w : ℕ) (s : List ℕ) → Near w s s
near_here w s = record { inside = omega arith; near = omega arith }

pub near_more : (v w : ℕ) (s t at : List ℕ) → Near v s t → Near w t at → Near (v + w) s at
near_more v w s t at p q = record { inside = omega (arith, p.inside, q.inside); near = omega (arith, p.near, q.near) }

pub near_less : (v w : ℕ) (s at : List ℕ) → v ≤ w → Near v s at → Near w s at
near_less v w s at l p = record { inside = p.inside; near = omega (arith, p.near) }

pub count_near : (most : ℕ) (s : List ℕ) (n : ℕ) (r : List ℕ) → count_at most s ≡ Some (n, r) → Near 2 s r
count_near most s n r e =
    let long = ap length (count_is most s n r e).0 ∙ length-append (two n) r in
    record { inside = omega arith; near = omega arith }

-- where reading ends, or stops
abbrev pub end_of : {X : Type 0} → Result (X × List ℕ) (List ℕ) → List ℕ
end_of (Ok p) = p.1
end_of (Err at) = at

pub names_near : (k : ℕ) (ms : List (List ℕ)) (s : List ℕ) → Near (65 * k) s (end_of (names_at k ms s))
names_near zero ms s = near_here 0 s
names_near (suc k) ms s = go (name_field_at ms s) refl (names_near k)
  where
    go : (o : Option (List ℕ × List ℕ)) → name_field_at ms s ≡ o → ((ns : List (List ℕ)) (t : List ℕ) → Near (65 * k) t (end_of (names_at k ns t)))
        → Near (65 * suc k) s (end_of (elim o as (λ _. Result (List (List ℕ) × List ℕ) (List ℕ)) [ None ↦ Err s | Some p ↦ names_at k (ms ++ p.0 ∷ []) p.1 ]))
    go None e ih = near_here (65 * suc k) s
    go (Some p) e ih =
        let f = field_is ms s p.0 p.1 e in
        let long = ap length f.0 ∙ length-append (name_field p.0) p.1 in
        let first : Near 65 s p.1 = record { inside = omega arith; near = omega (arith, f.1.1) } in
        near_less (65 + 65 * k) (65 * suc k) s _ (omega arith) (near_more 65 (65 * k) s p.1 _ first (ih (ms ++ p.0 ∷ []) p.1))

nodes_near : (k n g d : ℕ) (s : List ℕ) → Near (3 * n) s (end_of (nodes_at k n g d s))
nodes_near k zero g d s = near_here 0 s
nodes_near k (suc n) g d s = go (node_field_at s) refl (nodes_near k n)
  where
    go : (o : Option ((ℕ × ℕ) × List ℕ)) → node_field_at s ≡ o → ((g d : ℕ) (t : List ℕ) → Near (3 * n) t (end_of (nodes_at k n g d t)))
        → Near (3 * suc n) s (end_of (elim o as (λ _. Result (ℕ × List ℕ) (List ℕ)) [ None ↦ Err s | Some p ↦ cond (in_turn k g p.0.0 && shape d p.0.0 p.0.1) (nodes_at k n (max g p.0.0) p.0.1 p.1) (Err s) ]))
    go None e ih = near_here (3 * suc n) s
    go (Some p) e ih =
        let long = ap length (node-is s p.0.0 p.0.1 p.1 e) in
        let first : Near 3 s p.1 = record { inside = omega arith; near = omega arith } in
        elim (in_turn k g p.0.0 && shape d p.0.0 p.0.1) as (λ b. Near (3 * suc n) s (end_of (cond b (nodes_at k n (max g p.0.0) p.0.1 p.1) (Err s))))
        [ true ↦ near_less (3 + 3 * n) (3 * suc n) s _ (omega arith) (near_more 3 (3 * n) s p.1 _ first (ih (max g p.0.0) p.0.1 p.1)) | false ↦ near_here (3 * suc n) s ]

ended_near : (w k : ℕ) (s : List ℕ) (r : Result (ℕ × List ℕ) (List ℕ)) (at : List ℕ) → Near w s (end_of r) → ended k s r ≡ Err at → Near w s at
ended_near w k s (Err x) at h e = subst (Near w s) (cc) h
ended_near w k s (Ok p) at h e = go (eqb (length p.1) 0 && eqb p.0 k) e
  where
    go : (b : Bool) → cond b (Ok (nodes_in 1 s)) (Err p.1) ≡ Err at → Near w s at
    go true q = cc
    go false q = subst (Near w s) (cc) h

-- where a wrong node field begins
pub all_nodes_near : (k : ℕ) (s at : List ℕ) → all_nodes_at k s ≡ Err at → Near 12290 s at
all_nodes_near k s at e = go (count_at 4096 s) refl e
  where
    go : (o : Option (ℕ × List ℕ)) → count_at 4096 s ≡ o → elim o as (λ _. Result (List Node) (List ℕ)) [ None ↦ Err s | Some p ↦ ended k p.1 (nodes_at k p.0 0 0 p.1) ] ≡ Err at → Near 12290 s at
    go None i h = subst (Near 12290 s) (cc) (near_here 12290 s)
    go (Some p) i h =
        let c = count_is 4096 s p.0 p.1 i in
        let n = ended_near (3 * p.0) k p.1 (nodes_at k p.0 0 0 p.1) at (nodes_near k p.0 0 0 p.1) h in
        near_less (2 + 3 * p.0) 12290 s at (omega (arith, c.2)) (near_more 2 (3 * p.0) s p.1 at (count_near 4096 s p.0 p.1 i) n)
