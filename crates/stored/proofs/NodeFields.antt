-- Node fields written and read again.
use Rattle.std.proofs.Common.{◌≡◌, ℕ, zero, suc, ◌+◌, ◌*◌, ◌/◌, ◌%◌, ◌≤◌, max, Bool, true, false, cond, ◌&&◌, ltb, leb, List, [], ◌∷◌, ◌++◌, length, Some, None, Ok, Err, Option, Result, sym, refl, ap, ◌∙◌, subst, ap₂, arith}
use Rattle.std.specs.List.{flat_map, AllByRecursion}
use Rattle.std.proofs.lemmas.Bool.{cond-true, lt-ltb, ltb-true, le-leb, leb-true, and_parts, and_from}
use Rattle.std.proofs.lemmas.Option.{same_Some}
use Rattle.names.proofs.Found.{cond_some}
use Rattle.stored.proofs.NameFields.{ok_same}
use Rattle.tree.specs.Nodes.{Node, shape, chain}
use Rattle.stored.specs.Bytes.{two}
use Rattle.stored.specs.Images.{node_field}
use Rattle.stored.specs.Openings.{in_turn, node_field_at, nodes_at, nodes_in}
use Rattle.stored.proofs.Bytes.{two_written}

-- each node may stand where it does, behind the greatest label g and the depth d, where there are k names
abbrev pub Turn : ℕ → ℕ → ℕ → List Node → Type 0
Turn k g d [] = Unit {0}
Turn k g d (n ∷ ns) = (in_turn k g n.label ≡ true) × (shape d n.label n.depth ≡ true) × Turn k (max g n.label) n.depth ns

abbrev pub greatest : ℕ → List Node → ℕ
greatest g [] = g
greatest g (n ∷ ns) = greatest (max g n.label) ns

-- the origins are i, i + 1, ..
abbrev pub From : ℕ → List Node → Type 0
From i [] = Unit {0}
From i (n ∷ ns) = (n.origin ≡ i) × From (suc i) ns

pub shape_label : (d l e : ℕ) → shape d l e ≡ true → (1 ≤ l) × (l ≤ 65535)
shape_label d l e h = let a = and_parts (leb 1 l) _ h in (leb-true 1 l a.0, leb-true l 65535 (and_parts (leb l 65535) _ a.1).0)

label_value : (l : ℕ) → l ≤ 65535 → l / 256 % 256 * 256 + l % 256 ≡ l
label_value l h = omega arith

field_read : (n : Node) (r : List ℕ) → n.label ≤ 65535 → node_field_at (node_field n ++ r) ≡ Some ((n.label, n.depth), r)
field_read n r h =
    cond-true _ _ None (and_from _ _ (lt-ltb (n.label / 256 % 256) 256 (omega arith)) (lt-ltb (n.label % 256) 256 (omega arith)))
    ∙ ap (λ (l : ℕ). Some ((l, n.depth), r)) (label_value n.label h)

-- what reading goes on with, by what the first field is
abbrev step : ℕ → ℕ → ℕ → ℕ → List ℕ → Bool → ℕ → ℕ → List ℕ → Result (ℕ × List ℕ) (List ℕ)
step k n g d s b l e r = cond b (nodes_at k n (max g l) e r) (Err s)

abbrev after_field : ℕ → ℕ → ℕ → ℕ → List ℕ → Option ((ℕ × ℕ) × List ℕ) → Result (ℕ × List ℕ) (List ℕ)
after_field k n g d s o = elim o as (λ _. Result (ℕ × List ℕ) (List ℕ)) [ None ↦ Err s | Some p ↦ step k n g d s (in_turn k g p.0.0 && shape d p.0.0 p.0.1) p.0.0 p.0.1 p.1 ]

pub nodes_read : (k g d : ℕ) (ns : List Node) (r : List ℕ) → Turn k g d ns → nodes_at k (length ns) g d (flat_map node_field ns ++ r) ≡ Ok (greatest g ns, r)
nodes_read k g d [] r t = refl
nodes_read k g d (n ∷ ns) r t =
    let s = node_field n ++ (flat_map node_field ns ++ r) in
    ap (after_field k (length ns) g d s) (field_read n (flat_map node_field ns ++ r) (shape_label d n.label n.depth t.1).1)
    ∙ cond-true _ _ (Err s) (and_from _ _ t.0 t.1)
    ∙ nodes_read k (max g n.label) n.depth ns r t.2

pub nodes_back : (i : ℕ) (ns : List Node) → From i ns → AllByRecursion (λ n. n.label ≤ 65535) ns → nodes_in i (flat_map node_field ns) ≡ ns
nodes_back i [] f a = refl
nodes_back i (n ∷ ns) f a =
    let here : record { label = n.label / 256 % 256 * 256 + n.label % 256; depth = n.depth; origin = i } ≡ n = λ j. record { label = label_value n.label a.0 j; depth = n.depth; origin = sym f.0 j } in
    ap₂ (λ (x : Node) (xs : List Node). x ∷ xs) here (nodes_back (suc i) ns f.1 a.1)

pub field_is : (s : List ℕ) (l e : ℕ) (r : List ℕ) → node_field_at s ≡ Some ((l, e), r) → s ≡ two l ++ e ∷ r
field_is [] l e r h = cc
field_is (a ∷ []) l e r h = cc
field_is (a ∷ b ∷ []) l e r h = cc
field_is (a ∷ b ∷ f ∷ s) l e r h =
    let t = cond_some _ _ _ h in
    let p = and_parts (ltb a 256) (ltb b 256) t.0 in
    let same = same_Some ((a * 256 + b, f), s) ((l, e), r) t.1 in
    let rest : f ∷ s ≡ e ∷ r = ap₂ (λ (x : ℕ) (y : List ℕ). x ∷ y) (ap (λ q. q.0.1) same) (ap (λ q. q.1) same) in
    ap₂ (λ (x : List ℕ) (y : List ℕ). x ++ y) (sym (two_written a b (ltb-true a 256 p.0) (ltb-true b 256 p.1)) ∙ ap (λ q. two q.0.0) same) rest

-- n nodes were read from s, which are numbered from i on, and r follows them
pub record NodesRead (k n g d i : ℕ) (s : List ℕ) (h : ℕ) (r : List ℕ) : Type 0 where
  pub nodes : List Node
  pub is : s ≡ flat_map node_field nodes ++ r
  pub many : length nodes ≡ n
  pub from : From i nodes
  pub turn : Turn k g d nodes
  pub last : h ≡ greatest g nodes

step_ok : (k n g d : ℕ) (s : List ℕ) (b : Bool) (l e : ℕ) (r : List ℕ) (p : ℕ × List ℕ) → step k n g d s b l e r ≡ Ok p → (b ≡ true) × (nodes_at k n (max g l) e r ≡ Ok p)
step_ok k n g d s true l e r p h = (refl, h)
step_ok k n g d s false l e r p h = cc

pub nodes_are : (k n g d i : ℕ) (s : List ℕ) (h : ℕ) (r : List ℕ) → nodes_at k n g d s ≡ Ok (h, r) → NodesRead k n g d i s h r
nodes_are k zero g d i s h r e =
    let same = ok_same (g, s) (h, r) e in
    record { nodes = []; is = ap (λ p. p.1) same; many = refl; from = tt; turn = tt; last = sym (ap (λ p. p.0) same) }
nodes_are k (suc n) g d i s h r e = go (node_field_at s) refl e (nodes_are k n)
  where
    go : (o : Option ((ℕ × ℕ) × List ℕ)) → node_field_at s ≡ o → after_field k n g d s o ≡ Ok (h, r)
        → ((g d i : ℕ) (s : List ℕ) (h : ℕ) (r : List ℕ) → nodes_at k n g d s ≡ Ok (h, r) → NodesRead k n g d i s h r) → NodesRead k (suc n) g d i s h r
    go None q f ih = cc
    go (Some p) q f ih =
        let t = step_ok k n g d s (in_turn k g p.0.0 && shape d p.0.0 p.0.1) p.0.0 p.0.1 p.1 (h, r) f in
        let b = and_parts (in_turn k g p.0.0) (shape d p.0.0 p.0.1) t.0 in
        let m = ih (max g p.0.0) p.0.1 (suc i) p.1 h r t.1 in
        record {
          nodes = record { label = p.0.0; depth = p.0.1; origin = i } ∷ m.nodes;
          is = field_is s p.0.0 p.0.1 p.1 q ∙ ap (λ (z : List ℕ). two p.0.0 ++ p.0.1 ∷ z) m.is;
          many = ap suc m.many;
          from = (refl, m.from);
          turn = (b.0, b.1, m.turn);
          last = m.last;
        }

pub turn_labels : (k g d : ℕ) (ns : List Node) → Turn k g d ns → AllByRecursion (λ n. n.label ≤ 65535) ns
turn_labels k g d [] t = tt
turn_labels k g d (n ∷ ns) t = ((shape_label d n.label n.depth t.1).1, turn_labels k (max g n.label) n.depth ns t.2)

-- such nodes are a chain
pub turn_chain : (k g : ℕ) (p : Node) (ns : List Node) → Turn k g p.depth ns → From (suc p.origin) ns → p.origin + length ns ≤ 65535 → chain p ns ≡ true
turn_chain k g p [] t f m = refl
turn_chain k g p (n ∷ ns) t f m =
    and_from _ _ (and_from _ _ t.1 (and_from _ _ (lt-ltb p.origin n.origin (omega (arith, f.0))) (le-leb n.origin 65535 (omega (arith, f.0)))))
    (turn_chain k (max g n.label) n ns t.2 (subst (λ (j : ℕ). From (suc j) ns) (sym f.0) f.1) (omega (arith, f.0)))

pub length_fields : (ns : List Node) → length (flat_map node_field ns) ≡ 3 * length ns
length_fields [] = refl
length_fields (n ∷ ns) = let r = length_fields ns in omega arith
