-- Images of plans open, and what opens is the image of a plan.
use Rattle.std.proofs.Common.{◌≡◌, ℕ, ◌+◌, ◌*◌, ◌≤◌, Bool, true, false, cond, ◌&&◌, eqb, leb, List, [], ◌∷◌, ◌++◌, length, take, Some, None, Ok, Err, Option, Result, sym, refl, ap, ◌∙◌, subst, ap₂, arith}
use lib.ListN.{length-map}
use Rattle.std.specs.List.{flat_map, AllByRecursion}
use Rattle.std.proofs.lemmas.List.{append-nil, length-append, nil_from_length, take_all}
use Rattle.std.proofs.lemmas.Bool.{cond-true, le-leb, leb-true, eq-eqb, eqb-true, and_parts, and_from}
use Rattle.names.specs.Lists.{ShortName}
use Rattle.names.proofs.Found.{cond_some}
use Rattle.names.proofs.Firsts.{Good, good_none}
use Rattle.tree.specs.Nodes.{Node as TreeNode, Laws, nowhere, node_limit}
use Rattle.tree.specs.Laws.{laws_chain}
use Rattle.stored.specs.declared.fault.ImageFault.{ImageFault}
use Rattle.stored.specs.declared.fault.ImageFault.TheVariants.{Length, Version}
use Rattle.stored.specs.Bytes.{two, four, two_at, four_at}
use Rattle.stored.specs.Plans.{Named, Stored, named_by, plan_of, names_of, nodes_by, stored, Storable}
use Rattle.stored.specs.Images.{name_field, node_field, body, image}
use Rattle.stored.specs.Openings.{counted, count_at, names_at, nodes_at, nodes_in, all_names_at, ended, all_nodes_at, with_nodes, with_names, opened_body, sized, body_at, opened}
use Rattle.stored.specs.Laws.{ImagesOpen, OpenedAreImages}
use Rattle.stored.proofs.Bytes.{two_read, two_is, four_read, four_is}
use Rattle.stored.proofs.NameFields.{names_read, names_are}
use Rattle.stored.proofs.NodeFields.{Turn, From, greatest, nodes_read, nodes_back, nodes_are, turn_labels, length_fields}
use Rattle.stored.proofs.Turns.{Deep, length_by, from_by, turn_by, greatest_by, known_here, plan_back, grown_turn, nodes_turn}
use Rattle.stored.proofs.Storable.{storable, chain_deep, turn_deep, turn_laws}

count_read : (most n : ℕ) (s : List ℕ) → 1 ≤ n → n ≤ most → most ≤ 65535 → count_at most (two n ++ s) ≡ Some (n, s)
count_read most n s a b c = ap (counted most) (two_read n s (omega arith)) ∙ cond-true _ _ None (and_from _ _ (le-leb 1 n a) (le-leb n most b))

pub count_is : (most : ℕ) (s : List ℕ) (n : ℕ) (r : List ℕ) → count_at most s ≡ Some (n, r) → (s ≡ two n ++ r) × (1 ≤ n) × (n ≤ most)
count_is most s n r e = go (two_at s) refl e
  where
    go : (o : Option (ℕ × List ℕ)) → two_at s ≡ o → counted most o ≡ Some (n, r) → (s ≡ two n ++ r) × (1 ≤ n) × (n ≤ most)
    go None i h = cc
    go (Some p) i h =
        let t = cond_some _ _ _ h in
        let b = and_parts (leb 1 p.0) (leb p.0 most) t.0 in
        let same : p ≡ (n, r) = cc in
        let here : two_at s ≡ Some (n, r) = i ∙ ap (λ (q : ℕ × List ℕ). Some q) same in
        ((two_is s n r here).0, subst (λ (k : ℕ). 1 ≤ k) (ap (λ q. q.0) same) (leb-true 1 p.0 b.0), subst (λ (k : ℕ). k ≤ most) (ap (λ q. q.0) same) (leb-true p.0 most b.1))

-- what all names and all nodes are, by the count before them
abbrev names_behind : List ℕ → Option (ℕ × List ℕ) → Result (List (List ℕ) × List ℕ) (List ℕ)
names_behind s o = elim o as (λ _. Result (List (List ℕ) × List ℕ) (List ℕ)) [ None ↦ Err s | Some p ↦ names_at p.0 [] p.1 ]

abbrev nodes_behind : ℕ → List ℕ → Option (ℕ × List ℕ) → Result (List TreeNode) (List ℕ)
nodes_behind k s o = elim o as (λ _. Result (List TreeNode) (List ℕ)) [ None ↦ Err s | Some p ↦ ended k p.1 (nodes_at k p.0 0 0 p.1) ]

abbrev body_behind : Result (List ℕ) ImageFault → Result Stored ImageFault
body_behind r = elim r as (λ _. Result Stored ImageFault) [ Err e ↦ Err e | Ok b ↦ opened_body b ]

pub length_names : (ms : List (List ℕ)) → AllByRecursion ShortName ms → length (flat_map name_field ms) ≤ 65 * length ms
length_names [] a = omega arith
length_names (m ∷ ms) a = omega (arith, length_names ms a.1, length-append (name_field m) (flat_map name_field ms), a.0.1)

-- an image has 10 to 45,577 bytes
pub length_body : (st : Stored) → length (body st) ≡ 4 + (length (flat_map name_field st.names) + 3 * length st.nodes)
length_body st = omega (arith, length-append (flat_map name_field st.names) (two (length st.nodes) ++ flat_map node_field st.nodes), length_fields st.nodes)

names_some : (ps : List Named) → 1 ≤ length ps → 1 ≤ length (names_of ps)
names_some [] h = absurd (omega arith)
names_some (p ∷ ps) h = omega (arith, known_here [] p ps)

module _ (ps : List Named) (s : Storable ps) where
  abbrev its_names : List (List ℕ)
  its_names = (stored ps).names

  abbrev its_nodes : List TreeNode
  its_nodes = (stored ps).nodes

  pub body_short : length (body (stored ps)) ≤ 45572
  body_short = omega (arith, length_body (stored ps), length_names its_names s.names.names, s.names.most, s.nodes.most)

  turn : Turn (length its_names) 0 0 its_nodes
  turn = turn_by 1 0 [] ps (subst (Deep 0) (plan_back ps) (chain_deep its_names nowhere its_nodes (laws_chain node_limit its_nodes s.nodes))) (omega (arith, s.names.most))

  nodes_open : nodes_at (length its_names) (length its_nodes) 0 0 (flat_map node_field its_nodes) ≡ Ok (length its_names, [])
  nodes_open =
      ap (nodes_at (length its_names) (length its_nodes) 0 0) (sym (append-nil (flat_map node_field its_nodes)))
      ∙ nodes_read (length its_names) 0 0 its_nodes [] turn
      ∙ ap (λ (g : ℕ). Ok (g, [])) (greatest_by 1 [] ps)

  all_nodes_open : all_nodes_at (length its_names) (two (length its_nodes) ++ flat_map node_field its_nodes) ≡ Ok its_nodes
  all_nodes_open =
      ap (nodes_behind (length its_names) (two (length its_nodes) ++ flat_map node_field its_nodes)) (count_read 4096 (length its_nodes) (flat_map node_field its_nodes) s.nodes.some s.nodes.most (omega arith))
      ∙ ap (ended (length its_names) (flat_map node_field its_nodes)) nodes_open
      ∙ cond-true _ _ (Err []) (and_from _ _ refl (eq-eqb (length its_names) (length its_names) refl))
      ∙ ap (λ (z : List TreeNode). Ok z) (nodes_back 1 its_nodes (from_by its_names 1 ps) (turn_labels (length its_names) 0 0 its_nodes turn))

  all_names_open : all_names_at (body (stored ps)) ≡ Ok (its_names, two (length its_nodes) ++ flat_map node_field its_nodes)
  all_names_open =
      let some : 1 ≤ length its_names = names_some ps (omega (arith, s.nodes.some, length_by its_names 1 ps)) in
      ap (names_behind (body (stored ps))) (count_read 512 (length its_names) (flat_map name_field its_names ++ (two (length its_nodes) ++ flat_map node_field its_nodes)) some s.names.most (omega arith))
      ∙ names_read [] its_names (two (length its_nodes) ++ flat_map node_field its_nodes) s.names.names s.names.distinct

  body_open : body_at (image ps) ≡ Ok (body (stored ps))
  body_open =
      let long = length (body (stored ps)) in
      ap sized (four_read long (body (stored ps)) (omega (arith, body_short)))
      ∙ cond-true (eqb long long) (Ok (body (stored ps))) (Err Length) (eq-eqb long long refl)

  image_opens : opened (image ps) ≡ Ok (stored ps)
  image_opens =
      ap body_behind body_open
      ∙ ap (with_names (body (stored ps))) all_names_open
      ∙ ap (with_nodes (body (stored ps)) its_names) all_nodes_open

pub images_open : ImagesOpen
images_open ps s = image_opens ps s

-- what was read where all nodes were
ended_ok : (k : ℕ) (s : List ℕ) (r : Result (ℕ × List ℕ) (List ℕ)) (ns : List TreeNode) → ended k s r ≡ Ok ns → (r ≡ Ok (k, [])) × (nodes_in 1 s ≡ ns)
ended_ok k s (Err at) ns h = cc
ended_ok k s (Ok p) ns h = go (eqb (length p.1) 0 && eqb p.0 k) refl h
  where
    go : (b : Bool) → (eqb (length p.1) 0 && eqb p.0 k) ≡ b → cond b (Ok (nodes_in 1 s)) (Err p.1) ≡ Ok ns → (◌≡◌ {A = Result (ℕ × List ℕ) (List ℕ)} (Ok p) (Ok (k, []))) × (nodes_in 1 s ≡ ns)
    go false e q = cc
    go true e q =
        let t = and_parts (eqb (length p.1) 0) (eqb p.0 k) e in
        (ap₂ (λ (x : ℕ) (y : List ℕ). Ok (x, y)) (eqb-true p.0 k t.1) (nil_from_length p.1 (eqb-true (length p.1) 0 t.0)), cc)

-- the fields of nodes that are all there
pub record AllNodes (k : ℕ) (s : List ℕ) (ns : List TreeNode) : Type 0 where
  pub is : s ≡ two (length ns) ++ flat_map node_field ns
  pub some : 1 ≤ length ns
  pub most : length ns ≤ 4096
  pub from : From 1 ns
  pub turn : Turn k 0 0 ns
  pub last : greatest 0 ns ≡ k

all_nodes_are : (k : ℕ) (s : List ℕ) (ns : List TreeNode) → all_nodes_at k s ≡ Ok ns → AllNodes k s ns
all_nodes_are k s ns e = go (count_at 4096 s) refl e
  where
    go : (o : Option (ℕ × List ℕ)) → count_at 4096 s ≡ o → nodes_behind k s o ≡ Ok ns → AllNodes k s ns
    go None i h = cc
    go (Some p) i h =
        let c = count_is 4096 s p.0 p.1 i in
        let t = ended_ok k p.1 (nodes_at k p.0 0 0 p.1) ns h in
        let n = nodes_are k p.0 0 0 1 p.1 k [] t.0 in
        let fields : p.1 ≡ flat_map node_field n.nodes = n.is ∙ append-nil (flat_map node_field n.nodes) in
        let same : n.nodes ≡ ns = sym (nodes_back 1 n.nodes n.from (turn_labels k 0 0 n.nodes n.turn)) ∙ ap (nodes_in 1) (sym fields) ∙ t.1 in
        subst (AllNodes k s) same (record {
          is = c.0 ∙ ap₂ (λ (x : ℕ) (y : List ℕ). two x ++ y) (sym n.many) fields;
          some = omega (arith, c.1, n.many);
          most = omega (arith, c.2, n.many);
          from = n.from;
          turn = n.turn;
          last = sym n.last;
        })

pub all_nodes_laws : (k : ℕ) (s : List ℕ) (ns : List TreeNode) → all_nodes_at k s ≡ Ok ns → Laws node_limit ns
all_nodes_laws k s ns e = let n = all_nodes_are k s ns e in turn_laws k 0 ns n.turn n.from n.some n.most

sized_ok : (o : Option (ℕ × List ℕ)) (b : List ℕ) → sized o ≡ Ok b → o ≡ Some (length b, b)
sized_ok None b h = cc
sized_ok (Some p) b h = go (eqb p.0 (length p.1)) refl h
  where
    go : (c : Bool) → eqb p.0 (length p.1) ≡ c → cond c (Ok p.1) (Err Length) ≡ Ok b → Some p ≡ Some (length b, b)
    go false e q = cc
    go true e q =
        let same : p.1 ≡ b = cc in
        ap₂ (λ (x : ℕ) (y : List ℕ). Some (x, y)) (eqb-true p.0 (length p.1) e ∙ ap length same) same

body_is : (s b : List ℕ) → body_at s ≡ Ok b → s ≡ 1 ∷ (four (length b) ++ b)
body_is [] b h = cc
body_is (v ∷ s) b h = go (eqb v 1) refl h
  where
    go : (c : Bool) → eqb v 1 ≡ c → cond c (sized (four_at s)) (Err Version) ≡ Ok b → v ∷ s ≡ 1 ∷ (four (length b) ++ b)
    go false e q = cc
    go true e q = ap₂ (λ (x : ℕ) (y : List ℕ). x ∷ y) (eqb-true v 1 e) (four_is s (length b) b (sized_ok (four_at s) b q))

-- the fields of names that are all there
pub record AllNames (s : List ℕ) (ms : List (List ℕ)) (r : List ℕ) : Type 0 where
  pub is : s ≡ two (length ms) ++ (flat_map name_field ms ++ r)
  pub most : length ms ≤ 512
  pub good : Good ms

all_names_are : (s : List ℕ) (ms : List (List ℕ)) (r : List ℕ) → all_names_at s ≡ Ok (ms, r) → AllNames s ms r
all_names_are s ms r e = go (count_at 512 s) refl e
  where
    go : (o : Option (ℕ × List ℕ)) → count_at 512 s ≡ o → names_behind s o ≡ Ok (ms, r) → AllNames s ms r
    go None i h = cc
    go (Some p) i h =
        let c = count_is 512 s p.0 p.1 i in
        let n = names_are p.0 [] p.1 ms r good_none h in
        let many : length ms ≡ p.0 = ap length n.all ∙ n.many in
        record {
          is = c.0 ∙ ap₂ (λ (x : ℕ) (y : List ℕ). two x ++ y) (sym many) (n.is ∙ ap (λ (z : List (List ℕ)). flat_map name_field z ++ r) (sym n.all));
          most = omega (arith, c.2);
          good = n.good;
        }

-- names and nodes that were read are those of a plan
module _ (ms : List (List ℕ)) (ns : List TreeNode) (r s : List ℕ) (a : AllNames s ms r) (b : AllNodes (length ms) r ns) where
  abbrev plan : List Named
  plan = plan_of ms ns

  same_names : names_of plan ≡ ms
  same_names =
      grown_turn ms 0 0 ns a.good.distinct (omega arith) b.turn
      ∙ ap (λ (k : ℕ). take k ms) b.last
      ∙ take_all (length ms) ms (omega arith)

  same_nodes : nodes_by (names_of plan) 1 plan ≡ ns
  same_nodes = ap (λ (z : List (List ℕ)). nodes_by z 1 plan) same_names ∙ nodes_turn ms 0 0 1 ns a.good.distinct b.from b.turn

  same_stored : record { names = ms; nodes = ns } ≡ stored plan
  same_stored = λ i. record { names = sym same_names i; nodes = sym same_nodes i }

  read_storable : Storable plan
  read_storable =
      let long = length-map ns (named_by ms) in
      storable plan (subst Good (sym same_names) a.good) (omega (arith, a.most, ap length same_names)) (turn_deep (length ms) 0 0 ms ns b.turn) (omega (arith, b.some)) (omega (arith, b.most))

  read_body : s ≡ body (stored plan)
  read_body = a.is ∙ ap (λ (z : List ℕ). two (length ms) ++ (flat_map name_field ms ++ z)) b.is ∙ ap body same_stored

abbrev ImageOf : List ℕ → Stored → Type 0
ImageOf s st = (ps : List Named) × Storable ps × (s ≡ image ps) × (st ≡ stored ps)

nodes_opened : (s b : List ℕ) (st : Stored) (p : List (List ℕ) × List ℕ) (r : Result (List TreeNode) (List ℕ)) → s ≡ 1 ∷ (four (length b) ++ b) → AllNames b p.0 p.1 → all_nodes_at (length p.0) p.1 ≡ r → with_nodes b p.0 r ≡ Ok st → ImageOf s st
nodes_opened s b st p (Err at) e a f h = cc
nodes_opened s b st p (Ok ns) e a f h =
    let n = all_nodes_are (length p.0) p.1 ns f in
    let same : record { names = p.0; nodes = ns } ≡ st = cc in
    let whole = read_body p.0 ns p.1 b a n in
    (plan_of p.0 ns, read_storable p.0 ns p.1 b a n, e ∙ ap (λ (z : List ℕ). 1 ∷ (four (length z) ++ z)) whole, sym same ∙ same_stored p.0 ns p.1 b a n)

names_opened : (s b : List ℕ) (st : Stored) (r : Result (List (List ℕ) × List ℕ) (List ℕ)) → s ≡ 1 ∷ (four (length b) ++ b) → all_names_at b ≡ r → with_names b r ≡ Ok st → ImageOf s st
names_opened s b st (Err at) e f h = cc
names_opened s b st (Ok p) e f h = nodes_opened s b st p (all_nodes_at (length p.0) p.1) e (all_names_are b p.0 p.1 f) refl h

body_opened : (s : List ℕ) (st : Stored) (r : Result (List ℕ) ImageFault) → body_at s ≡ r → body_behind r ≡ Ok st → ImageOf s st
body_opened s st (Err e) i h = cc
body_opened s st (Ok b) i h = names_opened s b st (all_names_at b) (body_is s b i) refl h

pub opened_are_images : OpenedAreImages
opened_are_images s st e = body_opened s st (body_at s) refl e
