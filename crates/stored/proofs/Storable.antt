-- Plans that can be stored, and the trees that they come from.
use Rattle.std.proofs.Common.{◌≡◌, ℕ, zero, suc, ◌<◌, ◌≤◌, max, true, leb, List, [], ◌∷◌, length, get_or, refl, arith}
use lib.ListN.{length-map}
use Rattle.std.specs.List.{AllByRecursion}
use Rattle.std.proofs.ByRecursion.{All-get_or}
use Rattle.std.proofs.lemmas.Bool.{le-leb, and_parts, and_from}
use Rattle.names.specs.Lists.{before, ShortName}
use Rattle.names.proofs.Names.{before_first}
use Rattle.names.proofs.Firsts.{Good, good_none, good_firsts, first_names_few}
use Rattle.tree.specs.Nodes.{Node, Laws, nowhere, node_limit, shape, follows, chain, lawful}
use Rattle.tree.specs.Laws.{lawful_laws, laws_chain}
use Rattle.stored.specs.Plans.{Named, name_at, named_by, plan_of, names_of, nodes_by, Storable}
use Rattle.stored.specs.Laws.{TreesArePlans}
use Rattle.stored.proofs.NodeFields.{Turn, From, shape_label, turn_chain}
use Rattle.stored.proofs.Turns.{Deep, from_by, length_by, turn_by}

-- a depth that suits one label suits every other
pub shape_other : (d k l e : ℕ) → shape d k e ≡ true → 1 ≤ l → l ≤ 65535 → shape d l e ≡ true
shape_other d k l e h a b =
    and_from _ _ (le-leb 1 l a) (and_from _ _ (le-leb l 65535 b) (and_parts (leb k 65535) _ (and_parts (leb 1 k) _ h).1).1)

pub chain_deep : (ms : List (List ℕ)) (p : Node) (ns : List Node) → chain p ns ≡ true → Deep p.depth (plan_of ms ns)
chain_deep ms p [] h = tt
chain_deep ms p (n ∷ ns) h =
    let c = and_parts (follows p n) (chain n ns) h in
    let s = (and_parts (shape p.depth n.label n.depth) _ c.0).0 in
    (λ l a b. shape_other p.depth n.label l n.depth s a b, chain_deep ms n ns c.1)

pub turn_deep : (k g d : ℕ) (ms : List (List ℕ)) (ns : List Node) → Turn k g d ns → Deep d (plan_of ms ns)
turn_deep k g d ms [] t = tt
turn_deep k g d ms (n ∷ ns) t = (λ l a b. shape_other d n.label l n.depth t.1 a b, turn_deep k (max g n.label) n.depth ms ns t.2)

-- nodes that come in their turn are a tree
pub turn_laws : (k g : ℕ) (ns : List Node) → Turn k g 0 ns → From 1 ns → 1 ≤ length ns → length ns ≤ node_limit → Laws node_limit ns
unfolding lawful
turn_laws k g ns t f a b =
    lawful_laws node_limit ns (and_from _ _ (le-leb 1 (length ns) a) (and_from _ _ (le-leb (length ns) node_limit b) (turn_chain k g nowhere ns t f (omega arith))))

pub storable : (ps : List Named) → Good (names_of ps) → length (names_of ps) ≤ 512 → Deep 0 ps → 1 ≤ length ps → length ps ≤ node_limit → Storable ps
storable ps g m d a b =
    let long = length_by (names_of ps) 1 ps in
    record {
      names = record { most = m; names = g.names; distinct = g.distinct };
      nodes = turn_laws (length (names_of ps)) 0 (nodes_by (names_of ps) 1 ps) (turn_by 1 0 [] ps d (omega arith)) (from_by (names_of ps) 1 ps) (omega arith) (omega arith);
    }

-- the labels of nodes are numbers of the names ms
abbrev pub Borne : List (List ℕ) → Node → Type 0
Borne ms n = (1 ≤ n.label) × (n.label ≤ length ms)

pub chain_borne : (ms : List (List ℕ)) (p : Node) (ns : List Node) → chain p ns ≡ true → AllByRecursion (λ n. n.label ≤ length ms) ns → AllByRecursion (Borne ms) ns
chain_borne ms p [] h a = tt
chain_borne ms p (n ∷ ns) h a =
    let c = and_parts (follows p n) (chain n ns) h in
    (((shape_label p.depth n.label n.depth (and_parts (shape p.depth n.label n.depth) _ c.0).0).0, a.0), chain_borne ms n ns c.1 a.1)

name_short : (ms : List (List ℕ)) (l : ℕ) → AllByRecursion ShortName ms → 1 ≤ l → l ≤ length ms → ShortName (name_at ms l)
name_short ms zero s a b = absurd (omega arith)
name_short ms (suc k) s a b = All-get_or ShortName ms k [] (omega arith) s

name_known : (ms : List (List ℕ)) (l : ℕ) → 1 ≤ l → l ≤ length ms → before (name_at ms l) ms < length ms
name_known ms zero a b = absurd (omega arith)
name_known ms (suc k) a b = omega (arith, before_first (get_or ms k []) ms k (omega arith) refl)

plan_short : (ms : List (List ℕ)) (ns : List Node) → AllByRecursion ShortName ms → AllByRecursion (Borne ms) ns → AllByRecursion (λ p. ShortName p.name) (plan_of ms ns)
plan_short ms [] s a = tt
plan_short ms (n ∷ ns) s a = (name_short ms n.label s a.0.0 a.0.1, plan_short ms ns s a.1)

pub plan_known : (ms : List (List ℕ)) (ns : List Node) → AllByRecursion (Borne ms) ns → AllByRecursion (λ p. before p.name ms < length ms) (plan_of ms ns)
plan_known ms [] a = tt
plan_known ms (n ∷ ns) a = (name_known ms n.label a.0.0 a.0.1, plan_known ms ns a.1)

pub trees_are_plans : TreesArePlans
trees_are_plans ms ns list laws a =
    let ps = plan_of ms ns in
    let c = laws_chain node_limit ns laws in
    let borne = chain_borne ms nowhere ns c a in
    let few = first_names_few (λ (p : Named). p.name) ms ps (plan_known ms ns borne) in
    let long = length-map ns (named_by ms) in
    storable ps (good_firsts (λ (p : Named). p.name) [] ps (plan_short ms ns list.names borne) good_none) (omega (arith, list.most)) (chain_deep ms nowhere ns c) (omega (arith, laws.some)) (omega (arith, laws.most))
