-- What opening finds, by what its parts answer.
use Rattle.std.proofs.Common.{◌≡◌, ℕ, ◌+◌, ◌*◌, ◌≤◌, Bool, true, false, List, [], length, Some, Ok, Err, Result, sym, refl, ap, ◌∙◌, subst, arith}
use Rattle.std.proofs.lemmas.Bool.{both_ways}
use Rattle.names.specs.Lists.{IsNameList}
use Rattle.names.proofs.Firsts.{good_none}
use Rattle.tree.specs.Nodes.{Node, node_limit, lawful}
use Rattle.tree.specs.Laws.{laws_lawful}
use Rattle.stored.specs.declared.fault.ImageFault.{ImageFault}
use Rattle.stored.specs.Plans.{stored}
use Rattle.stored.specs.Openings.{count_at, names_at, all_nodes_at, opened}
use Rattle.stored.proofs.NameFields.{names_are, err_ok}
use Rattle.stored.proofs.Openings.{count_is, all_nodes_laws, images_open, opened_are_images}
use Rattle.stored.proofs.Places.{Near, near_more, near_less, count_near, names_near, all_nodes_near, end_of}
use Rattle.image.specs.Named.{readable, names_in}
use Rattle.image.specs.declared.image.Image.{Image}
use Rattle.image.specs.Showing.{Opens, Judged}

-- bytes that are refused are the image of no plan
pub judged : (s : List ℕ) (before : Image) (r : Result (Unit {0}) ImageFault) (after : Image) → Opens s before r after → Judged s r after
judged s before (Ok u) after o = opened_are_images s _ o
judged s before (Err e) after o = λ ps k is. err_ok e (stored ps) (sym o.0 ∙ ap opened is ∙ images_open ps k)

module _ (b : List ℕ) (k : ℕ) (f : List ℕ) (count : Some (k, f) ≡ count_at 512 b) where
  few : k ≤ 512
  few = (count_is 512 b k f (sym count)).2

  names_end : (t : List ℕ) → end_of (names_at k [] f) ≡ t → Near (2 + 65 * k) b t
  names_end t e = near_more 2 (65 * k) b f t (count_near 512 b k f (sym count)) (subst (Near (65 * k) f) e (names_near k [] f))

  pub name_near : (at : List ℕ) → Err at ≡ names_at k [] f → Near 65535 b at
  name_near at e = near_less (2 + 65 * k) 65535 b at (omega (arith, few)) (names_end at (ap end_of (sym e)))

  pub node_near : (ms : List (List ℕ)) (r at : List ℕ) → Ok (ms, r) ≡ names_at k [] f → Err at ≡ all_nodes_at k r → Near 65535 b at
  node_near ms r at e h = near_less (2 + 65 * k + 12290) 65535 b at (omega (arith, few)) (near_more (2 + 65 * k) 12290 b r at (names_end r (ap end_of (sym e))) (all_nodes_near k r at (sym h)))

pub are_lawful : (k : ℕ) (r : List ℕ) (ns : List Node) → Ok ns ≡ all_nodes_at k r → lawful node_limit ns ≡ true
are_lawful k r ns e = laws_lawful node_limit ns (all_nodes_laws k r ns (sym e))

-- names that can be read are a name list
pub readable_names : (k : ℕ) (f : List ℕ) → k ≤ 512 → readable k f ≡ true → (r : List ℕ) × (names_at k [] f ≡ Ok (names_in k f, r)) × IsNameList (names_in k f)
readable_names k f few h = go (names_at k [] f) refl h
  where
    go : (z : Result (List (List ℕ) × List ℕ) (List ℕ)) → names_at k [] f ≡ z → elim z as (λ _. Bool) [ Ok p ↦ true | Err at ↦ false ] ≡ true
        → (r : List ℕ) × (z ≡ Ok (elim z as (λ _. List (List ℕ)) [ Ok p ↦ p.0 | Err at ↦ [] ], r)) × IsNameList (elim z as (λ _. List (List ℕ)) [ Ok p ↦ p.0 | Err at ↦ [] ])
    go (Err at) e q = absurd (both_ways false refl q)
    go (Ok p) e q =
        let n = names_are k [] f p.0 p.1 good_none e in
        (p.1, refl, record { most = omega (arith, ap length n.all, n.many); names = n.good.names; distinct = n.good.distinct })
