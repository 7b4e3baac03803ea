-- Names numbered as they appear among the nodes of a tree, one node after another.
use Rattle.std.proofs.Common.{◌≡◌, ℕ, zero, suc, ◌+◌, ◌-◌, ◌<◌, ◌≤◌, ltb, List, [], ◌∷◌, ◌++◌, length, get_or, take, set, replicate, Some, None, Option, sym, refl, ap, ◌∙◌, subst, ◌⊎◌, inl, inr, ⊎_elim, add-one, arith}
use Rattle.std.specs.List.{AllByRecursion}
use Rattle.std.specs.Option.{unwrap_or}
use Rattle.std.proofs.ByRecursion.{All-push, All-get_or, All-weaker}
use Rattle.std.proofs.lemmas.List.{get_or-set_same, get_or-set_other, get_or-replicate, get_or-take, map_push, take_all, length_push, length-take-le}
use Rattle.std.proofs.lemmas.Bool.{ltb-true, lt-ltb, cond-true, cases_eq, cases_lt}
use Rattle.std.proofs.lemmas.Option.{none-some, same_Some}
use Rattle.names.specs.Lists.{before, number_of, with_name, ShortName, IsNameList}
use Rattle.names.specs.NameLists.{named}
use Rattle.names.proofs.Found.{cond_some}
use Rattle.names.proofs.Firsts.{with_known, with_new, firsts_push, number_new, number_other, first_names_few}
use Rattle.names.proofs.Names.{number_some, number_none}
use Rattle.tree.specs.Nodes.{Node, nowhere, count, node_at, label_at}
use Rattle.stored.specs.Plans.{Named, name_at, named_by, plan_of, names_of}
use Rattle.stored.proofs.Storable.{Borne, plan_known}
use Rattle.stored.proofs.Turns.{number_back}
use Rattle.writer.proofs.NodeFields.{taken}
use Rattle.writer.specs.declared.numbering.Numbering.{Numbering}
use Rattle.writer.specs.Numberings.{ordered, held, Added, Numbers}
use Rattle.writer.specs.Writings.{AllNamed, FirstNameless}

-- the names of the first m nodes are numbered
pub record Sofar (ms : List (List ℕ)) (ns : List Node) (m : ℕ) (n : Numbering) : Type 0 where
  pub named : AllByRecursion (Borne ms) (take m ns)
  pub numbers : Numbers ms (take m ns) n

pub sofar_none : (ms : List (List ℕ)) (ns : List Node) (n : Numbering) → length ms ≤ 512 → ordered n ≡ [] → n.numbers ≡ replicate 513 None → Sofar ms ns 0 n
sofar_none ms ns n few e f = record {
  named = tt;
  numbers = record { names = e; numbers = λ l a b. ap (λ (z : List (Option ℕ)). get_or z l None) f ∙ get_or-replicate 513 l None None (omega arith) };
}

-- a number that is held, and none
pub unwrap_held : (k : ℕ) → unwrap_or (held k) 0 ≡ k
unwrap_held zero = refl
unwrap_held (suc k) = refl

held_none : (k : ℕ) → held k ≡ None → k ≡ 0
held_none zero e = refl
held_none (suc k) e = absurd (none-some (suc k) (sym e))

held_more : (k : ℕ) → Some (k + 1) ≡ held (k + 1)
held_more k = let e = add-one k in ap Some e ∙ ap held (sym e)

none_or_not : (o : Option ℕ) → (o ≡ None) ⊎ (o ≡ None → ⊥)
none_or_not None = inl refl
none_or_not (Some k) = inr (λ e. none-some k (sym e))

-- what looking a name up by its number tells
pub named_is : (ms : List (List ℕ)) (k : ℕ) (n : List ℕ) → Some n ≡ named ms k → (1 ≤ k) × (k ≤ length ms) × (n ≡ name_at ms k)
named_is ms zero n e = absurd (none-some n (sym e))
named_is ms (suc k) n e =
    let t = cond_some (ltb k (length ms)) _ n (sym e) in
    (omega arith, omega (arith, ltb-true k (length ms) t.0), sym (same_Some (get_or ms k []) n t.1))

pub name_short : (ms : List (List ℕ)) → IsNameList ms → (k : ℕ) → k ≤ length ms → length (name_at ms k) ≤ 64
name_short ms list k l =
    let all : AllByRecursion (λ m. length m ≤ 64) ms = All-weaker ShortName (λ (m : List ℕ). length m ≤ 64) (λ m s. s.1) ms list.names in
    All-get_or (λ (m : List ℕ). length m ≤ 64) ([] ∷ ms) k [] (omega arith) (omega arith, all)

pub named_not : (ms : List (List ℕ)) (k : ℕ) → 1 ≤ k → None ≡ named ms k → length ms < k
named_not ms zero a e = absurd (omega arith)
named_not ms (suc k) a e =
    ⊎_elim
    (λ (l : length ms < suc k). l)
    (λ (l : suc k ≤ length ms). absurd (none-some (get_or ms k []) (e ∙ cond-true _ (Some (get_or ms k [])) None (lt-ltb k (length ms) (omega arith)))))
    (cases_lt (length ms) (suc k))

all_before : (ms : List (List ℕ)) (ns : List Node) (m : ℕ) → AllByRecursion (Borne ms) (take m ns) → m ≤ count ns → (j : ℕ) → 1 ≤ j → j < m + 1 → label_at ns j ≤ length ms
all_before ms ns m a l zero b h = absurd (omega arith)
all_before ms ns m a l (suc j) b h =
    subst (λ (n : Node). n.label ≤ length ms) (get_or-take m ns j nowhere (omega arith)) (All-get_or (Borne ms) (take m ns) j nowhere (omega (arith, length-take-le m ns l)) a).1

module _ (ms : List (List ℕ)) (ns : List Node) (k : ℕ) (some : 1 ≤ k) (most : k ≤ count ns) (n : Numbering) (s : Sofar ms ns (k - 1) n) where
  pub nameless : length ms < label_at ns k → FirstNameless ms ns k
  nameless h = record { some = some; within = most; before = λ j a b. all_before ms ns (k - 1) s.named (omega arith) j a (omega arith); here = h }

  abbrev seen : List (List ℕ)
  seen = names_of (plan_of ms (take (k - 1) ns))

  module _ (list : IsNameList ms) (label : ℕ) (is : label ≡ label_at ns k) (low : 1 ≤ label) (high : label ≤ length ms) where
    all_next : AllByRecursion (Borne ms) (take k ns)
    all_next = subst (AllByRecursion (Borne ms)) (sym (taken ns k some most)) (All-push (Borne ms) (take (k - 1) ns) (node_at ns k) s.named (omega (arith, is), omega (arith, is)))

    names_next : names_of (plan_of ms (take k ns)) ≡ with_name (name_at ms label) seen
    names_next =
        ap (λ (z : List Node). names_of (plan_of ms z)) (taken ns k some most)
        ∙ ap names_of (map_push (named_by ms) (take (k - 1) ns) (node_at ns k))
        ∙ firsts_push (λ (p : Named). p.name) (plan_of ms (take (k - 1) ns)) (named_by ms (node_at ns k))
        ∙ ap (λ (l : ℕ). with_name (name_at ms l) seen) (sym is)

    here : get_or n.numbers label None ≡ held (number_of (name_at ms label) seen)
    here = s.numbers.numbers label low high

    -- the name has no number yet exactly if it has not appeared
    new : get_or n.numbers label None ≡ None → length seen ≤ before (name_at ms label) seen
    new e = ⊎_elim (λ (h : before (name_at ms label) seen < length seen). absurd (omega (arith, held_none _ (sym here ∙ e), number_some (name_at ms label) seen h))) (λ (h : length seen ≤ before (name_at ms label) seen). h) (cases_lt (before (name_at ms label) seen) (length seen))

    old : (get_or n.numbers label None ≡ None → ⊥) → before (name_at ms label) seen < length seen
    old e = ⊎_elim (λ (h : before (name_at ms label) seen < length seen). h) (λ (h : length seen ≤ before (name_at ms label) seen). absurd (e (here ∙ sym (ap held (number_none (name_at ms label) seen h))))) (cases_lt (before (name_at ms label) seen) (length seen))

    pub room : get_or n.numbers label None ≡ None → length (ordered n) < 512
    room e =
        let few = first_names_few (λ (p : Named). p.name) ms (plan_of ms (take k ns)) (plan_known ms (take k ns) all_next) in
        let more = ap length (names_next ∙ with_new (name_at ms label) seen (new e)) ∙ length_push seen (name_at ms label) in
        omega (arith, few, more, list.most, ap length s.numbers.names)

    -- distinct names have numbers of their own
    others : (l : ℕ) → 1 ≤ l → l ≤ length ms → (l ≡ label → ⊥) → name_at ms label ≡ name_at ms l → ⊥
    others l a b d e = d (omega (arith, sym (number_back ms list.distinct l a b) ∙ ap (λ (z : List ℕ). number_of z ms) (sym e) ∙ number_back ms list.distinct label low high))

    module _ (o : Numbering) (added : Added n label (name_at ms label) o) where
      with_old : (get_or n.numbers label None ≡ None → ⊥) → Numbers ms (take k ns) o
      with_old e =
          let same : names_of (plan_of ms (take k ns)) ≡ seen = names_next ∙ with_known (name_at ms label) seen (old e) in
          subst (Numbers ms (take k ns)) (sym (added.known e)) (record {
            names = s.numbers.names ∙ sym same;
            numbers = λ l a b. s.numbers.numbers l a b ∙ ap (λ (z : List (List ℕ)). held (number_of (name_at ms l) z)) (sym same);
          })

      number_next : (e : get_or n.numbers label None ≡ None) (l : ℕ) → 1 ≤ l → l ≤ length ms → get_or (set n.numbers label (Some (length (ordered n) + 1))) l None ≡ held (number_of (name_at ms l) (seen ++ name_at ms label ∷ []))
      number_next e l a b =
          let one = length (ordered n) + 1 in
          ⊎_elim
          (λ (h : l ≡ label).
          let same : l ≡ label = omega arith in
          ap (λ (j : ℕ). get_or (set n.numbers label (Some one)) j None) h
          ∙ get_or-set_same n.numbers label (Some one) None (omega (arith, n.labels, list.most))
          ∙ held_more (length (ordered n))
          ∙ ap (λ (z : List (List ℕ)). held (length z + 1)) s.numbers.names
          ∙ ap held (sym (number_new (name_at ms label) seen (new e)))
          ∙ ap (λ (j : ℕ). held (number_of (name_at ms j) (seen ++ name_at ms label ∷ []))) (sym same))
          (λ (h : l ≡ label → ⊥).
          get_or-set_other n.numbers label l (Some one) None h
          ∙ s.numbers.numbers l a b
          ∙ ap held (sym (number_other (name_at ms l) (name_at ms label) seen (others l a b h))))
          (cases_eq l label)

      with_next : get_or n.numbers label None ≡ None → Numbers ms (take k ns) o
      with_next e =
          let more : names_of (plan_of ms (take k ns)) ≡ seen ++ name_at ms label ∷ [] = names_next ∙ with_new (name_at ms label) seen (new e) in
          record {
            names = added.names e ∙ ap (λ (z : List (List ℕ)). z ++ name_at ms label ∷ []) s.numbers.names ∙ sym more;
            numbers = λ l a b. ap (λ (z : List (Option ℕ)). get_or z l None) (added.numbers e) ∙ number_next e l a b ∙ ap (λ (z : List (List ℕ)). held (number_of (name_at ms l) z)) (sym more);
          }

      sofar_more : Sofar ms ns k o
      sofar_more = record { named = all_next; numbers = ⊎_elim with_next with_old (none_or_not (get_or n.numbers label None)) }

  -- the name that was found for the label of the node is numbered too
  pub sofar_found : IsNameList ms → (label : ℕ) (m : List ℕ) (o : Numbering) → label ≡ label_at ns k → Some m ≡ named ms label → Added n label m o → Sofar ms ns k o
  sofar_found list label m o is found added =
      let name = named_is ms label m found in
      sofar_more list label is name.0 name.1 o (subst (λ (z : List ℕ). Added n label z o) name.2 added)

-- all nodes
pub sofar_all : (ms : List (List ℕ)) (ns : List Node) (m : ℕ) (n : Numbering) → count ns ≤ m → Sofar ms ns m n → AllNamed ms ns × Numbers ms ns n
sofar_all ms ns m n l s =
    let all = take_all m ns l in
    (All-weaker (Borne ms) (λ (x : Node). x.label ≤ length ms) (λ x b. b.1) ns (subst (AllByRecursion (Borne ms)) all s.named), subst (λ (z : List Node). Numbers ms z n) all s.numbers)
