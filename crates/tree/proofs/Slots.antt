-- The first wrong slot, and the nodes of slots.
use Rattle.std.specs.List.{slice_get}
use Rattle.std.specs.Option.{option_map, unwrap_or}
use Rattle.std.proofs.Common.{Option, Some, None, ◌≡◌, ℕ, zero, suc, ◌+◌, ◌-◌, ◌<◌, ◌≤◌, Bool, true, false, cond, List, [], ◌∷◌, ◌++◌, length, get_or, take, Ok, Err, Result, sym, refl, ap, ◌∙◌, subst, add-one, arith}
use Rattle.std.proofs.lemmas.List.{take_more}
use Rattle.std.proofs.lemmas.Option.{none-some}
use Rattle.std.proofs.lemmas.Bool.{le-leb, lt-ltb, and_from, and_parts, both_ways}
use Rattle.tree.specs.Nodes.{Node, Laws, node_limit, nowhere, count, node_at, shape, chain, lawful}
use Rattle.tree.specs.declared.fault.TableFault.{TableFault}
use Rattle.tree.specs.declared.fault.TableFault.TheVariants.{NoTree}
use Rattle.tree.specs.Tables.{Wrong, Sets}
use Rattle.tree.specs.Laws.{Follows, FirstWrong, follows_parts, follows_from, laws_follow}
use Rattle.tree.specs.Slots.{node, numbered, slot_at, wrong, wrong_slot}
use Rattle.tree.specs.declared.slot.Slot.{Slot}

pub length_numbered : (i : ℕ) (ss : List Slot) → length (numbered i ss) ≡ length ss
length_numbered i [] = refl
length_numbered i (s ∷ ss) = ap suc (length_numbered (suc i) ss)

right_step : (p : Node) (s : Slot) (ss : List Slot) (b : Bool) → shape p.depth s.label s.depth ≡ b → p.origin + length (s ∷ ss) ≤ 65535
    → wrong p.depth (suc p.origin) (s ∷ ss) ≡ None
    → (wrong s.depth (suc (suc p.origin)) ss ≡ None → chain (node (suc p.origin) s) (numbered (suc (suc p.origin)) ss) ≡ true)
    → chain p (numbered (suc p.origin) (s ∷ ss)) ≡ true
right_step p s ss true e m h rest = and_from _ _
    (and_from _ _ e (and_from _ _ (lt-ltb p.origin (suc p.origin) (omega arith)) (le-leb (suc p.origin) 65535 (omega arith))))
    (rest (subst (λ (b : Bool). cond b (wrong s.depth (suc (suc p.origin)) ss) (Some (suc p.origin)) ≡ None) e h))
right_step p s ss false e m h rest =
    absurd (none-some (suc p.origin) (sym (subst (λ (b : Bool). cond b (wrong s.depth (suc (suc p.origin)) ss) (Some (suc p.origin)) ≡ None) e h)))

-- slots with no wrong one are a chain of nodes
pub right_chain : (p : Node) (ss : List Slot) → p.origin + length ss ≤ 65535 → wrong p.depth (suc p.origin) ss ≡ None → chain p (numbered (suc p.origin) ss) ≡ true
right_chain p [] m h = refl
right_chain p (s ∷ ss) m h = right_step p s ss (shape p.depth s.label s.depth) refl m h (λ r. right_chain (node (suc p.origin) s) ss (omega arith) r)

-- the slot k, counted from 0, is the first wrong one after p
record WrongAt (p : Node) (ss : List Slot) (k : ℕ) : Type 0 where
  within : k < length ss
  before : (j : ℕ) → j < k → Follows (get_or (p ∷ numbered (suc p.origin) ss) j nowhere) (get_or (numbered (suc p.origin) ss) j nowhere)
  here : Follows (get_or (p ∷ numbered (suc p.origin) ss) k nowhere) (get_or (numbered (suc p.origin) ss) k nowhere) → ⊥

wrong_later : (p : Node) (s : Slot) (ss : List Slot) (k : ℕ) → Follows p (node (suc p.origin) s) → WrongAt (node (suc p.origin) s) ss k → WrongAt p (s ∷ ss) (suc k)
wrong_later p s ss k f w = record { within = omega (arith, w.within); before = before; here = w.here }
  where
    before : (j : ℕ) → j < suc k → Follows (get_or (p ∷ numbered (suc p.origin) (s ∷ ss)) j nowhere) (get_or (numbered (suc p.origin) (s ∷ ss)) j nowhere)
    before zero l = f
    before (suc j) l = w.before j (omega arith)

wrong_step_at : (p : Node) (s : Slot) (ss : List Slot) (w : ℕ) (b : Bool) → shape p.depth s.label s.depth ≡ b → p.origin + length (s ∷ ss) ≤ 65535
    → cond b (wrong s.depth (suc (suc p.origin)) ss) (Some (suc p.origin)) ≡ Some w
    → (wrong s.depth (suc (suc p.origin)) ss ≡ Some w → (k : ℕ) × (w ≡ suc (suc p.origin) + k) × WrongAt (node (suc p.origin) s) ss k)
    → (k : ℕ) × (w ≡ suc p.origin + k) × WrongAt p (s ∷ ss) k
wrong_step_at p s ss w true e m h rest =
    let r = rest h in (
      suc r.0,
      omega (arith, r.1),
      wrong_later p s ss r.0
          (follows_parts p (node (suc p.origin) s) (and_from _ _ e (and_from _ _ (lt-ltb p.origin (suc p.origin) (omega arith)) (le-leb (suc p.origin) 65535 (omega arith))))) r.2,
    )
wrong_step_at p s ss w false e m h rest =
    (0, omega (arith, ap (λ (o : Option ℕ). unwrap_or o 0) h), record { within = omega arith; before = λ j l. absurd (omega arith); here = λ f. both_ways _ e (and_parts (shape p.depth s.label s.depth) _ (follows_from p (node (suc p.origin) s) f)).0 })

wrong_at : (p : Node) (ss : List Slot) (w : ℕ) → p.origin + length ss ≤ 65535 → wrong p.depth (suc p.origin) ss ≡ Some w → (k : ℕ) × (w ≡ suc p.origin + k) × WrongAt p ss k
wrong_at p [] w m h = absurd (none-some w h)
wrong_at p (s ∷ ss) w m h = wrong_step_at p s ss w (shape p.depth s.label s.depth) refl m h (λ r. wrong_at (node (suc p.origin) s) ss w (omega arith) r)

wrong_before : (ss : List Slot) (k : ℕ) → WrongAt nowhere ss k → (j : ℕ) → 1 ≤ j → j < suc k → Follows (node_at (numbered 1 ss) (j - 1)) (node_at (numbered 1 ss) j)
wrong_before ss k w zero a b = absurd (omega arith)
wrong_before ss k w (suc j) a b =
    let e : j ≡ suc j - 1 = omega arith in
    subst (λ (i : ℕ). Follows (node_at (numbered 1 ss) i) (node_at (numbered 1 ss) (suc j))) e (w.before j (omega arith))

wrong_first : (ss : List Slot) (k : ℕ) → WrongAt nowhere ss k → FirstWrong (numbered 1 ss) (suc k)
wrong_first ss k w =
    let e : suc k - 1 ≡ k = omega arith in
    record {
      some = omega arith;
      within = omega (arith, w.within, length_numbered 1 ss);
      before = wrong_before ss k w;
      here = λ f. w.here (subst (λ (i : ℕ). Follows (node_at (numbered 1 ss) i) (node_at (numbered 1 ss) (suc k))) e f);
    }

-- the number that is answered is that of the first wrong node
pub first_wrong : (ss : List Slot) (w : ℕ) → 1 ≤ length ss → length ss ≤ node_limit → Some w ≡ wrong_slot ss → Wrong ss w
first_wrong ss w l m h =
    let r = wrong_at nowhere ss w (omega arith) (sym h) in
    let e : w ≡ suc r.0 = omega (arith, r.1) in
    subst (Wrong ss) (sym e) (l, m, wrong_first ss r.0 r.2)

pub right_lawful : (ss : List Slot) → 1 ≤ length ss → length ss ≤ node_limit → wrong_slot ss ≡ None → lawful node_limit (numbered 1 ss) ≡ true
unfolding lawful
right_lawful ss a b h =
    let e = length_numbered 1 ss in
    and_from _ _ (le-leb 1 (length (numbered 1 ss)) (omega arith)) (and_from _ _ (le-leb (length (numbered 1 ss)) node_limit (omega arith)) (right_chain nowhere ss (omega arith) h))

shown_from : (i : ℕ) (ss : List Slot) (k : ℕ) → unwrap_or (option_map (node (i + k)) (slice_get ss k)) nowhere ≡ get_or (numbered i ss) k nowhere
shown_from i [] k = refl
shown_from i (s ∷ ss) zero = let e : i + 0 ≡ i = omega arith in ap (λ (j : ℕ). node j s) e
shown_from i (s ∷ ss) (suc k) = let e : i + suc k ≡ suc i + k = omega arith in ap (λ (j : ℕ). unwrap_or (option_map (node j) (slice_get ss k)) nowhere) e ∙ shown_from (suc i) ss k

-- the node k is that of the slot k, if there is one
pub node_shown : (ss : List Slot) (k : ℕ) (o : Option Slot) → o ≡ slot_at ss k → unwrap_or (option_map (node k) o) nowhere ≡ node_at (numbered 1 ss) k
node_shown ss zero o h = ap (λ (o : Option Slot). unwrap_or (option_map (node 0) o) nowhere) h
node_shown ss (suc k) o h =
    let e : suc k ≡ 1 + k = omega arith in
    ap (λ (o : Option Slot). unwrap_or (option_map (node (suc k)) o) nowhere) h
    ∙ ap (λ (j : ℕ). unwrap_or (option_map (node j) (slice_get ss k)) nowhere) e ∙ shown_from 1 ss k

-- slots that are a tree are not refused
pub never_wrong : (ss : List Slot) (k : ℕ) → Laws node_limit (numbered 1 ss) → Wrong ss k → ⊥
never_wrong ss zero w h = let e = length_numbered 1 ss in h (omega (arith, w.some)) (omega (arith, w.most))
never_wrong ss (suc k) w h =
    let f = h.2 in
    let e : suc k - 1 ≡ k = omega arith in
    f.here (subst (λ (i : ℕ). Follows (node_at (numbered 1 ss) i) (node_at (numbered 1 ss) (suc k))) (sym e) (laws_follow node_limit (numbered 1 ss) w k f.within))

pub set_shows : (new old : List Slot) (r : Result (Unit {0}) TableFault) (after : List Slot) → Laws node_limit (numbered 1 new) → Sets new old r after → after ≡ new
set_shows new old (Ok u) after w h = h.1
set_shows new old (Err (NoTree k)) after w h = absurd (never_wrong new k w h.0)

-- one node more
pub take_next : (ns : List Node) (m : ℕ) → m < count ns → take (m + 1) ns ≡ take m ns ++ node_at ns (m + 1) ∷ []
take_next ns m l = take_more ns m nowhere l ∙ ap (λ (k : ℕ). take m ns ++ node_at ns k ∷ []) (sym (add-one m))
