-- What a turn of the reading loop keeps.
use Rattle.std.proofs.Common.{◌≡◌, ℕ, ◌+◌, ◌-◌, ◌<◌, ◌≤◌, List, length, take, drop, Some, None, Ok, Err, Result, sym, refl, ap, ◌∙◌, subst, arith, Bor}
use lib.ListN.{length-map}
use Rattle.std.proofs.lemmas.List.{map-id, length-take-le, drop-drop}
use Rattle.tree.specs.Stacks.{items}
use Rattle.tags.specs.declared.reader.Reader.{Reader}
use Rattle.tags.specs.Pieces.{Piece, first, pieces, next_piece}
use Rattle.tags.specs.Readers.{ahead}
use Rattle.tags.proofs.Firsts.{first_shorter}
use Rattle.tags.proofs.Places.{placed_some, placed_none}
use Rattle.plan.specs.declared.counts.Counts.{Counts}
use Rattle.plan.specs.declared.draft.Draft.{Draft}
use Rattle.plan.specs.declared.fault.PlanFault.{PlanFault}
use Rattle.plan.specs.Plans.{Seen, room, step, finish_at, finish, run, outcome}
use Rattle.plan.specs.Reads.{name_of, known, Read, Reading}
use Rattle.plan.specs.Drafts.{seen, room_of, Follows, SameSlots}
use Rattle.plan.proofs.Known.{names_many}
use Rattle.plan.proofs.Outcomes.{run_end, run_more, run_refused}

drop_beyond : {X : Type 0} (xs ys : List X) (a b : ℕ) → a ≤ b → drop a xs ≡ drop a ys → drop b xs ≡ drop b ys
drop_beyond xs ys a b h e =
    let k : a + (b - a) ≡ b = omega arith in
    sym (drop-drop (b - a) a xs ∙ ap (λ (i : ℕ). drop i xs) k) ∙ ap (drop (b - a)) e ∙ drop-drop (b - a) a ys ∙ ap (λ (i : ℕ). drop i ys) k

pub follows_on : (d e g : Draft) → Follows d e → Follows e g → Follows d g
follows_on d e g a b = record {
  same_nodes = b.same_nodes ∙ a.same_nodes;
  same_names = b.same_names ∙ a.same_names;
  node_slots = b.node_slots ∙ a.node_slots;
  name_slots = b.name_slots ∙ a.name_slots;
  more_nodes = omega (arith, a.more_nodes, b.more_nodes);
  more_names = omega (arith, a.more_names, b.more_names);
  nodes = b.nodes ∙ drop_beyond e.nodes.now d.nodes.now e.counts.nodes g.counts.nodes b.more_nodes a.nodes;
  names = b.names ∙ drop_beyond e.names.now d.names.now e.counts.names g.counts.names b.more_names a.names;
}

-- the text is read up to where the reader is, from the draft d to the draft e
pub record Sofar (text : List ℕ) (d e : Draft) (reader : Reader) : Type 0 where
  pub follows : Follows d e
  pub more : ℕ
  pub enough : length (ahead reader) ≤ more
  pub left : run (room_of d) (length text) (seen e) (pieces more (length text) (ahead reader)) ≡ outcome (room_of d) text
  pub same : reader.text.now ≡ text

-- slots that hold what was seen, and otherwise what they held, are filled with it
read_is : (o : Result Counts PlanFault × Seen) (r : Result Counts PlanFault) (d e : Draft) → Follows d e → (r, seen e) ≡ o → Read o r d.nodes.now e.nodes.now d.names.now e.names.now
read_is o r d e f h = subst (λ (z : Result Counts PlanFault × Seen). Read z r d.nodes.now e.nodes.now d.names.now e.names.now) h (record {
  answer = refl;
  nodes = record {
    front = map-id _ ∙ ap (λ (k : ℕ). take k e.nodes.now) k1;
    rest = subst (λ (k : ℕ). drop k e.nodes.now ≡ drop k d.nodes.now) (sym k1) f.nodes;
  };
  names = record {
    front = ap (λ (k : ℕ). known k e.names.now) (names_many e);
    rest = subst (λ (k : ℕ). drop k e.names.now ≡ drop k d.names.now) (sym (names_many e)) f.names;
  };
})
  where
    k1 : length (take e.counts.nodes e.nodes.now) ≡ e.counts.nodes
    k1 = length-take-le e.counts.nodes e.nodes.now (omega (arith, e.within.nodes))

module _ (text : List ℕ) (d e : Draft) (reader : Reader) (h : Sofar text d e reader) where
  same_room : room_of e ≡ room_of d
  same_room = λ i. room (h.follows.node_slots i) (h.follows.name_slots i)

  -- the text ends here
  pub ended : (r : Result Counts PlanFault) → None ≡ next_piece (length reader.text.now) (ahead reader) → r ≡ finish_at (length text) (length (items e.opened.now)) e.counts → Reading text r d.nodes.now e.nodes.now d.names.now e.names.now
  ended r last said =
      let a : length (items e.opened.now) ≡ length (seen e).opened = sym (length-map (items e.opened.now) name_of) in
      let k1 : e.counts.nodes ≡ length (seen e).nodes = sym (length-take-le e.counts.nodes e.nodes.now (omega (arith, e.within.nodes))) in
      let k2 : e.counts.names ≡ length (seen e).names = sym (names_many e) in
      let r-is : r ≡ finish (length text) (seen e) = said ∙ (λ i. finish_at (length text) (a i) (record { nodes = k1 i; names = k2 i })) in
      read_is (outcome (room_of d) text) r d e h.follows
      (ap (λ (z : Result Counts PlanFault). (z, seen e)) r-is
      ∙ sym (run_end (room_of d) (length text) (seen e) (ahead reader) h.more (sym (placed_none _ _ last)))
      ∙ h.left)

  module _ (p : ℕ) (piece : Piece) (reader' : Reader) (got : Some (p, piece, ahead reader') ≡ next_piece (length reader.text.now) (ahead reader)) where
    here : length text - length (ahead reader) ≡ p
    here = omega (arith, (placed_some _ p piece (ahead reader') _ got).0, ap length h.same)

    is_first : first (ahead reader) ≡ Some (piece, ahead reader')
    is_first = sym (placed_some _ p piece (ahead reader') _ got).1

    at_place : (o : Result Seen PlanFault) → o ≡ step (room_of e) p (seen e) piece → step (room_of d) (length text - length (ahead reader)) (seen e) piece ≡ o
    at_place o s = (λ i. step (sym same_room i) (here i) (seen e) piece) ∙ sym s

    pub less : length (ahead reader') < length (ahead reader)
    less = first_shorter (ahead reader) piece (ahead reader') is_first

    -- the piece is refused
    pub refused : (g : Draft) (x : PlanFault) → Err x ≡ step (room_of e) p (seen e) piece → SameSlots e g → Reading text (Err x) d.nodes.now g.nodes.now d.names.now g.names.now
    refused g x s same =
        let base = read_is (outcome (room_of d) text) (Err x) d e h.follows
        (sym (run_refused (room_of d) (length text) (seen e) (ahead reader) piece (ahead reader') is_first h.more x h.enough (at_place (Err x) s))
        ∙ h.left) in
        rw (same.nodes, same.names) base

    -- the piece is taken
    pub one_more : (g : Draft) → Ok (seen g) ≡ step (room_of e) p (seen e) piece → Follows e g → reader'.text ≡ reader.text → Sofar text d g reader'
    one_more g s far same =
        let k = run_more (room_of d) (length text) (seen e) (ahead reader) piece (ahead reader') is_first h.more (seen g) h.enough (at_place (Ok (seen g)) s) in
        record {
          follows = follows_on d e g h.follows far;
          more = k.0;
          enough = k.1;
          left = k.2 ∙ h.left;
          same = ap (λ (z : Bor (List ℕ)). z.now) same ∙ h.same;
        }
