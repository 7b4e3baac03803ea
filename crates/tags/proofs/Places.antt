-- A reader's next piece, by the text and the place.
use Rattle.std.proofs.Common.{◌≡◌, ℕ, ◌+◌, ◌-◌, ◌<◌, ◌≤◌, eqb, List, ◌∷◌, ◌++◌, length, get_or, take, drop, Some, None, Option, sym, refl, ap, ◌∙◌, subst, ap₂, append_assoc, arith, length-drop, take-append-drop}
use Rattle.std.proofs.lemmas.List.{take_rest, drop_more}
use Rattle.std.proofs.lemmas.List.Prefix.{end_rest}
use Rattle.std.proofs.lemmas.Bool.{eq-eqb, ne_eqb, cond-true, cond-false}
use Rattle.std.proofs.lemmas.Option.{none-some, same_Some}
use Rattle.tags.specs.Tags.{Tag, TagAt, scan, placed}
use Rattle.tags.specs.Pieces.{Piece, byte, tag, no_tag, tagged, first, next_piece, PieceAt, TagNamed}
use Rattle.tags.proofs.Sound.{scan_sound}
use Rattle.tags.proofs.Firsts.{piece_at}
use Rattle.tags.proofs.Named.{tag_named}
use Rattle.tags.proofs.Ends.{Ends, ends_cons, ends_length, scan_ends}

-- the text from the place p on, as a range gives it
abbrev pub from : List ℕ → ℕ → List ℕ
from text p = take (length text - p) (drop p text)

-- what was found, apart from its place
pub placed_some : {A B : Type 0} (p q : ℕ) (x : A) (y : B) (o : Option (A × B)) → Some (q, x, y) ≡ placed p o → (q ≡ p) × (Some (x, y) ≡ o)
placed_some {A} {B} p q x y (Some z) e = let h = same_Some (q, x, y) (p, z.0, z.1) e in (ap (λ (w : ℕ × A × B). w.0) h, ap (λ (w : ℕ × A × B). Some (w.1, w.2)) h)
placed_some p q x y None e = absurd (none-some (q, x, y) (sym e))

pub placed_none : {A B : Type 0} (p : ℕ) (o : Option (A × B)) → None ≡ placed p o → None ≡ o
placed_none p (Some z) e = absurd (none-some _ e)
placed_none p None e = refl

module _ (text : List ℕ) (p : ℕ) (within : p ≤ length text) where
  next_is : (o : Option (Piece × List ℕ)) → o ≡ first (drop p text) → placed p o ≡ next_piece (length text) (drop p text)
  next_is o e = let at : p ≡ length text - length (drop p text) = omega (arith, length-drop p text) in ap₂ placed at e

  module _ (some : 1 ≤ length (from text p)) where
    inside : p < length text
    inside = omega (arith, ap length (take_rest text p), length-drop p text)

    here : drop p text ≡ get_or (from text p) 0 0 ∷ drop (p + 1) text
    here =
        let more = drop_more text p 0 inside in
        more ∙ ap (λ (b : ℕ). b ∷ drop (p + 1) text) (sym (ap (λ (l : List ℕ). get_or l 0 0) (take_rest text p ∙ more)))

    pub next_byte : (get_or (from text p) 0 0 ≡ 60 → ⊥) → Some (p, byte (get_or (from text p) 0 0), drop (p + 1) text) ≡ next_piece (length text) (drop p text)
    next_byte n =
        next_is (Some (byte (get_or (from text p) 0 0), drop (p + 1) text))
        (sym (ap first here ∙ ap Some (cond-false (eqb (get_or (from text p) 0 0) 60) _ (byte (get_or (from text p) 0 0), drop (p + 1) text) (ne_eqb _ 60 n))))

    module _ (opens : get_or (from text p) 0 0 ≡ 60) where
      at_tag : first (drop p text) ≡ Some (tagged (drop (p + 1) text) (scan (from text p)))
      at_tag =
          ap first here
          ∙ ap Some (cond-true (eqb (get_or (from text p) 0 0) 60) (tagged (drop (p + 1) text) (scan (get_or (from text p) 0 0 ∷ drop (p + 1) text))) (byte (get_or (from text p) 0 0), drop (p + 1) text) (eq-eqb _ 60 opens))
          ∙ ap (λ (l : List ℕ). Some (tagged (drop (p + 1) text) (scan l))) (sym here ∙ sym (take_rest text p))

      pub next_no_tag : None ≡ placed p (scan (from text p)) → Some (p, no_tag, drop (p + 1) text) ≡ next_piece (length text) (drop p text)
      next_no_tag n =
          next_is (Some (no_tag, drop (p + 1) text))
          (sym (at_tag ∙ ap (λ (o : Option (Tag × List ℕ)). Some (tagged (drop (p + 1) text) o)) (sym (placed_none p _ n))))

      module _ (q : ℕ) (t : Tag) (r : List ℕ) (got : Some (q, t, r) ≡ placed p (scan (from text p))) where
        same_place : q ≡ p
        same_place = (placed_some p q t r _ got).0

        same_tag : Some (t, r) ≡ scan (from text p)
        same_tag = (placed_some p q t r _ got).1

        ends : Ends text r
        ends =
            let k = scan_ends (from text p) t r (sym same_tag) in
            let d = ends_cons k.0 (from text p) k.1 r k.2 k.3 in
            (take p text ++ d.0, sym (take-append-drop p text) ∙ ap (λ (z : List ℕ). take p text ++ z) (sym (take_rest text p) ∙ d.1) ∙ sym (append_assoc (take p text) d.0 r))

        pub tag_fits : length r ≤ length text
        tag_fits = omega (arith, ends_length text r ends)

        pub next_tag : Some (q, tag t, drop (length text - length r) text) ≡ next_piece (length text) (drop p text)
        next_tag =
            ap (λ (k : ℕ). Some (k, tag t, drop (length text - length r) text)) same_place
            ∙ next_is (Some (tag t, drop (length text - length r) text))
            (sym (at_tag ∙ ap (λ (o : Option (Tag × List ℕ)). Some (tagged (drop (p + 1) text) o)) (sym same_tag)
            ∙ ap (λ (z : List ℕ). Some (tag t, z)) (sym (end_rest text r ends.0 ends.1))))

        pub next_named : TagNamed text q t
        next_named =
            subst (λ (k : ℕ). TagNamed text k t) (sym same_place)
            (tag_named text p t r (subst (λ (z : List ℕ). TagAt z t r) (take_rest text p) (scan_sound (from text p) t r (sym same_tag))))

-- a piece that was found is that of the grammar
pub found_at : (n : ℕ) (s : List ℕ) (q : ℕ) (p : Piece) (r : List ℕ) → Some (q, p, r) ≡ next_piece n s → PieceAt s p r
found_at n s q p r e = piece_at s p r (sym (placed_some (n - length s) q p r (first s) e).1)
