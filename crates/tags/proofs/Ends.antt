-- What follows a tag is an end of the text that begins with it.
use Rattle.std.proofs.Common.{◌≡◌, ℕ, ◌<◌, ◌≤◌, Bool, List, [], ◌∷◌, ◌++◌, length, Some, sym, refl, ap, ◌∙◌, append_assoc, arith, length-append}
use Rattle.tags.specs.Tags.{Tag, start, empty, end, Run, Name, Attribute, Attributes, none, more, TagAt, scan}
use Rattle.tags.proofs.Sound.{scan_sound}

abbrev pub Ends : List ℕ → List ℕ → Type 0
Ends s r = (w : List ℕ) × (s ≡ w ++ r)

pub ends_on : (s t r : List ℕ) → Ends s t → Ends t r → Ends s r
ends_on s t r (v, e) (w, d) = (v ++ w, e ∙ ap (λ (z : List ℕ). v ++ z) d ∙ sym (append_assoc v w r))

pub ends_cons : (b : ℕ) (s t r : List ℕ) → s ≡ b ∷ t → Ends t r → Ends s r
ends_cons b s t r e (w, d) = (b ∷ w, e ∙ ap (λ (z : List ℕ). b ∷ z) d)

ends_back : (b : ℕ) (s r : List ℕ) → Ends s (b ∷ r) → Ends s r
ends_back b s r h = ends_on s (b ∷ r) r h (b ∷ [], refl)

run_ends : (p : ℕ → Bool) (s r : List ℕ) → Run p s r → Ends s r
run_ends p s r u = (u.0, u.2)

name_ends : (s n r : List ℕ) → Name s n r → Ends s r
name_ends s n r h = (n, h.1)

attribute_ends : (s r : List ℕ) → Attribute s r → Ends s r
attribute_ends s r a =
    let v = a.has_value in
    let g = a.gap in
    ends_on s a.named r (ends_cons g.0 s g.1 a.named g.2 (run_ends _ _ _ g.4))
    (ends_on a.named a.equals r (name_ends _ _ _ a.has_name)
    (ends_on a.equals a.past r (ends_back 61 _ _ (run_ends _ _ _ a.before))
    (ends_on a.past a.value r (run_ends _ _ _ a.behind)
    (ends_cons v.0 a.value v.1 r v.2 (ends_back v.0 _ _ (run_ends _ _ _ v.4))))))

attributes_ends : (r s : List ℕ) → Attributes r s → Ends s r
attributes_ends r s none = ([], refl)
attributes_ends r s (more {t = m} a ats) = ends_on s m r (attribute_ends s m a) (attributes_ends r m ats)

-- the tag itself has at least one byte
pub tag_ends : (s : List ℕ) (t : Tag) (r : List ℕ) → TagAt s t r → (b : ℕ) × (a : List ℕ) × (s ≡ b ∷ a) × Ends a r
tag_ends s (start n) r (a, b, e, na, (u, ats, run)) = (60, a, e, ends_on a b r (name_ends a n b na) (ends_on b u r (attributes_ends u b ats) (ends_back 62 u r (run_ends _ _ _ run))))
tag_ends s (empty n) r (a, b, e, na, (u, ats, run)) = (60, a, e, ends_on a b r (name_ends a n b na) (ends_on b u r (attributes_ends u b ats) (ends_back 62 u r (ends_back 47 u (62 ∷ r) (run_ends _ _ _ run)))))
tag_ends s (end n) r (a, b, e, na, run) = (60, 47 ∷ a, e, ends_cons 47 (47 ∷ a) a r refl (ends_on a b r (name_ends a n b na) (ends_back 62 b r (run_ends _ _ _ run))))

pub scan_ends : (s : List ℕ) (t : Tag) (r : List ℕ) → scan s ≡ Some (t, r) → (b : ℕ) × (a : List ℕ) × (s ≡ b ∷ a) × Ends a r
scan_ends s t r e = tag_ends s t r (scan_sound s t r e)

pub ends_length : (s r : List ℕ) → Ends s r → length r ≤ length s
ends_length s r (w, e) = omega (arith, ap length e ∙ length-append w r)

pub scan_shorter : (s : List ℕ) (t : Tag) (r : List ℕ) → scan s ≡ Some (t, r) → length r < length s
scan_shorter s t r e =
    let k = scan_ends s t r e in
    omega (arith, ap length k.2, ends_length k.1 r k.3)
