-- Parts written to an output one after another are one part.
use Rattle.std.proofs.Common.{◌≡◌, ℕ, ◌-◌, List, [], ◌++◌, length, drop, sym, ap, ◌∙◌, ap₂}
use Rattle.std.proofs.lemmas.List.{append_assoc, length-append, length-drop, drop-drop, take-append-drop}
use Rattle.writer.specs.declared.output.Output.{Output}
use Rattle.writer.specs.Outputs.{written, rest, Wrote}

pub wrote_more : {o : Output} {a : List ℕ} {p : Output} {b : List ℕ} {q : Output} → Wrote o a p → Wrote p b q → Wrote o (a ++ b) q
wrote_more {o} {a} {p} {b} {q} u v = record {
  same = v.same ∙ u.same;
  front = v.front ∙ ap (λ (z : List ℕ). z ++ b) u.front ∙ append_assoc (written o) a b;
  behind = v.behind ∙ ap (drop (length b)) u.behind ∙ drop-drop (length b) (length a) (rest o) ∙ ap (λ (n : ℕ). drop n (rest o)) (sym (length-append a b));
}

-- the room that is left
pub room_left : {o : Output} {a : List ℕ} {p : Output} → Wrote o a p → length (rest p) ≡ length (rest o) - length a
room_left {o} {a} {p} u = ap length u.behind ∙ length-drop (length a) (rest o)

-- the bytes in the end, where nothing was written at first
pub whole : {o : Output} {a : List ℕ} {p : Output} (xs : List ℕ) → written o ≡ [] → rest o ≡ xs → Wrote o a p → p.bytes.now ≡ a ++ drop (length a) xs
whole {o} {a} {p} xs none all u = sym (take-append-drop p.at p.bytes.now) ∙ ap₂ (λ (x : List ℕ) (y : List ℕ). x ++ y) (u.front ∙ ap (λ (z : List ℕ). z ++ a) none) (u.behind ∙ ap (drop (length a)) all)
