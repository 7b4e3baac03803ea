use Rattle.std.proofs.Common.{◌≡◌, ℕ, ◌+◌, ◌-◌, List, ◌++◌, length, take, drop, refl, sym, ap, ◌∙◌, ap₂, arith}
use Rattle.std.proofs.lemmas.List.{append_assoc, length-append, length-take-le, drop-drop, take_at, drop_at}
use Rattle.writer.proofs.output.Output.write.Goals as goal

pub returns : goal.returns
returns c =
    let o = c.args.self.now in
    let xs = o.bytes.now in
    let p = c.args.part.now in
    let n = o.at + length p in
    let front = take o.at xs ++ p in
    let long : length front ≡ n = omega (arith, o.within, length-append (take o.at xs) p, length-take-le o.at xs o.within) in
    let size : n - o.at ≡ length p = omega arith in
    let bytes = ap₂ (λ (y : List ℕ) (z : List ℕ). take o.at xs ++ (y ++ z)) c.copy_from_slice.ensures.after (ap (λ (k : ℕ). drop k (drop o.at xs)) size ∙ drop-drop (length p) o.at xs) ∙ sym (append_assoc (take o.at xs) p (drop n xs)) in
    record {
      same = refl;
      front = ap (take n) bytes ∙ take_at front (drop n xs) n long;
      behind = ap (drop n) bytes ∙ drop_at front (drop n xs) n long ∙ sym (drop-drop (length p) o.at xs);
    }
