-- Lines, from what the calls below answer.
use Rattle.std.proofs.Common.{◌≡◌, ℕ, ◌-◌, ◌<◌, ◌≤◌, List, ◌++◌, length, take, drop, Ok, Err, Result, sym, ap, ◌∙◌, ⊎_elim, arith}
use Rattle.std.proofs.lemmas.List.{take_at}
use Rattle.std.proofs.lemmas.Bool.{cases_lt}
use Rattle.answers.specs.Lines.{refused_line}
use Rattle.names.specs.Lists.{IsNameList}
use Rattle.tree.specs.Nodes.{Node, Laws, node_limit}
use Rattle.stored.specs.declared.fault.ImageFault.{ImageFault}
use Rattle.stored.specs.declared.fault.WriteFault.{WriteFault}
use Rattle.stored.specs.declared.fault.WriteFault.TheVariants.{Short, Nameless}
use Rattle.stored.specs.Faults.{write_number, write_place}
use Rattle.stored.specs.Plans.{Stored, plan_of}
use Rattle.stored.specs.Images.{image}
use Rattle.stored.proofs.Openings.{images_open, body_short}
use Rattle.stored.proofs.Storable.{trees_are_plans}
use Rattle.writer.specs.Writings.{FirstNameless, Writes}
use Rattle.writer.proofs.SamePlans.{never_nameless}
use Rattle.image_lines.specs.Texts.{hex_line, opened_lines, seen_text, Returns}

-- at most one node is the first without a name
first_same : (ms : List (List ℕ)) (ns : List Node) (j k : ℕ) → FirstNameless ms ns j → FirstNameless ms ns k → j ≡ k
first_same ms ns j k a b =
    ⊎_elim
    (λ (l : j < k). absurd (omega (arith, a.here, b.before j a.some l)))
    (λ (l : k ≤ j). ⊎_elim (λ (m : k < j). absurd (omega (arith, b.here, a.before k b.some m))) (λ (m : j ≤ k). omega arith) (cases_lt k j))
    (cases_lt j k)

-- the image that was written is shown as what is stored of the plan
pub written_seen : (ms : List (List ℕ)) (ns : List Node) (was : List ℕ) (n : ℕ) (is text : List ℕ) → Laws node_limit ns → IsNameList ms → Writes ms ns was (Ok n) is → text ≡ seen_text (take (n - 0) is) → Returns ms ns text
written_seen ms ns was n is text laws list w e =
    let ps = plan_of ms ns in
    let bytes : take (n - 0) is ≡ image ps =
    ap (take (n - 0)) w.3 ∙ take_at (image ps) (drop n was) (n - 0) (sym w.1 ∙ (let z : n ≡ n - 0 = omega arith in z)) in
    let back = images_open ps (trees_are_plans ms ns list laws w.0) in
    record {
      named = λ _. e ∙ ap seen_text bytes ∙ ap (λ (r : Result Stored ImageFault). hex_line (image ps) ++ opened_lines r) back;
      nameless = λ k f. absurd (never_nameless ms ns k w.0 f);
    }

-- no image is longer than the buffer
pub refused_seen : (ms : List (List ℕ)) (ns : List Node) (was : List ℕ) (e : WriteFault) (is text : List ℕ) → Laws node_limit ns → IsNameList ms → length was ≡ 45577 → Writes ms ns was (Err e) is → text ≡ refused_line (write_number e) (write_place e) → Returns ms ns text
refused_seen ms ns was (Short n) is text laws list long w e =
    absurd (omega (arith, w.1, w.2, body_short (plan_of ms ns) (trees_are_plans ms ns list laws w.0)))
refused_seen ms ns was (Nameless k) is text laws list long w e = record {
  named = λ a. absurd (never_nameless ms ns k a w.0);
  nameless = λ j f. e ∙ ap (refused_line 16) (first_same ms ns k j w.0 f);
}
