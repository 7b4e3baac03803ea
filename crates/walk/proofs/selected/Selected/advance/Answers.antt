use Rattle.std.proofs.Common.{◌≡◌, ℕ, suc, ◌<◌, length, get_or, refl, ap, ◌∙◌, subst, arith}
use Rattle.tree.specs.Nodes.{node_limit, label_at}
use Rattle.tree.specs.Stacks.{items, lent}
use Rattle.tree.proofs.Stacks.{pushed, pushed_lent}
use Rattle.walk.specs.Marks.{bit, hit, any_step}
use Rattle.walk.proofs.Marking.{word_bit, marked_below}
use Rattle.walk.proofs.Opens.{open_parent, has_parent, parent_marked, room_next, open_more}
use Rattle.walk.proofs.selected.Selected.advance.Goals as goal

pub unwrap-parent-requires : goal.unwrap-parent-requires
unwrap-parent-requires g c =
    let s = c.args.self.now in
    has_parent (g.T.Tree.nodes s.tree.now) s.steps.now node_limit (g.T.Tree.keeps s.tree.now) s.node c.args.node c.from.result (items s.marks) (items c.cut.new.self)
    c.requires.next c.requires.within s.marked (c.from.ensures ∙ c.depth.ensures) c.cut.ensures.items c.top.result c.top.ensures

pub invariant_of-self : goal.invariant_of-self
invariant_of-self g c =
    let s = c.args.self.now in
    let ns = g.T.Tree.nodes s.tree.now in
    let q = s.steps.now in
    let laws = g.T.Tree.keeps s.tree.now in
    let kept = items c.cut.new.self in
    let deep = c.from.ensures ∙ c.depth.ensures in
    let o = open_parent ns q node_limit laws s.node c.args.node c.from.result (items s.marks) kept c.requires.next c.requires.within s.marked deep c.cut.ensures.items in
    let p = parent_marked ns q node_limit laws s.node c.args.node c.from.result (items s.marks) kept c.requires.next c.requires.within s.marked deep c.cut.ensures.items c.top.result c.unwrap-parent.result c.top.ensures c.unwrap-parent.ensures in
    let wide : length (lent c.cut.new.self) ≡ 65 = ap length c.cut.ensures.slots ∙ s.room in
    let room = room_next ns q node_limit laws s.node c.args.node c.from.result (items s.marks) kept c.requires.next c.requires.within s.marked deep c.cut.ensures.items _ wide in
    let after = pushed c.cut.new.self _ c.push.result c.push.new.self c.push.ensures.pushed room in
    let w = c.child-marks.result.here in
    let bits : (i : ℕ) → i < length q → bit w (suc i) ≡ hit (get_or q i any_step) i c.unwrap-parent.result (label_at ns c.args.node) =
    λ i l. subst (λ (x : ℕ). bit w (suc i) ≡ hit (get_or q i any_step) i c.unwrap-parent.result x) c.label.ensures (c.child-marks.ensures.bits i l) in
    let marked = marked_below ns q c.args.node c.unwrap-parent.result w (omega arith) c.requires.within p c.child-marks.ensures.none bits c.child-marks.result refl c.child-marks.ensures.over in
    record {
      question = s.question;
      room = pushed_lent c.cut.new.self _ c.push.result c.push.new.self c.push.ensures.pushed ∙ wide;
      within = c.requires.within;
      counted = s.counted;
      marked = open_more ns q c.args.node _ kept (items c.push.new.self) (omega arith) marked o after.after;
    }

pub returns-clause-value : goal.returns-clause-value
returns-clause-value g c =
    let s = c.args.self.now in
    let ns = g.T.Tree.nodes s.tree.now in
    let q = s.steps.now in
    let p = parent_marked ns q node_limit (g.T.Tree.keeps s.tree.now) s.node c.args.node c.from.result (items s.marks) (items c.cut.new.self)
    c.requires.next c.requires.within s.marked (c.from.ensures ∙ c.depth.ensures) c.cut.ensures.items c.top.result c.unwrap-parent.result c.top.ensures c.unwrap-parent.ensures in
    let w = c.child-marks.result.here in
    let bits : (i : ℕ) → i < length q → bit w (suc i) ≡ hit (get_or q i any_step) i c.unwrap-parent.result (label_at ns c.args.node) =
    λ i l. subst (λ (x : ℕ). bit w (suc i) ≡ hit (get_or q i any_step) i c.unwrap-parent.result x) c.label.ensures (c.child-marks.ensures.bits i l) in
    c.ends.ensures ∙ word_bit ns q c.args.node c.unwrap-parent.result w (omega arith) c.requires.within p c.child-marks.ensures.none bits (length q) (omega arith)
