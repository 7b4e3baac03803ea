use Rattle.std.proofs.Common.{ℕ, ◌-◌, reverse, take, drop, sym, refl, ap, ◌∙◌, arith}
use Rattle.tree.proofs.Stacks.{length_items, items_cut}
use Rattle.tree.proofs.stack.Stack.cut.Goals as goal

pub returns-then-height-self : goal.returns-then-height-self
returns-then-height-self g c =
    let xs = c.args.self.now.slots.now in
    let n = c.args.self.now.len in
    record {
      items = items_cut xs c.args.height n (omega arith) (omega arith) ∙ ap (λ (k : ℕ). drop (k - c.args.height) (reverse (take n xs))) (sym (length_items xs n (omega arith)));
      slots = refl;
      same_reference = refl;
    }
