use Rattle.std.proofs.Common.{◌∷◌, [], reverse, set, take, sym, ap, ◌∙◌, arith}
use Rattle.std.proofs.lemmas.List.{reverse-append, take_more_set}
use Rattle.tree.proofs.Stacks.{length_items}
use Rattle.tree.proofs.stack.Stack.push.Goals as goal

pub returns-clause-pushed : goal.returns-clause-pushed
returns-clause-pushed g c =
    let n = c.args.self.now.len in
    let xs = c.args.self.now.slots.now in
    let x = c.args.item in
    record {
      room = omega (arith, length_items xs n (omega arith));
      after = ap reverse (take_more_set xs n x (omega arith)) ∙ reverse-append (take n xs) (x ∷ []);
      written = ap (λ k. set xs k x) (sym (length_items xs n (omega arith)));
    }
