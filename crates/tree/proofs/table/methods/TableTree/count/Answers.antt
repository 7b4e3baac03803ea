use Rattle.std.proofs.Common.{sym, rules}
use Rattle.tree.specs.Nodes.{node_limit}
use Rattle.tree.specs.Slots.{numbered}
use Rattle.tree.specs.Laws.{lawful_laws}
use Rattle.tree.proofs.Slots.{length_numbered}
use Rattle.tree.proofs.table.methods.TableTree.count.Goals as goal

pub overflow_cast-result : goal.overflow_cast-result
overflow_cast-result c =
    let m = (lawful_laws node_limit (numbered 1 c.args.self.now.slots.now) c.args.self.now.tree).most in
    let e = length_numbered 1 c.args.self.now.slots.now in
    search rules

pub returns : goal.returns
returns c = sym (length_numbered 1 c.args.self.now.slots.now)
