use Rattle.std.proofs.Common.{◌≡◌, ℕ, ◌-◌, take, subst, arith}
use Rattle.names.specs.Lists.{IsNameList, texts}
use Rattle.names.proofs.Names.{set_holds}
use Rattle.tree.specs.Nodes.{Laws, node_limit}
use Rattle.tree.specs.Slots.{numbered}
use Rattle.tree.proofs.Slots.{set_shows}
use Rattle.answers.proofs.Openings.{opened}
use Rattle.answers.proofs.opened.Plan.open.Goals as goal

pub returns : goal.returns
returns c =
    let e = c.in_ok-counts.ensures in
    let k = c.in_ok-counts.counts in
    let ns = c.read.new.nodes in
    let ms = c.read.new.names in
    let nodes : k.nodes ≡ k.nodes - 0 = omega arith in
    let names : k.names ≡ k.names - 0 = omega arith in
    let shown = set_shows (take (k.nodes - 0) ns) _ c.set.result _ (subst (λ (n : ℕ). Laws node_limit (numbered 1 (take n ns))) nodes e.planned.plan.tree) c.set.ensures in
    let held = set_holds (texts (take (k.names - 0) ms)) _ c.set-2.result _ (subst (λ (n : ℕ). IsNameList (texts (take n ms))) names e.planned.plan.names) c.set-2.ensures in
    (k, opened _ _ k _ _ e.judged _ ns _ ms e.read.nodes e.read.names _ _ shown held)
