use Rattle.std.proofs.Common.{◌≡◌, ◌≤◌, ◌+◌, [], length, Some, Ok, Err, arith, rules}
use Rattle.std.proofs.lemmas.Grind.{common_steps}
use Rattle.image.specs.declared.fields.WrongAt.{WrongAt}
use Rattle.stored.specs.Openings.{count_at, names_at, all_nodes_at}
use Rattle.names.specs.Lists.{texts}
use Rattle.stored.proofs.Openings.{opened_are_images}
use Rattle.image.specs.Numbered.{numbered}
use Rattle.image.proofs.Opened.{judged, name_near, node_near, are_lawful}
use Rattle.image.proofs.image.Image.open.Goals as goal

pub map_err-requires : goal.map_err-requires
map_err-requires c =
    let b = c.in_ok-body.body.now in
    let k = c.in_ok-count.count in
    let f = c.in_ok-count.names.now in
    let count : Some (k, f) ≡ count_at 512 b = grind (arith, common_steps) in
    let read : (e : WrongAt) → c.read_names.result ≡ Err e → Err e.0.now ≡ names_at k [] f = λ e is. grind (arith, common_steps) in
    let inside : (e : WrongAt) → c.read_names.result ≡ Err e → length e.0.now ≤ length b = λ e is. (name_near b k f count e.0.now (read e is)).inside in
    let near : (e : WrongAt) → c.read_names.result ≡ Err e → length b ≤ length e.0.now + 65535 = λ e is. (name_near b k f count e.0.now (read e is)).near in
    search (rules, inside, near)

pub returns-in_err-count-clause-judged : goal.returns-in_err-count-clause-judged
returns-in_err-count-clause-judged c = judged c.args.bytes.now c.args.self.now _ c.args.self.now (search rules)

pub returns-in_err-rest-clause-judged : goal.returns-in_err-rest-clause-judged
returns-in_err-rest-clause-judged c = judged c.args.bytes.now c.args.self.now _ c.args.self.now (search rules)

pub returns-in_err-body-clause-judged : goal.returns-in_err-body-clause-judged
returns-in_err-body-clause-judged c = judged c.args.bytes.now c.args.self.now _ c.args.self.now (search rules)

pub returns-in_err-nodes-clause-judged : goal.returns-in_err-nodes-clause-judged
returns-in_err-nodes-clause-judged c = judged c.args.bytes.now c.args.self.now _ c.args.self.now (grind (arith, common_steps))

pub map_err-requires-2 : goal.map_err-requires-2
map_err-requires-2 c =
    let b = c.in_ok-body.body.now in
    let k = c.in_ok-count.count in
    let f = c.in_ok-count.names.now in
    let count : Some (k, f) ≡ count_at 512 b = grind (arith, common_steps) in
    let ms = texts c.read_names.new.slots in
    let r = c.in_ok-rest.rest.now in
    let names : Ok (ms, r) ≡ names_at k [] f = grind (arith, common_steps) in
    let read : (e : WrongAt) → c.read_nodes.result ≡ Err e → Err e.0.now ≡ all_nodes_at k r = λ e is. grind (arith, common_steps) in
    let inside : (e : WrongAt) → c.read_nodes.result ≡ Err e → length e.0.now ≤ length b = λ e is. (node_near b k f count ms r e.0.now names (read e is)).inside in
    let near : (e : WrongAt) → c.read_nodes.result ≡ Err e → length b ≤ length e.0.now + 65535 = λ e is. (node_near b k f count ms r e.0.now names (read e is)).near in
    search (rules, inside, near)

pub returns-clause-judged : goal.returns-clause-judged
returns-clause-judged c = opened_are_images c.args.bytes.now _ (grind (arith, common_steps))

pub invariant_of-self-clause-tree : goal.invariant_of-self-clause-tree
invariant_of-self-clause-tree c = are_lawful c.in_ok-count.count c.in_ok-rest.rest.now (numbered 1 c.in_ok-nodes.nodes.now) (grind (arith, common_steps))
