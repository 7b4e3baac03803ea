use Rattle.std.proofs.Common.{Ok, sym, refl, ap, ◌∙◌, arith, rules}
use Rattle.names.specs.NameLists.{listed}
use Rattle.tree.proofs.Stacks.{push_full, push_grown}
use Rattle.path.specs.Questions.{at_end, no_step, enough}
use Rattle.path.proofs.Wordings.{step_shorter}
use Rattle.path.proofs.Loops.{step_told, no_step_told, as_long, pushed_more, stop_told, read_same, stops_at_end, stops_no_step, stops_enough}
use Rattle.path.proofs.question.read_steps.Goals as goal

pub returns-in_default : goal.returns-in_default
returns-in_default c =
    let s = c.loop-rest.rest.now in
    let r = stop_told c.loop-rest.invariant.sofar (omega arith) (omega arith) c.requires.few no_step (stops_no_step _ s (search rules) (no_step_told _ s c.in_default.ensures)) _ refl in
    record { read = read_same (search rules) r.0; spelled = r.1 }

pub returns-then-is_err : goal.returns-then-is_err
returns-then-is_err c =
    let s = c.loop-rest.rest.now in
    let so = c.loop-rest.invariant.sofar in
    let k = step_told (listed c.args.names.now) s c.in-Some.step c.in-Some.behind.now c.in-Some.ensures in
    let full = push_full c.loop-rest.read c.in-Some.step c.push.result c.push.new.self c.push.ensures.pushed c.if-is_err.ensures.value in
    let r = stop_told so (omega arith) (omega arith) c.requires.few enough (stops_enough _ s (k.0, c.in-Some.behind.now) (omega (arith, full.0, as_long _ _ _ _ _ _ so)) k.1) _ refl in
    record { read = read_same (search rules) (read_same full.1 r.0); spelled = r.1 }

pub loop-rest-smaller : goal.loop-rest-smaller
loop-rest-smaller c =
    let s = c.loop-rest.rest.now in
    let k = step_told (listed c.args.names.now) s c.in-Some.step c.in-Some.behind.now c.in-Some.ensures in
    step_shorter s k.0 c.in-Some.behind.now k.1

pub loop-rest-preserved : goal.loop-rest-preserved
loop-rest-preserved c =
    record {
      sofar = pushed_more _ _ _ _ c.loop-rest.read c.push.new.self c.in-Some.step c.in-Some.behind.now c.loop-rest.invariant.sofar
          (push_grown c.loop-rest.read c.in-Some.step c.push.result c.push.new.self c.push.ensures.pushed c.if-is_err.ensures.value) c.in-Some.ensures;
      same = c.push.ensures.same_reference ∙ c.loop-rest.invariant.same;
    }

pub returns : goal.returns
returns c =
    let s = c.loop-rest.rest.now in
    let so = c.loop-rest.invariant.sofar in
    let r = stop_told so (omega arith) (omega arith) c.requires.few at_end (stops_at_end _ s (search rules)) _ (ap Ok (c.len.ensures ∙ sym so.number)) in
    record { read = read_same (search rules) r.0; spelled = r.1 }
