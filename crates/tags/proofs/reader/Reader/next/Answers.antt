use Rattle.std.proofs.Common.{refl, arith, rules, ltb-false}
use Rattle.tags.specs.Tokens.{tag_of, token_place}
use Rattle.tags.proofs.Places.{next_byte, next_no_tag, next_tag, next_named, tag_fits, found_at}
use Rattle.tags.proofs.reader.Reader.next.Goals as goal

pub overflow_sub-self : goal.overflow_sub-self
overflow_sub-self c = tag_fits c.args.self.now.text.now c.args.self.now.place (omega arith) (omega (arith, ltb-false)) (search rules) (token_place c.in-Some.token) (tag_of c.in-Some.token) c.in-Some.after.now c.in-Some.ensures

pub returns-in-Some : goal.returns-in-Some
returns-in-Some c =
    let moved = next_tag c.args.self.now.text.now c.args.self.now.place (omega arith) (omega (arith, ltb-false)) (search rules) (token_place c.in-Some.token) (tag_of c.in-Some.token) c.in-Some.after.now c.in-Some.ensures in
    record {
      text = refl;
      moved = moved;
      grammar = found_at _ _ _ _ _ moved;
      named = next_named c.args.self.now.text.now c.args.self.now.place (omega arith) (omega (arith, ltb-false)) (search rules) (token_place c.in-Some.token) (tag_of c.in-Some.token) c.in-Some.after.now c.in-Some.ensures;
    }

pub returns-in-None : goal.returns-in-None
returns-in-None c =
    let moved = next_no_tag c.args.self.now.text.now c.args.self.now.place (omega arith) (omega (arith, ltb-false)) (search rules) c.in-None.ensures in
    record { text = refl; moved = moved; grammar = found_at _ _ _ _ _ moved; named = tt }

pub returns-in-len1-up : goal.returns-in-len1-up
returns-in-len1-up c =
    let moved = next_byte c.args.self.now.text.now c.args.self.now.place (omega arith) (omega (arith, ltb-false)) (search rules) in
    record { text = refl; moved = moved; grammar = found_at _ _ _ _ _ moved; named = tt }
