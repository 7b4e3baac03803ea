use Rattle.std.proofs.Common.{Bool, ◌&&◌, eqb, length, ap, ◌∙◌}
use Rattle.names.specs.Lists.{texts, before}
use Rattle.names.proofs.Finds.{place_is}
use Rattle.names.proofs.Names.{beside_none}
use Rattle.names.proofs.list.methods.stands_apart.Goals as goal

pub returns-then-is_short_name : goal.returns-then-is_short_name
returns-then-is_short_name c =
    let ms = texts c.args.others.now in
    let m = c.args.name.now in
    beside_none m ms c.find.result c.is_none.result c.is_none.ensures (c.find.ensures ∙ place_is c.args.others.now m)
    ∙ ap (λ (b : Bool). b && eqb (before m ms) (length ms)) c.if-is_short_name.ensures
