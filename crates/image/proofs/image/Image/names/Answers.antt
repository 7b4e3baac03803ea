use Rattle.std.proofs.Common.{◌≡◌, length, take, subst, sym, ◌∙◌, arith, length-take-le}
use Rattle.std.proofs.lemmas.Grind.{common_steps}
use Rattle.names.specs.Lists.{IsNameList, texts}
use Rattle.names.proofs.Names.{set_holds}
use Rattle.image.specs.Named.{names_in}
use Rattle.image.proofs.Opened.{readable_names}
use Rattle.image.proofs.image.Image.names.Goals as goal

pub returns : goal.returns
returns c =
    let i = c.args.self.now in
    let n = readable_names i.count i.names.now i.few i.named in
    let long : length (take i.count c.args.slots.now) ≡ i.count = omega (arith, length-take-le i.count c.args.slots.now) in
    let held : texts c.read_names.new.slots ≡ names_in i.count i.names.now = grind (arith, common_steps) in
    set_holds _ _ c.set.result _ (subst IsNameList (sym held) n.2) c.set.ensures ∙ held
