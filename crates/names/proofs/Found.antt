-- What an answer that holds something tells.
use Rattle.std.proofs.Common.{◌≡◌, Bool, true, false, cond, ◌⊎◌, Some, None, Option, refl, inl, inr}
use Rattle.std.proofs.lemmas.Option.{none-some}

pub cond_some : {A : Type 0} (b : Bool) (o : Option A) (x : A) → cond b o None ≡ Some x → (b ≡ true) × (o ≡ Some x)
cond_some true o x e = (refl, e)
cond_some false o x e = absurd (none-some x e)

pub cond_either : {A : Type 0} (b : Bool) (o p : Option A) (x : A) → cond b o p ≡ Some x → ((b ≡ true) × (o ≡ Some x)) ⊎ ((b ≡ false) × (p ≡ Some x))
cond_either true o p x e = inl (refl, e)
cond_either false o p x e = inr (refl, e)
