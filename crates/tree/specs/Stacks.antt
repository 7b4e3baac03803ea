-- A stack as the list that it stands for, the top item first. Assumes nothing.
--     items s             the items of the stack s
--     lent s              what the lent slots hold
--     Pushed s x r t      a push of x onto s answers r and leaves t
--     Popped xs r ys      a pop off the items xs answers r and leaves ys
--     Topped xs r         r is the top of the items xs
use Rattle.std.specs.Prelude.{◌≡◌, ◌<◌, List, [], ◌∷◌, reverse, length, take, drop, Some, None, Ok, Err, Option, Result, slice_set}
use Rattle.tree.specs.declared.stack.Stack.{Stack}

abbrev pub lent : {T : Type 0} → Stack T → List T
lent s = s.slots.now

abbrev pub items : {T : Type 0} → Stack T → List T
items s = reverse (take s.len (lent s))

-- there was room, and only the slot above the items is written
pub record Grown {T : Type 0} (s : Stack T) (x : T) (t : Stack T) : Type 0 where
  pub room : length (items s) < length (lent s)
  pub after : items t ≡ x ∷ items s
  pub written : lent t ≡ slice_set (lent s) (length (items s)) x

-- there was none, and the item is handed back
pub record Full {T : Type 0} (s : Stack T) (x y : T) (t : Stack T) : Type 0 where
  pub room : length (items s) ≡ length (lent s)
  pub back : y ≡ x
  pub after : items t ≡ items s
  pub written : lent t ≡ lent s

abbrev pub Pushed : {T : Type 0} → Stack T → T → Result (Unit {0}) T → Stack T → Type 0
Pushed s x (Ok u) t = Grown s x t
Pushed s x (Err y) t = Full s x y t

abbrev pub Popped : {T : Type 0} → List T → Option T → List T → Type 0
Popped xs None ys = (xs ≡ []) × (ys ≡ [])
Popped xs (Some x) ys = xs ≡ x ∷ ys

abbrev pub Topped : {T : Type 0} → List T → Option T → Type 0
Topped xs None = xs ≡ []
Topped xs (Some x) = xs ≡ x ∷ drop 1 xs
