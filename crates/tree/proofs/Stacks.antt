-- Lists read from their end, as a stack reads its slots.
use Rattle.std.proofs.Common.{◌≡◌, ℕ, true, false, refl, ◌-◌, ◌<◌, ◌≤◌, List, reverse, length, take, drop, Ok, Err, Result, sym, ap, ◌∙◌, arith}
use Rattle.std.proofs.lemmas.List.{length-set, reverse-append, length-reverse, length-drop, length-take-le, take-append-drop, take-take, drop_at}
use Rattle.std.proofs.lemmas.Bool.{both_ways}
use Rattle.std.specs.Result.{is_err}
use Rattle.tree.specs.declared.stack.Stack.{Stack}
use Rattle.tree.specs.Stacks.{items, lent, Pushed, Grown}

pub length_items : {T : Type 0} (xs : List T) (n : ℕ) → n ≤ length xs → length (reverse (take n xs)) ≡ n
length_items xs n h = length-reverse (take n xs) ∙ length-take-le n xs h

-- the oldest m of n items
pub items_cut : {T : Type 0} (xs : List T) (m n : ℕ) → n ≤ length xs → m ≤ n → reverse (take m xs) ≡ drop (n - m) (reverse (take n xs))
items_cut xs m n h l =
    let long : length (reverse (drop m (take n xs))) ≡ n - m = length-reverse (drop m (take n xs)) ∙ length-drop m (take n xs) ∙ ap (λ (k : ℕ). k - m) (length-take-le n xs h) in
    ap reverse (sym (take-take m n xs l))
    ∙ sym (drop_at (reverse (drop m (take n xs))) (reverse (take m (take n xs))) (n - m) long)
    ∙ ap (drop (n - m)) (sym (reverse-append (take m (take n xs)) (drop m (take n xs))) ∙ ap reverse (take-append-drop m (take n xs)))

-- where there is room, a push is not refused
pub pushed : {T : Type 0} (s : Stack T) (x : T) (r : Result (Unit {0}) T) (t : Stack T) → Pushed s x r t → length (items s) < length (lent s) → Grown s x t
pushed s x (Ok u) t h l = h
pushed s x (Err y) t h l = absurd (omega (arith, h.room))

-- a push writes at most one slot
pub pushed_lent : {T : Type 0} (s : Stack T) (x : T) (r : Result (Unit {0}) T) (t : Stack T) → Pushed s x r t → length (lent t) ≡ length (lent s)
pushed_lent s x (Ok u) t h = ap length h.written ∙ length-set (lent s) (length (items s)) x
pushed_lent s x (Err y) t h = ap length h.written

-- what an answer of a push tells
pub push_full : {T : Type 0} (s : Stack T) (x : T) (r : Result (Unit {0}) T) (t : Stack T) → Pushed s x r t → true ≡ is_err r → (length (items s) ≡ length (lent s)) × (lent t ≡ lent s)
push_full s x (Ok u) t h e = absurd (both_ways true e refl)
push_full s x (Err y) t h e = (h.room, h.written)

pub push_grown : {T : Type 0} (s : Stack T) (x : T) (r : Result (Unit {0}) T) (t : Stack T) → Pushed s x r t → false ≡ is_err r → Grown s x t
push_grown s x (Ok u) t h e = h
push_grown s x (Err y) t h e = absurd (both_ways true (sym e) refl)
