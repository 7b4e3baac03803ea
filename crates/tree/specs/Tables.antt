-- What setting a table does. Assumes nothing.
--     shown t                 the slots that the table t shows
--     Sets new old r after    setting a table that shows `old` to the slots `new` answers r, and it then shows `after`
use Rattle.std.specs.Prelude.{◌≡◌, ℕ, zero, suc, ◌≤◌, List, length, Ok, Err, Result}
use Rattle.tree.specs.Nodes.{Laws, node_limit}
use Rattle.tree.specs.Laws.{FirstWrong}
use Rattle.tree.specs.Slots.{numbered}
use Rattle.tree.specs.declared.slot.Slot.{Slot}
use Rattle.tree.specs.declared.table.Table.{Table}
use Rattle.tree.specs.declared.fault.TableFault.{TableFault}
use Rattle.tree.specs.declared.fault.TableFault.TheVariants.{NoTree}

abbrev pub shown : Table → List Slot
shown t = t.slots.now

-- k says what is wrong with the slots: 0 their number, else the first node that may not follow the one before it
abbrev pub Wrong : List Slot → ℕ → Type 0
Wrong ss zero = (1 ≤ length ss) → length ss ≤ node_limit → ⊥
Wrong ss (suc k) = (1 ≤ length ss) × (length ss ≤ node_limit) × FirstWrong (numbered 1 ss) (suc k)

abbrev pub Sets : List Slot → List Slot → Result (Unit {0}) TableFault → List Slot → Type 0
Sets new old (Ok u) after = Laws node_limit (numbered 1 new) × (after ≡ new)
Sets new old (Err (NoTree k)) after = Wrong new k × (after ≡ old)
