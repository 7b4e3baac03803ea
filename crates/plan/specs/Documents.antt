-- A plan as a document of XML: white, one element, white.
-- A production relates a text s that begins with it to the text r that follows it there, in a text of n bytes.
--     Element n d s r es    an element below d open ones, whose nodes are es in document order
--     Content n d s r es    what stands between a start tag and its end tag
--     Document text es      the whole text
--     Limits m es           the nodes es keep the limits, with room m
--     Judged m text r       r is an Ok exactly if the grammar derives the text within the limits
use Rattle.std.specs.Prelude.{◌≡◌, ℕ, ◌+◌, ◌-◌, ◌≤◌, List, [], ◌∷◌, ◌++◌, map, length, Ok, Err, fold, Result, ◌≢◌}
use Rattle.std.specs.List.{AllByRecursion}
use Rattle.tree.specs.declared.slot.Slot.{Slot}
use Rattle.plan.specs.declared.counts.Counts.{Counts}
use Rattle.plan.specs.declared.counts.Room.{Room}
use Rattle.plan.specs.declared.fault.PlanFault.{PlanFault}
use Rattle.names.specs.Bytes.{white}
use Rattle.tags.specs.Tags.{start, empty, end, Run, TagAt}
use Rattle.plan.specs.Plans.{outcome}
use Rattle.names.specs.Lists.{before, with_name}

-- a node: its element's name, its depth and the place of its tag
pub record Entry : Type 0 where
  pub name : List ℕ
  pub depth : ℕ
  pub place : ℕ

abbrev pub entry : List ℕ → ℕ → ℕ → Entry
entry m d p = record { name = m; depth = d; place = p }

mutual
  pub data Element (n : ℕ) : ℕ → List ℕ → List ℕ → List Entry → Type 0 where
    alone : {d : ℕ} {s r : List ℕ} (m : List ℕ) → TagAt s (empty m) r → Element n d s r (entry m (d + 1) (n - length s) ∷ [])
    around : {d : ℕ} {s r : List ℕ} {es : List Entry} (m t u : List ℕ) → TagAt s (start m) t → Content n (d + 1) t u es → TagAt u (end m) r → Element n d s r (entry m (d + 1) (n - length s) ∷ es)

  pub data Content (n : ℕ) : ℕ → List ℕ → List ℕ → List Entry → Type 0 where
    none : {d : ℕ} {s : List ℕ} → Content n d s s []
    byte : {d : ℕ} {s r : List ℕ} {es : List Entry} (b : ℕ) → (b ≢ 60) → Content n d s r es → Content n d (b ∷ s) r es
    child : {d : ℕ} {s r : List ℕ} {es fs : List Entry} (t : List ℕ) → Element n d s t es → Content n d t r fs → Content n d s r (es ++ fs)

pub record Document (text : List ℕ) (es : List Entry) : Type 0 where
  pub root : List ℕ
  pub past : List ℕ
  pub before_root : Run white text root
  pub element : Element (length text) 0 root past es
  pub behind_root : Run white past []

-- the different names of some entries, in the order of their first appearance
abbrev pub names_of : List Entry → List (List ℕ)
names_of es = fold (λ ms e. with_name e.name ms) [] es

-- the node slot of an entry, whose label is the number of its name among ms, from 1
abbrev pub slot_in : List (List ℕ) → Entry → Slot
slot_in ms e = record { label = before e.name ms + 1; depth = e.depth; place = e.place }

pub record Limits (m : Room) (es : List Entry) : Type 0 where
  pub short : AllByRecursion (λ e. length e.name ≤ 64) es
  pub shallow : AllByRecursion (λ e. e.depth ≤ 64) es
  pub nodes : length es ≤ m.nodes
  pub names : length (names_of es) ≤ m.names

-- the grammar derives the text within the limits, with these counts, nodes and names
pub record Derived (m : Room) (text : List ℕ) (c : Counts) (ns : List Slot) (ms : List (List ℕ)) : Type 0 where
  pub entries : List Entry
  pub short : length text ≤ 65536
  pub document : Document text entries
  pub limits : Limits m entries
  pub names : ms ≡ names_of entries
  pub nodes : ns ≡ map (slot_in ms) entries
  pub counts : c ≡ record { nodes = length ns; names = length ms }

-- the text is accepted with the counts c, the nodes ns and the names ms
abbrev pub Accepted : Room → List ℕ → Counts → List Slot → List (List ℕ) → Type 0
Accepted m text c ns ms = outcome m text ≡ (Ok c, record { opened = []; nodes = ns; names = ms })

-- a text is accepted exactly if the grammar derives it within the limits, and its nodes and names are those of the derivation
pub record DocumentsAccepted : Type 0 where
  pub derived : (m : Room) (text : List ℕ) (c : Counts) (ns : List Slot) (ms : List (List ℕ)) → Derived m text c ns ms → Accepted m text c ns ms
  pub accepted : (m : Room) (text : List ℕ) (c : Counts) → (outcome m text).0 ≡ Ok c → Derived m text c (outcome m text).1.nodes (outcome m text).1.names

-- a reading that answers r says whether the grammar derives the text within the limits
abbrev pub Judged : Room → List ℕ → Result Counts PlanFault → Type 0
Judged m text (Ok c) = Derived m text c (outcome m text).1.nodes (outcome m text).1.names
Judged m text (Err e) = (c : Counts) (ns : List Slot) (ms : List (List ℕ)) → Derived m text c ns ms → ⊥
