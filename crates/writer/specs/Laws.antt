-- What opening and writing are to one another. `Opens` and `Writes` are what the contracts of the two calls say. Assumes nothing.
use Rattle.std.specs.Prelude.{◌≡◌, ℕ, ◌<◌, ◌≤◌, List, length, take, Ok, Err, Result}
use Rattle.names.specs.Lists.{IsNameList}
use Rattle.tree.specs.Nodes.{Laws, node_limit, count, label_at, depth_at}
use Rattle.tree.specs.XPath.{Both}
use Rattle.stored.specs.declared.fault.ImageFault.{ImageFault}
use Rattle.stored.specs.declared.fault.WriteFault.{WriteFault}
use Rattle.stored.specs.declared.fault.WriteFault.TheVariants.{Short}
use Rattle.stored.specs.Plans.{Stored, name_at}
use Rattle.image.specs.declared.image.Image.{Image}
use Rattle.image.specs.Showing.{shown, Opens}
use Rattle.writer.specs.Writings.{Writes}

-- a tree beside the names that its labels are numbers of
abbrev pub TreeOf : Stored → Type 0
TreeOf t = IsNameList t.names × Laws node_limit t.nodes

-- the depths agree, and at each node the same name stands
pub record SamePlan (t u : Stored) : Type 0 where
  pub count : count t.nodes ≡ count u.nodes
  pub depths : (k : ℕ) → depth_at t.nodes k ≡ depth_at u.nodes k
  pub names : (k : ℕ) → name_at t.names (label_at t.nodes k) ≡ name_at u.names (label_at u.nodes k)

-- the bytes s were written for a tree
pub record Written (t : Stored) (s : List ℕ) : Type 0 where
  pub was : List ℕ
  pub is : List ℕ
  pub length : ℕ
  pub call : Writes t.names t.nodes was (Ok length) is
  pub bytes : s ≡ take length is

-- the bytes s were opened, and are now shown as t
pub record Opened (s : List ℕ) (t : Stored) : Type 0 where
  pub before : Image
  pub after : Image
  pub call : Opens s before (Ok tt) after
  pub shows : t ≡ shown after

pub record ImagesArePlans : Type 0 where
  -- what is written for a tree is not refused, and shows the same plan
  pub opens : (t : Stored) (s : List ℕ) (before after : Image) (r : Result (Unit {0}) ImageFault) → TreeOf t → Written t s → Opens s before r after → (r ≡ Ok tt) × SamePlan (shown after) t
  -- what is written for an opened image is that image
  pub rewrites : (s q : List ℕ) (t : Stored) → Opened s t → Written t q → q ≡ s
  -- and only a short buffer is in the way
  pub writable : (s : List ℕ) (t : Stored) (was is : List ℕ) (r : Result ℕ WriteFault) → Opened s t → Writes t.names t.nodes was r is → Both (r ≡ Ok (length s)) (length s ≤ length was) × Both (r ≡ Err (Short (length s))) (length was < length s)
  -- trees have equal images exactly if they are the same plan
  pub equal : (t u : Stored) (s q : List ℕ) → TreeOf t → TreeOf u → Written t s → Written u q → Both (s ≡ q) (SamePlan t u)
  -- each plan has just one image
  pub one : (s q : List ℕ) (t u : Stored) → Opened s t → Opened q u → SamePlan t u → s ≡ q
