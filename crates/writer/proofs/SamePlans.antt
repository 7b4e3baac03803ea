-- Trees that are the same plan, and their images.
use Rattle.std.proofs.Common.{◌≡◌, ℕ, zero, suc, ◌<◌, ◌≤◌, List, [], ◌∷◌, map, length, get_or, take, drop, Ok, Err, Result, sym, refl, ap, ◌∙◌, subst, ⊎_elim, arith}
use lib.ListN.{length-map}
use Rattle.std.proofs.ByRecursion.{All-get_or}
use Rattle.std.proofs.lemmas.List.{get_or-map, get_or_past, ext_get_or, take_at}
use Rattle.std.proofs.lemmas.Bool.{cases_lt}
use Rattle.names.specs.Lists.{before, number_of}
use Rattle.names.proofs.Names.{number_some, number_none}
use Rattle.tree.specs.Nodes.{Node, nowhere, node_at, label_at, depth_at}
use Rattle.tree.specs.XPath.{Both}
use Rattle.stored.specs.declared.fault.ImageFault.{ImageFault}
use Rattle.stored.specs.declared.fault.WriteFault.{WriteFault}
use Rattle.stored.specs.declared.fault.WriteFault.TheVariants.{Short, Nameless}
use Rattle.stored.specs.Plans.{Named, Stored, name_at, named_by, plan_of, names_of, nodes_by, stored, Storable}
use Rattle.stored.specs.Images.{image}
use Rattle.stored.specs.Openings.{opened}
use Rattle.stored.proofs.NameFields.{ok_same, err_ok}
use Rattle.stored.proofs.Openings.{images_open, opened_are_images}
use Rattle.stored.proofs.Storable.{trees_are_plans}
use Rattle.stored.proofs.Turns.{plan_back}
use Rattle.image.specs.declared.image.Image.{Image}
use Rattle.image.specs.Showing.{shown, Opens}
use Rattle.writer.specs.Writings.{AllNamed, FirstNameless, Writes}
use Rattle.writer.specs.Laws.{TreeOf, SamePlan, Written, Opened, ImagesArePlans}

abbrev plan : Stored → List Named
plan t = plan_of t.names t.nodes

-- a node by its number, in the plan
plan_at : (t : Stored) (k : ℕ) → get_or (map (named_by t.names) (nowhere ∷ t.nodes)) k (named_by t.names nowhere) ≡ record { name = name_at t.names (label_at t.nodes k); depth = depth_at t.nodes k }
plan_at t k =
    ⊎_elim
    (λ (l : k < length (nowhere ∷ t.nodes)). get_or-map (named_by t.names) (nowhere ∷ t.nodes) k nowhere (named_by t.names nowhere) l)
    (λ (l : length (nowhere ∷ t.nodes) ≤ k).
    get_or_past (map (named_by t.names) (nowhere ∷ t.nodes)) k (named_by t.names nowhere) (omega (arith, length-map (nowhere ∷ t.nodes) (named_by t.names)))
    ∙ ap (named_by t.names) (sym (get_or_past (nowhere ∷ t.nodes) k nowhere l)))
    (cases_lt k (length (nowhere ∷ t.nodes)))

abbrev nothing : Named
nothing = record { name = []; depth = 0 }

pub same_from : (t u : Stored) → plan t ≡ plan u → SamePlan t u
same_from t u e =
    let here : (k : ℕ) → named_by t.names (node_at t.nodes k) ≡ named_by u.names (node_at u.nodes k) =
    λ k. sym (plan_at t k) ∙ ap (λ (ps : List Named). get_or (nothing ∷ ps) k nothing) e ∙ plan_at u k in
    record {
      count = sym (length-map t.nodes (named_by t.names)) ∙ ap length e ∙ length-map u.nodes (named_by u.names);
      depths = λ k. ap (λ (p : Named). p.depth) (here k);
      names = λ k. ap (λ (p : Named). p.name) (here k);
    }

pub same_to : (t u : Stored) → SamePlan t u → plan t ≡ plan u
same_to t u s =
    ext_get_or nothing (plan t) (plan u) (length-map t.nodes (named_by t.names) ∙ s.count ∙ sym (length-map u.nodes (named_by u.names)))
    (λ k l. plan_at t (suc k) ∙ (λ i. record { name = s.names (suc k) i; depth = s.depths (suc k) i }) ∙ sym (plan_at u (suc k)))

written_bytes : (t : Stored) (s : List ℕ) → Written t s → s ≡ image (plan t)
written_bytes t s w =
    let c = w.call in
    w.bytes ∙ ap (take w.length) c.3 ∙ take_at (image (plan t)) (drop w.length w.was) w.length (sym c.1)

written_storable : (t : Stored) (s : List ℕ) → TreeOf t → Written t s → Storable (plan t)
written_storable t s k w = trees_are_plans t.names t.nodes k.0 k.1 w.call.0

-- what is opened is the image of its plan
opened_plan : (s : List ℕ) (t : Stored) → Opened s t → (ps : List Named) × Storable ps × (s ≡ image ps) × (t ≡ stored ps) × (plan t ≡ ps)
opened_plan s t o =
    let r = opened_are_images s (shown o.after) o.call in
    let same : t ≡ stored r.0 = o.shows ∙ r.3 in
    (r.0, r.1, r.2, same, ap plan same ∙ plan_back r.0)

opened_bytes : (s : List ℕ) (t : Stored) → Opened s t → s ≡ image (plan t)
opened_bytes s t o = let r = opened_plan s t o in r.2 ∙ ap image (sym r.4)

opens : (t : Stored) (s : List ℕ) (before after : Image) (r : Result (Unit {0}) ImageFault) → TreeOf t → Written t s → Opens s before r after → (r ≡ Ok tt) × SamePlan (shown after) t
opens t s before after (Err e) k w o = absurd (err_ok e (stored (plan t)) (sym o.0 ∙ ap opened (written_bytes t s w) ∙ images_open (plan t) (written_storable t s k w)))
opens t s before after (Ok u) k w o =
    let same : shown after ≡ stored (plan t) = ok_same (shown after) (stored (plan t)) (sym o ∙ ap opened (written_bytes t s w) ∙ images_open (plan t) (written_storable t s k w)) in
    (refl, same_from (shown after) t (ap plan same ∙ plan_back (plan t)))

-- a number is never above the count of names
number_most : (n : List ℕ) (ms : List (List ℕ)) → number_of n ms ≤ length ms
number_most n ms = ⊎_elim (λ (l : before n ms < length ms). omega (arith, number_some n ms l)) (λ (l : length ms ≤ before n ms). omega (arith, number_none n ms l)) (cases_lt (before n ms) (length ms))

by_named : (ms : List (List ℕ)) (i : ℕ) (ps : List Named) → AllNamed ms (nodes_by ms i ps)
by_named ms i [] = tt
by_named ms i (p ∷ ps) = (number_most p.name ms, by_named ms (suc i) ps)

pub never_nameless : (ms : List (List ℕ)) (ns : List Node) (k : ℕ) → AllNamed ms ns → FirstNameless ms ns k → ⊥
never_nameless ms ns zero a f = omega (arith, f.some)
never_nameless ms ns (suc k) a f = omega (arith, f.here, All-get_or (λ (n : Node). n.label ≤ length ms) ns k nowhere (omega (arith, f.within)) a)

abbrev Fits : ℕ → ℕ → Result ℕ WriteFault → Type 0
Fits k room r = Both (r ≡ Ok k) (k ≤ room) × Both (r ≡ Err (Short k)) (room < k)

fits : (k n room : ℕ) → n ≡ k → k ≤ room → Fits k room (Ok n)
fits k n room e l =
    (record { to = λ _. l; from = λ _. ap Ok e }, record { to = λ h. absurd (err_ok (Short k) n (sym h)); from = λ h. absurd (omega arith) })

no_room : (k n room : ℕ) → n ≡ k → room < k → Fits k room (Err (Short n))
no_room k n room e l =
    (record { to = λ h. absurd (err_ok (Short n) k h); from = λ h. absurd (omega arith) }, record { to = λ _. l; from = λ _. ap (λ (j : ℕ). Err (Short j)) e })

writable : (s : List ℕ) (t : Stored) (was is : List ℕ) (r : Result ℕ WriteFault) → Opened s t → Writes t.names t.nodes was r is → Fits (length s) (length was) r
writable s t was is (Ok n) o w =
    let long : n ≡ length s = w.1 ∙ ap length (sym (opened_bytes s t o)) in
    fits (length s) n (length was) long (omega (arith, w.2))
writable s t was is (Err (Short n)) o w =
    let long : n ≡ length s = w.1 ∙ ap length (sym (opened_bytes s t o)) in
    no_room (length s) n (length was) long (omega (arith, w.2))
writable s t was is (Err (Nameless k)) o w =
    let r = opened_plan s t o in
    absurd (never_nameless t.names t.nodes k (subst (λ (u : Stored). AllNamed u.names u.nodes) (sym r.3) (by_named (names_of r.0) 1 r.0)) w.0)

same_image : (t u : Stored) → Storable (plan t) → Storable (plan u) → image (plan t) ≡ image (plan u) → plan t ≡ plan u
same_image t u a b e =
    let same = ok_same (stored (plan t)) (stored (plan u)) (sym (images_open (plan t) a) ∙ ap opened e ∙ images_open (plan u) b) in
    sym (plan_back (plan t)) ∙ ap plan same ∙ plan_back (plan u)

equal : (t u : Stored) (s q : List ℕ) → TreeOf t → TreeOf u → Written t s → Written u q → Both (s ≡ q) (SamePlan t u)
equal t u s q k l w v = record {
  to = λ e. same_from t u (same_image t u (written_storable t s k w) (written_storable u q l v) (sym (written_bytes t s w) ∙ e ∙ written_bytes u q v));
  from = λ h. written_bytes t s w ∙ ap image (same_to t u h) ∙ sym (written_bytes u q v);
}

pub images_are_of_plans : ImagesArePlans
images_are_of_plans = record {
  opens = opens;
  rewrites = λ s q t o w. written_bytes t q w ∙ sym (opened_bytes s t o);
  writable = writable;
  equal = equal;
  one = λ s q t u o p h. opened_bytes s t o ∙ ap image (same_to t u h) ∙ sym (opened_bytes q u p);
}
