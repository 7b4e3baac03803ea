-- The nodes of node fields, by number, and as the bytes of an image hold them.
use Rattle.std.specs.Simd.{first_chunks}
use Rattle.std.specs.List.{slice_get}
use Rattle.std.specs.Option.{option_map, unwrap_or}
use Rattle.std.proofs.Common.{◌≡◌, ℕ, zero, suc, ◌+◌, ◌-◌, ◌*◌, ◌/◌, ◌<◌, ◌≤◌, true, List, [], ◌∷◌, length, get_or, refl, ap, ◌∙◌, sym, arith}
use Rattle.tree.specs.Nodes.{Node, nowhere, node_at, node_limit, lawful}
use Rattle.tree.specs.Laws.{lawful_laws}
use Rattle.stored.specs.Openings.{nodes_in}
use Rattle.image.specs.Numbered.{node, numbered, field_at}

pub length_numbered : (i : ℕ) (fs : List (List ℕ)) → length (numbered i fs) ≡ length fs
length_numbered i [] = refl
length_numbered i (f ∷ fs) = ap suc (length_numbered (suc i) fs)

shown_from : (i : ℕ) (fs : List (List ℕ)) (k : ℕ) → unwrap_or (option_map (node (i + k)) (slice_get fs k)) nowhere ≡ get_or (numbered i fs) k nowhere
shown_from i [] k = refl
shown_from i (f ∷ fs) zero = let e : i + 0 ≡ i = omega arith in ap (λ (j : ℕ). node j f) e
shown_from i (f ∷ fs) (suc k) = let e : i + suc k ≡ suc i + k = omega arith in ap (λ (j : ℕ). unwrap_or (option_map (node j) (slice_get fs k)) nowhere) e ∙ shown_from (suc i) fs k

-- the node k is that of the field k, if there is one
pub node_shown : (fs : List (List ℕ)) (k : ℕ) → node_at (numbered 1 fs) k ≡ unwrap_or (option_map (node k) (field_at fs k)) nowhere
node_shown fs zero = refl
node_shown fs (suc k) = let e : 1 + k ≡ suc k = omega arith in sym (shown_from 1 fs k) ∙ ap (λ (j : ℕ). unwrap_or (option_map (node j) (slice_get fs k)) nowhere) e

pub few_nodes : (fs : List (List ℕ)) → lawful node_limit (numbered 1 fs) ≡ true → length fs ≤ node_limit
few_nodes fs l = omega (arith, length_numbered 1 fs, (lawful_laws node_limit (numbered 1 fs) l).most)

chunks_from : (i k : ℕ) (s : List ℕ) → k ≡ length s / 3 → numbered i (first_chunks 3 k s) ≡ nodes_in i s
chunks_from i zero [] e = refl
chunks_from i zero (a ∷ []) e = refl
chunks_from i zero (a ∷ b ∷ []) e = refl
chunks_from i zero (a ∷ b ∷ d ∷ s) e = absurd (omega arith)
chunks_from i (suc k) [] e = absurd (omega arith)
chunks_from i (suc k) (a ∷ []) e = absurd (omega arith)
chunks_from i (suc k) (a ∷ b ∷ []) e = absurd (omega arith)
chunks_from i (suc k) (a ∷ b ∷ d ∷ s) e = ap (λ (ns : List Node). record { label = a * 256 + b; depth = d; origin = i } ∷ ns) (chunks_from (suc i) k s (omega arith))

-- the bytes of an image, three by three
pub chunks_nodes : (s : List ℕ) → numbered 1 (first_chunks 3 (length s / 3) s) ≡ nodes_in 1 s
chunks_nodes s = chunks_from 1 (length s / 3) s refl

abbrev node_of : ℕ → List ℕ → ℕ → Node
node_of o s at = record { label = get_or s at 0 * 256 + get_or s (at + 1) 0; depth = get_or s (at + 2) 0; origin = o }

later : (o : ℕ) (a b e : ℕ) (s : List ℕ) (k : ℕ) → node_of o s (3 * k) ≡ node_of o (a ∷ b ∷ e ∷ s) (3 * suc k)
later o a b e s k =
    let at : 3 * suc k ≡ suc (suc (suc (3 * k))) = omega arith in
    let next : 3 * suc k + 1 ≡ suc (suc (suc (3 * k + 1))) = omega arith in
    let last : 3 * suc k + 2 ≡ suc (suc (suc (3 * k + 2))) = omega arith in
    λ j. record {
      label = get_or (a ∷ b ∷ e ∷ s) (sym at j) 0 * 256 + get_or (a ∷ b ∷ e ∷ s) (sym next j) 0;
      depth = get_or (a ∷ b ∷ e ∷ s) (sym last j) 0;
      origin = o;
    }

node_in : (i : ℕ) (s : List ℕ) (k : ℕ) → k < length s / 3 → get_or (nodes_in i s) k nowhere ≡ node_of (i + k) s (3 * k)
node_in i [] k l = absurd (omega arith)
node_in i (a ∷ []) k l = absurd (omega arith)
node_in i (a ∷ b ∷ []) k l = absurd (omega arith)
node_in i (a ∷ b ∷ e ∷ s) zero l = let here : i ≡ i + 0 = omega arith in ap (λ (o : ℕ). record { label = a * 256 + b; depth = e; origin = o }) here
node_in i (a ∷ b ∷ e ∷ s) (suc k) l =
    let o : suc i + k ≡ i + suc k = omega arith in
    node_in (suc i) s k (omega arith) ∙ ap (λ (j : ℕ). node_of j s (3 * k)) o ∙ later (i + suc k) a b e s k

-- the node with a number
pub node_shown_at : (s : List ℕ) (k : ℕ) → (k ≡ 0 → ⊥) → k ≤ length s / 3 → node_at (nodes_in 1 s) k ≡ node_of k s (3 * (k - 1))
node_shown_at s zero n l = absurd (n refl)
node_shown_at s (suc k) n l =
    let o : 1 + k ≡ suc k = omega arith in
    let less : k ≡ suc k - 1 = omega arith in
    node_in 1 s k (omega arith) ∙ ap (λ (j : ℕ). node_of j s (3 * k)) o ∙ ap (λ (j : ℕ). node_of (suc k) s (3 * j)) less
