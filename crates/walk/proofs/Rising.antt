-- The origins that a walk answers rise.
use Rattle.std.proofs.Common.{◌≡◌, ℕ, zero, suc, ◌+◌, ◌<◌, ◌≤◌, List, [], ◌∷◌, map, length, get_or, take, filter, sym, ap, ◌∙◌, subst, arith}
use Rattle.std.specs.List.{AllByRecursion}
use Rattle.std.proofs.ByRecursion.{all_kept_by}
use Rattle.std.proofs.lemmas.List.{take_all}
use Rattle.tree.specs.Nodes.{Node, Laws, node_limit, count, origin_at}
use Rattle.tree.specs.Paths.{numbers, chosen, select, selects, Rises}
use Rattle.tree.proofs.Paths.{kept_rises, rises_less}
use Rattle.tree.specs.declared.step.Step.{Step}
use Rattle.walk.specs.Walks.{origins}
use Rattle.walk.specs.Marks.{any_step}
use Rattle.walk.proofs.Marking.{selects_next}

numbers_most : (n b c : ℕ) → b + n ≤ suc c → AllByRecursion (λ k. k ≤ c) (numbers n b)
numbers_most zero b c l = tt
numbers_most (suc n) b c l = (omega arith, numbers_most n (suc b) c (omega arith))

next_origin : (ns : List Node) → Laws node_limit ns → (b k : ℕ) → b < k → k ≤ count ns → origin_at ns b < origin_at ns k
next_origin ns laws zero k l h = (laws.origins k (omega arith) h).0
next_origin ns laws (suc b) k l h = laws.rise (suc b) k (omega arith) l h

origins_rise : (ns : List Node) → Laws node_limit ns → (b : ℕ) (ks : List ℕ) → Rises (suc b) ks → AllByRecursion (λ k. k ≤ count ns) ks → Rises (suc (origin_at ns b)) (map (origin_at ns) ks)
origins_rise ns laws b [] r h = tt
origins_rise ns laws b (k ∷ ks) r h = (next_origin ns laws b k r.0 h.0, origins_rise ns laws k ks r.1 h.1)

select_rise : (ns : List Node) → Laws node_limit ns → (s : List ℕ) (p : Step) → Rises 0 (map (origin_at ns) (select ns s p))
unfolding select
select_rise ns laws s p = rises_less 0 1 (map (origin_at ns) (select ns s p)) (omega arith)
    (origins_rise ns laws 0 (filter (chosen ns s p) (numbers (count ns) 1)) (kept_rises (chosen ns s p) (count ns) 1)
    (all_kept_by (chosen ns s p) (λ k. k ≤ count ns) (numbers (count ns) 1) (numbers_most (count ns) 1 (count ns) (omega arith))))

pub answers_rise : (ns : List Node) → Laws node_limit ns → (q : List Step) → Rises 0 (origins ns q)
answers_rise ns laws [] = (omega arith, tt)
answers_rise ns laws (p ∷ q) =
    let e : selects ns (p ∷ q) ≡ select ns (selects ns (take (length q) (p ∷ q))) (get_or (p ∷ q) (length q) any_step) =
    ap (selects ns) (sym (take_all (suc (length q)) (p ∷ q) (omega arith))) ∙ selects_next ns (p ∷ q) (length q) (omega arith) in
    subst (λ (z : List ℕ). Rises 0 (map (origin_at ns) z)) (sym e) (select_rise ns laws (selects ns (take (length q) (p ∷ q))) (get_or (p ∷ q) (length q) any_step))
