-- In a tree no stage is taken by two.
use Rattle.std.proofs.Common.{◌≡◌, ℕ, zero, suc, ◌+◌, ◌<◌, ◌≤◌, ◌⊎◌, inl, inr, List, [], ◌∷◌, length, refl, ap, ◌∙◌, arith, Some, unwrap_or}
use Rattle.std.specs.Prelude.{slice_get}
use Rattle.std.proofs.lemmas.List.{length-map}
use Rattle.std.proofs.lemmas.Option.{slice_get_within}
use Rattle.pipeline_json.specs.Lists.{has, times}
use Rattle.pipeline_json.specs.Stages.{taken}
use Rattle.pipeline_json.specs.Trees.{IsTree}
use Rattle.pipeline_json.proofs.Taken.{times-append, present}
use Rattle.stage_options.specs.Shapes.{shape, shapes}
use Rattle.stage_options.specs.declared.stage.StageSpec.{StageSpec}
use Rattle.stage_planner.specs.Covering.{Takes}

-- each stage takes earlier ones, and two that take one are one
pub record IsForest (stages : List StageSpec) : Type 0 where
  pub earlier : (i j : ℕ) → Takes stages i j → j < i
  pub once : (i k j : ℕ) → Takes stages i j → Takes stages k j → i ≡ k

joined : (j : ℕ) (s : StageSpec) (rest : List StageSpec) → times j (taken (shapes (s ∷ rest))) ≡ times j s.ins + times j (taken (shapes rest))
joined j s rest = times-append j s.ins (taken (shapes rest))

same-stage : (s t : StageSpec) → Some s ≡ Some t → s ≡ t
same-stage s t e = ap (λ o. unwrap_or o s) e

first_takes : (j : ℕ) (s : StageSpec) (rest : List StageSpec) → Takes (s ∷ rest) zero j → 1 ≤ times j s.ins
first_takes j s rest t = present j s.ins (ap (λ (z : StageSpec). has z.ins j) (same-stage s t.0 t.1) ∙ t.2)

one_taker : (j : ℕ) (stages : List StageSpec) (i : ℕ) → Takes stages i j → 1 ≤ times j (taken (shapes stages))
one_taker j [] i t = absurd (let no = t.1 in cc)
one_taker j (s ∷ rest) zero t = let e = joined j s rest in let one = first_takes j s rest t in omega (arith, e, one)
one_taker j (s ∷ rest) (suc i) t = let e = joined j s rest in let one = one_taker j rest i t in omega (arith, e, one)

two_takers : (j : ℕ) (stages : List StageSpec) (i k : ℕ) → i < k → Takes stages i j → Takes stages k j → 2 ≤ times j (taken (shapes stages))
two_takers j [] i k l t u = absurd (let no = t.1 in cc)
two_takers j (s ∷ rest) i zero l t u = absurd (omega (arith, l))
two_takers j (s ∷ rest) zero (suc k) l t u =
    let e = joined j s rest in let one = first_takes j s rest t in let other = one_taker j rest k u in omega (arith, e, one, other)
two_takers j (s ∷ rest) (suc i) (suc k) l t u = let e = joined j s rest in let two = two_takers j rest i k (omega (arith, l)) t u in omega (arith, e, two)

less_or_more : (x y : ℕ) → (x < y) ⊎ (x ≡ y) ⊎ (y < x)
less_or_more zero zero = inr (inl refl)
less_or_more zero (suc y) = inl (omega arith)
less_or_more (suc x) zero = inr (inr (omega arith))
less_or_more (suc x) (suc y) = go (less_or_more x y)
  where
    go : (x < y) ⊎ (x ≡ y) ⊎ (y < x) → (suc x < suc y) ⊎ (suc x ≡ suc y) ⊎ (suc y < suc x)
    go (inl l) = inl (omega (arith, l))
    go (inr (inl e)) = inr (inl (ap suc e))
    go (inr (inr l)) = inr (inr (omega (arith, l)))

-- a stage's shape, where there is a stage
shape-at : (stages : List StageSpec) (i : ℕ) (s : StageSpec) → slice_get stages i ≡ Some s → slice_get (shapes stages) i ≡ Some (shape s)
shape-at [] i s e = absurd cc
shape-at (t ∷ later) zero s e = ap (λ x. Some (shape x)) (same-stage t s e)
shape-at (t ∷ later) (suc i) s e = shape-at later i s e

pub few-stages : (stages : List StageSpec) → IsTree (shapes stages) → length stages ≤ 64
few-stages stages tree = let long = length-map stages shape in let few = tree.few in omega (arith, long, few)

pub tree-forest : (stages : List StageSpec) → IsTree (shapes stages) → IsForest stages
tree-forest stages tree = record { earlier = earlier; once = λ i k j t u. go i k j t u (less_or_more i k) }
  where
    earlier : (i j : ℕ) → Takes stages i j → j < i
    earlier i j t = tree.earlier i j (shape t.0) (shape-at stages i t.0 t.1) t.2

    -- a stage that is taken is not the last
    once : (i j : ℕ) → Takes stages i j → times j (taken (shapes stages)) ≡ 1
    once i j t =
        let l = earlier i j t in let m = slice_get_within stages i t.0 t.1 in let long = length-map stages shape in
        tree.once j (omega (arith, l, m, long))

    go : (i k j : ℕ) → Takes stages i j → Takes stages k j → (i < k) ⊎ (i ≡ k) ⊎ (k < i) → i ≡ k
    go i k j t u (inr (inl e)) = e
    go i k j t u (inl l) = absurd (let two = two_takers j stages i k l t u in let one = once i j t in omega (arith, two, one))
    go i k j t u (inr (inr l)) = absurd (let two = two_takers j stages k i l u t in let one = once i j t in omega (arith, two, one))
