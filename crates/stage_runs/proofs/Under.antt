-- Where every reader stands under a stage, no stage behind it takes one before it.
use Rattle.std.proofs.Common.{◌≡◌, ℕ, zero, suc, ◌-◌, ◌<◌, ◌≤◌, true, List, [], ◌∷◌, length, refl, sym, subst, ◌∙◌, inl, arith}
use Rattle.network_theory.specs.Forest.{children, IsForest}
use Rattle.network_theory.specs.Shape.{In}
use Rattle.network_theory.proofs.Forests.{forest-tree}
use Rattle.stage_parts.proofs.Counted.{in-each}
use Rattle.pipeline_json.specs.Trees.{IsTree}
use Rattle.stage_options.specs.Roles.{is_reading}
use Rattle.stage_options.specs.Shapes.{shapes}
use Rattle.stage_options.specs.declared.stage.StageSpec.{StageSpec}
use Rattle.answer_model.specs.Values.{role_at, stage_at}
use Rattle.stage_runs.specs.Ahead.{IsUnder, taken, through, HasAllReaders}
use Rattle.stage_runs.specs.Works.{ins_of}
use Rattle.stage_runs.proofs.Forests.{children-are, stages-forest}

module _ (stages : List StageSpec) (tree : IsTree (shapes stages)) where
  forest : IsForest (ins_of stages) (length stages - 1)
  forest = stages-forest stages tree

  child-of : (j k : ℕ) → In j ((stage_at stages k).ins) → In j (children (ins_of stages) k)
  child-of j k h = subst (In j) (sym (children-are stages k)) h

  pub taken-below : (j k : ℕ) → In j ((stage_at stages k).ins) → j < k
  taken-below j k h = in-each (λ x. x < k) j (children (ins_of stages) k) (child-of j k h) ((forest-tree (ins_of stages) (length stages - 1) forest).below k)

  -- it is taken by one stage alone
  one-parent : (j k l : ℕ) → In j ((stage_at stages k).ins) → In j ((stage_at stages l).ins) → k ≡ l
  one-parent j k l h i =
      let t = forest-tree (ins_of stages) (length stages - 1) forest in
      sym (in-each (λ x. t.parent x ≡ k) j (children (ins_of stages) k) (child-of j k h) (t.owned k)) ∙ in-each (λ x. t.parent x ≡ l) j (children (ins_of stages) l) (child-of j l i) (t.owned l)

  pub under-below : (i j : ℕ) → IsUnder stages i j → j < i
  under-below i j (taken _ h) = taken-below j i h
  under-below i j (through _ k h rest) = let a = taken-below j k h in let b = under-below i k rest in omega (arith, a, b)

  -- under a stage that is taken by one under another, or is one
  joined : (i c j : ℕ) → IsUnder stages c j → In c ((stage_at stages i).ins) → IsUnder stages i j
  joined i c j (taken _ h) up = through j c h (taken c up)
  joined i c j (through _ k h rest) up = through j k h (joined i c k rest up)

  -- a stage under both: the lower one of these is under the other
  data Meets (i c : ℕ) : Type 0 where
    under : IsUnder stages i c → Meets i c
    above : i ≤ c → Meets i c

  meet : (i c j : ℕ) → IsUnder stages i j → IsUnder stages c j → Meets i c
  meet i c j (taken _ h) (taken _ g) = above (let e = one-parent j i c h g in omega (arith, e))
  meet i c j (taken _ h) (through _ k g rest) = above (let e = one-parent j i k h g in let b = under-below c k rest in omega (arith, e, b))
  meet i c j (through _ k h rest) (taken _ g) = under (subst (IsUnder stages i) (one-parent j k c h g) rest)
  meet i c j (through _ k h rest) (through _ l g more) = meet i c k rest (subst (IsUnder stages c) (sym (one-parent j k l h g)) more)

  -- what takes a stage under another is that one, or stands under it
  takes-under : (i c k : ℕ) → IsUnder stages i c → In c ((stage_at stages k).ins) → k ≤ i
  takes-under i c k (taken _ h) g = let e = one-parent c i k h g in omega (arith, e)
  takes-under i c k (through _ l h rest) g = let e = one-parent c l k h g in let b = under-below i l rest in omega (arith, e, b)

  -- ---- readers

  module _ (ends : (k : ℕ) → k < length stages → (stage_at stages k).ins ≡ [] → is_reading (role_at stages k) ≡ true) where
    -- each stage is a reader, or has one under it
    data Reads (k : ℕ) : Type 0 where
      itself : is_reading (role_at stages k) ≡ true → Reads k
      below : (j : ℕ) → j < length stages → is_reading (role_at stages j) ≡ true → IsUnder stages k j → Reads k

    reads : (most k : ℕ) → k < most → k < length stages → Reads k
    reads zero k l inside = absurd (omega (arith, l))
    reads (suc most) k l inside = go (λ j b i. reads most j b i) ((stage_at stages k).ins) refl
      where
        on : (j : ℕ) → j < length stages → In j ((stage_at stages k).ins) → Reads j → Reads k
        on j b h (itself r) = below j b r (taken j h)
        on j b h (below i m r u) = below i m r (joined k j i u h)

        go : ((j : ℕ) → j < most → j < length stages → Reads j) → (js : List ℕ) → (stage_at stages k).ins ≡ js → Reads k
        go lower [] e = itself (ends k inside e)
        go lower (j ∷ js) e =
            let h : In j ((stage_at stages k).ins) = subst (In j) (sym e) (inl refl) in
            let b = taken-below j k h in
            on j (omega (arith, b, inside)) h (lower j (omega (arith, b, l)) (omega (arith, b, inside)))

    pub none-skipped : (i k c : ℕ) → HasAllReaders stages i → i < k → k < length stages → In c ((stage_at stages k).ins) → i ≤ c
    none-skipped i k c all behind last h = by_reads (reads (suc c) c (omega arith) inside)
      where
        inside : c < length stages
        inside = let b = taken-below c k h in omega (arith, b, last)

        beside : IsUnder stages i c → i ≤ c
        beside u = let m = takes-under i c k u h in absurd (omega (arith, m, behind))

        by_meet : Meets i c → i ≤ c
        by_meet (under u) = beside u
        by_meet (above m) = m

        by_reads : Reads c → i ≤ c
        by_reads (itself r) = beside (all c inside r)
        by_reads (below j l r u) = by_meet (meet i c j (all j l r) u)
