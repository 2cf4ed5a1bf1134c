-- The way from a stage to the greatest one of its step.
use Rattle.std.proofs.Common.{◌≡◌, ℕ, zero, suc, ◌+◌, ◌<◌, ◌≤◌, ◌⊎◌, inl, inr, Bool, true, false, ◌||◌, not, cond, List, [], ◌∷◌, length, get_or, refl, ap, sym, ◌∙◌, subst, arith, Some, None, unwrap_or}
use Rattle.std.specs.Prelude.{Option, position, slice_get}
use Rattle.std.specs.List.{position_or_len}
use Rattle.std.proofs.lemmas.Bool.{lt-ltb}
use Rattle.std.proofs.lemmas.Option.{slice_get-get_or, slice_get_within}
use Rattle.std.proofs.lemmas.List.Quantifiers.{position-Some}
use Rattle.pipeline_json.specs.Lists.{has}
use Rattle.stage_options.specs.declared.options.Options.TheVariants.{FiltersMerge}
use Rattle.stage_options.specs.declared.stage.StageSpec.{StageSpec}
use Rattle.stage_planner.specs.Plans.{is_whole, taker, next, times_over, end_of}
use Rattle.stage_planner.specs.Covering.{Takes}
use Rattle.stage_planner.proofs.Forest.{IsForest}

found-by : {A : Type 0} (p : A → Bool) (xs : List A) (i : ℕ) (x : A) → slice_get xs i ≡ Some x → p x ≡ true → position_or_len p xs < length xs
found-by p [] i x g h = absurd cc
found-by p (y ∷ ys) zero x g h = let same : p y ≡ true = ap (λ o. p (unwrap_or o y)) g ∙ h in
    let first : position_or_len p (y ∷ ys) ≡ 0 = ap (λ b. cond (not b) (1 + position_or_len p ys) 0) same in omega (arith, first)
found-by p (y ∷ ys) (suc i) x g h = go (not (p y)) (found-by p ys i x g h)
  where
    go : (b : Bool) → position_or_len p ys < length ys → cond b (1 + position_or_len p ys) 0 < suc (length ys)
    go true l = omega (arith, l)
    go false l = omega arith

found : {A : Type 0} (p : A → Bool) (xs : List A) (i : ℕ) (x : A) → slice_get xs i ≡ Some x → p x ≡ true → position p xs ≡ Some (position_or_len p xs)
found p xs i x g h = ap (λ b. cond b (Some (position_or_len p xs)) None) (lt-ltb (position_or_len p xs) (length xs) (found-by p xs i x g h))

is_some_or_none : (o : Option ℕ) → ((i : ℕ) × (o ≡ Some i)) ⊎ (o ≡ None)
is_some_or_none None = inr refl
is_some_or_none (Some i) = inl (i, refl)

-- any stage
abbrev some_stage : StageSpec
some_stage = record { ins = []; options = FiltersMerge (record {}) }

-- from stage j the way stays there, or goes on to a stage k of the same run that takes it
abbrev pub Leads : List StageSpec → ℕ → ℕ → Type 0
Leads stages j k = (k ≡ j) ⊎ (Takes stages k j × (is_whole stages j ≡ false) × (is_whole stages k ≡ false))

module _ (stages : List StageSpec) (forest : IsForest stages) where
  inside : (i j : ℕ) → Takes stages i j → i < length stages
  inside i j t = slice_get_within stages i t.0 t.1

  takes-taker : (j i : ℕ) → taker stages j ≡ Some i → Takes stages i j
  takes-taker j i e =
      let at = position-Some (λ (s : StageSpec). has s.ins j) stages i some_stage e in
      (get_or stages i some_stage, slice_get-get_or stages i some_stage at.0, at.1)

  taker-takes : (i j : ℕ) → Takes stages i j → taker stages j ≡ Some i
  taker-takes i j t =
      let e = found (λ (s : StageSpec). has s.ins j) stages i t.0 t.1 t.2 in
      e ∙ ap Some (forest.once (position_or_len (λ (s : StageSpec). has s.ins j) stages) i j (takes-taker j _ e) t)

  pub next-leads : (j : ℕ) → Leads stages j (next stages j)
  next-leads j = by_taker (is_some_or_none (taker stages j))
    where
      here : (b : Bool) → is_whole stages j ≡ b → (i : ℕ) → taker stages j ≡ Some i → (c : Bool) → is_whole stages i ≡ c → Leads stages j (cond (b || c) j i)
      here true e i t c f = inl refl
      here false e i t true f = inl refl
      here false e i t false f = inr (takes-taker j i t, e, f)

      same : (b : Bool) → cond b j j ≡ j
      same true = refl
      same false = refl

      by_taker : ((i : ℕ) × (taker stages j ≡ Some i)) ⊎ (taker stages j ≡ None) → Leads stages j (next stages j)
      by_taker (inl t) = subst (λ o. Leads stages j (cond (is_whole stages j || is_whole stages (unwrap_or o j)) j (unwrap_or o j)))
          (sym t.1) (here (is_whole stages j) refl t.0 t.1 (is_whole stages t.0) refl)
      by_taker (inr n) = inl (ap (λ o. cond (is_whole stages j || is_whole stages (unwrap_or o j)) j (unwrap_or o j)) n ∙ same (is_whole stages j || is_whole stages j))

  -- an edge between two streamed stages is a step of the way
  pub goes-edge : (i j : ℕ) → Takes stages i j → is_whole stages i ≡ false → is_whole stages j ≡ false → next stages j ≡ i
  goes-edge i j t wi wj = ap (λ o. cond (is_whole stages j || is_whole stages (unwrap_or o j)) j (unwrap_or o j)) (taker-takes i j t)
      ∙ ap (λ b. cond (b || is_whole stages i) j i) wj ∙ ap (λ b. cond b j i) wi

  pub stays-whole : (j : ℕ) → is_whole stages j ≡ true → next stages j ≡ j
  stays-whole j w = ap (λ b. cond (b || is_whole stages (unwrap_or (taker stages j) j)) j (unwrap_or (taker stages j) j)) w

  rises : (j : ℕ) → (next stages j ≡ j) ⊎ (j < next stages j)
  rises j = go (next-leads j)
    where
      go : Leads stages j (next stages j) → (next stages j ≡ j) ⊎ (j < next stages j)
      go (inl e) = inl e
      go (inr g) = inr (forest.earlier (next stages j) j g.0)

  stays_inside : (j : ℕ) → j < length stages → next stages j < length stages
  stays_inside j l = go (next-leads j)
    where
      go : Leads stages j (next stages j) → next stages j < length stages
      go (inl e) = subst (λ k. k < length stages) (sym e) l
      go (inr g) = inside (next stages j) j g.0

  -- where the way is after k steps
  abbrev way : ℕ → ℕ → ℕ
  way k j = times_over k (next stages) j

  way-inside : (k j : ℕ) → j < length stages → way k j < length stages
  way-inside zero j l = l
  way-inside (suc k) j l = stays_inside (way k j) (way-inside k j l)

  way-rises : (k j : ℕ) → (next stages (way k j) ≡ way k j) ⊎ (j + k ≤ way k j)
  way-rises zero j = inr (omega arith)
  way-rises (suc k) j = go (way-rises k j) (rises (way k j))
    where
      go : (next stages (way k j) ≡ way k j) ⊎ (j + k ≤ way k j) → (next stages (way k j) ≡ way k j) ⊎ (way k j < next stages (way k j))
          → (next stages (next stages (way k j)) ≡ next stages (way k j)) ⊎ (j + suc k ≤ next stages (way k j))
      go (inl e) r = inl (ap (next stages) e)
      go (inr l) (inl e) = inl (ap (next stages) e)
      go (inr l) (inr m) = inr (omega (arith, l, m))

  way-from : (k j : ℕ) → way k (next stages j) ≡ next stages (way k j)
  way-from zero j = refl
  way-from (suc k) j = ap (next stages) (way-from k j)

  way-stays : (k j : ℕ) → next stages j ≡ j → way k j ≡ j
  way-stays zero j e = refl
  way-stays (suc k) j e = ap (next stages) (way-stays k j e) ∙ e

  way-up : (k j : ℕ) → j ≤ way k j
  way-up zero j = omega arith
  way-up (suc k) j = go (rises (way k j)) (way-up k j)
    where
      go : (next stages (way k j) ≡ way k j) ⊎ (way k j < next stages (way k j)) → j ≤ way k j → j ≤ next stages (way k j)
      go (inl e) l = subst (λ z. j ≤ z) (sym e) l
      go (inr m) l = omega (arith, l, m)

  way-whole : (k j : ℕ) → is_whole stages (way k j) ≡ true → way k j ≡ j
  way-whole zero j w = refl
  way-whole (suc k) j w = go (next-leads (way k j)) (way-whole k j)
    where
      go : Leads stages (way k j) (next stages (way k j)) → (is_whole stages (way k j) ≡ true → way k j ≡ j) → next stages (way k j) ≡ j
      go (inl e) ih = e ∙ ih (sym (ap (is_whole stages) e) ∙ w)
      go (inr g) ih = absurd (let no : is_whole stages (next stages (way k j)) ≡ false = g.2 in let yes : is_whole stages (next stages (way k j)) ≡ true = w in cc)

  pub end-inside : (j : ℕ) → j < length stages → end_of stages j < length stages
  unfolding end_of
  end-inside j l = way-inside (length stages) j l

  pub end-up : (j : ℕ) → j ≤ end_of stages j
  unfolding end_of
  end-up j = way-up (length stages) j

  -- the way has ended there
  pub end-stays : (j : ℕ) → j < length stages → next stages (end_of stages j) ≡ end_of stages j
  unfolding end_of
  end-stays j l = go (way-rises (length stages) j) (way-inside (length stages) j l)
    where
      go : (next stages (way (length stages) j) ≡ way (length stages) j) ⊎ (j + length stages ≤ way (length stages) j)
          → way (length stages) j < length stages → next stages (way (length stages) j) ≡ way (length stages) j
      go (inl e) m = e
      go (inr n) m = absurd (omega (arith, n, m))

  end-from : (j : ℕ) → end_of stages (next stages j) ≡ next stages (end_of stages j)
  unfolding end_of
  end-from j = way-from (length stages) j

  pub end-next : (j : ℕ) → j < length stages → end_of stages (next stages j) ≡ end_of stages j
  end-next j l = end-from j ∙ end-stays j l

  pub end-here : (j : ℕ) → next stages j ≡ j → end_of stages j ≡ j
  unfolding end_of
  end-here j e = way-stays (length stages) j e

  pub end-end : (j : ℕ) → j < length stages → end_of stages (end_of stages j) ≡ end_of stages j
  end-end j l = end-here (end_of stages j) (end-stays j l)

  -- nothing leads to a whole stage
  pub end-whole : (j : ℕ) → is_whole stages (end_of stages j) ≡ true → end_of stages j ≡ j
  unfolding end_of
  end-whole j w = way-whole (length stages) j w
