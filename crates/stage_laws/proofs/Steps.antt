-- A decimation gives the points at its steps.
use Rattle.std.proofs.Common.{◌≡◌, ℕ, zero, suc, ◌+◌, ◌-◌, ◌*◌, ◌^◌, ◌<◌, ◌≤◌, ◌%◌, ◌==◌, ◌⊎◌, inl, inr, Bool, true, false, not, ◌&&◌, ◌||◌, cond, List, [], ◌∷◌, map, length, take, Some, None, refl, ap, sym, ◌∙◌, arith, eq-eqb, ne_eqb}
use Rattle.std.specs.Prelude.{filter, nat_lt, nat_le, slice_get, Result, Ok}
use Rattle.std.proofs.lemmas.Bool.{ltb-true, ltb-false, le-ltb, le-leb, lt-leb}
use Rattle.std.proofs.lemmas.Nat.{mod-mul-add}
use Rattle.cloud_points.specs.Queue.{up_to_limit}
use Rattle.stage_meanings.specs.Filters.{chosen, positions, on_view, is_true}
use Rattle.stage_meanings.specs.Rules.{decimation, is_step}

-- ---- places

module _ (step offset : ℕ) where
  abbrev steps : ℕ → Bool
  steps = is_step step offset None

  abbrev steps_below : ℕ → ℕ → Bool
  steps_below limit = is_step step offset (Some limit)

  on : 0 < step → (m q : ℕ) → m ≡ offset + q * step → steps m ≡ true
  on some m q e =
      let far : nat_le offset m ≡ true = le-leb offset m (omega (arith, e)) in
      let rest : (m - offset) % step ≡ 0 = ap (λ n. n % step) (let z : m - offset ≡ q * step + 0 = omega (arith, e) in z) ∙ mod-mul-add q step 0 some in
      ap (λ b. b && ((m - offset) % step == 0)) far ∙ eq-eqb ((m - offset) % step) 0 rest

  before_first : (m : ℕ) → m < offset → steps m ≡ false
  before_first m l = ap (λ b. b && ((m - offset) % step == 0)) (lt-leb offset m l)

  -- behind a step, and so many places before the next
  between : (m d q : ℕ) → m + suc d ≡ offset + suc q * step → suc d < step → steps m ≡ false
  between m d q e l =
      let far : nat_le offset m ≡ true = le-leb offset m (omega (arith, e, l)) in
      let rest : (m - offset) % step ≡ step - suc d = ap (λ n. n % step) (let z : m - offset ≡ q * step + (step - suc d) = omega (arith, e, l) in z) ∙ mod-mul-add q step (step - suc d) (omega (arith, l)) in
      ap (λ b. b && ((m - offset) % step == 0)) far ∙ ne_eqb ((m - offset) % step) 0 (λ none. absurd (omega (arith, rest, none, l)))

  off : (m d q : ℕ) → m + suc d ≡ offset + q * step → (q ≡ 0) ⊎ (suc d < step) → steps m ≡ false
  off m d zero e h = before_first m (let z : zero * step ≡ 0 = omega arith in omega (arith, e, z))
  off m d (suc q) e (inl none) = absurd (omega (arith, none))
  off m d (suc q) e (inr l) = between m d q e l

  nearer : (d q : ℕ) → (q ≡ 0) ⊎ (suc d < step) → (q ≡ 0) ⊎ (d < step)
  nearer d q (inl z) = inl z
  nearer d q (inr l) = inr (omega (arith, l))

  -- below a limit: where a count stands at the greatest, its place isn't chosen either
  position_tells : (limit : ℕ) → limit ≤ 2 ^ 64 - 1 → (j : ℕ) → steps_below limit (up_to_limit j) ≡ steps_below limit j
  position_tells limit fits j = go (nat_lt j limit) refl
    where
      go : (t : Bool) → nat_lt j limit ≡ t → steps_below limit (up_to_limit j) ≡ steps_below limit j
      go true t = let less : j < limit = ltb-true j limit t in ap (steps_below limit) (let z : up_to_limit j ≡ j = omega (arith, less, fits) in z)
      go false t = let far : limit ≤ j = ltb-false j limit t in
          ap (λ b. b && nat_le offset (up_to_limit j) && ((up_to_limit j - offset) % step == 0)) (le-ltb (up_to_limit j) limit (let z : limit ≤ up_to_limit j = omega (arith, far, fits) in z))
          ∙ sym (ap (λ b. b && nat_le offset j && ((j - offset) % step == 0)) t)

-- ---- points

module _ {P : Type 0} where
  -- the points at which a test holds, of those from place m on
  abbrev picked : (ℕ → Bool) → ℕ → List P → List P
  picked test m [] = []
  picked test m (p ∷ ps) = cond (test m) (p ∷ picked test (m + 1) ps) (picked test (m + 1) ps)

  -- where all points pass, a point's position is its place, up to the limit of counts
  module _ (passing : P → Bool) (all : (p : P) → passing p ≡ true) (test : ℕ → Bool) where
    abbrev others : ℕ → List P → List (P × ℕ)
    others k ps = filter (λ q. not (passing q.0) || test q.1) (positions passing k ps)

    first_of : (b : Bool) (p : P) (k : ℕ) (rest : List (P × ℕ)) → map (λ q. q.0) (cond b ((p, k) ∷ rest) rest) ≡ cond b (p ∷ map (λ q. q.0) rest) (map (λ q. q.0) rest)
    first_of true p k rest = refl
    first_of false p k rest = refl

    chosen-picked : (m : ℕ) (view : List P) → ((j : ℕ) → j < m + length view → test (up_to_limit j) ≡ test j) → chosen passing test (up_to_limit m) view ≡ picked test m view
    chosen-picked m [] told = refl
    chosen-picked m (p ∷ ps) told =
        ap (λ b. map (λ q. q.0) (cond (not b || test (up_to_limit m)) ((p, up_to_limit m) ∷ others (cond b (up_to_limit (up_to_limit m + 1)) (up_to_limit m)) ps) (others (cond b (up_to_limit (up_to_limit m + 1)) (up_to_limit m)) ps))) (all p)
        ∙ ap (λ b. map (λ q. q.0) (cond b ((p, up_to_limit m) ∷ others (up_to_limit (up_to_limit m + 1)) ps) (others (up_to_limit (up_to_limit m + 1)) ps))) (told m (omega arith))
        ∙ ap (λ n. map (λ q. q.0) (cond (test m) ((p, up_to_limit m) ∷ others n ps) (others n ps))) (let next : up_to_limit (up_to_limit m + 1) ≡ up_to_limit (m + 1) = omega arith in next)
        ∙ first_of (test m) p (up_to_limit m) (others (up_to_limit (m + 1)) ps)
        ∙ ap (λ qs. cond (test m) (p ∷ qs) qs) (chosen-picked (m + 1) ps (λ j l. told j (omega (arith, l))))

  module _ (step offset : ℕ) where
    -- with the point at a step, and d places before one
    at_step : (m : ℕ) (p : P) (ps : List P) → steps step offset m ≡ true → ((k : ℕ) → slice_get (picked (steps step offset) (m + 1) ps) k ≡ slice_get ps (step - 1 + k * step)) → 0 < step
        → (k : ℕ) → slice_get (picked (steps step offset) m (p ∷ ps)) k ≡ slice_get (p ∷ ps) (zero + k * step)
    at_step m p ps h later some k = ap (λ b. slice_get (cond b (p ∷ picked (steps step offset) (m + 1) ps) (picked (steps step offset) (m + 1) ps)) k) h ∙ here k
      where
        here : (k : ℕ) → slice_get (p ∷ picked (steps step offset) (m + 1) ps) k ≡ slice_get (p ∷ ps) (zero + k * step)
        here zero = ap (slice_get (p ∷ ps)) (let z : 0 ≡ zero + zero * step = omega arith in z)
        here (suc k) = later k ∙ ap (slice_get (p ∷ ps)) (let z : suc (step - 1 + k * step) ≡ zero + suc k * step = omega (arith, some) in z)

    -- d places before a step the next points are those at that one and at the later ones
    from_step : 0 < step → (m d q : ℕ) (view : List P) → m + d ≡ offset + q * step → (q ≡ 0) ⊎ (d < step) → (k : ℕ) → slice_get (picked (steps step offset) m view) k ≡ slice_get view (d + k * step)
    from_step some m d q [] e h k = refl
    from_step some m zero q (p ∷ ps) e h k = at_step m p ps (on step offset some m q (omega (arith, e)))
        (λ k. from_step some (m + 1) (step - 1) (suc q) ps (omega (arith, e, some)) (inr (omega (arith, some))) k) some k
    from_step some m (suc d) q (p ∷ ps) e h k =
        ap (λ b. slice_get (cond b (p ∷ picked (steps step offset) (m + 1) ps) (picked (steps step offset) (m + 1) ps)) k) (off step offset m d q e h)
        ∙ from_step some (m + 1) d q ps (omega (arith, e)) (nearer step offset d q h) k
        ∙ ap (slice_get (p ∷ ps)) (let z : suc (d + k * step) ≡ suc d + k * step = omega arith in z)

    from_start : 0 < step → (view : List P) (k : ℕ) → slice_get (picked (steps step offset) 0 view) k ≡ slice_get view (offset + k * step)
    from_start some view k = from_step some 0 offset 0 view (omega arith) (inl refl) k

    -- ---- with a limit

    beyond : (limit m : ℕ) (view : List P) → limit ≤ m → picked (steps_below step offset limit) m view ≡ []
    beyond limit m [] l = refl
    beyond limit m (p ∷ ps) l =
        ap (λ b. cond (b && nat_le offset m && ((m - offset) % step == 0)) (p ∷ picked (steps_below step offset limit) (m + 1) ps) (picked (steps_below step offset limit) (m + 1) ps)) (le-ltb m limit l)
        ∙ beyond limit (m + 1) ps (omega (arith, l))

    none-taken : (n : ℕ) → ◌≡◌ {A = List P} [] (take n [])
    none-taken zero = refl
    none-taken (suc n) = refl

    -- it gives what it would without it of the points before it
    as_taken : (limit m : ℕ) (view : List P) → picked (steps_below step offset limit) m view ≡ picked (steps step offset) m (take (limit - m) view)
    as_taken limit m [] = ap (picked (steps step offset) m) (none-taken (limit - m))
    as_taken limit m (p ∷ ps) = go (nat_lt m limit) refl (as_taken limit (m + 1) ps)
      where
        go : (t : Bool) → nat_lt m limit ≡ t → picked (steps_below step offset limit) (m + 1) ps ≡ picked (steps step offset) (m + 1) (take (limit - (m + 1)) ps)
            → picked (steps_below step offset limit) m (p ∷ ps) ≡ picked (steps step offset) m (take (limit - m) (p ∷ ps))
        go true t same =
            let less : m < limit = ltb-true m limit t in
            ap (λ b. cond (b && nat_le offset m && ((m - offset) % step == 0)) (p ∷ picked (steps_below step offset limit) (m + 1) ps) (picked (steps_below step offset limit) (m + 1) ps)) t
            ∙ ap (λ qs. cond (steps step offset m) (p ∷ qs) qs) same
            ∙ ap (λ n. picked (steps step offset) m (take n (p ∷ ps))) (let z : suc (limit - (m + 1)) ≡ limit - m = omega (arith, less) in z)
        go false t same =
            let far : limit ≤ m = ltb-false m limit t in
            beyond limit m (p ∷ ps) far ∙ ap (λ n. picked (steps step offset) m (take n (p ∷ ps))) (let z : 0 ≡ limit - m = omega (arith, far) in z)

-- ---- the law

module _ {P R : Type 0} (step offset : ℕ) (only : P → Result Bool R) (view : List P) (some : 0 < step) (all : (p : P) → only p ≡ Ok true) where
  abbrev passing : P → Bool
  passing p = is_true (only p)

  every : (p : P) → passing p ≡ true
  every p = ap is_true (all p)

  pub at_steps : length view ≤ 2 ^ 64 → (k : ℕ) → slice_get (on_view (decimation step offset None) only view) k ≡ slice_get view (offset + k * step)
  at_steps short k =
      ap (λ ps. slice_get ps k) (chosen-picked passing every (steps step offset) 0 view
      (λ j l. ap (steps step offset) (let z : up_to_limit j ≡ j = omega (arith, l, short) in z)))
      ∙ from_start step offset some view k

  pub at_limited_steps : (limit : ℕ) → limit < 2 ^ 64 → (k : ℕ) → slice_get (on_view (decimation step offset (Some limit)) only view) k ≡ slice_get (take limit view) (offset + k * step)
  at_limited_steps limit fits k =
      ap (λ ps. slice_get ps k) (chosen-picked passing every (steps_below step offset limit) 0 view (λ j l. position_tells step offset limit (omega (arith, fits)) j))
      ∙ ap (λ ps. slice_get ps k) (as_taken step offset limit 0 view)
      ∙ ap (λ n. slice_get (picked (steps step offset) 0 (take n view)) k) (let z : limit - 0 ≡ limit = omega arith in z)
      ∙ from_start step offset some (take limit view) k
