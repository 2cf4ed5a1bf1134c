-- What a mask names, and points that are judged by one.
use Rattle.std.proofs.Common.{suc, add-one, ◌≡◌, ℕ, ◌+◌, ◌-◌, ◌*◌, ◌/◌, ◌^◌, ◌<◌, ◌≤◌, Bool, true, false, cond, List, [], ◌∷◌, ◌++◌, length, take, drop, get_or, None, Ok, refl, ap, sym, ◌∙◌, append_assoc, arith, subst}
use Rattle.std.proofs.lemmas.List.{drop_more, length-drop}
use Rattle.std.proofs.lemmas.Nat.{pow_pos}
use Rattle.std.proofs.Math.Nat.{pow-suc, pow-le-pow_right}
use Rattle.std.specs.List.{cons_option}
use Rattle.std.specs.Option.{option_map}
use Rattle.stage_meanings.specs.declared.reason.Reason.{Reason}
use Rattle.stage_meanings.specs.declared.spot.Spot.{Spot}
use Rattle.stage_meanings.specs.Filters.{Rule, keeps, or_nothing, reason_of, fault_at}
use Rattle.stage_meanings.specs.Conditions.{passes}
use Rattle.stage_meanings.specs.ByRule.{judged, steps_of, spot_after, spot_past, IsWithin}
use Rattle.stage_meanings.specs.Steps.{Steps, unless, given, reached, stopped}
use Rattle.stage_meanings.proofs.Spots.{after_within, one_then, same_spot}
use Rattle.stream_filters.specs.Masks.{is_odd, marked, mask_of, IsMaskOf}
use Rattle.stream_filters.proofs.Moving.{cons-last}
use Rattle.std.proofs.lemmas.Bool.Decides.{nat_tests}
use mir.Val.{bool_byte}
use Rattle.cloud_points.specs.declared.point.Point.{Point}
use Rattle.cloud_points.specs.declared.faults.StageFault.{StageFault}
use Rattle.cloud_points.specs.Events.{first_fault}

-- ---- a mask is made

odd_of : (b : Bool) (m : ℕ) → is_odd (2 * m + cond b 1 0) ≡ b
odd_of true m = grind (arith, nat_tests)
odd_of false m = grind (arith, nat_tests)

half_of : (b : Bool) (m : ℕ) → (2 * m + cond b 1 0) / 2 ≡ m
half_of true m = omega arith
half_of false m = omega arith

-- a bit is at most 1
pub byte_small : (b : Bool) → bool_byte b ≤ 1
byte_small true = omega arith
byte_small false = omega arith

with_bit : (b : Bool) (m n : ℕ) → m < 2 ^ n → 2 * m + cond b 1 0 < 2 ^ suc n
with_bit true m n h = omega (arith, pow-suc 2 n)
with_bit false m n h = omega (arith, pow-suc 2 n)

module _ {P : Type 0} (test : P → Bool) where
  -- a mask has a bit for each point
  pub mask_small : (ps : List P) → mask_of test ps < 2 ^ length ps
  mask_small [] = omega arith
  mask_small (p ∷ ps) = with_bit (test p) (mask_of test ps) (length ps) (mask_small ps)

  -- and less than all where the last so many are fewer
  pub mask_below : (ps : List P) (at : ℕ) → at < length ps → length ps ≤ 64 → mask_of test (drop (length ps - at) ps) < 2 ^ 63
  mask_below ps at inside most =
      let few : length (drop (length ps - at) ps) ≡ at = length-drop (length ps - at) ps ∙ (omega arith) in
      let most_below : 2 ^ at ≤ 2 ^ 63 = pow-le-pow_right {n = 2} (omega arith) {i = at} {j = 63} (omega arith) in
      let h : mask_of test (drop (length ps - at) ps) < 2 ^ at = (let Q : ℕ → Type 0 = λ n. mask_of test (drop (length ps - at) ps) < 2 ^ n in subst Q few (mask_small (drop (length ps - at) ps))) in
      omega (arith, h, most_below)

  pub tests_are_masks : {R : Type 0} (rule : Rule P R) → ((place : ℕ) (p : P) → judged rule place p ≡ Ok (keeps (test p) p)) → (ps : List P) → IsMaskOf rule (mask_of test ps) ps
  tests_are_masks rule sound [] = tt
  tests_are_masks rule sound (p ∷ ps) =
      let Q : ℕ → Type 0 = λ m. IsMaskOf rule m ps in (
        λ place. sound place p ∙ ap (λ b. Ok (keeps b p)) (sym (odd_of (test p) (mask_of test ps))),
        subst Q (sym (half_of (test p) (mask_of test ps))) (tests_are_masks rule sound ps),
      )

-- ---- the points that a mask names

all_odd : (n : ℕ) → is_odd (2 ^ suc n - 1) ≡ true
all_odd n = let e = pow-suc 2 n in let h = pow_pos n in grind (arith, nat_tests)

all_half : (n : ℕ) → (2 ^ suc n - 1) / 2 ≡ 2 ^ n - 1
all_half n = omega (arith, pow-suc 2 n, pow_pos n)

pub marked_all : {P : Type 0} (ps : List P) → marked (2 ^ length ps - 1) ps ≡ ps
marked_all [] = refl
marked_all (p ∷ ps) = ap (λ b. cons_option (keeps b p) (marked ((2 ^ length (p ∷ ps) - 1) / 2) ps)) (all_odd (length ps))
    ∙ ap (λ m. p ∷ marked m ps) (all_half (length ps)) ∙ ap (λ z. p ∷ z) (marked_all ps)

pub marked_none : {P : Type 0} (ps : List P) → marked 0 ps ≡ []
marked_none [] = refl
marked_none (p ∷ ps) = marked_none ps

-- one more point is moved down, or isn't
pub marked_more : {P : Type 0} (xs ys all : List P) (at kept more rest : ℕ) (d : P) → at < length xs → take kept xs ++ marked rest (drop at xs) ≡ all
    → ((p : P) (ps : List P) → drop at xs ≡ p ∷ ps → take more ys ≡ take kept xs ++ cons_option (keeps (is_odd rest) p) []) → drop (at + 1) ys ≡ drop (at + 1) xs
    → take more ys ++ marked (rest / 2) (drop (at + 1) ys) ≡ all
marked_more xs ys all at kept more rest d inside so moved behind =
    let p = get_or xs at d in
    let ps = drop (at + 1) xs in
    let split = drop_more xs at d inside in
    ap (λ z. take more ys ++ marked (rest / 2) z) behind ∙ ap (λ z. z ++ marked (rest / 2) ps) (moved p ps split)
    ∙ append_assoc (take kept xs) (cons_option (keeps (is_odd rest) p) []) (marked (rest / 2) ps)
    ∙ ap (λ z. take kept xs ++ z) (cons-last (keeps (is_odd rest) p) (marked (rest / 2) ps) ∙ ap (λ z. marked rest z) (sym split)) ∙ so

-- ---- points that all pass, judged by a mask

module _ (rule : Rule Point Reason) where
  abbrev st : Steps Spot Point StageFault
  st = steps_of rule (passes None)

  pub given_by_mask : (s : Spot) (mask : ℕ) (ps : List Point) → IsMaskOf rule mask ps → given st s ps ≡ marked mask ps
  given_by_mask s mask [] h = refl
  given_by_mask s mask (p ∷ ps) h =
      ap (λ j. unless (option_map (fault_at s.number) (reason_of j)) [] (cons_option (or_nothing j) (given st (spot_after true s) ps))) (h.0 s.place)
      ∙ ap (λ z. cons_option (keeps (is_odd mask) p) z) (given_by_mask (spot_after true s) (mask / 2) ps h.1)

  pub reached_by_mask : (s : Spot) (mask : ℕ) (ps : List Point) → IsWithin s → IsMaskOf rule mask ps → reached st s ps ≡ spot_past (length ps) (length ps) s
  reached_by_mask s mask [] within h = same_spot _ _ _ _ (let number = within.number in omega arith) (let place = within.place in omega arith)
  reached_by_mask s mask (p ∷ ps) within h =
      ap (λ j. unless (option_map (fault_at s.number) (reason_of j)) s (reached st (spot_after true s) ps)) (h.0 s.place)
      ∙ reached_by_mask (spot_after true s) (mask / 2) ps (after_within true s within) h.1 ∙ one_then true (length ps) (length ps) s
      ∙ ap (λ k. spot_past k k s) (add-one (length ps))

  pub stopped_by_mask : (s : Spot) (mask : ℕ) (ps : List Point) → IsMaskOf rule mask ps → stopped st s ps ≡ None
  stopped_by_mask s mask [] h = refl
  stopped_by_mask s mask (p ∷ ps) h =
      ap (λ j. first_fault (option_map (fault_at s.number) (reason_of j)) (stopped st (spot_after true s) ps)) (h.0 s.place)
      ∙ stopped_by_mask (spot_after true s) (mask / 2) ps h.1
