-- Steps that are counted are counted again.
use Rattle.std.proofs.Common.{◌≡◌, ℕ, ◌<◌, arith, ap, sym, ◌∙◌, ℤ, pos, ◌+ℤ◌, ◌-ℤ◌, ◌*ℤ◌, ◌≤ℤ◌}
use Rattle.std.specs.Prelude.{unsigned_abs}
use Rattle.std.proofs.lemmas.Int.{ints}
use Rattle.exact_numbers.specs.Rounding.{half_away, IsHalfAway}
use Rattle.exact_numbers.proofs.OneRounding.{is_half_away}
use Rattle.point_formats.specs.Laws.{RawReturns, StepsReturn}

no_distance : (m : ℤ) → unsigned_abs (m -ℤ m) ≡ 0
no_distance m = omega (arith, ints)

taken_back : (m o : ℤ) → (m +ℤ o) -ℤ o ≡ m
taken_back m o = omega (arith, ints)

its_size : (s : ℤ) → pos 1 ≤ℤ s → s ≡ pos (unsigned_abs s)
its_size s h = omega (arith, ints, h)

some_size : (s : ℤ) → pos 1 ≤ℤ s → 0 < unsigned_abs s
some_size s h = omega (arith, ints, h)

is_exact : (n : ℤ) (step : ℕ) → 0 < step → IsHalfAway (n *ℤ pos step) step n
is_exact n step some = let d = no_distance (n *ℤ pos step) in record { half = omega (arith, d); away = λ e. absurd (omega (arith, d, e, some)) }

pub steps_return : StepsReturn
steps_return n step some = sym (is_half_away (n *ℤ pos step) step n some (is_exact n step some))

pub raw_returns : RawReturns
raw_returns raw scale off low =
    ap (λ z. half_away z (unsigned_abs scale)) (taken_back (raw *ℤ scale) off ∙ ap (λ s. raw *ℤ s) (its_size scale low))
    ∙ steps_return raw (unsigned_abs scale) (some_size scale low)
