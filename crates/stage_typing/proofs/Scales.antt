-- Scales are known by their nanounits.
use Rattle.std.proofs.Common.{◌≡◌, refl, ℤ, pos, ◌≤ℤ◌, ◌<ℤ◌, Bool, true, false, T, Option, Some, None, IfSome, IfNone, sym, arith}
use Rattle.std.proofs.lemmas.Int.{ints}
use Rattle.std.specs.Int.Signed.{le_z, le_z_yes}
use Rattle.decimal_coords.specs.declared.grid.Scale.{Scale}
use Rattle.las_header.specs.ScaleWords.{scale_if, scale_of_nano}
use Rattle.las_header.proofs.ScaleLemmas.{scale_of_its_nano}

-- outside its bounds there is none
none_outside : (nano : ℤ) → (pos 1 ≤ℤ nano → pos 1_000_000_000 <ℤ nano) → scale_of_nano nano ≡ None
none_outside nano out = go (le_z (pos 1) nano) (le_z nano (pos 1_000_000_000)) le_z_yes le_z_yes
  where
    go : (low high : Bool) (is_low : T low → pos 1 ≤ℤ nano) (is_high : T high → nano ≤ℤ pos 1_000_000_000) → scale_if nano low high is_low is_high ≡ None
    go true true is_low is_high =
        let above = out (is_low tt) in
        let below = is_high tt in
        absurd (omega (arith, ints, above, below))
    go true false is_low is_high = refl
    go false high is_low is_high = refl

pub scale_is : (nano : ℤ) (o : Option Scale) → IfSome o (λ s. (s.nano ≡ nano) × (pos 1 ≤ℤ nano) × (nano ≤ℤ pos 1_000_000_000))
    → IfNone o (pos 1 ≤ℤ nano → pos 1_000_000_000 <ℤ nano) → o ≡ scale_of_nano nano
scale_is nano (Some s) some none = sym (scale_of_its_nano s nano some.0)
scale_is nano None some none = sym (none_outside nano none)
