-- Scales are known by their nanounits.
use Rattle.std.proofs.Common.{◌≡◌, ℤ, pos, ◌≤ℤ◌, Bool, true, false, T, Some, ap, sym, ◌∙◌}
use Rattle.std.proofs.Math.Dec.{T_prop}
use Rattle.std.specs.Int.Signed.{le_z, le_z_yes}
use Rattle.decimal_coords.specs.declared.grid.Scale.{Scale}
use Rattle.las_header.specs.ScaleWords.{scale_if, scale_of_nano}

≤ℤ-prop : {a b : ℤ} (x y : a ≤ℤ b) → x ≡ y
≤ℤ-prop x y = λ i. record { le = T_prop _ x.le y.le i }

scale_if_is : (s : Scale) (low high : Bool) (is_low : T low → pos 1 ≤ℤ s.nano) (is_high : T high → s.nano ≤ℤ pos 1_000_000_000)
    → T low → T high → scale_if s.nano low high is_low is_high ≡ Some s
scale_if_is s true true is_low is_high l h =
    λ i. Some (record { nano = s.nano; low = ≤ℤ-prop (is_low tt) s.low i; high = ≤ℤ-prop (is_high tt) s.high i })
scale_if_is s true false is_low is_high l h = absurd h
scale_if_is s false high is_low is_high l h = absurd l

-- a scale is the one of its nanounits
pub scale_of_its_nano : (s : Scale) (nano : ℤ) → s.nano ≡ nano → scale_of_nano nano ≡ Some s
scale_of_its_nano s nano e = ap scale_of_nano (sym e) ∙ scale_if_is s (le_z (pos 1) s.nano) (le_z s.nano (pos 1_000_000_000)) le_z_yes le_z_yes s.low.le s.high.le
