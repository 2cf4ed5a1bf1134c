-- words numbered in the order of their values
use Rattle.std.specs.Prelude.{ℕ, ◌+◌, ◌-◌, ◌^◌, ◌<◌, pos, ◌*ℤ◌, ◌<ℤ◌, nat_lt, if◌then◌else◌}
use Rattle.ieee_words.specs.Word.{Fraction, word_value, IsFinite}

abbrev pub order_number : ℕ → ℕ
order_number w = if nat_lt w (2 ^ 63) then w + 2 ^ 63 else 2 ^ 64 - 1 - w

-- x is below y, by cross products
abbrev pub IsBelow : Fraction → Fraction → Type 0
IsBelow x y = (x.over *ℤ pos y.under) <ℤ (y.over *ℤ pos x.under)

-- of two finite words the one of the smaller value has the smaller number
abbrev pub OrderKeepsValues : Type 0
OrderKeepsValues = (w v : ℕ) → IsFinite w → IsFinite v → IsBelow (word_value w) (word_value v) → order_number w < order_number v
