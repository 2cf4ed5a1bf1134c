-- a number of nanounits printed with a fixed number of places
use Rattle.std.specs.Prelude.{ℕ, ◌-◌, ◌/◌, ◌%◌, ◌^◌, ℤ, pos, negsuc, List, [], ◌∷◌, ◌++◌, length, replicate, unsigned_abs, decimal, ◌==◌, if◌then◌else◌}
use Rattle.exact_numbers.specs.Rounding.{half_away}

-- n with zeros before it, up to `places` digits
abbrev pub padded_digits : ℕ → ℕ → List ℕ
padded_digits places n = replicate (places - length (decimal n)) 48 ++ decimal n

-- n / 10 ^ places, with a point before the last `places` digits
abbrev pub places_text : ℕ → ℕ → List ℕ
places_text places n = if places == 0 then decimal n
    else decimal (n / 10 ^ places) ++ 46 ∷ padded_digits places (n % 10 ^ places)

abbrev pub minus_sign : ℤ → List ℕ
minus_sign (pos n) = []
minus_sign (negsuc n) = 45 ∷ []

-- `nano` nanounits, rounded half away from zero to `places` digits after the point
abbrev pub fixed_text : ℤ → ℕ → List ℕ
fixed_text nano places = let n = half_away nano (10 ^ (9 - places)) in minus_sign n ++ places_text places (unsigned_abs n)
