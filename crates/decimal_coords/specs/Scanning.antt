-- what is left to read of a decimal, byte by byte
use Rattle.std.specs.Prelude.{ℕ, ◌+◌, ◌-◌, ◌*◌, List, [], ◌∷◌, length, fold, Bool, true, false, ◌&&◌, ◌||◌, ◌==◌, nat_le, if◌then◌else◌}
use Rattle.decimal_coords.specs.declared.scan.Scan.{Scan}
use Rattle.decimal_coords.specs.declared.scan.Scan.TheVariants.{Start, Signed, Whole, Point, Places, Dead}

abbrev pub is_digit : ℕ → Bool
is_digit b = nat_le 48 b && nat_le b 57

abbrev pub after : Scan → ℕ → Scan
after Start b = if b == 43 || b == 45 then Signed else (if is_digit b then Whole else (if b == 46 then Point else Dead))
after Signed b = if is_digit b then Whole else (if b == 46 then Point else Dead)
after Whole b = if is_digit b then Whole else (if b == 46 then Places else Dead)
after Point b = if is_digit b then Places else Dead
after Places b = if is_digit b then Places else Dead
after Dead b = Dead

abbrev pub run : Scan → List ℕ → Scan
run s [] = s
run s (b ∷ bs) = run (after s b) bs

abbrev pub accepts : Scan → Bool
accepts Start = false
accepts Signed = false
accepts Whole = true
accepts Point = false
accepts Places = true
accepts Dead = false

-- the number that all digits of a text show
abbrev pub digits_in : List ℕ → ℕ
digits_in text = fold (λ n b. if is_digit b then n * 10 + (b - 48) else n) 0 text

-- how many bytes stand behind the first point
abbrev pub places_in : List ℕ → ℕ
places_in [] = 0
places_in (b ∷ bs) = if b == 46 then length bs else places_in bs
