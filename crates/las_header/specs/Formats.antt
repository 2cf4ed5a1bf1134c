-- The formats of point data records.
use Rattle.std.specs.Prelude.{ℕ, ◌==◌, if◌then◌else◌, Option, Some, None}
use Rattle.las_header.specs.declared.form.Format.{Format}
use Rattle.las_header.specs.declared.form.Format.TheVariants.{F0, F1, F2, F3, F6, F7, F8}

abbrev pub format_number : Format → ℕ
format_number F0 = 0
format_number F1 = 1
format_number F2 = 2
format_number F3 = 3
format_number F6 = 6
format_number F7 = 7
format_number F8 = 8

-- the format with a number
abbrev pub format_of : ℕ → Option Format
format_of n = if n == 0 then Some F0 else (if n == 1 then Some F1 else (if n == 2 then Some F2 else (if n == 3 then Some F3
    else (if n == 6 then Some F6 else (if n == 7 then Some F7 else (if n == 8 then Some F8 else None))))))

-- the bytes that its fields take
abbrev pub format_size : Format → ℕ
format_size F0 = 20
format_size F1 = 28
format_size F2 = 26
format_size F3 = 34
format_size F6 = 30
format_size F7 = 36
format_size F8 = 38
