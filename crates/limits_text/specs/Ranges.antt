-- ranges that are being read
use Rattle.std.specs.Prelude.{ℕ, ◌≤◌, ℤ, List, [], ◌∷◌, ◌++◌, length, Bool, true, false, nat_le, ◌==◌, if◌then◌else◌, Some, None}
use Rattle.std.specs.Str.{IsCharBoundary}
use Rattle.limits_text.specs.declared.control.Control.{Control}
use Rattle.limits_text.specs.declared.control.Control.TheVariants.{Name, Named, Negated, Low, High, Close}
use Rattle.limits_text.specs.declared.control.WordKind.{WordKind}
use Rattle.limits_text.specs.declared.control.WordKind.TheVariants as kind
use Rattle.limits_text.specs.declared.shapes.Interval.{Interval}
use Rattle.limits_text.specs.declared.shapes.NamedRange.{NamedRange}

abbrev pub any_interval : Interval
any_interval = record { low = None; low_in = false; high = None; high_in = false; negated = false }

-- with an end
abbrev pub with_end : Control → ℤ → Interval → Interval
with_end Low v i = record i { low = Some v }
with_end High v i = record i { high = Some v }
with_end _ v i = i

-- with a sign: `!`, a bracket before the low end, or one behind the high end
abbrev pub with_sign : Control → ℕ → Interval → Interval
with_sign Named b i = if b == 33 then record i { negated = true } else record i { low_in = b == 91 }
with_sign Negated b i = record i { low_in = b == 91 }
with_sign High b i = record i { high_in = b == 93 }
with_sign Close b i = record i { high_in = b == 93 }
with_sign _ b i = i

-- with a word, where c came before it
abbrev pub interval_with : Control → WordKind → ℤ → Interval → Interval
interval_with c kind.Name v i = any_interval
interval_with c kind.Number v i = with_end c v i
interval_with c (kind.Sign b) v i = with_sign c b i

-- the word ends a range
abbrev pub ends_range : Control → WordKind → Bool
ends_range High (kind.Sign b) = true
ends_range Close (kind.Sign b) = true
ends_range _ l = false

abbrev pub name_with : Control → List ℕ → List ℕ → List ℕ
name_with Name bs n = bs
name_with _ bs n = n

abbrev pub ranges_with : Control → WordKind → List ℕ → Interval → List NamedRange → List NamedRange
ranges_with c l n i rs = if ends_range c l then rs ++ record { name = n; interval = i } ∷ [] else rs

-- the name of a range comes next
abbrev pub begins_range : Control → Bool
begins_range Name = true
begins_range _ = false

-- a further range is one too many
abbrev pub are_full : Control → ℕ → Bool
are_full Name n = nat_le 64 n
are_full _ n = false

abbrev pub place_or : Control → ℕ → ℕ → ℕ
place_or Name a b = a
place_or _ a b = b

-- characters begin at both places
abbrev pub IsNamed : List ℕ → ℕ → ℕ → Type 0
IsNamed text from to = (from ≤ to) × (to ≤ length text) × IsCharBoundary text from × IsCharBoundary text to
