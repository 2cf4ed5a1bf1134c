-- a box that is being read
use Rattle.std.specs.Prelude.{ℤ, Bool, false, int_lt, Some, unwrap_or, pos}
use Rattle.limits_text.specs.declared.control.PairAxis.{PairAxis}
use Rattle.limits_text.specs.declared.control.PairAxis.TheVariants.{X, Y, Z}
use Rattle.limits_text.specs.declared.control.Control.{Control}
use Rattle.limits_text.specs.declared.control.Control.TheVariants.{Pair, PairLow, PairHigh, PairClose}
use Rattle.limits_text.specs.declared.bounds.Sides.{Sides}
use Rattle.limits_text.specs.declared.steps.NextWord.{NextWord}

abbrev pub with_side : PairAxis → ℤ × ℤ → Sides → Sides
with_side X p f = record f { x = p }
with_side Y p f = record f { y = p }
with_side Z p f = record f { z = Some p }

abbrev pub side : PairAxis → Sides → ℤ × ℤ
side X f = f.x
side Y f = f.y
side Z f = unwrap_or f.z (pos 0, pos 0)

-- with a word, where c came before it
abbrev pub sides_with : Control → NextWord → Sides → Sides
sides_with (Pair k) s f = record f { pair = s.start }
sides_with (PairLow k) s f = record f { low = s.value }
sides_with (PairHigh k) s f = with_side k (f.low, s.value) f
sides_with _ s f = f

-- the pair that is read is in the wrong order
abbrev pub is_reversed : Control → Sides → Bool
is_reversed (PairClose k) f = int_lt (side k f).1 (side k f).0
is_reversed _ f = false
