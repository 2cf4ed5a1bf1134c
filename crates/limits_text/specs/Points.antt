-- a point that is being read
use Rattle.std.specs.Prelude.{ℤ}
use Rattle.limits_text.specs.declared.control.Control.{Control}
use Rattle.limits_text.specs.declared.control.Control.TheVariants.{PointX, PointY}

-- with a word's value, where c came before it
abbrev pub point_with : Control → ℤ → ℤ × ℤ → ℤ × ℤ
point_with PointX v p = (v, p.1)
point_with PointY v p = (p.0, v)
point_with _ v p = p
