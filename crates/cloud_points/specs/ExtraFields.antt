-- Fields of a record that hold extra dimensions.
use Rattle.std.specs.Prelude.{ℕ}
use Rattle.cloud_points.specs.declared.extra.ExtraKind.{ExtraKind}
use Rattle.cloud_points.specs.declared.extra.ExtraKind.TheVariants.{U8, I8, U16, I16, U32, I32, U64, I64}

-- the bytes of a raw number
abbrev pub kind_size : ExtraKind → ℕ
kind_size U8 = 1
kind_size I8 = 1
kind_size U16 = 2
kind_size I16 = 2
kind_size U32 = 4
kind_size I32 = 4
kind_size U64 = 8
kind_size I64 = 8
