-- The record that describes the extra bytes of point records (LAS 1.4 R15, "Extra Bytes").
use Rattle.std.specs.Prelude.{ℕ, ◌==◌, Bool, ◌&&◌, List, ◌++◌, Option, option_map, replicate, codes}
use Rattle.std.specs.List.{find}
use Rattle.std.specs.Str.{bytes_eq}
use Rattle.las_vlr.specs.declared.entry.Vlr.{Vlr}

-- the user that the standard's own records are of
abbrev pub standard_user : List ℕ
standard_user = codes "LASF_Spec" ++ replicate 7 0

-- it is the record of this user with the number 4
abbrev pub is_extra_bytes : Vlr → Bool
is_extra_bytes v = (v.id == 4) && bytes_eq v.user standard_user

-- what the first such record of a list holds
abbrev pub extra_bytes_in : List Vlr → Option (List ℕ)
extra_bytes_in vlrs = option_map (λ (v : Vlr). v.payload) (find is_extra_bytes vlrs)
