-- Records, and lists of them, that are the same.
use Rattle.std.specs.Prelude.{◌==◌, Bool, ◌&&◌, List}
use Rattle.std.specs.Cmp.Lexicographic.{pointwise}
use Rattle.std.specs.Str.{bytes_eq}
use Rattle.las_vlr.specs.declared.entry.Vlr.{Vlr}

-- all fields are the same, the reserved word and the payload too
abbrev pub same_vlr : Vlr → Vlr → Bool
same_vlr a b = (a.reserved == b.reserved) && (bytes_eq a.user b.user && ((a.id == b.id) && (bytes_eq a.text b.text && bytes_eq a.payload b.payload)))

-- the same records in the same order
abbrev pub same_list : List Vlr → List Vlr → Bool
same_list a b = pointwise same_vlr a b
