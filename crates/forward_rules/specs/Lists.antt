-- Lists of variable length records that go over.
use Rattle.std.specs.Prelude.{not, List}
use Rattle.std.specs.List.{filter}
use Rattle.las_vlr.specs.ExtraBytes.{is_extra_bytes}
use Rattle.las_vlr.specs.declared.entry.Vlr.{Vlr}

-- without the records that describe extra bytes
abbrev pub without_extra_bytes : List Vlr → List Vlr
without_extra_bytes vlrs = filter (λ v. not (is_extra_bytes v)) vlrs
