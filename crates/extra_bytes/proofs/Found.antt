-- The record of descriptors is found behind others.
use Rattle.std.proofs.Common.{◌≡◌, suc, arith, false, true, List, [], ◌∷◌, ◌++◌, option_map, Some, cond, refl, ap, ◌∙◌}
use Rattle.std.specs.List.{All, find}
use Rattle.std.specs.Option.{unwrap_or}
use Rattle.las_vlr.specs.ExtraBytes.{is_extra_bytes}
use Rattle.las_vlr.specs.declared.entry.Vlr.{Vlr}
use Rattle.extra_bytes.specs.Descriptors.{fields_of}
use Rattle.extra_bytes.specs.Record.{RecordIsRead, extra_vlr}
use Rattle.extra_bytes.proofs.ReadBack.{written_are_read}

found-last : (vlrs : List Vlr) (v : Vlr) → All (λ x. is_extra_bytes x ≡ false) vlrs → is_extra_bytes v ≡ true → find is_extra_bytes (vlrs ++ v ∷ []) ≡ Some v
found-last [] v none is = ap (λ b. cond b (Some v) (find is_extra_bytes [])) is
found-last (x ∷ vlrs) v none is = ap (λ b. cond b (Some x) (find is_extra_bytes (vlrs ++ v ∷ []))) (none 0 x (omega arith)) ∙ found-last vlrs v (λ k d l. none (suc k) d (omega (arith, l))) is

pub record_is_read : RecordIsRead
record_is_read vlrs from size fields none described =
    ap (λ o. fields_of (unwrap_or (option_map (λ (v : Vlr). v.payload) o) []) from size) (found-last vlrs (extra_vlr fields) none refl)
    ∙ written_are_read from size fields described
