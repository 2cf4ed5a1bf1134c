-- How far a reader has read: by the records that it read beyond, and by the bytes of these.
use Rattle.std.proofs.Common.{◌≡◌, ℕ, ◌+◌, ◌*◌, ◌<◌, ◌≤◌, List, Option, Some, None, option_map, ap, ◌∙◌, arith}
use Rattle.std.proofs.Math.Nat.{mul-le-mul_right, mul_comm}
use Rattle.std.proofs.lemmas.Option.{none-some, same_Some}
use Rattle.file_devices.specs.declared.devices.Source as source
use Rattle.cloud_points.specs.Extents.{Extent}
use Rattle.las_reader.specs.declared.reader.LasReader.{LasReader}
use Rattle.network_core.specs.declared.node.Node.{Node}
use Rattle.network_core.specs.Shown.{work_of}
use Rattle.network_solo.specs.Ahead.{at_node}
use Rattle.stage_kinds.specs.Leads.{extent_in, extent_of, lead_of, read_at}
use Rattle.stage_kinds.specs.declared.stage_work.StageWork.{StageWork}
use Rattle.stage_kinds.specs.declared.stage_work.StageWork.TheVariants.{Reader, Filter, Plug, Tally, Collector, Views, ViewFiles, Writer}
use Rattle.stage_kinds.proofs.Leading.{lead-read, reaches}
use Rattle.stage_runs.proofs.KeepAll.{some-size, read_of}

some-bytes : {S : Type 0} (r : LasReader S) → 0 < r.header.record_length
some-bytes r = let l = r.sound.long in let z = some-size r.header.format in omega (arith, l, z)

-- no work has read more records beyond those that it gave than it has read
pub node-lead : {S K P Q : Type 0} (s : source.Ghosts S) (o : Option (Node (StageWork S K P Q))) → at_node (λ m. lead_of s.reached (work_of m)) o ≤ at_node (λ m. read_of s.reached (work_of m)) o
node-lead {S} {K} {P} {Q} s None = omega arith
node-lead {S} {K} {P} {Q} s (Some m) = by_work m.work
  where
    by_work : (w : StageWork S K P Q) → lead_of s.reached w ≤ read_of s.reached w
    by_work (Reader r) = lead-read r.header (s.reached r.source) (some-bytes r)
    by_work (Filter x) = omega arith
    by_work (Plug x) = omega arith
    by_work (Tally x) = omega arith
    by_work (Collector c) = omega arith
    by_work (Views h) = omega arith
    by_work (ViewFiles t) = omega arith
    by_work (Writer x) = omega arith

-- a reader of records of at most so many bytes has read no further than these
pub reader-bytes : {S : Type 0} (K P Q : Type 0) (s : source.Ghosts S) (wide : ℕ) (r before : LasReader S) (file : List ℕ) → s.bytes before.source ≡ Some file
    → extent_of {K = K} {P = P} {Q = Q} s.bytes (Reader r) ≡ extent_of {K = K} {P = P} {Q = Q} s.bytes (Reader before) → before.header.record_length ≤ wide
    → s.reached r.source ≤ before.header.points_at + read_at r.header (s.reached r.source) * wide
reader-bytes K P Q s wide r before file told same few = by_bytes (s.bytes r.source) (same ∙ ap (option_map (extent_in before.header before.fields)) told)
  where
    by_bytes : (o : Option (List ℕ)) → option_map (extent_in r.header r.fields) o ≡ Some (extent_in before.header before.fields file)
        → s.reached r.source ≤ before.header.points_at + read_at r.header (s.reached r.source) * wide
    by_bytes None g = absurd (none-some (extent_in before.header before.fields file) g)
    by_bytes (Some now) g =
        let q = same_Some (extent_in r.header r.fields now) (extent_in before.header before.fields file) g in
        let at : r.header.points_at ≡ before.header.points_at = ap (λ (x : Extent). x.begin) q in
        let long : r.header.record_length ≡ before.header.record_length = ap (λ (x : Extent). x.stride) q in
        let up = reaches r.header (s.reached r.source) (some-bytes r) in
        let wider : r.header.record_length * read_at r.header (s.reached r.source) ≤ wide * read_at r.header (s.reached r.source) = mul-le-mul_right (read_at r.header (s.reached r.source)) (omega (arith, long, few)) in
        let turned = mul_comm wide (read_at r.header (s.reached r.source)) in
        omega (arith, at, up, wider, turned)
