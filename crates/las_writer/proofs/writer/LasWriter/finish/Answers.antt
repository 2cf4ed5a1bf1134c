use Rattle.std.proofs.Common.{◌≡◌, ◌<◌, ◌^◌, [], List, None, Some, true, subst, append-nil}
use Rattle.std.specs.List.{flat_map}
use Rattle.cloud_points.specs.declared.point.Point.{Point}
use Rattle.file_devices.specs.Content.{Appends}
use Rattle.file_devices.specs.Told.{IsAsTold}
use Rattle.las_vlr.specs.Written.{evlr_bytes}
use Rattle.las_writer.specs.Records.{refusal}
use Rattle.las_writer.specs.LasOutput.{points_at, evlrs_bytes, las_output}
use Rattle.las_writer.specs.Holding.{holds_las}
use Rattle.las_writer.proofs.Holds.{held_parts, told_more}
use Rattle.las_writer.proofs.Finishing.{finished}
use Rattle.las_writer.proofs.writer.LasWriter.finish.Goals as goal

pub returns-clause-ok : goal.returns-clause-ok
returns-clause-ok g c =
    let parts = c.self.inside.parts in
    let start : points_at parts.form < 2 ^ 32 = subst (λ n. n < 2 ^ 32) parts.behind c.known_u32.ensures in
    let extended : Appends (g.K.Sink.bytes parts.sink) (evlrs_bytes parts.form) (g.K.Sink.bytes c.put_evlrs.new.sink) =
    subst (λ vlrs. Appends (g.K.Sink.bytes parts.sink) (flat_map evlr_bytes vlrs) (g.K.Sink.bytes c.put_evlrs.new.sink)) c.file_evlrs.ensures c.in_ok-put_evlrs.ensures.ok in
    subst (λ now. (points : List Point) → holds_las (g.K.Sink.bytes now.sink) now.form now.totals points ≡ true → refusal now.form 0 points ≡ None → IsAsTold (g.K.Sink.bytes c.append.new.self) (Some (las_output now.form points))) c.self.view_is
    (λ points h none.
    let out = las_output parts.form points in
    let told = finished parts.form points parts.totals _ _ _ c.known_fields.ensures parts.decided start (held_parts _ parts.form parts.totals points none h) extended c.in_ok-patch_header.ensures.ok c.patch_header.ensures.size in
    subst (λ l. IsAsTold (g.K.Sink.bytes c.append.new.self) (Some l)) (append-nil out) (told_more _ _ out [] c.in_ok-append.ensures.ok told))
