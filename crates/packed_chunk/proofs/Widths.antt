-- How wide the rows of formats are.
use Rattle.std.proofs.Common.{◌≡◌, ◌+◌, Bool, true, false, [], ◌∷◌, arith}
use Rattle.cloud_points.specs.declared.dims.Dim.TheVariants.{GpsTime, Red, Green, Blue, Infrared}
use Rattle.cloud_points.specs.declared.layout.Layout.{Layout}
use Rattle.packed_chunk.specs.Rows.{size_where, size_of, row_size, first_dims, middle_dims, late_dims, extra_dims, flag_dims, angle_dims, colour_dims}
use Rattle.packed_chunk.specs.Formats.{HasGroups}
use Rattle.packed_chunk.proofs.Groups.{group_size, size_join}

pub groups_width : (flags time colours infrared : Bool) (layout : Layout) → HasGroups flags time colours infrared layout
    → row_size layout ≡ 45 + (size_where flags 2 + (size_where time 8 + (size_where colours 6 + size_where infrared 2)))
groups_width flags time colours infrared layout has =
    let first : size_of layout first_dims ≡ 34 = group_size true layout first_dims has.first in
    let flag : size_of layout flag_dims ≡ size_where flags 2 = group_size flags layout flag_dims has.flag in
    let angle : size_of layout angle_dims ≡ 11 = group_size true layout angle_dims has.angle in
    let middle : size_of layout middle_dims ≡ size_of layout flag_dims + size_of layout angle_dims = size_join layout flag_dims angle_dims in
    let gps : size_of layout (GpsTime ∷ []) ≡ size_where time 8 = group_size time layout (GpsTime ∷ []) has.gps in
    let colour : size_of layout colour_dims ≡ size_where colours 6 = group_size colours layout colour_dims has.colour in
    let infra : size_of layout (Infrared ∷ []) ≡ size_where infrared 2 = group_size infrared layout (Infrared ∷ []) has.infra in
    let front : size_of layout late_dims ≡ size_of layout (GpsTime ∷ []) + size_of layout (Red ∷ Green ∷ Blue ∷ Infrared ∷ []) = size_join layout (GpsTime ∷ []) (Red ∷ Green ∷ Blue ∷ Infrared ∷ []) in
    let back : size_of layout (Red ∷ Green ∷ Blue ∷ Infrared ∷ []) ≡ size_of layout colour_dims + size_of layout (Infrared ∷ []) = size_join layout colour_dims (Infrared ∷ []) in
    let extra : size_of layout extra_dims ≡ 0 = group_size false layout extra_dims has.extra in
    omega (arith, first, flag, angle, middle, gps, colour, infra, front, back, extra)
