-- A point that was read is written as the record that it was read from.
use Rattle.std.proofs.Common.{◌≡◌, ℕ, ◌≤◌, ◌++◌, List, [], ◌∷◌, length, take, slice_index, Ok, refl, arith}
use Rattle.std.specs.Int.{w16}
use Rattle.las_header.specs.declared.form.Format.{Format}
use Rattle.las_header.specs.declared.form.Format.TheVariants.{F0, F1, F2, F3, F6, F7, F8}
use Rattle.las_header.specs.Formats.{format_size}
use Rattle.cloud_points.specs.declared.dims.Dim.TheVariants.{Infrared}
use Rattle.point_formats.specs.declared.grid.Grid.{Grid}
use Rattle.point_formats.specs.Grids.{HasSteps}
use Rattle.point_formats.specs.Formats.{Time, Number, colours, old_returns, old_class, new_returns, new_flags, old_items, new_items, items}
use Rattle.point_formats.specs.Records.{decoded}
use Rattle.point_formats.specs.Encoded.{encoded}
use Rattle.byte_numbers.proofs.Pieces.{AreBytes}
use Rattle.point_formats.proofs.Holding.{HasBits, HasItems, has_more, items_back}

-- the record of format 0, whatever stands in other dimensions
old_has : (grid : Grid) (bytes : List ℕ) (time red green blue : ℕ) → AreBytes bytes
    → HasItems grid bytes 0 (record (decoded F0 grid bytes) { gps_time = time; red = red; green = green; blue = blue }) old_items
old_has grid bytes time red green blue small =
    let p = record (decoded F0 grid bytes) { gps_time = time; red = red; green = green; blue = blue } in
    let returns : HasBits p (slice_index bytes 14) 0 old_returns = (refl, (refl, (refl, (refl, small 14)))) in
    let class : HasBits p (slice_index bytes 15) 0 old_class = (refl, (refl, (refl, (refl, small 15)))) in
    (refl, (refl, (refl, (refl, (returns, (class, ((omega arith, refl), (refl, (refl, tt)))))))))

-- the record of format 6, whatever stands in other dimensions
new_has : (grid : Grid) (bytes : List ℕ) (red green blue infrared : ℕ) → AreBytes bytes
    → HasItems grid bytes 0 (record (decoded F6 grid bytes) { red = red; green = green; blue = blue; infrared = infrared }) new_items
new_has grid bytes red green blue infrared small =
    let p = record (decoded F6 grid bytes) { red = red; green = green; blue = blue; infrared = infrared } in
    let returns : HasBits p (slice_index bytes 14) 0 new_returns = (refl, (refl, small 14)) in
    let flags : HasBits p (slice_index bytes 15) 0 new_flags = (refl, (refl, (refl, (refl, (refl, (refl, (refl, small 15))))))) in
    (refl, (refl, (refl, (refl, (returns, (flags, (refl, (refl, ((omega arith, refl), (refl, (refl, tt)))))))))))

all_has : (format : Format) (grid : Grid) (bytes : List ℕ) → AreBytes bytes → HasItems grid bytes 0 (decoded format grid bytes) (items format)
all_has F0 grid bytes small = old_has grid bytes 0 0 0 0 small
all_has F1 grid bytes small = let p = decoded F1 grid bytes in
    has_more grid bytes 0 p old_items (Time ∷ []) (old_has grid bytes p.gps_time 0 0 0 small) (refl, tt)
all_has F2 grid bytes small = let p = decoded F2 grid bytes in
    has_more grid bytes 0 p old_items colours (old_has grid bytes 0 p.red p.green p.blue small) (refl, (refl, (refl, tt)))
all_has F3 grid bytes small = let p = decoded F3 grid bytes in
    has_more grid bytes 0 p old_items (Time ∷ colours) (old_has grid bytes p.gps_time p.red p.green p.blue small) (refl, (refl, (refl, (refl, tt))))
all_has F6 grid bytes small = new_has grid bytes 0 0 0 0 small
all_has F7 grid bytes small = let p = decoded F7 grid bytes in
    has_more grid bytes 0 p new_items colours (new_has grid bytes p.red p.green p.blue 0 small) (refl, (refl, (refl, tt)))
all_has F8 grid bytes small = let p = decoded F8 grid bytes in
    has_more grid bytes 0 p new_items (colours ++ Number Infrared w16 ∷ []) (new_has grid bytes p.red p.green p.blue p.infrared small) (refl, (refl, (refl, (refl, tt))))

pub written_back : (format : Format) (grid : Grid) (bytes : List ℕ) → HasSteps grid → AreBytes bytes → format_size format ≤ length bytes
    → encoded format grid (decoded format grid bytes) ≡ Ok (take (format_size format) bytes)
written_back F0 grid bytes low small room = items_back grid bytes 0 (decoded F0 grid bytes) (items F0) low small room (all_has F0 grid bytes small)
written_back F1 grid bytes low small room = items_back grid bytes 0 (decoded F1 grid bytes) (items F1) low small room (all_has F1 grid bytes small)
written_back F2 grid bytes low small room = items_back grid bytes 0 (decoded F2 grid bytes) (items F2) low small room (all_has F2 grid bytes small)
written_back F3 grid bytes low small room = items_back grid bytes 0 (decoded F3 grid bytes) (items F3) low small room (all_has F3 grid bytes small)
written_back F6 grid bytes low small room = items_back grid bytes 0 (decoded F6 grid bytes) (items F6) low small room (all_has F6 grid bytes small)
written_back F7 grid bytes low small room = items_back grid bytes 0 (decoded F7 grid bytes) (items F7) low small room (all_has F7 grid bytes small)
written_back F8 grid bytes low small room = items_back grid bytes 0 (decoded F8 grid bytes) (items F8) low small room (all_has F8 grid bytes small)
