-- A point that loses nothing is read from the record that it is written as.
use Rattle.std.proofs.Common.{◌≡◌, ℕ, ◌+◌, ◌++◌, List, [], ◌∷◌, slice_index, Ok, refl, ap, sym, ◌∙◌, arith}
use Rattle.std.specs.Int.{w16}
use Rattle.las_header.specs.declared.form.Format.{Format}
use Rattle.las_header.specs.declared.form.Format.TheVariants.{F0, F1, F2, F3, F6, F7, F8}
use Rattle.cloud_points.specs.declared.point.Point.{Point}
use Rattle.cloud_points.specs.declared.dims.Dim.TheVariants.{Infrared}
use Rattle.cloud_points.specs.Points.{get, zero_point, with_fixed, with_whole}
use Rattle.point_formats.specs.declared.grid.Grid.{Grid}
use Rattle.point_formats.specs.Grids.{HasSteps}
use Rattle.point_formats.specs.Formats.{BitField, Item, Coordinate, Angle, Time, Number, Bits, colours, old_items, new_items, items}
use Rattle.point_formats.specs.Records.{size_of, with_bits, with_item, with_items, decoded}
use Rattle.point_formats.specs.Encoded.{number_of, encoded}
use Rattle.point_formats.specs.Returning.{IsWholeSteps, FitsTypes, IsOfFormat}
use Rattle.point_formats.proofs.Holding.{HasBits, HasItem, HasItems}
use Rattle.point_formats.proofs.Writing.{AllKeep, items_read}

-- q with what p has in some dimensions
abbrev copied_bits : Point → Point → List BitField → Point
copied_bits p q [] = q
copied_bits p q (x ∷ rest) = copied_bits p (with_whole q x.dim (number_of p x.dim)) rest

abbrev copied_item : Point → Point → Item → Point
copied_item p q (Coordinate dim axis) = with_fixed q dim (get p dim)
copied_item p q (Angle width step) = record q { scan_angle_rank = p.scan_angle_rank }
copied_item p q Time = record q { gps_time = p.gps_time }
copied_item p q (Number dim width) = with_whole q dim (number_of p dim)
copied_item p q (Bits fields) = copied_bits p q fields

abbrev copied : Point → Point → List Item → Point
copied p q [] = q
copied p q (item ∷ rest) = copied p (copied_item p q item) rest

bits_copied : (p q : Point) (byte low : ℕ) (fields : List BitField) → HasBits p byte low fields → with_bits q byte low fields ≡ copied_bits p q fields
bits_copied p q byte low [] h = refl
bits_copied p q byte low (x ∷ rest) h =
    ap (λ n. with_bits (with_whole q x.dim n) byte (low + x.bits) rest) (sym h.0)
    ∙ bits_copied p (with_whole q x.dim (number_of p x.dim)) byte (low + x.bits) rest h.1

item_copied : (grid : Grid) (bytes : List ℕ) (at : ℕ) (p q : Point) (item : Item) → HasItem grid bytes at p item → with_item grid bytes at q item ≡ copied_item p q item
item_copied grid bytes at p q (Coordinate dim axis) h = ap (with_fixed q dim) (sym h)
item_copied grid bytes at p q (Angle width step) h = ap (λ v. record q { scan_angle_rank = v }) (sym h.1)
item_copied grid bytes at p q Time h = ap (λ n. record q { gps_time = n }) (sym h)
item_copied grid bytes at p q (Number dim width) h = ap (with_whole q dim) (sym h)
item_copied grid bytes at p q (Bits fields) h = bits_copied p q (slice_index bytes at) 0 fields h

items_copied : (grid : Grid) (bytes : List ℕ) (at : ℕ) (p q : Point) (list : List Item) → HasItems grid bytes at p list → with_items grid bytes at q list ≡ copied p q list
items_copied grid bytes at p q [] h = refl
items_copied grid bytes at p q (item ∷ rest) h =
    ap (λ r. with_items grid bytes (at + size_of item) r rest) (item_copied grid bytes at p q item h.0)
    ∙ items_copied grid bytes (at + size_of item) p (copied_item p q item) rest h.1

keep_more : (grid : Grid) (p : Point) (a b : List Item) → AllKeep grid p a → AllKeep grid p b → AllKeep grid p (a ++ b)
keep_more grid p [] b ka kb = kb
keep_more grid p (item ∷ rest) b ka kb = (ka.0, keep_more grid p rest b ka.1 kb)

old_keep : (format : Format) (grid : Grid) (p : Point) → FitsTypes p → IsOfFormat format grid p → IsWholeSteps 1000000000 p.scan_angle_rank → AllKeep grid p old_items
old_keep format grid p t h angle = (h.x, (h.y, (h.z, (t.intensity, (tt, (tt, ((omega arith, angle), (t.user_data, (t.point_source_id, tt)))))))))

new_keep : (format : Format) (grid : Grid) (p : Point) → FitsTypes p → IsOfFormat format grid p → IsWholeSteps 6000000 p.scan_angle_rank → AllKeep grid p new_items
new_keep format grid p t h angle =
    (h.x, (h.y, (h.z, (t.intensity, (tt, (tt, (t.classification, (t.user_data, ((omega arith, angle), (t.point_source_id, (t.gps_time, tt)))))))))))

colours_keep : (grid : Grid) (p : Point) → FitsTypes p → AllKeep grid p colours
colours_keep grid p t = (t.red, (t.green, (t.blue, tt)))

all_keep : (format : Format) (grid : Grid) (p : Point) → FitsTypes p → IsOfFormat format grid p → AllKeep grid p (items format)
all_keep F0 grid p t h = old_keep F0 grid p t h h.angle
all_keep F1 grid p t h = keep_more grid p old_items (Time ∷ []) (old_keep F1 grid p t h h.angle) (t.gps_time, tt)
all_keep F2 grid p t h = keep_more grid p old_items colours (old_keep F2 grid p t h h.angle) (colours_keep grid p t)
all_keep F3 grid p t h = keep_more grid p old_items (Time ∷ colours) (old_keep F3 grid p t h h.angle) (t.gps_time, colours_keep grid p t)
all_keep F6 grid p t h = new_keep F6 grid p t h h.angle
all_keep F7 grid p t h = keep_more grid p new_items colours (new_keep F7 grid p t h h.angle) (colours_keep grid p t)
all_keep F8 grid p t h = keep_more grid p new_items (colours ++ Number Infrared w16 ∷ []) (new_keep F8 grid p t h h.angle) (t.red, (t.green, (t.blue, (t.infrared, tt))))

-- where the dimensions that the format lacks are 0, all others are all of the point
all_copied : (format : Format) (grid : Grid) (p : Point) → IsOfFormat format grid p → copied p zero_point (items format) ≡ p
all_copied F0 grid p h = let o = h.others in
    λ i. record p { extra = sym h.extra i; overlap = sym o.0 i; scan_channel = sym o.1.0 i; gps_time = sym o.1.1.0 i; red = sym o.1.1.1.0 i; green = sym o.1.1.1.1.0 i; blue = sym o.1.1.1.1.1.0 i; infrared = sym o.1.1.1.1.1.1.0 i }
all_copied F1 grid p h = let o = h.others in
    λ i. record p { extra = sym h.extra i; overlap = sym o.0 i; scan_channel = sym o.1.0 i; red = sym o.1.1.0 i; green = sym o.1.1.1.0 i; blue = sym o.1.1.1.1.0 i; infrared = sym o.1.1.1.1.1.0 i }
all_copied F2 grid p h = let o = h.others in
    λ i. record p { extra = sym h.extra i; overlap = sym o.0 i; scan_channel = sym o.1.0 i; gps_time = sym o.1.1.0 i; infrared = sym o.1.1.1.0 i }
all_copied F3 grid p h = let o = h.others in
    λ i. record p { extra = sym h.extra i; overlap = sym o.0 i; scan_channel = sym o.1.0 i; infrared = sym o.1.1.0 i }
all_copied F6 grid p h = let o = h.others in
    λ i. record p { extra = sym h.extra i; red = sym o.0 i; green = sym o.1.0 i; blue = sym o.1.1.0 i; infrared = sym o.1.1.1.0 i }
all_copied F7 grid p h = λ i. record p { extra = sym h.extra i; infrared = sym h.others.0 i }
all_copied F8 grid p h = λ i. record p { extra = sym h.extra i }

pub read_back : (format : Format) (grid : Grid) (p : Point) (bytes : List ℕ) → HasSteps grid → FitsTypes p → encoded format grid p ≡ Ok bytes
    → IsOfFormat format grid p → decoded format grid bytes ≡ p
read_back format grid p bytes low t written h =
    items_copied grid bytes 0 p zero_point (items format) (items_read grid p (items format) 0 [] bytes low (all_keep format grid p t h) written refl)
    ∙ all_copied format grid p h
