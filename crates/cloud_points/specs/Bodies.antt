-- What an item brings, as the definitions see it.
use Rattle.std.specs.Prelude.{ℕ, Bool, List, map}
use Rattle.cloud_points.specs.declared.point.Point.{Point}
use Rattle.cloud_points.specs.declared.item.Item as code
use Rattle.cloud_points.specs.declared.item.Body.{Body}
use Rattle.cloud_points.specs.declared.item.Body.TheVariants as body
use Rattle.cloud_points.specs.Marks.{Item, Points, End_view, End_all, is_end}

abbrev pub seen : Body → Item Point
seen (body.Points chunk) = Points chunk
seen body.EndView = End_view
seen (body.End cut) = End_all cut

abbrev pub body_ends : Body → Bool
body_ends b = is_end (seen b)

-- the bodies of a list of items, and their numbers
abbrev pub bodies : List code.Item → List (Item Point)
bodies items = map (λ i. seen i.body) items

abbrev pub numbers : List code.Item → List ℕ
numbers items = map (λ i. i.no) items
