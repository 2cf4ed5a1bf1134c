-- The marks of whole flows.
use Rattle.std.proofs.Common.{◌≡◌, List, [], ◌∷◌, ◌++◌, length, map, refl, ap, sym, ◌∙◌, append_assoc, append-nil, arith}
use Rattle.cloud_points.specs.Flows.{Flow, all_of, points}
use Rattle.cloud_points.specs.Marks.{Mark, At, View_end, End, to_end, view_marks, piece_marks, flow_marks}
use Rattle.network_theory.specs.Net.{count_views, count_points}
use Rattle.network_theory.specs.History.{mark_points}
use Rattle.network_theory.proofs.Rest.{to_end-points}
use Rattle.network_theory.proofs.Rows.{count_views-append, no_views}
use Rattle.network_theory.proofs.Brought.{mark_points-append, points-of_points}

-- up to its end
to_end-views : {P : Type 0} (vs : List (List P)) (y : List (Mark P)) → to_end (view_marks vs ++ y) ≡ view_marks vs ++ to_end y
to_end-views [] y = refl
to_end-views (v ∷ vs) y =
    ap to_end (append_assoc (map At v) (View_end ∷ view_marks vs) y) ∙ to_end-points v (View_end ∷ (view_marks vs ++ y))
    ∙ ap (λ r. map At v ++ View_end ∷ r) (to_end-views vs y) ∙ sym (append_assoc (map At v) (View_end ∷ view_marks vs) (to_end y))

pub to_end-flow : {P : Type 0} (f : Flow P) → to_end (flow_marks f) ≡ flow_marks f
to_end-flow f =
    ap to_end (append_assoc (view_marks f.views) (map At f.open_view) (End f.cut ∷ []))
    ∙ to_end-views f.views (map At f.open_view ++ End f.cut ∷ []) ∙ ap (λ r. view_marks f.views ++ r) (to_end-points f.open_view (End f.cut ∷ []))
    ∙ sym (append_assoc (view_marks f.views) (map At f.open_view) (End f.cut ∷ []))

-- how many views and points a flow has, and its points
views-of : {P : Type 0} (vs : List (List P)) → count_views (view_marks vs) ≡ length vs
views-of [] = refl
views-of (v ∷ vs) = let e = count_views-append (map At v) (View_end ∷ view_marks vs) in let r = views-of vs in let n = no_views v in omega (arith, e, r, n)

pub count_views-flow : {P : Type 0} (f : Flow P) → count_views (flow_marks f) ≡ length f.views
count_views-flow f =
    let e = count_views-append (piece_marks f) (End f.cut ∷ []) in let d = count_views-append (view_marks f.views) (map At f.open_view) in
    let r = views-of f.views in let n = no_views f.open_view in omega (arith, e, d, r, n)

points-of-views : {P : Type 0} (vs : List (List P)) → mark_points (view_marks vs) ≡ all_of vs
points-of-views [] = refl
points-of-views (v ∷ vs) = mark_points-append (map At v) (View_end ∷ view_marks vs) ∙ ap (λ r. r ++ mark_points (view_marks vs)) (points-of_points v) ∙ ap (λ r. v ++ r) (points-of-views vs)

pub points-of-flow : {P : Type 0} (f : Flow P) → mark_points (flow_marks f) ≡ points f
points-of-flow f =
    mark_points-append (piece_marks f) (End f.cut ∷ []) ∙ append-nil (mark_points (piece_marks f)) ∙ mark_points-append (view_marks f.views) (map At f.open_view)
    ∙ ap (λ r. r ++ mark_points (map At f.open_view)) (points-of-views f.views) ∙ ap (λ r. all_of f.views ++ r) (points-of_points f.open_view)

counted : {P : Type 0} (ms : List (Mark P)) → count_points ms ≡ length (mark_points ms)
counted [] = refl
counted (At p ∷ ms) = let r = counted ms in omega (arith, r)
counted (View_end ∷ ms) = counted ms
counted (End c ∷ ms) = counted ms

pub count_points-flow : {P : Type 0} (f : Flow P) → count_points (flow_marks f) ≡ length (points f)
count_points-flow f = counted (flow_marks f) ∙ ap length (points-of-flow f)
