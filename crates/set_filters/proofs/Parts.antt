-- What stands before a point of held views, by its number and by its place.
use Rattle.std.proofs.Common.{◌≡◌, ℕ, zero, suc, ◌+◌, ◌-◌, ◌<◌, ◌≤◌, true, false, if◌then◌else◌, List, [], ◌∷◌, ◌++◌, length, take, get_or, sym, ap, ◌∙◌, arith, length-append}
use Rattle.std.specs.Prelude.{nat_lt}
use Rattle.std.proofs.lemmas.Bool.{lt-ltb, le-ltb}
use Rattle.cloud_points.specs.Flows.{Flow, all_of, with_view, views_upto, upto}
use Rattle.whole_filters.specs.Held.{view_at}

views_before : {P : Type 0} (views : List (List P)) (last : List P) (v k : ℕ) → v ≤ length views → k < length (get_or views v last)
    → views_upto views last (length (all_of (take v views)) + k) ≡ record { views = take v views; open_view = take k (get_or views v last); cut = true }
views_before [] last zero k l m = let same : 0 + k ≡ k = omega arith in ap (λ n. views_upto [] last n) same
views_before [] last (suc v) k l m = absurd (omega (arith, l))
views_before {P} (w ∷ ws) last zero k l m =
    let same : 0 + k ≡ k = omega arith in
    let inside : Flow P = record { views = []; open_view = take k w; cut = true } in
    ap (λ n. views_upto (w ∷ ws) last n) same ∙ ap (λ b. if b then inside else with_view w (views_upto ws last (k - length w))) (lt-ltb k (length w) m)
views_before {P} (w ∷ ws) last (suc v) k l m =
    let n : ℕ = length (w ++ all_of (take v ws)) + k in
    let size : length (w ++ all_of (take v ws)) ≡ length w + length (all_of (take v ws)) = length-append w (all_of (take v ws)) in
    let past : nat_lt n (length w) ≡ false = le-ltb n (length w) (omega (arith, size)) in
    let rest : n - length w ≡ length (all_of (take v ws)) + k = omega (arith, size) in
    let inside : Flow P = record { views = []; open_view = take n w; cut = true } in
    ap (λ b. if b then inside else with_view w (views_upto ws last (n - length w))) past
    ∙ ap (λ j. with_view w (views_upto ws last j)) rest ∙ ap (with_view w) (views_before ws last v k (omega (arith, l)) m)

pub before_point : {P : Type 0} (flow : Flow P) (v k : ℕ) → v ≤ length flow.views → k < length (view_at flow v)
    → record { views = take v flow.views; open_view = take k (view_at flow v); cut = true } ≡ upto flow (length (all_of (take v flow.views)) + k)
before_point flow v k l m = sym (views_before flow.views flow.open_view v k l m)
