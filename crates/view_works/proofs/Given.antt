-- The next part of what a held list gives.
use Rattle.std.proofs.Common.{◌≡◌, ℕ, zero, suc, ◌+◌, ◌-◌, ◌≤◌, ◌<◌, Bool, true, false, List, [], ◌∷◌, ◌++◌, length, map, take, drop, refl, ap, sym, ◌∙◌, append_assoc, arith, true≢false}
use Rattle.std.specs.Prelude.{min, nat_lt, if◌then◌else◌, slice_index_or, slice_set}
use Rattle.std.proofs.lemmas.Bool.{lt-ltb, le-ltb}
use Rattle.cloud_points.specs.declared.point.Point.{Point}
use Rattle.cloud_points.specs.Flows.{Flow}
use Rattle.cloud_points.specs.Marks.{Mark, At, View_end, End, view_marks, flow_marks}
use Rattle.network_theory.specs.Net.{count_views, count_points}
use Rattle.whole_filters.specs.Held.{without_first}
use Rattle.view_works.specs.Giving.{marks_from, still_gives}

map_append : {A B : Type 0} (f : A → B) (x y : List A) → map f (x ++ y) ≡ map f x ++ map f y
map_append f [] y = refl
map_append f (a ∷ x) y = ap (λ z. f a ∷ z) (map_append f x y)

-- the next n, and those behind them
first_ones : (n : ℕ) (w : List Point) → w ≡ take n w ++ drop n w
first_ones zero w = refl
first_ones (suc n) [] = refl
first_ones (suc n) (p ∷ w) = ap (λ z. p ∷ z) (first_ones n w)

none_taken : (n : ℕ) → ◌≡◌ {A = List Point} (take n []) []
none_taken zero = refl
none_taken (suc n) = refl

none_dropped : (n : ℕ) → ◌≡◌ {A = List Point} (drop n []) []
none_dropped zero = refl
none_dropped (suc n) = refl

parts : (n k : ℕ) (w : List Point) → drop k w ≡ take n (drop k w) ++ drop (k + n) w
parts n zero w = let e : n ≡ 0 + n = omega arith in first_ones n w ∙ ap (λ m. take n w ++ drop m w) e
parts n (suc k) [] = sym (ap (λ z. z ++ drop (suc k + n) []) (none_taken n) ∙ none_dropped (suc k + n))
parts n (suc k) (p ∷ w) = let e : suc (k + n) ≡ suc k + n = omega arith in parts n k w ∙ ap (λ m. take n (drop k w) ++ drop m (p ∷ w)) e

gone : (k : ℕ) (w : List Point) → length w ≤ k → drop k w ≡ []
gone zero [] h = refl
gone zero (p ∷ w) h = absurd (omega (arith, h))
gone (suc k) [] h = refl
gone (suc k) (p ∷ w) h = gone k w (omega (arith, h))

from_start : (vs : List (List Point)) (last : List Point) (cut : Bool) → marks_from vs last cut 0 0 ≡ view_marks vs ++ (map At last ++ End cut ∷ [])
from_start [] last cut = refl
from_start (w ∷ ws) last cut = sym (append_assoc (map At w) (View_end ∷ view_marks ws) (map At last ++ End cut ∷ []))

-- all of it
pub all-given : (f : Flow Point) → marks_from f.views f.open_view f.cut 0 0 ≡ flow_marks f
all-given f = from_start f.views f.open_view f.cut ∙ sym (append_assoc (view_marks f.views) (map At f.open_view) (End f.cut ∷ []))

-- without what was given of a view, what is left is the same
without-given : (v k : ℕ) (vs : List (List Point)) (last rest : List Point) (cut : Bool) → v ≤ length vs
    → (v < length vs → rest ≡ last) → (v ≡ length vs → rest ≡ drop k last)
    → marks_from (slice_set vs v (drop k (slice_index_or vs v last))) rest cut v 0 ≡ marks_from vs last cut v k
without-given zero k [] last rest cut h inside behind = ap (λ ps. map At ps ++ End cut ∷ []) (behind refl)
without-given (suc v) k [] last rest cut h inside behind = absurd (omega (arith, h))
without-given zero k (w ∷ ws) last rest cut h inside behind = ap (λ ps. marks_from (drop k w ∷ ws) ps cut 0 0) (inside (omega arith))
without-given (suc v) k (w ∷ ws) last rest cut h inside behind =
    without-given v k ws last rest cut (omega (arith, h)) (λ l. inside (omega (arith, l))) (λ e. behind (ap suc e))

pub here-let-go : (ended : Bool) (f : Flow Point) (v k : ℕ) → v ≤ length f.views → still_gives ended (without_first v k f) v 0 ≡ still_gives ended f v k
here-let-go true f v k h = refl
here-let-go false f v k h =
    let rest : Bool → List Point = λ b. if b then f.open_view else drop k f.open_view in
    without-given v k f.views f.open_view (rest (nat_lt v (length f.views))) f.cut h
    (λ l. ap rest (lt-ltb v (length f.views) l)) (λ e. ap rest (le-ltb v (length f.views) (omega (arith, e))))

split : (n k : ℕ) (w : List Point) (ms : List (Mark Point)) → map At (drop k w) ++ ms ≡ map At (take n (drop k w)) ++ (map At (drop (k + n) w) ++ ms)
split n k w ms =
    ap (λ z. map At z ++ ms) (parts n k w) ∙ ap (λ z. z ++ ms) (map_append At (take n (drop k w)) (drop (k + n) w))
    ∙ append_assoc (map At (take n (drop k w))) (map At (drop (k + n) w)) ms

pub points-part : (n k v : ℕ) (vs : List (List Point)) (last : List Point) (cut : Bool) → marks_from vs last cut v k ≡ map At (take n (drop k (slice_index_or vs v last))) ++ marks_from vs last cut v (k + n)
points-part n k v [] last cut = split n k last (End cut ∷ [])
points-part n k zero (w ∷ ws) last cut = split n k w (View_end ∷ (view_marks ws ++ (map At last ++ End cut ∷ [])))
points-part n k (suc v) (w ∷ ws) last cut = points-part n k v ws last cut

pub view-part : (k v : ℕ) (vs : List (List Point)) (last : List Point) (cut : Bool) → v < length vs → length (slice_index_or vs v last) ≤ k → marks_from vs last cut v k ≡ View_end ∷ marks_from vs last cut (suc v) 0
view-part k v [] last cut h l = absurd (omega (arith, h))
view-part k zero (w ∷ ws) last cut h l =
    ap (λ z. map At z ++ View_end ∷ (view_marks ws ++ (map At last ++ End cut ∷ []))) (gone k w l) ∙ ap (λ z. View_end ∷ z) (sym (from_start ws last cut))
view-part k (suc v) (w ∷ ws) last cut h l = view-part k v ws last cut (omega (arith, h)) l

pub end-part : (k v : ℕ) (vs : List (List Point)) (last : List Point) (cut : Bool) → length vs ≤ v → length (slice_index_or vs v last) ≤ k → marks_from vs last cut v k ≡ End cut ∷ []
end-part k v [] last cut h l = ap (λ z. map At z ++ End cut ∷ []) (gone k last l)
end-part k zero (w ∷ ws) last cut h l = absurd (omega (arith, h))
end-part k (suc v) (w ∷ ws) last cut h l = end-part k v ws last cut (omega (arith, h)) l

-- what points count for
points-counted : (ps : List Point) (ms : List (Mark Point)) → count_points (map At ps ++ ms) ≡ length ps + count_points ms
points-counted [] ms = omega arith
points-counted (p ∷ ps) ms = let r = points-counted ps ms in omega (arith, r)

no-views : (ps : List Point) (ms : List (Mark Point)) → count_views (map At ps ++ ms) ≡ count_views ms
no-views [] ms = refl
no-views (p ∷ ps) ms = no-views ps ms

-- no point was laid where the place stays
pub nothing-laid : (chunk k : ℕ) (w : List Point) (next : ℕ) → next ≡ k + min chunk (length w - k) → next ≤ k → length (take (min chunk (length w - k)) (drop k w)) ≡ 0
nothing-laid chunk k w next place stays = let e : min chunk (length w - k) ≡ 0 = omega (arith, place, stays) in ap (λ n. length (take n (drop k w))) e

module _ (f : Flow Point) (v k : ℕ) where
  abbrev pub here : List Point
  here = slice_index_or f.views v f.open_view

  -- the next points, the end of the view, and the end of all
  pub next-points : (ended : Bool) (n m : ℕ) → ended ≡ false → m ≡ k + n → still_gives ended f v k ≡ map At (take n (drop k here)) ++ still_gives ended f v m
  next-points true n m e h = absurd (true≢false e)
  next-points false n m e h = points-part n k v f.views f.open_view f.cut ∙ ap (λ x. map At (take n (drop k here)) ++ marks_from f.views f.open_view f.cut v x) (sym h)

  pub next-view : (ended : Bool) → ended ≡ false → v < length f.views → length here ≤ k → still_gives ended f v k ≡ View_end ∷ still_gives ended f (v + 1) 0
  next-view true e h l = absurd (true≢false e)
  next-view false e h l = let s : suc v ≡ v + 1 = omega arith in view-part k v f.views f.open_view f.cut h l ∙ ap (λ x. View_end ∷ marks_from f.views f.open_view f.cut x 0) s

  pub next-end : (ended : Bool) → ended ≡ false → length f.views ≤ v → length here ≤ k → still_gives ended f v k ≡ End f.cut ∷ []
  next-end true e h l = absurd (true≢false e)
  next-end false e h l = end-part k v f.views f.open_view f.cut h l

  -- how many points and views are left then
  pub points-fewer : (ended : Bool) (n m : ℕ) → ended ≡ false → m ≡ k + n → count_points (still_gives ended f v m) + length (take n (drop k here)) ≡ count_points (still_gives ended f v k)
  points-fewer ended n m e h =
      let a = ap count_points (next-points ended n m e h) in let b = points-counted (take n (drop k here)) (still_gives ended f v m) in omega (arith, a, b)

  pub views-same : (ended : Bool) (n m : ℕ) → ended ≡ false → m ≡ k + n → count_views (still_gives ended f v m) ≡ count_views (still_gives ended f v k)
  views-same ended n m e h = sym (ap count_views (next-points ended n m e h) ∙ no-views (take n (drop k here)) (still_gives ended f v m))
