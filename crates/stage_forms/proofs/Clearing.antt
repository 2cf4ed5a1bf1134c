-- What a stage shows its points by, and points against which there is no reason.
use Rattle.std.proofs.Common.{◌≡◌, ℕ, Bool, true, false, List, [], Option, Some, None, refl, ap, ◌∙◌}
use Rattle.std.specs.Prelude.{ℤ, map, option_map, ◌+◌, Result, Ok, Err, ◌∷◌, if◌then◌else◌}
use Rattle.cloud_points.specs.Clearing.{cleared}
use Rattle.cloud_points.specs.declared.dims.Dim.{Dim}
use Rattle.cloud_points.specs.declared.dims.Dim.TheVariants.{X, Y, Z, Intensity, ReturnNumber, NumberOfReturns, ScanDirectionFlag, EdgeOfFlightLine, Classification, Synthetic, KeyPoint, Withheld, Overlap, ScanChannel, ScanAngleRank, UserData, PointSourceId, GpsTime, Red, Green, Blue, Infrared, Extra}
use Rattle.plug_stages.specs.Folds.{Step, plug_fold, shown_if, step_where}
use Rattle.std.specs.List.{cons_option}
use Rattle.expr_lang.specs.Formula.{Formula}
use Rattle.stage_meanings.specs.Conditions.{passes}
use Rattle.stage_meanings.specs.Filters.{before_stop, first_refused, first_unjudged, found, if_passing, is_true, reason_of, refusal_of, refused_by}
use Rattle.stage_meanings.specs.declared.reason.Reason.{Reason}
use Rattle.cloud_points.specs.declared.point.Point.{Point}
use Rattle.cloud_points.specs.Flows.{Flow, map_views, points}
use Rattle.cloud_points.specs.Queue.{up_to_limit}
use Rattle.answer_model.specs.Rows.{Row, Setting, folds, remembered_by, row_of, said_by, shows, value_on}
use Rattle.answer_model.specs.Rows as rows

-- ---- points against which there is no reason

module _ (only : Point → Result Bool Reason) where
  pub none_at : (p : Point) (n : ℕ) → refused_by (λ k q. None) only (p, n) ≡ reason_of (only p)
  none_at p n = go (only p)
    where
      go : (r : Result Bool Reason) → if_passing r None ≡ reason_of r
      go (Ok true) = refl
      go (Ok false) = refl
      go (Err e) = refl

  pub none_from : (n k : ℕ) (ps : List Point) → first_refused (λ k q. None) only n k ps ≡ first_unjudged only n ps
  none_from n k [] = refl
  none_from n k (p ∷ ps) =
      ap (λ o. found n o (first_refused (λ k q. None) only (n + 1) (if is_true (only p) then up_to_limit (k + 1) else k) ps)) (none_at p k)
      ∙ ap (found n (reason_of (only p))) (none_from (n + 1) (if is_true (only p) then up_to_limit (k + 1) else k) ps)

  pub none-against : (flow : Flow Point) → refusal_of (λ k q. None) only flow ≡ first_unjudged only 0 (points flow)
  none-against flow = none_from 0 0 (points flow)

-- ---- sets that hold the same dimensions

pub cleared-same : (one other : Dim → Bool) → ((dim : Dim) → one dim ≡ other dim) → (p : Point) → cleared one p ≡ cleared other p
cleared-same one other same p = rw (
  same X,
  same Y,
  same Z,
  same Intensity,
  same ReturnNumber,
  same NumberOfReturns,
  same ScanDirectionFlag,
  same EdgeOfFlightLine,
  same Classification,
  same Synthetic,
  same KeyPoint,
  same Withheld,
  same Overlap,
  same ScanChannel,
  same ScanAngleRank,
  same UserData,
  same PointSourceId,
  same GpsTime,
  same Red,
  same Green,
  same Blue,
  same Infrared,
  same (Extra 0),
  same (Extra 1),
  same (Extra 2),
  same (Extra 3),
  same (Extra 4),
  same (Extra 5),
  same (Extra 6),
  same (Extra 7),
) refl

pub all-mapped : (f g : List Point → List Point) → ((v : List Point) → f v ≡ g v) → (vs : List (List Point)) → map f vs ≡ map g vs
all-mapped f g same [] = refl
all-mapped f g same (v ∷ vs) = ap (λ x. x ∷ map f vs) (same v) ∙ ap (λ xs. g v ∷ xs) (all-mapped f g same vs)

pub views-mapped : (f g : List Point → List Point) → ((v : List Point) → f v ≡ g v) → (flow : Flow Point) → map_views f flow ≡ map_views g flow
views-mapped f g same flow = ap (λ vs. record { views = vs; open_view = f flow.open_view; cut = flow.cut }) (all-mapped f g same flow.views)
    ∙ ap (λ v. record { views = map g flow.views; open_view = v; cut = flow.cut }) (same flow.open_view)

module _ (step : Step Point) (opening : List ℤ) (one other : Dim → Bool) (only : Option (Formula Dim)) (same : (dim : Dim) → one dim ≡ other dim) where
  pub step-same : (s : List ℤ) (p : Point) → step_where (passes only) (cleared one) step s p ≡ step_where (passes only) (cleared other) step s p
  step-same s p = go (is_true (passes only p))
    where
      clear-same : (o : Option Point) → option_map (cleared one) o ≡ option_map (cleared other) o
      clear-same None = refl
      clear-same (Some q) = ap Some (cleared-same one other same q)

      go : (b : Bool) → shown_if b (cleared one) step s p ≡ shown_if b (cleared other) step s p
      go false = refl
      go true = ap (λ (o : Option Point). ((step s p).0, o)) (clear-same (step s p).1)

  pub fold-same : (s : List ℤ) (view : List Point) → plug_fold (step_where (passes only) (cleared one) step) s view ≡ plug_fold (step_where (passes only) (cleared other) step) s view
  fold-same s [] = refl
  fold-same s (p ∷ ps) = ap (λ (t : List ℤ × Option Point). cons_option t.1 (plug_fold (step_where (passes only) (cleared one) step) t.0 ps)) (step-same s p)
      ∙ ap (cons_option (step_where (passes only) (cleared other) step s p).1) (fold-same (step_where (passes only) (cleared other) step s p).0 ps)

  pub folds-same : (flow : Flow Point) → rows.made (rows.Folding step opening (cleared one) only) flow ≡ rows.made (rows.Folding step opening (cleared other) only) flow
  folds-same flow = views-mapped (plug_fold (step_where (passes only) (cleared one) step) opening) (plug_fold (step_where (passes only) (cleared other) step) opening) (fold-same opening)
      (before_stop (first_unjudged (passes only) 0 (points flow)) flow)
