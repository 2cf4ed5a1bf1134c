-- The fold of the filter of spikes.
use Rattle.std.proofs.Common.{◌≡◌, Bool, true, false, cond, ℤ, List, [], ◌∷◌, Option, Some, None, refl, ap}
use Rattle.std.specs.List.{cons_option}
use Rattle.cloud_points.specs.declared.point.Point.{Point}
use Rattle.plug_stages.specs.Folds.{plug_fold}
use Rattle.plug_stages.specs.Spikes.{is_near, near_behind, without_spikes, spike_step}

-- a point that is or isn't near the last kept one
abbrev next_kept : Bool → Point → Point → List ℤ × Option Point
next_kept near last p = cond near (p.z ∷ [], Some p) (last.z ∷ [], None)

near_fold : (last : Point) (ps : List Point) → plug_fold spike_step (last.z ∷ []) ps ≡ near_behind last ps
near_fold last [] = refl
near_fold last (p ∷ ps) = go (is_near p.z last.z) (near_fold p ps) (near_fold last ps)
  where
    go : (b : Bool) → plug_fold spike_step (p.z ∷ []) ps ≡ near_behind p ps → plug_fold spike_step (last.z ∷ []) ps ≡ near_behind last ps
        → cons_option (next_kept b last p).1 (plug_fold spike_step (next_kept b last p).0 ps) ≡ cond b (p ∷ near_behind p ps) (near_behind last ps)
    go true near far = ap (λ z. p ∷ z) near
    go false near far = far

pub spikes_dropped : (view : List Point) → plug_fold spike_step [] view ≡ without_spikes view
spikes_dropped [] = refl
spikes_dropped (p ∷ ps) = ap (λ z. p ∷ z) (near_fold p ps)
