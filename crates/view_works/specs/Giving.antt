-- What a held list still gives of its flow.
use Rattle.std.specs.Prelude.{ℕ, Bool, true, false, List, [], ◌∷◌, ◌++◌, map, drop}
use Rattle.std.proofs.Common.{zero, suc, arith, refl, None}
use Rattle.cloud_points.specs.declared.faults.StageFault.{StageFault}
use Rattle.cloud_points.specs.Meaning.{Meaning, KeepsCutting}
use Rattle.cloud_points.specs.declared.point.Point.{Point}
use Rattle.cloud_points.specs.Flows.{Flow}
use Rattle.view_works.specs.declared.held.HeldViews.{HeldViews}
use Rattle.cloud_points.specs.Marks.{Mark, At, View_end, End, view_marks}

-- the marks from point k of view v on
abbrev pub marks_from : List (List Point) → List Point → Bool → ℕ → ℕ → List (Mark Point)
marks_from [] last cut v k = map At (drop k last) ++ End cut ∷ []
marks_from (w ∷ ws) last cut zero k = map At (drop k w) ++ View_end ∷ (view_marks ws ++ (map At last ++ End cut ∷ []))
marks_from (w ∷ ws) last cut (suc v) k = marks_from ws last cut v k

-- none once the end was given
abbrev pub still_gives : Bool → Flow Point → ℕ → ℕ → List (Mark Point)
still_gives true f v k = []
still_gives false f v k = marks_from f.views f.open_view f.cut v k

-- what a leaf still gives
abbrev pub left_of : HeldViews → List (Mark Point)
left_of h = still_gives h.ended h.views h.view h.at

module _ {S : Type 0} where
  -- a leaf takes nothing, and gives nothing for what it would take, whatever its state is; an end leaves it in this state
  abbrev pub resting_until : (S → S) → Meaning S Point StageFault
  resting_until last = record {
    emit = λ s points. [];
    after = λ s points. s;
    fault = λ s points. None;
    at_view = λ s. (s, false);
    at_end = λ s cut. (last s, false);
    nature = None;
  }

  -- or as it was
  abbrev pub resting : Meaning S Point StageFault
  resting = resting_until (λ s. s)

  pub resting_keeps : (last : S → S) → KeepsCutting (resting_until last)
  resting_keeps last = record {
    emits = λ s a b h. refl;
    goes_on = λ s a b h. refl;
    finds = λ s a b h. refl;
    stops_emit = λ s a b h. refl;
    stops_after = λ s a b h. refl;
    stops_fault = λ s a b h. refl;
    holds_back = λ s p h. refl;
    rests = λ s. refl;
    is_sound = λ s. refl;
    no_longer = λ s a. omega arith;
  }
