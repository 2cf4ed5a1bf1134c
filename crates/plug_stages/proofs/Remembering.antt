-- Where a work that does the same with each view stands behind a whole flow.
use Rattle.std.proofs.Common.{◌≡◌, ℕ, Bool, List, [], ◌∷◌, ◌++◌, map, Option, Some, None, refl, ap, sym, ◌∙◌, append_assoc}
use Rattle.cloud_points.specs.Events.{first_fault}
use Rattle.cloud_points.specs.Flows.{Flow, all_of, points}
use Rattle.cloud_points.specs.Marks.{Mark, At, View_end, End, view_marks}
use Rattle.cloud_points.specs.Meaning.{Meaning, KeepsCutting}
use Rattle.network_theory.specs.Machine.{after_all, at_start, state_after}
use Rattle.stage_meanings.proofs.Streams.{Stops, StreamsBy, after-points, view-leaves}

pub none_first : {F : Type 0} (a b : Option F) → first_fault a b ≡ None → a ≡ None
none_first None b e = refl
none_first (Some f) b e = absurd cc

pub none_later : {F : Type 0} (a b : Option F) → first_fault a b ≡ None → b ≡ None
none_later None b e = e
none_later (Some f) b e = absurd cc

module _ {S P F H R : Type 0} (m : Meaning S P F) (law : KeepsCutting m) (st : Stops H P R) (told : ℕ × R → F) (start : H → S) (g : List P → List P) (by : StreamsBy m st told start g)
    (stays : (s : S) (cut : Bool) → (m.at_end s cut).0 ≡ s) where
  -- what stands before what comes behind some views
  abbrev pub behind_all : H → List (List P) → H
  behind_all h [] = h
  behind_all h (v ∷ vs) = behind_all (st.behind h v) vs

  views_leave : (vs : List (List P)) (last : List P) (h : H) (ms : List (Mark P)) → st.first h (all_of vs ++ last) ≡ None
      → after_all m (at_start 1 (start h)) (view_marks vs ++ ms) ≡ after_all m (at_start 1 (start (behind_all h vs))) ms
  views_leave [] last h ms e = refl
  views_leave (v ∷ vs) last h ms e =
      let split : first_fault (st.first h v) (st.first (st.behind h v) (all_of vs ++ last)) ≡ None = sym (st.append h v (all_of vs ++ last)) ∙ ap (st.first h) (sym (append_assoc v (all_of vs) last)) ∙ e in
      ap (after_all m (at_start 1 (start h))) (append_assoc (map At v) (View_end ∷ view_marks vs) ms)
      ∙ after-points m law st told start g by h v (View_end ∷ (view_marks vs ++ ms))
      ∙ ap (λ d. after_all m d (view_marks vs ++ ms)) (view-leaves m law st told start g by h v (none_first _ _ split))
      ∙ views_leave vs last (st.behind h v) ms (none_later _ _ split)

  -- without a stop: behind its views the points of the open one
  pub flow_leaves : (h : H) (f : Flow P) → st.first h (points f) ≡ None → state_after m (start h) f ≡ m.after (start (behind_all h f.views)) f.open_view
  flow_leaves h f e =
      let k = behind_all h f.views in
      ap (λ z. (after_all m (at_start 1 (start h)) z).state) (append_assoc (view_marks f.views) (map At f.open_view) (End f.cut ∷ []))
      ∙ ap (λ d. d.state) (views_leave f.views f.open_view h (map At f.open_view ++ End f.cut ∷ []) e)
      ∙ ap (λ d. d.state) (after-points m law st told start g by k f.open_view (End f.cut ∷ []))
      ∙ stays (m.after (start k) f.open_view) _
