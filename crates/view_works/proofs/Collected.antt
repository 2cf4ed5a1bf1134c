-- A collector holds the flow that it took.
use Rattle.std.proofs.Common.{◌≡◌, Bool, true, false, ◌||◌, List, [], ◌∷◌, ◌++◌, map, Some, refl, ap, sym, ◌∙◌, append_assoc, append-nil}
use Rattle.cloud_points.specs.declared.point.Point.{Point}
use Rattle.cloud_points.specs.declared.faults.StageFault.{StageFault}
use Rattle.cloud_points.specs.Flows.{Flow, empty_flow}
use Rattle.cloud_points.specs.Marks.{Mark, At, View_end, End, view_marks, flow_marks}
use Rattle.network_theory.specs.Machine.{Machine, after_all, output, at_start, made_of, state_after}
use Rattle.network_theory.proofs.MachineLaws.{after_all-append, output-append, after-chunk, output-chunk}
use Rattle.view_works.specs.Collecting.{Held, collecting, collecting_keeps}

-- a collector that holds these views, at the start of the next one
abbrev holding : {M : Type 0} → M → List (List Point) → List Point → Machine (M × Held) StageFault
holding g views last = at_start 1 (g, Some (record { views = views; open_view = last; cut = false }))

or_false : (b : Bool) → b || false ≡ b
or_false true = refl
or_false false = refl

after-points : {M : Type 0} (g : M) (views : List (List Point)) (v : List Point) (ts : List (Mark Point)) → after_all collecting (holding g views []) (map At v ++ ts) ≡ after_all collecting (holding g views v) ts
after-points g views v ts =
    after_all-append collecting (holding g views []) (map At v) ts
    ∙ ap (λ d. after_all collecting d ts) (after-chunk collecting collecting_keeps (holding g views []) v refl)

output-points : {M : Type 0} (g : M) (views : List (List Point)) (v : List Point) (ts : List (Mark Point)) → output collecting (holding g views []) (map At v ++ ts) ≡ map At v ++ output collecting (holding g views v) ts
output-points g views v ts =
    output-append collecting (holding g views []) (map At v) ts
    ∙ ap (λ z. z ++ output collecting (after_all collecting (holding g views []) (map At v)) ts) (output-chunk collecting collecting_keeps (holding g views []) v refl)
    ∙ ap (λ d. map At v ++ output collecting d ts) (after-chunk collecting collecting_keeps (holding g views []) v refl)

views-held : {M : Type 0} (g : M) (done vs : List (List Point)) (last : List Point) (cut : Bool) → (after_all collecting (holding g done []) (view_marks vs ++ (map At last ++ End cut ∷ []))).state ≡ (g, Some (record { views = done ++ vs; open_view = last; cut = cut }))
views-held g done [] last cut =
    ap (λ d. d.state) (after-points g done last (End cut ∷ []))
    ∙ ap (λ c. (g, Some (record { views = done; open_view = last; cut = c }))) (or_false cut)
    ∙ ap (λ ws. (g, Some (record { views = ws; open_view = last; cut = cut }))) (sym (append-nil done))
views-held g done (v ∷ vs) last cut =
    let rest = map At last ++ End cut ∷ [] in
    ap (λ ts. (after_all collecting (holding g done []) ts).state) (append_assoc (map At v) (View_end ∷ view_marks vs) rest)
    ∙ ap (λ d. d.state) (after-points g done v (View_end ∷ (view_marks vs ++ rest)))
    ∙ views-held g (done ++ v ∷ []) vs last cut
    ∙ ap (λ ws. (g, Some (record { views = ws; open_view = last; cut = cut }))) (append_assoc done (v ∷ []) vs)

pub collected : {M : Type 0} (g : M) (f : Flow Point) → state_after collecting (g, Some empty_flow) f ≡ (g, Some f)
collected g f = ap (λ ts. (after_all collecting (holding g [] []) ts).state) (append_assoc (view_marks f.views) (map At f.open_view) (End f.cut ∷ [])) ∙ views-held g [] f.views f.open_view f.cut

views-given : {M : Type 0} (g : M) (done vs : List (List Point)) (last : List Point) (cut : Bool) → output collecting (holding g done []) (view_marks vs ++ (map At last ++ End cut ∷ [])) ≡ view_marks vs ++ (map At last ++ End cut ∷ [])
views-given g done [] last cut =
    output-points g done last (End cut ∷ []) ∙ ap (λ c. map At last ++ End c ∷ []) (or_false cut)
views-given g done (v ∷ vs) last cut =
    let rest = map At last ++ End cut ∷ [] in
    ap (output collecting (holding g done [])) (append_assoc (map At v) (View_end ∷ view_marks vs) rest)
    ∙ output-points g done v (View_end ∷ (view_marks vs ++ rest))
    ∙ ap (λ z. map At v ++ View_end ∷ z) (views-given g (done ++ v ∷ []) vs last cut)
    ∙ sym (append_assoc (map At v) (View_end ∷ view_marks vs) rest)

pub gave-all : {M : Type 0} (g : M) (f : Flow Point) → made_of collecting (g, Some empty_flow) f ≡ flow_marks f
gave-all g f = ap (output collecting (holding g [] [])) (append_assoc (view_marks f.views) (map At f.open_view) (End f.cut ∷ []))
    ∙ views-given g [] f.views f.open_view f.cut ∙ sym (append_assoc (view_marks f.views) (map At f.open_view) (End f.cut ∷ []))
