-- The marks of what was given so far.
use Rattle.std.proofs.Common.{◌≡◌, List, [], ◌∷◌, ◌++◌, map, refl, ap, sym, ◌∙◌, append_assoc, append-nil}
use Rattle.std.proofs.lemmas.List.{map-append}
use Rattle.cloud_points.specs.Flows.{Flow}
use Rattle.cloud_points.specs.Marks.{Mark, At, View_end, view_marks, piece_marks}

pub view_marks-more : {P : Type 0} (vs : List (List P)) (v : List P) → view_marks (vs ++ v ∷ []) ≡ view_marks vs ++ (map At v ++ View_end ∷ [])
view_marks-more [] v = refl
view_marks-more (w ∷ vs) v = ap (λ ms. map At w ++ View_end ∷ ms) (view_marks-more vs v) ∙ sym (append_assoc (map At w) (View_end ∷ view_marks vs) (map At v ++ View_end ∷ []))

-- behind points
pub more_points : {P : Type 0} (f g : Flow P) (ps : List P) (told later now : List (Mark P)) → told ≡ piece_marks f ++ now → now ≡ map At ps ++ later → g ≡ record f { open_view = f.open_view ++ ps }
    → told ≡ piece_marks g ++ later
more_points f g ps told later now e step is =
    e ∙ ap (λ ms. piece_marks f ++ ms) step ∙ sym (append_assoc (piece_marks f) (map At ps) later)
    ∙ ap (λ ms. ms ++ later) (append_assoc (view_marks f.views) (map At f.open_view) (map At ps) ∙ ap (λ ms. view_marks f.views ++ ms) (sym (map-append At f.open_view ps)))
    ∙ ap (λ h. piece_marks h ++ later) (sym is)

-- behind the end of a view
pub more_views : {P : Type 0} (f g : Flow P) (told later now : List (Mark P)) → told ≡ piece_marks f ++ now → now ≡ View_end ∷ later → g ≡ record f { views = f.views ++ f.open_view ∷ []; open_view = [] }
    → told ≡ piece_marks g ++ later
more_views f g told later now e step is =
    e ∙ ap (λ ms. piece_marks f ++ ms) step ∙ sym (append_assoc (piece_marks f) (View_end ∷ []) later)
    ∙ ap (λ ms. ms ++ later) (append_assoc (view_marks f.views) (map At f.open_view) (View_end ∷ []) ∙ sym (view_marks-more f.views f.open_view) ∙ sym (append-nil (view_marks (f.views ++ f.open_view ∷ []))))
    ∙ ap (λ h. piece_marks h ++ later) (sym is)
