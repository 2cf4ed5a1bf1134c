-- Views that are given one after the other.
use Rattle.std.proofs.Common.{◌≡◌, ℕ, zero, suc, ◌+◌, ◌<◌, Bool, true, false, not, ◌||◌, if◌then◌else◌, Option, Some, None, List, [], ◌∷◌, ◌++◌, length, map, filter, take, drop, get_or, refl, sym, ap, ◌∙◌, arith, append-nil, append_assoc}
use Rattle.std.specs.Prelude.{slice_get, unwrap_or}
use Rattle.std.specs.List.{cons_option}
use Rattle.std.proofs.lemmas.List.{drop_more, map_more}
use Rattle.std.proofs.lemmas.Option.{slice_get_within, get_or_from_slice_get}
use Rattle.cloud_points.specs.Flows.{Flow, all_of}
use Rattle.cloud_points.specs.Queue.{up_to_limit}
use Rattle.stage_meanings.specs.Filters.{chosen, keeps, positions}
use Rattle.set_filters.proofs.Firsts.{all_more}

-- with these points behind those of the open view
abbrev pub followed : {P : Type 0} → Flow P → List P → Flow P
followed flow more = record flow { open_view = flow.open_view ++ more }

-- with a point behind them, if there is one, and then the others
pub followed_one : {P : Type 0} (flow : Flow P) (p : Option P) (rest : List P) → followed (followed flow (cons_option p [])) rest ≡ followed flow (cons_option p rest)
followed_one flow None rest = ap (λ ps. record flow { open_view = ps ++ rest }) (append-nil flow.open_view)
followed_one flow (Some p) rest = ap (λ ps. record flow { open_view = ps }) (append_assoc flow.open_view (p ∷ []) rest)

-- the point at a place is the next of those that are still to come
pub next_of : {P : Type 0} (k : ℕ) (view : List P) (p : P) → slice_get view k ≡ Some p → drop k view ≡ p ∷ drop (k + 1) view
next_of k view p here =
    drop_more view k p (slice_get_within view k p here) ∙ ap (λ q. q ∷ drop (k + 1) view) (get_or_from_slice_get view k p p here)

-- the same of the first so many
pub next_point : {P : Type 0} (k n : ℕ) (view : List P) (p : P) → k < n → slice_get view k ≡ Some p → drop k (take n view) ≡ p ∷ drop (k + 1) (take n view)
next_point k zero view p l here = absurd (omega (arith, l))
next_point k (suc n) [] p l here = cc
next_point zero (suc n) (q ∷ view) p l here = ap (λ x. x ∷ take n view) (ap (λ o. unwrap_or o q) here)
next_point (suc k) (suc n) (q ∷ view) p l here =
    let e : suc (k + 1) ≡ suc k + 1 = omega arith in
    next_point k n view p (omega (arith, l)) here ∙ ap (λ m. p ∷ drop m (q ∷ take n view)) e

-- the first of these points, and what is chosen of the others
pub chosen_one : {P : Type 0} (passing : P → Bool) (test : ℕ → Bool) (k : ℕ) (p : P) (ps : List P)
    → chosen passing test k (p ∷ ps) ≡ cons_option (keeps (not (passing p) || test k) p) (chosen passing test (if passing p then up_to_limit (k + 1) else k) ps)
chosen_one {P} passing test k p ps = go (not (passing p) || test k) (filter (λ q. not (passing q.0) || test q.1) (positions passing (if passing p then up_to_limit (k + 1) else k) ps))
  where
    go : (goes : Bool) (others : List (P × ℕ)) → map (λ q. q.0) (if goes then (p, k) ∷ others else others) ≡ cons_option (keeps goes p) (map (λ q. q.0) others)
    go true others = refl
    go false others = refl

abbrev ended : {P : Type 0} → Flow P → Flow P
ended flow = record flow { views = flow.views ++ flow.open_view ∷ []; open_view = [] }

-- the views before place v, each made into one
abbrev pub made_of : {P : Type 0} → (List P → List P) → List (List P) → ℕ → Flow P
made_of g views v = record { views = map g (take v views); open_view = []; cut = false }

-- the points of the views before place v
abbrev pub joined : {P : Type 0} → List (List P) → ℕ → Flow P
joined views v = record { views = []; open_view = all_of (take v views); cut = false }

module _ {P : Type 0} (views : List (List P)) (v : ℕ) (last view : List P) (inside : v < length views) (is : view ≡ get_or views v last) where
  pub made_more : (g : List P → List P) (before put after : Flow P) → before ≡ made_of g views v → put ≡ followed before (g view) → after ≡ ended put → after ≡ made_of g views (v + 1)
  made_more g before put after was followed_by end =
      let made : List (List P) → Flow P = λ made. record { views = made; open_view = []; cut = false } in
      end ∙ ap ended (followed_by ∙ ap (λ z. followed z (g view)) was)
      ∙ ap made (ap (λ z. map g (take v views) ++ g z ∷ []) is ∙ sym (map_more g views v last inside))

  pub joined_more : (before put : Flow P) → before ≡ joined views v → put ≡ followed before view → put ≡ joined views (v + 1)
  joined_more before put was followed_by =
      let one : List P → Flow P = λ points. record { views = []; open_view = points; cut = false } in
      followed_by ∙ ap (λ z. followed z view) was ∙ ap one (ap (λ z. all_of (take v views) ++ z) is ∙ sym (all_more views v last inside))
