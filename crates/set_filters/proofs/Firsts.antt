-- The first of some points for which there is a reason.
use Rattle.std.proofs.Common.{◌≡◌, ℕ, zero, suc, ◌+◌, ◌<◌, ◌≤◌, List, [], ◌∷◌, ◌++◌, length, take, get_or, Option, Some, None, refl, sym, ap, ◌∙◌, arith, append_assoc, length-append}
use Rattle.std.proofs.lemmas.List.{take_more, take_all, get_or_past, append-nil}
use Rattle.std.specs.Option.{option_map}
use Rattle.cloud_points.specs.Flows.{Flow, all_of, points}
use Rattle.cloud_points.proofs.FlowLaws.{all_of-append}
use Rattle.stage_meanings.specs.Filters.{found, first_from}
use Rattle.whole_filters.specs.Held.{view_at}

-- the points of the view at a place stand behind those of the views before it
pub points_at : {P : Type 0} (views : List (List P)) (last : List P) (v : ℕ) → v ≤ length views
    → (rest : List P) × (all_of views ++ last ≡ all_of (take v views) ++ (get_or views v last ++ rest))
points_at [] last zero l = ([], sym (append-nil last))
points_at [] last (suc v) l = absurd (omega (arith, l))
points_at (w ∷ ws) last zero l = (all_of ws ++ last, append_assoc w (all_of ws) last)
points_at (w ∷ ws) last (suc v) l = let later = points_at ws last v (omega (arith, l)) in
    (later.0, append_assoc w (all_of ws) last ∙ ap (λ z. w ++ z) later.1 ∙ sym (append_assoc w (all_of (take v ws)) (get_or ws v last ++ later.0)))

-- with one more view
pub all_more : {P : Type 0} (views : List (List P)) (v : ℕ) (d : List P) → v < length views → all_of (take (v + 1) views) ≡ all_of (take v views) ++ get_or views v d
all_more views v d l = ap all_of (take_more views v d l) ∙ all_of-append (take v views) (get_or views v d ∷ [])
    ∙ ap (λ z. all_of (take v views) ++ z) (append-nil (get_or views v d))

pub count_more : {P : Type 0} (views : List (List P)) (v : ℕ) (d : List P) → v < length views → length (all_of (take (v + 1) views)) ≡ length (all_of (take v views)) + length (get_or views v d)
count_more views v d l = ap length (all_more views v d l) ∙ length-append (all_of (take v views)) (get_or views v d)

-- the number of a stop, counted behind n points
abbrev shifted : {R : Type 0} → ℕ → ℕ × R → ℕ × R
shifted n s = (n + s.0, s.1)

abbrev number : {R : Type 0} → Option (ℕ × R) → ℕ
number None = 0
number (Some s) = s.0

module _ {P R : Type 0} (why : P → Option R) where
  -- ---- behind other points, before others, and counted from another number
  first_behind : (n : ℕ) (a b : List P) → first_from why n a ≡ None → first_from why n (a ++ b) ≡ first_from why (n + length a) b
  first_behind n [] b e = let same : n ≡ n + 0 = omega arith in ap (λ k. first_from why k b) same
  first_behind n (p ∷ a) b e = go (why p) e (first_behind (n + 1) a b)
    where
      go : (o : Option R) → found n o (first_from why (n + 1) a) ≡ None
          → (first_from why (n + 1) a ≡ None → first_from why (n + 1) (a ++ b) ≡ first_from why (n + 1 + length a) b)
          → found n o (first_from why (n + 1) (a ++ b)) ≡ first_from why (n + suc (length a)) b
      go None e later = let same : n + 1 + length a ≡ n + suc (length a) = omega arith in later e ∙ ap (λ k. first_from why k b) same
      go (Some r) e later = absurd cc

  first_before : (n : ℕ) (a b : List P) (s : ℕ × R) → first_from why n a ≡ Some s → first_from why n (a ++ b) ≡ Some s
  first_before n [] b s e = absurd cc
  first_before n (p ∷ a) b s e = go (why p) e (first_before (n + 1) a b s)
    where
      go : (o : Option R) → found n o (first_from why (n + 1) a) ≡ Some s
          → (first_from why (n + 1) a ≡ Some s → first_from why (n + 1) (a ++ b) ≡ Some s)
          → found n o (first_from why (n + 1) (a ++ b)) ≡ Some s
      go None e later = later e
      go (Some r) e later = e

  first_shifted : (n m : ℕ) (a : List P) → first_from why (n + m) a ≡ option_map (shifted n) (first_from why m a)
  first_shifted n m [] = refl
  first_shifted n m (p ∷ a) = go (why p) (first_shifted n (m + 1) a)
    where
      go : (o : Option R) → first_from why (n + (m + 1)) a ≡ option_map (shifted n) (first_from why (m + 1) a)
          → found (n + m) o (first_from why (n + m + 1) a) ≡ option_map (shifted n) (found m o (first_from why (m + 1) a))
      go None later = let same : n + m + 1 ≡ n + (m + 1) = omega arith in ap (λ k. first_from why k a) same ∙ later
      go (Some r) later = refl

  first_from_any : (n : ℕ) (a : List P) → first_from why 0 a ≡ None → first_from why n a ≡ None
  first_from_any n a e = let same : n ≡ n + 0 = omega arith in ap (λ k. first_from why k a) same ∙ first_shifted n 0 a ∙ ap (option_map (shifted n)) e

  first_within : (n : ℕ) (a : List P) (k : ℕ) (r : R) → first_from why n a ≡ Some (k, r) → k < n + length a
  first_within n [] k r e = absurd cc
  first_within n (p ∷ a) k r e = go (why p) e (first_within (n + 1) a k r)
    where
      go : (o : Option R) → found n o (first_from why (n + 1) a) ≡ Some (k, r) → (first_from why (n + 1) a ≡ Some (k, r) → k < n + 1 + length a) → k < n + suc (length a)
      go None e later = let l : k < n + 1 + length a = later e in omega (arith, l)
      go (Some q) e later = let same : n ≡ k = ap number e in omega (arith, same)

  -- the first of the points of a view is one of them
  pub stop_place : (a : List P) (k : ℕ) (r : R) → first_from why 0 a ≡ Some (k, r) → k < length a
  stop_place a k r e = let l : k < 0 + length a = first_within 0 a k r e in omega (arith, l)

  -- ---- view after view
  pub none_more : (views : List (List P)) (v : ℕ) (d : List P) → v < length views → first_from why 0 (all_of (take v views)) ≡ None → first_from why 0 (get_or views v d) ≡ None
      → first_from why 0 (all_of (take (v + 1) views)) ≡ None
  none_more views v d l before here = ap (first_from why 0) (all_more views v d l) ∙ first_behind 0 (all_of (take v views)) (get_or views v d) before
      ∙ first_from_any (0 + length (all_of (take v views))) (get_or views v d) here

  module _ (flow : Flow P) (v : ℕ) (before : first_from why 0 (all_of (take v flow.views)) ≡ None) where
    pub stop_in_view : (k : ℕ) (r : R) → v ≤ length flow.views → first_from why 0 (view_at flow v) ≡ Some (k, r) → first_from why 0 (points flow) ≡ Some (length (all_of (take v flow.views)) + k, r)
    stop_in_view k r l e =
        let split = points_at flow.views flow.open_view v l in
        let n : ℕ = length (all_of (take v flow.views)) in
        let same : 0 + n ≡ n + 0 = omega arith in
        let here : first_from why (0 + n) (view_at flow v) ≡ Some (n + k, r) = ap (λ k. first_from why k (view_at flow v)) same ∙ first_shifted n 0 (view_at flow v) ∙ ap (option_map (shifted n)) e in
        ap (first_from why 0) split.1 ∙ first_behind 0 (all_of (take v flow.views)) (view_at flow v ++ split.0) before ∙ first_before (0 + n) (view_at flow v) split.0 (n + k, r) here

    pub no_stop : length flow.views ≤ v → first_from why 0 (view_at flow v) ≡ None → first_from why 0 (points flow) ≡ None
    no_stop l e =
        let all : first_from why 0 (all_of flow.views) ≡ None = ap (λ z. first_from why 0 (all_of z)) (sym (take_all v flow.views l)) ∙ before in
        let last : first_from why 0 flow.open_view ≡ None = ap (first_from why 0) (sym (get_or_past flow.views v flow.open_view l)) ∙ e in
        first_behind 0 (all_of flow.views) flow.open_view all ∙ first_from_any (0 + length (all_of flow.views)) flow.open_view last
