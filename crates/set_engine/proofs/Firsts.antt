-- The first point that a writer doesn't take.
use Rattle.std.proofs.Common.{◌≡◌, ℕ, suc, ◌+◌, ◌<◌, ◌≤◌, Bool, cond, List, [], ◌∷◌, ◌++◌, length, length-append, take, drop, get_or, Option, Some, None, refl, ap, sym, subst, ◌∙◌, arith}
use Rattle.std.specs.Prelude.{option_map}
use Rattle.std.proofs.lemmas.List.{take_more, take_all, take-append-drop, get_or_past, length-take-le}
use Rattle.std.proofs.Math.Seq.{drop-cons}
use Rattle.std.proofs.lemmas.List.Elements.{filter-append}
use Rattle.cloud_points.specs.Events.{first_fault}
use Rattle.cloud_points.specs.Flows.{Flow, all_of, points}
use Rattle.cloud_points.specs.Queue.{up_to_limit}
use Rattle.cloud_points.specs.declared.point.Point.{Point}
use Rattle.set_filters.proofs.Firsts.{points_at}
use Rattle.stage_kinds.specs.Files.{chosen, unwritten}
use Rattle.stage_kinds.specs.Stages.{why_not, writing_filter}
use Rattle.stage_kinds.specs.declared.file_form.Writing.{Writing}
use Rattle.stage_kinds.specs.declared.writer_stage.TakeErr.{TakeErr}
use Rattle.stage_kinds.specs.declared.writer_stage.TakeErr.TheVariants.{Refused}
use Rattle.stage_kinds.specs.Takes.{IsUntaken}
use Rattle.stage_meanings.proofs.Admits.{refused_append}
use Rattle.stage_meanings.specs.Conditions.{passes}
use Rattle.stage_meanings.specs.Filtering.{stop_in}
use Rattle.stage_meanings.specs.Filters.{is_true, positions, first_from, found, refused_by, first_refused}
use Rattle.stage_meanings.specs.declared.reason.Reason.{Reason}
use Rattle.whole_filters.specs.Held.{view_at}
use Rattle.set_engine.specs.Stops.{IsStopAt, IsStopBehind}
use Rattle.set_engine.specs.declared.writers.WriteErr.{WriteErr}
use Rattle.set_engine.specs.declared.writers.WriteErr.TheVariants as write

-- the same first one, counted from another number
moved : {P R : Type 0} (why : P → Option R) (n m : ℕ) (ps : List P) → first_from why (n + m) ps ≡ option_map (λ s. (n + s.0, s.1)) (first_from why m ps)
moved why n m [] = refl
moved {P} {R} why n m (p ∷ ps) = go (why p) (ap (λ k. first_from why k ps) (let z : n + m + 1 ≡ n + (m + 1) = omega arith in z) ∙ moved why n (m + 1) ps)
  where
    go : (o : Option R) → first_from why (n + m + 1) ps ≡ option_map (λ s. (n + s.0, s.1)) (first_from why (m + 1) ps)
        → found (n + m) o (first_from why (n + m + 1) ps) ≡ option_map (λ s. (n + s.0, s.1)) (found m o (first_from why (m + 1) ps))
    go (Some r) ih = refl
    go None ih = ih

module _ (x : Writing) where
  -- the first of these points, by its number from n on, behind k that were written
  abbrev first : ℕ → ℕ → List Point → Option (ℕ × Reason)
  first n k ps = first_refused (unwritten x.form) (passes x.only) n (up_to_limit k) ps

  abbrev passing : Point → Bool
  passing p = is_true (passes x.only p)

  abbrev refused : Point × ℕ → Option Reason
  refused q = refused_by (unwritten x.form) (passes x.only) q

  -- where it doesn't take the first of them, that is the one
  first_is : (n k : ℕ) (p : Point) (ps : List Point) (r : Reason) → why_not x (up_to_limit k) p ≡ Some r → first n k (p ∷ ps) ≡ Some (n, r)
  first_is n k p ps r e = ap (λ o. found n o (first_from refused (n + 1) (positions passing (cond (passing p) (up_to_limit (up_to_limit k + 1)) (up_to_limit k)) ps))) e

  abbrev written : List Point → ℕ
  written ps = length (chosen x.only ps)

  pub written_both : (a b : List Point) → written (a ++ b) ≡ written a + written b
  written_both a b = ap length (filter-append _ a b) ∙ length-append (chosen x.only a) (chosen x.only b)

  -- it stands in the first part, or else in the second one
  behind_none : (n k : ℕ) (a b : List Point) → first n k a ≡ None → first n k (a ++ b) ≡ first (n + length a) (k + written a) b
  behind_none n k a b e = refused_append (unwritten x.form) (passes x.only) n k a b ∙ ap (λ o. first_fault o (first (n + length a) (k + written a) b)) e

  before_some : (n k : ℕ) (a b : List Point) (s : ℕ × Reason) → first n k a ≡ Some s → first n k (a ++ b) ≡ Some s
  before_some n k a b s e = refused_append (unwritten x.form) (passes x.only) n k a b ∙ ap (λ o. first_fault o (first (n + length a) (k + written a) b)) e

  from_any : (n k : ℕ) (ps : List Point) → first 0 k ps ≡ None → first n k ps ≡ None
  from_any n k ps e = let same : n ≡ n + 0 = omega arith in ap (λ m. first m k ps) same ∙ moved refused n 0 (positions passing (up_to_limit k) ps) ∙ ap (option_map (λ s. (n + s.0, s.1))) e

  from_some : (n k : ℕ) (ps : List Point) (j : ℕ) (r : Reason) → first 0 k ps ≡ Some (j, r) → first n k ps ≡ Some (n + j, r)
  from_some n k ps j r e = let same : n ≡ n + 0 = omega arith in ap (λ m. first m k ps) same ∙ moved refused n 0 (positions passing (up_to_limit k) ps) ∙ ap (option_map (λ s. (n + s.0, s.1))) e

  -- of one more point
  pub taken_more : (y : Writing) (k count : ℕ) (ps : List Point) (i : ℕ) (d : Point) → i < length ps → y ≡ x → first 0 k (take i ps) ≡ None → count ≡ up_to_limit (k + written (take i ps)) → why_not y count (get_or ps i d) ≡ None
      → first 0 k (take (i + 1) ps) ≡ None
  taken_more y k count ps i d lt same none counted is =
      ap (first 0 k) (take_more ps i d lt) ∙ behind_none 0 k (take i ps) (get_or ps i d ∷ []) none
      ∙ ap (λ o. found (0 + length (take i ps)) o None) (ap (λ c. why_not x c (get_or ps i d)) (sym counted) ∙ subst (λ z. why_not z count (get_or ps i d) ≡ None) same is)

  -- and how many are written with it
  pub written_more : (y : Writing) (k count after : ℕ) (ps : List Point) (i : ℕ) (d : Point) → i < length ps → y ≡ x → count ≡ up_to_limit (k + written (take i ps)) → after ≡ up_to_limit (count + length (chosen y.only (get_or ps i d ∷ [])))
      → after ≡ up_to_limit (k + written (take (i + 1) ps))
  written_more y k count after ps i d lt same counted more =
      let one = length (chosen x.only (get_or ps i d ∷ [])) in
      let own : after ≡ up_to_limit (count + one) = more ∙ ap (λ (z : Writing). up_to_limit (count + length (chosen z.only (get_or ps i d ∷ [])))) same in
      let split : written (take (i + 1) ps) ≡ written (take i ps) + one = ap written (take_more ps i d lt) ∙ written_both (take i ps) (get_or ps i d ∷ []) in
      omega (arith, own, counted, split)

  refused_there : (k count : ℕ) (ps : List Point) (i : ℕ) (d : Point) (r : Reason) → i < length ps → first 0 k (take i ps) ≡ None → count ≡ up_to_limit (k + written (take i ps)) → why_not x count (get_or ps i d) ≡ Some r
      → first 0 k ps ≡ Some (i, r)
  refused_there k count ps i d r lt none counted is =
      let split : ps ≡ take i ps ++ (get_or ps i d ∷ drop (suc i) ps) = sym (take-append-drop i ps) ∙ ap (λ l. take i ps ++ l) (drop-cons ps i d lt) in
      let place : 0 + length (take i ps) ≡ i = (let l = length-take-le i ps (omega (arith, lt)) in omega (arith, l)) in
      ap (first 0 k) split ∙ behind_none 0 k (take i ps) (get_or ps i d ∷ drop (suc i) ps) none
      ∙ first_is (0 + length (take i ps)) (k + written (take i ps)) (get_or ps i d) (drop (suc i) ps) r (ap (λ c. why_not x c (get_or ps i d)) (sym counted) ∙ is) ∙ ap (λ j. Some (j, r)) place

  -- a writer that doesn't take a point of a view stops there
  pub refused_here : (y : Writing) (k count : ℕ) (ps : List Point) (i place before number : ℕ) (d : Point) (e : TakeErr) (r : Reason) → i < length ps → place ≡ i → number ≡ up_to_limit (before + i) → y ≡ x
      → first 0 k (take i ps) ≡ None → count ≡ up_to_limit (k + written (take i ps)) → IsUntaken (why_not y count (get_or ps i d)) e → e ≡ Refused r → IsStopBehind before (first 0 k ps) (write.Refused place number r)
  refused_here y k count ps i place before number d e r lt here at same none counted why is =
      let there : why_not x count (get_or ps i d) ≡ Some r = subst (λ z. why_not z count (get_or ps i d) ≡ Some r) same (subst (IsUntaken (why_not y count (get_or ps i d))) is why) in
      (refused_there k count ps i d r lt none counted there ∙ ap (λ j. Some (j, r)) (sym here), at ∙ ap (λ j. up_to_limit (before + j)) (sym here))

  -- a writer that stops in a view stops there on all of them
  pub stops_at : (flow : Flow Point) (v number : ℕ) (view : List Point) (e : WriteErr) → v ≤ length flow.views → view ≡ view_at flow v
      → number ≡ up_to_limit (length (all_of (take v flow.views))) → first 0 0 (all_of (take v flow.views)) ≡ None
      → IsStopBehind number (first 0 (written (all_of (take v flow.views))) view) e → IsStopAt flow v (stop_in (writing_filter x) flow) e
  stops_at flow v number view (write.Refused place m r) le is count none behind =
      let before = all_of (take v flow.views) in
      let rest = points_at flow.views flow.open_view v le in
      let n = length before in
      let split : points flow ≡ before ++ (view ++ rest.0) = rest.1 ∙ ap (λ w. before ++ (w ++ rest.0)) (sym is) in
      let there : first 0 0 (points flow) ≡ Some (0 + n + place, r) =
      ap (first 0 0) split ∙ behind_none 0 0 before (view ++ rest.0) none
      ∙ before_some (0 + n) (0 + written before) view rest.0 (0 + n + place, r) (from_some (0 + n) (0 + written before) view place r (ap (λ k. first 0 k view) (let z : 0 + written before ≡ written before = omega arith in z) ∙ behind.0)) in
      let same : 0 + n + place ≡ n + place = omega arith in
      (there ∙ ap (λ m. Some (m, r)) same, (let a = behind.1 in omega (arith, a, count)))
  stops_at flow v number view write.Failed le is count none behind = tt

  -- one that stops in none has no fault
  pub sound_all : (flow : Flow Point) (v : ℕ) (view : List Point) → length flow.views ≤ v → view ≡ view_at flow v
      → first 0 0 (all_of (take v flow.views)) ≡ None → first 0 (written (all_of (take v flow.views))) view ≡ None → stop_in (writing_filter x) flow ≡ None
  sound_all flow v view past is before none =
      let a = all_of (take v flow.views) in
      let all : a ≡ all_of flow.views = ap all_of (take_all v flow.views past) in
      let last : view ≡ flow.open_view = is ∙ get_or_past flow.views v flow.open_view past in
      let whole : points flow ≡ a ++ view = λ i. sym all i ++ sym last i in
      ap (first 0 0) whole ∙ behind_none 0 0 a view before ∙ from_any (0 + length a) (0 + written a) view (ap (λ k. first 0 k view) (let z : 0 + written a ≡ written a = omega arith in z) ∙ none)

  -- with one more view
  pub none_more : (before view : List Point) → first 0 0 before ≡ None → first 0 (written before) view ≡ None → first 0 0 (before ++ view) ≡ None
  none_more before view a b = behind_none 0 0 before view a ∙ from_any (0 + length before) (0 + written before) view (ap (λ k. first 0 k view) (let z : 0 + written before ≡ written before = omega arith in z) ∙ b)
