-- Points that are judged one after the other.
use Rattle.std.proofs.Common.{◌≡◌, ℕ, zero, suc, ◌+◌, ◌-◌, ◌^◌, ◌≤◌, Bool, true, false, cond, List, [], ◌∷◌, length, drop, Option, Some, None, refl, ap, sym, ◌∙◌, arith, add-one, length-append}
use Rattle.std.specs.Prelude.{option_map, flat_map, slice_get, Result, Ok, Err, if◌then◌else◌}
use Rattle.std.proofs.lemmas.List.Elements.{filter-append}
use Rattle.std.proofs.lemmas.Option.{none-some, same_Some}
use Rattle.cloud_points.specs.declared.dims.Dim.{Dim}
use Rattle.cloud_points.specs.declared.faults.PointFault.{PointFault}
use Rattle.cloud_points.specs.declared.point.Point.{Point}
use Rattle.cloud_points.specs.Events.{first_fault}
use Rattle.cloud_points.specs.Flows.{all_of}
use Rattle.cloud_points.specs.Queue.{up_to_limit}
use Rattle.expr_lang.specs.Formula.{Formula}
use Rattle.las_writer.specs.Records.{unplaced}
use Rattle.las_writer.specs.declared.judging.PointPlaces.{PointPlaces}
use Rattle.point_formats.specs.declared.encoding.EncodeFault.{EncodeFault}
use Rattle.point_formats.specs.declared.encoding.EncodeFault.TheVariants as encode
use Rattle.stage_meanings.specs.Conditions.{passes}
use Rattle.stage_meanings.specs.Filters.{first_from, found, is_true, point_fault, positions, refused_by}
use Rattle.stage_meanings.specs.Records.{unrecorded}
use Rattle.stage_meanings.specs.declared.reason.Reason.{Reason}
use Rattle.stage_meanings.proofs.Streams.{first-append}
use Rattle.stage_kinds.specs.Files.{chosen, reason_of_record}
use Rattle.stage_kinds.specs.Judging.{HasPassed, by_places, refused_behind, told_fault}

-- why a LAS file has no place, as a reason
pub as-reason : (b : Bool) (w : Result (List ℕ) EncodeFault) → option_map reason_of_record (unplaced b w) ≡ unrecorded b w
as-reason false w = refl
as-reason true (Ok bytes) = refl
as-reason true (Err (encode.NotHeld dim)) = refl
as-reason true (Err (encode.ValueOutOfRange dim)) = refl

pub drop-at : {A : Type 0} (xs : List A) (k : ℕ) (x : A) → slice_get xs k ≡ Some x → drop k xs ≡ x ∷ drop (k + 1) xs
drop-at xs k x e = rw add-one (go xs k e)
  where
    go : {A : Type 0} {x : A} (xs : List A) (k : ℕ) → slice_get xs k ≡ Some x → drop k xs ≡ x ∷ drop (suc k) xs
    go [] k e = absurd (none-some _ e)
    go (y ∷ xs) zero e = ap (λ z. z ∷ xs) (same_Some y _ e)
    go (y ∷ xs) (suc k) e = go xs k e

-- ---- a view

-- so far none of the points of a view is refused
pub record Judged (places : Option PointPlaces) (only : Option (Formula Dim)) (before : ℕ) (view : List Point) (k number written : ℕ) : Type 0 where
  pub few : written ≤ 2 ^ 64 - 1
  pub count : up_to_limit (written + length (chosen only (drop k view))) ≡ up_to_limit (length (chosen only view))
  pub number_is : (m : ℕ) → before ≡ up_to_limit m → number ≡ up_to_limit (m + k)
  pub so_far : (m : ℕ) → before ≡ up_to_limit m → refused_behind places only m 0 view ≡ refused_behind places only (m + k) written (drop k view)

module _ (places : Option PointPlaces) (only : Option (Formula Dim)) (before : ℕ) (view : List Point) where
  abbrev why : Point × ℕ → Option Reason
  why q = refused_by (by_places places) (passes only) q

  pub none-judged : Judged places only before view 0 before 0
  none-judged = record {
    few = omega arith;
    count = ap up_to_limit (omega arith);
    number_is = λ m e. e ∙ ap up_to_limit (omega arith);
    so_far = λ m e. ap (λ n. refused_behind places only n 0 view) (omega arith);
  }

  module _ (k number written : ℕ) (p : Point) (now : Judged places only before view k number written) (at : slice_get view k ≡ Some p) where
    abbrev rest : List Point
    rest = drop (k + 1) view

    abbrev next_written : ℕ
    next_written = if is_true (passes only p) then up_to_limit (written + 1) else written

    here : (m : ℕ) → refused_behind places only (m + k) written (drop k view) ≡ found (m + k) (why (p, written)) (refused_behind places only (m + k + 1) next_written rest)
    here m = ap (refused_behind places only (m + k) written) (drop-at view k p at)

    -- the next one is refused
    pub judged-stops : (r : Reason) → why (p, written) ≡ Some r → (m : ℕ) → before ≡ up_to_limit m → option_map told_fault (refused_behind places only m 0 view) ≡ Some (point_fault number r)
    judged-stops r refused m e =
        ap (option_map told_fault) (now.so_far m e ∙ here m ∙ ap (λ o. found (m + k) o (refused_behind places only (m + k + 1) next_written rest)) refused)
        ∙ ap (λ n. Some (point_fault n r)) (sym (now.number_is m e))

    -- it isn't, and is to be written or not
    pub judged-more : (b : Bool) (next : ℕ) → is_true (passes only p) ≡ b → next ≡ (if b then up_to_limit (written + 1) else written) → why (p, written) ≡ None
        → Judged places only before view (k + 1) (up_to_limit (number + 1)) next
    judged-more b next chooses is fine = record {
      few = ap-few b is;
      count = counted b chooses is ∙ ap (λ qs. up_to_limit (written + length (chosen only qs))) (sym (drop-at view k p at)) ∙ now.count;
      number_is = λ m e. (let n = now.number_is m e in omega (arith, n));
      so_far = λ m e. now.so_far m e ∙ here m ∙ ap (λ o. found (m + k) o (refused_behind places only (m + k + 1) next_written rest)) fine
          ∙ ap (λ w. refused_behind places only (m + k + 1) w rest) (ap (λ c. if c then up_to_limit (written + 1) else written) chooses ∙ sym is)
          ∙ ap (λ n. refused_behind places only n next rest) (omega arith);
    }
      where
        ap-few : (b : Bool) → next ≡ (if b then up_to_limit (written + 1) else written) → next ≤ 2 ^ 64 - 1
        ap-few true e = omega (arith, e)
        ap-few false e = let f = now.few in omega (arith, e, f)

        counted : (b : Bool) → is_true (passes only p) ≡ b → next ≡ (if b then up_to_limit (written + 1) else written)
            → up_to_limit (next + length (chosen only rest)) ≡ up_to_limit (written + length (chosen only (p ∷ rest)))
        counted true c e = let q : length (chosen only (p ∷ rest)) ≡ suc (length (chosen only rest)) = ap (λ z. length (cond z (p ∷ chosen only rest) (chosen only rest))) c in omega (arith, e, q)
        counted false c e = let q : length (chosen only (p ∷ rest)) ≡ length (chosen only rest) = ap (λ z. length (cond z (p ∷ chosen only rest) (chosen only rest))) c in omega (arith, e, q)

  -- all were judged
  pub all-judged : (k number written : ℕ) → k ≡ length view → Judged places only before view k number written → (m : ℕ) → before ≡ up_to_limit m → HasPassed places only m view number written
  all-judged k number written all now m e = record {
    none = now.so_far m e ∙ ap (refused_behind places only (m + k) written) nothing;
    next = now.number_is m e ∙ ap (λ n. up_to_limit (m + n)) all;
    count = (let f = now.few in let c = ap (λ qs. up_to_limit (written + length (chosen only qs))) (sym nothing) ∙ now.count in omega (arith, f, c));
  }
    where
      nothing : drop k view ≡ []
      nothing = ap (λ n. drop n view) all ∙ past view
        where
          past : (xs : List Point) → drop (length xs) xs ≡ []
          past [] = refl
          past (x ∷ xs) = past xs

-- ---- all views

length-positions : {P : Type 0} (passing : P → Bool) (k : ℕ) (ps : List P) → length (positions passing k ps) ≡ length ps
length-positions passing k [] = refl
length-positions passing k (p ∷ ps) = ap suc (length-positions passing (if passing p then up_to_limit (k + 1) else k) ps)

-- so far none of the points of the views is refused
pub record AllJudged (places : Option PointPlaces) (only : Option (Formula Dim)) (views : List (List Point)) (v number wrote : ℕ) : Type 0 where
  pub behind : ℕ
  pub few : wrote ≤ 2 ^ 64 - 1
  pub number_is : number ≡ up_to_limit behind
  pub count : up_to_limit (wrote + length (chosen only (all_of (drop v views)))) ≡ up_to_limit (length (chosen only (all_of views)))
  pub so_far : first_from (refused_by (by_places places) (passes only)) 0 (flat_map (positions (λ p. is_true (passes only p)) 0) views)
      ≡ first_from (refused_by (by_places places) (passes only)) behind (flat_map (positions (λ p. is_true (passes only p)) 0) (drop v views))

module _ (places : Option PointPlaces) (only : Option (Formula Dim)) (views : List (List Point)) where
  abbrev each : List (List Point) → List (Point × ℕ)
  each vs = flat_map (positions (λ p. is_true (passes only p)) 0) vs

  abbrev first : ℕ → List (Point × ℕ) → Option (ℕ × Reason)
  first n qs = first_from (refused_by (by_places places) (passes only)) n qs

  pub no-view-judged : AllJudged places only views 0 0 0
  no-view-judged = record { behind = 0; few = omega arith; number_is = refl; count = ap up_to_limit (omega arith); so_far = refl }

  module _ (v number wrote : ℕ) (view : List Point) (now : AllJudged places only views v number wrote) (at : slice_get views v ≡ Some view) where
    split : first now.behind (each (drop v views)) ≡ first_fault (refused_behind places only now.behind 0 view) (first (now.behind + length view) (each (drop (v + 1) views)))
    split =
        ap (λ vs. first now.behind (each vs)) (drop-at views v view at)
        ∙ first-append (refused_by (by_places places) (passes only)) now.behind (positions (λ p. is_true (passes only p)) 0 view) (each (drop (v + 1) views))
        ∙ ap (λ n. first_fault (refused_behind places only now.behind 0 view) (first (now.behind + n) (each (drop (v + 1) views)))) (length-positions (λ p. is_true (passes only p)) 0 view)

    -- one of the next view is
    pub view-stops : (f : PointFault) → ((m : ℕ) → number ≡ up_to_limit m → option_map told_fault (refused_behind places only m 0 view) ≡ Some f)
        → option_map told_fault (first 0 (each views)) ≡ Some f
    view-stops f stops = ap (option_map told_fault) (now.so_far ∙ split) ∙ go (refused_behind places only now.behind 0 view) (stops now.behind now.number_is)
      where
        go : (o : Option (ℕ × Reason)) → option_map told_fault o ≡ Some f → option_map told_fault (first_fault o (first (now.behind + length view) (each (drop (v + 1) views)))) ≡ Some f
        go None e = absurd (none-some f e)
        go (Some s) e = e

    -- none is
    pub view-passes : (next written : ℕ) → ((m : ℕ) → number ≡ up_to_limit m → HasPassed places only m view next written) → AllJudged places only views (v + 1) next (up_to_limit (wrote + written))
    view-passes next written passed =
        let p = passed now.behind now.number_is in
        record {
          behind = now.behind + length view;
          few = omega arith;
          number_is = p.next;
          count = (
              let a = p.count in
              let b : length (chosen only (all_of (drop v views))) ≡ length (chosen only view) + length (chosen only (all_of (drop (v + 1) views))) =
              ap (λ vs. length (chosen only (all_of vs))) (drop-at views v view at) ∙ ap (λ qs. length qs) (filter-append (λ q. is_true (passes only q)) view (all_of (drop (v + 1) views)))
              ∙ length-append (chosen only view) (chosen only (all_of (drop (v + 1) views))) in
              let c = now.count in
              omega (arith, a, b, c));
          so_far = now.so_far ∙ split ∙ ap (λ o. first_fault o (first (now.behind + length view) (each (drop (v + 1) views)))) p.none;
        }

  module _ (v number wrote : ℕ) (all : v ≡ length views) (now : AllJudged places only views v number wrote) where
    nothing : drop v views ≡ []
    nothing = ap (λ n. drop n views) all ∙ past views
      where
        past : (xs : List (List Point)) → drop (length xs) xs ≡ []
        past [] = refl
        past (x ∷ xs) = past xs

    pub none-stops : first 0 (each views) ≡ None
    none-stops = now.so_far ∙ ap (λ vs. first now.behind (each vs)) nothing

    pub all-counted : wrote ≡ up_to_limit (length (chosen only (all_of views)))
    all-counted = let f = now.few in let c = ap (λ vs. up_to_limit (wrote + length (chosen only (all_of vs)))) (sym nothing) ∙ now.count in omega (arith, f, c)
