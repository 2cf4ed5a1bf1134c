-- The points that a writer puts together, and where it stops.
use Rattle.std.proofs.Common.{◌≡◌, ℕ, ◌+◌, ◌<◌, ◌≤◌, Bool, true, false, not, ◌||◌, ◌&&◌, cond, nat_lt, List, [], ◌∷◌, ◌++◌, length, take, Option, Some, None, is_some, refl, ap, sym, ◌∙◌, true≢false, inl, inr, drop, length-take, length-append, eq-eqb, arith}
use Rattle.std.specs.Prelude.{◌==◌, filter, option_map, Result, Ok, Err}
use Rattle.std.proofs.lemmas.Bool.{lt-ltb, le-ltb, ltb-true, ltb-false}
use Rattle.std.proofs.lemmas.Bool.Decides.{eqb_tells}
use Rattle.std.proofs.lemmas.List.{take-append-drop}
use Rattle.std.proofs.lemmas.List.Elements.{filter-append}
use Rattle.cloud_points.specs.declared.dims.Dim.{Dim}
use Rattle.cloud_points.specs.declared.point.Point.{Point}
use Rattle.cloud_points.specs.Events.{first_fault}
use Rattle.cloud_points.specs.Queue.{up_to_limit}
use Rattle.expr_lang.specs.Formula.{Formula}
use Rattle.forward_rules.specs.declared.form.LasForm.{LasForm}
use Rattle.las_writer.specs.Records.{fits, written, unplaced, refused_or, refusal_from, refusal}
use Rattle.las_writer.specs.declared.faults.RecordFault.{RecordFault}
use Rattle.point_formats.specs.declared.encoding.EncodeFault.{EncodeFault}
use Rattle.point_formats.specs.declared.encoding.EncodeFault.TheVariants as encode
use Rattle.stage_meanings.proofs.Admits.{refused_within, refused_append, refused_anyhow, none_before}
use Rattle.stage_meanings.proofs.Choosing.{none_refused as chosen_none, one_refused as chosen_one, none_of_chosen}
use Rattle.stage_meanings.specs.Conditions.{passes}
use Rattle.stage_meanings.specs.Filters.{found, first_refused, first_unjudged, if_passing, is_true, points_before}
use Rattle.stage_meanings.specs.Places.{IsPlaceOf}
use Rattle.stage_meanings.specs.Records.{unrecorded}
use Rattle.stage_meanings.specs.declared.reason.Reason.{Reason}
use Rattle.text_writer.specs.declared.form.TextForm.{TextForm}
use Rattle.stage_kinds.specs.declared.file_form.FileForm.{FileForm}
use Rattle.stage_kinds.specs.declared.file_form.FileForm.TheVariants as form
use Rattle.stage_kinds.specs.declared.file_form.Writing.{Writing as Writes}
use Rattle.stage_kinds.specs.declared.writer_stage.WriterStage.{WriterStage}
use Rattle.stage_kinds.specs.Files.{all, chosen, count_of, file_holds, first_unwritten, reason_of_record, unwritten}
use Rattle.stage_kinds.specs.Stages.{first_stop, holds_chosen, only_of, stops_nowhere, stops_somewhere, writes_of}

-- ---- points without a place in a file

-- in a file of text each has one
none_in_text_from : (f : TextForm) (n k : ℕ) (ps : List Point) → first_refused (unwritten (form.Text f)) all n k ps ≡ None
none_in_text_from f n k [] = refl
none_in_text_from f n k (p ∷ ps) = none_in_text_from f (n + 1) (up_to_limit (k + 1)) ps

pub none_in_text : (f : TextForm) (k : ℕ) (ps : List Point) → first_unwritten (form.Text f) k ps ≡ None
none_in_text f k ps = none_in_text_from f 0 k ps

-- a count that stands at the greatest u64 is above all that a file may count
fits_same : (f : LasForm) (i j : ℕ) → up_to_limit i ≡ up_to_limit j → fits f i ≡ fits f j
fits_same f i j e = ap (λ b. not (((f.minor == 2) || (f.minor == 3)) && b)) (go (nat_lt 4294967295 (j + 1)) refl)
  where
    go : (b : Bool) → nat_lt 4294967295 (j + 1) ≡ b → nat_lt 4294967295 (i + 1) ≡ nat_lt 4294967295 (j + 1)
    go true w = let far : 4294967295 < j + 1 = ltb-true 4294967295 (j + 1) w in lt-ltb 4294967295 (i + 1) (omega (arith, far, e)) ∙ sym w
    go false w = let near : j + 1 ≤ 4294967295 = ltb-false 4294967295 (j + 1) w in le-ltb 4294967295 (i + 1) (omega (arith, near, e)) ∙ sym w

-- in a LAS file the one of a refusal has none
abbrev reason_for : ℕ × RecordFault → ℕ × Reason
reason_for r = (r.0, reason_of_record r.1)

as_found : (n : ℕ) (b : Bool) (w : Result (List ℕ) EncodeFault) (later : Option (ℕ × Reason)) (other : Option (ℕ × RecordFault)) → later ≡ option_map reason_for other
    → found n (unrecorded b w) later ≡ option_map reason_for (refused_or n (unplaced b w) other)
as_found n false w later other e = refl
as_found n true (Ok bytes) later other e = e
as_found n true (Err (encode.NotHeld dim)) later other e = refl
as_found n true (Err (encode.ValueOutOfRange dim)) later other e = refl

as_refused : (f : LasForm) (k n q : ℕ) (ps : List Point) → up_to_limit q ≡ up_to_limit (k + n) → first_refused (unwritten (form.Las f)) all n q ps ≡ option_map reason_for (refusal_from f k n ps)
as_refused f k n q [] e = refl
as_refused f k n q (p ∷ ps) e =
    ap (λ b. found n (unrecorded b (written f p)) (first_refused (unwritten (form.Las f)) all (n + 1) (up_to_limit (q + 1)) ps)) (fits_same f q (k + n) e)
    ∙ as_found n (fits f (k + n)) (written f p) (first_refused (unwritten (form.Las f)) all (n + 1) (up_to_limit (q + 1)) ps) (refusal_from f k (n + 1) ps)
    (as_refused f k (n + 1) (up_to_limit (q + 1)) ps (omega (arith, e)))

as_refusal : (f : LasForm) (k : ℕ) (ps : List Point) → first_unwritten (form.Las f) k ps ≡ option_map reason_for (refusal f k ps)
as_refusal f k ps = as_refused f k 0 k ps (ap up_to_limit (omega arith))

pub none_refused : (f : LasForm) (k : ℕ) (ps : List Point) → refusal f k ps ≡ None → first_unwritten (form.Las f) k ps ≡ None
none_refused f k ps e = as_refusal f k ps ∙ ap (option_map reason_for) e

pub one_refused : (f : LasForm) (k : ℕ) (ps : List Point) (at : ℕ) (fault : RecordFault) → refusal f k ps ≡ Some (at, fault) → first_unwritten (form.Las f) k ps ≡ Some (at, reason_of_record fault)
one_refused f k ps at fault e = as_refusal f k ps ∙ ap (option_map reason_for) e

pub refused_none : (f : LasForm) (k : ℕ) (ps : List Point) → first_unwritten (form.Las f) k ps ≡ None → refusal f k ps ≡ None
refused_none f k ps e = back (refusal f k ps) (sym (as_refusal f k ps) ∙ e)
  where
    back : (o : Option (ℕ × RecordFault)) → option_map reason_for o ≡ None → o ≡ None
    back None e = refl
    back (Some r) e = absurd cc

-- the place of the first one is one of theirs, and those before it have theirs
pub unwritten_within : (f : FileForm) (k : ℕ) (ps : List Point) (at : ℕ) (r : Reason) → first_unwritten f k ps ≡ Some (at, r) → at < length ps
unwritten_within f k ps at r e = let high = (refused_within (unwritten f) all 0 k ps at r e).1 in omega (arith, high)

pub none_unwritten_before : (f : FileForm) (k : ℕ) (ps : List Point) (at : ℕ) (r : Reason) → first_unwritten f k ps ≡ Some (at, r) → first_unwritten f k (take at ps) ≡ None
none_unwritten_before f k ps at r e = none_before (unwritten f) all k ps at r e

-- ---- points that are chosen

-- without a `where` all are
every_kept : (ps : List Point) → filter (λ p. true) ps ≡ ps
every_kept [] = refl
every_kept (p ∷ ps) = ap (λ z. p ∷ z) (every_kept ps)

pub all_chosen : (only : Option (Formula Dim)) (ps : List Point) → only ≡ None → chosen only ps ≡ ps
all_chosen only ps e = ap (λ o. chosen o ps) e ∙ every_kept ps

pub all_stop : (x : Writes) (k : ℕ) (ps : List Point) → x.only ≡ None → first_unwritten x.form k ps ≡ first_stop x k ps
all_stop x k ps e = ap (λ o. first_refused (unwritten x.form) (passes o) 0 k ps) (sym e)

-- where a writer stops nowhere, each that is chosen has its place
pub unlike : (b : Bool) → not b ≡ true → b ≡ false
unlike false e = refl
unlike true e = absurd cc

pub is_none : {A : Type 0} (o : Option A) → is_some o ≡ false → o ≡ None
is_none None e = refl
is_none (Some x) e = absurd cc

pub all_placed : (x : Writes) (ps : List Point) → stops_nowhere x ps ≡ true → first_unwritten x.form 0 (chosen x.only ps) ≡ None
all_placed x ps e = none_of_chosen (unwritten x.form) (passes x.only) 0 ps (is_none (first_stop x 0 ps) (unlike (stops_somewhere x ps) e))

-- ---- what a writer holds

pub record Held {K : Type 0} (bytes : K → Option (List ℕ)) (w : WriterStage K) (ps : List Point) : Type 0 where
  pub counted : count_of w.file ≡ up_to_limit (length (chosen (only_of w) ps))
  pub holds : file_holds bytes w.file (chosen (only_of w) ps) ≡ true

pub held : {K : Type 0} (bytes : K → Option (List ℕ)) (w : WriterStage K) (ps : List Point) → holds_chosen bytes w ps ≡ true → stops_somewhere (writes_of w) ps ≡ false → Held bytes w ps
held bytes w ps h nowhere = record { counted = same _ _ (first _ _ both); holds = second _ _ both }
  where
    first : (a b : Bool) → a && b ≡ true → a ≡ true
    first true b e = refl
    first false b e = e

    second : (a b : Bool) → a && b ≡ true → b ≡ true
    second true b e = e
    second false b e = absurd cc

    same : (a b : ℕ) → a == b ≡ true → a ≡ b
    same a b e = elim (eqb_tells a b) [ inl p ↦ p.1 | inr p ↦ absurd (true≢false (sym e ∙ p.0)) ]

    both : (count_of w.file == up_to_limit (length (chosen (only_of w) ps))) && file_holds bytes w.file (chosen (only_of w) ps) ≡ true
    both = ap (λ b. b || ((count_of w.file == up_to_limit (length (chosen (only_of w) ps))) && file_holds bytes w.file (chosen (only_of w) ps))) (sym nowhere) ∙ h

pub all_held : {K : Type 0} (bytes : K → Option (List ℕ)) (w : WriterStage K) (ps : List Point) → holds_chosen bytes w ps ≡ true → stops_nowhere (writes_of w) ps ≡ true
    → file_holds bytes w.file (chosen (only_of w) ps) ≡ true
all_held bytes w ps h nowhere = (held bytes w ps h (unlike (stops_somewhere (writes_of w) ps) nowhere)).holds

-- it stops somewhere among more points, where it does among those before or, behind those, among the others
stops_more : (x : Writes) (before ps : List Point) (s : ℕ × Reason) → first_stop x (up_to_limit (length (chosen x.only before))) ps ≡ Some s → stops_somewhere x (before ++ ps) ≡ true
stops_more x before ps s e =
    ap is_some (refused_append (unwritten x.form) (passes x.only) 0 0 before ps) ∙ go (first_stop x 0 before)
  where
    behind : Option (ℕ × Reason)
    behind = first_refused (unwritten x.form) (passes x.only) (0 + length before) (up_to_limit (0 + length (chosen x.only before))) ps

    stops : is_some behind ≡ true
    stops = refused_anyhow (unwritten x.form) (passes x.only) (0 + length before) 0 (up_to_limit (0 + length (chosen x.only before))) ps
        ∙ ap (λ k. is_some (first_stop x k ps)) (ap up_to_limit (omega arith)) ∙ ap is_some e

    go : (o : Option (ℕ × Reason)) → is_some (first_fault o behind) ≡ true
    go (Some r) = refl
    go None = stops

stops_before : (x : Writes) (before ps : List Point) → stops_somewhere x before ≡ true → stops_somewhere x (before ++ ps) ≡ true
stops_before x before ps e =
    ap is_some (refused_append (unwritten x.form) (passes x.only) 0 0 before ps) ∙ go (first_stop x 0 before) e
  where
    go : (o : Option (ℕ × Reason)) → is_some o ≡ true
        → is_some (first_fault o (first_refused (unwritten x.form) (passes x.only) (0 + length before) (up_to_limit (0 + length (chosen x.only before))) ps)) ≡ true
    go (Some r) e = refl
    go None e = absurd cc

-- what a writer `v` holds then, that wrote more points behind those that `w` wrote, up to the first at which it stops
pub holds_more : {K : Type 0} (bytes : K → Option (List ℕ)) (w v : WriterStage K) (before ps : List Point) (stop : Option (ℕ × Reason)) → writes_of v ≡ writes_of w
    → stop ≡ first_stop (writes_of w) (count_of w.file) ps
    → count_of v.file ≡ up_to_limit (count_of w.file + length (chosen (only_of w) (points_before stop ps)))
    → (stop ≡ None → file_holds bytes w.file (chosen (only_of w) before) ≡ true → file_holds bytes v.file (chosen (only_of w) before ++ chosen (only_of w) ps) ≡ true)
    → holds_chosen bytes w before ≡ true → holds_chosen bytes v (before ++ ps) ≡ true
holds_more {K} bytes w v before ps stop same is counts holds h = go (stops_somewhere (writes_of w) before) refl
  where
    qs : List Point
    qs = before ++ ps

    by_stop : stops_somewhere (writes_of w) (before ++ ps) ≡ true → holds_chosen bytes v (before ++ ps) ≡ true
    by_stop e = ap (λ b. b || ((count_of v.file == up_to_limit (length (chosen (only_of v) (before ++ ps)))) && file_holds bytes v.file (chosen (only_of v) (before ++ ps))))
        (ap (λ (x : Writes). stops_somewhere x (before ++ ps)) same ∙ e)

    or_true : (a b : Bool) → b ≡ true → a || b ≡ true
    or_true true b e = refl
    or_true false b e = e

    both_true : (a b : Bool) → a ≡ true → b ≡ true → a && b ≡ true
    both_true true b e f = f
    both_true false b e f = absurd cc

    together : chosen (only_of w) (before ++ ps) ≡ chosen (only_of w) before ++ chosen (only_of w) ps
    together = filter-append (λ p. is_true (passes (only_of w) p)) before ps

    only_same : only_of v ≡ only_of w
    only_same = ap (λ (x : Writes). x.only) same

    by_stops : Held bytes w before → (o : Option (ℕ × Reason)) → stop ≡ o → holds_chosen bytes v (before ++ ps) ≡ true
    by_stops before_held (Some s) e = by_stop (stops_more (writes_of w) before ps s (ap (λ k. first_stop (writes_of w) k ps) (sym before_held.counted) ∙ sym is ∙ e))
    by_stops before_held None e = or_true _ _ (both_true _ _
        (eq-eqb (count_of v.file) (up_to_limit (length (chosen (only_of v) (before ++ ps))))
        (counts ∙ ap (λ o. up_to_limit (count_of w.file + length (chosen (only_of w) (points_before o ps)))) e
        ∙ ap (λ k. up_to_limit (k + length (chosen (only_of w) ps))) before_held.counted
        ∙ joined (length (chosen (only_of w) before)) (length (chosen (only_of w) ps))
        ∙ ap up_to_limit (sym (length-append (chosen (only_of w) before) (chosen (only_of w) ps)) ∙ ap (λ rs. length rs) (sym together))
        ∙ ap (λ o. up_to_limit (length (chosen o (before ++ ps)))) (sym only_same)))
        (ap (file_holds bytes v.file) (ap (λ o. chosen o (before ++ ps)) only_same ∙ together) ∙ holds e before_held.holds))
      where
        joined : (i j : ℕ) → up_to_limit (up_to_limit i + j) ≡ up_to_limit (i + j)
        joined i j = omega arith

    go : (b : Bool) → stops_somewhere (writes_of w) before ≡ b → holds_chosen bytes v (before ++ ps) ≡ true
    go true e = by_stop (stops_before (writes_of w) before ps e)
    go false e = by_stops (held bytes w before h e) stop refl

pub same_writes : (f g : FileForm) (a b : Option (Formula Dim)) → f ≡ g → a ≡ b → ◌≡◌ {A = Writes} (record { form = f; only = a }) (record { form = g; only = b })
same_writes f g a b e h = cc

-- ---- the chosen points of a chunk

-- none of them is refused
pub chosen_stop : (x : Writes) (k : ℕ) (ps chosen_ones : List Point) (unjudged : Option (ℕ × Reason)) → unjudged ≡ first_unjudged (passes x.only) 0 ps
    → chosen_ones ≡ chosen x.only (points_before unjudged ps) → first_unwritten x.form k chosen_ones ≡ None → unjudged ≡ first_stop x k ps
chosen_stop x k ps chosen_ones unjudged is are none = is ∙ sym (chosen_none (unwritten x.form) (passes x.only) k ps
    (ap (λ o. first_unwritten x.form k (chosen x.only (points_before o ps))) (sym is) ∙ ap (first_unwritten x.form k) (sym are) ∙ none))

-- one of them is, which has a place among all
pub chosen_refused : (x : Writes) (k : ℕ) (ps chosen_ones : List Point) (unjudged : Option (ℕ × Reason)) (j at : ℕ) (r : Reason) → unjudged ≡ first_unjudged (passes x.only) 0 ps
    → chosen_ones ≡ chosen x.only (points_before unjudged ps) → first_unwritten x.form k chosen_ones ≡ Some (j, r) → IsPlaceOf (λ p. is_true (passes x.only p)) ps j at
    → Some (at, r) ≡ first_stop x k ps
chosen_refused x k ps chosen_ones unjudged j at r is are one there = sym (chosen_one (unwritten x.form) (passes x.only) k ps j at r
    (ap (λ o. first_unwritten x.form k (chosen x.only (points_before o ps))) (sym is) ∙ ap (first_unwritten x.form k) (sym are) ∙ one) there)

-- so many of them were put
take_fewer : (f : Point → Bool) (at : ℕ) (ps : List Point) → length (filter f (take at ps)) ≤ length (filter f ps)
take_fewer f at ps = let e = ap (λ qs. length qs) (sym (filter-append f (take at ps) (drop at ps)) ∙ ap (filter f) (take-append-drop at ps)) in
    let both = length-append (filter f (take at ps)) (filter f (drop at ps)) in omega (arith, e, both)

pub before_fewer : (f : Point → Bool) (o : Option (ℕ × Reason)) (ps : List Point) → length (filter f (points_before o ps)) ≤ length (filter f ps)
before_fewer f None ps = omega arith
before_fewer f (Some s) ps = take_fewer f s.0 ps

pub put_before : (x : Writes) (k : ℕ) (ps qs : List Point) (j at : ℕ) (r : Reason) → first_unwritten x.form k qs ≡ Some (j, r) → IsPlaceOf (λ p. is_true (passes x.only p)) ps j at
    → length (take j qs) ≡ length (chosen x.only (take at ps))
put_before x k ps qs j at r one there = let inside = unwritten_within x.form k qs j r one in length-take j qs ∙ omega (arith, inside) ∙ sym there.before

-- ---- one point

pub one_chosen : (only : Option (Formula Dim)) (p : Point) (b : Bool) → passes only p ≡ Ok b → chosen only (p ∷ []) ≡ cond b (p ∷ []) []
one_chosen only p b e = ap (λ r. cond (is_true r) (p ∷ []) []) e

pub one_stop : (x : Writes) (k : ℕ) (p : Point) (b : Bool) → passes x.only p ≡ Ok b → (b ≡ true → first_unwritten x.form k (p ∷ []) ≡ None) → None ≡ first_stop x k (p ∷ [])
one_stop x k p b e none = sym (ap (λ r. found 0 (if_passing r (unwritten x.form k p)) None) e ∙ go b none)
  where
    go : (b : Bool) → (b ≡ true → first_unwritten x.form k (p ∷ []) ≡ None) → found 0 (if_passing (Ok b) (unwritten x.form k p)) None ≡ None
    go true none = none refl
    go false none = refl
