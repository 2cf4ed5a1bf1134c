-- What works put back into a caller's places stands there.
use Rattle.std.proofs.Common.{◌≡◌, ℕ, zero, suc, ◌<◌, List, [], ◌∷◌, length, slice_get, set, Option, Some, None, Result, Ok, Err, OnOk, refl, ap, sym, ◌∙◌, arith, length-set}
use Rattle.std.specs.Prelude.{fold}
use Rattle.std.proofs.lemmas.List.{get_or-set_same}
use Rattle.std.proofs.lemmas.Option.{none-some, same_Some}
use Rattle.held_devices.specs.Handing.{with_filter, with_tally}
use Rattle.plug_stages.proofs.Placing.{at_other}
use Rattle.plug_stages.specs.Handed.{at_place}
use Rattle.plug_stages.specs.declared.filter.PlugFilter as plug_type
use Rattle.plug_stages.specs.declared.places.Places.{Places}
use Rattle.plug_stages.specs.declared.tally.PlugTally as tally_type
use Rattle.stage_forms.specs.Later.{AreLater}
use Rattle.stage_kinds.specs.Held.{HoldsSame, filter_in, held_by, op_of, tally_in}
use Rattle.stage_kinds.specs.Stages.{keeps_of}
use Rattle.stage_kinds.specs.declared.held.Held.{Held}
use Rattle.stage_kinds.specs.declared.held.Held.TheVariants.{Nothing}
use Rattle.stage_kinds.specs.declared.stage_work.StageWork.{StageWork}
use Rattle.stage_kinds.specs.declared.stage_work.StageWork.TheVariants.{Reader, Filter, Plug, Tally, Collector, Views, ViewFiles, Writer}
use Rattle.run_ending.specs.Putting.{ArePut}

-- ---- of a call that is the last one

pub always : {R E : Type 0} (o : Result R E) {P : Type 0} → P → OnOk o P
always (Ok r) p = p
always (Err e) p = tt

-- ---- what is held stays where views are taken

module _ {S K P Q : Type 0} (fs : plug_type.Ghosts P) (ts : tally_type.Ghosts Q) where
  holds-nothing : (w : StageWork S K P Q) → op_of w ≡ None → filter_in fs w ≡ None → tally_in ts w ≡ None → held_by w ≡ Nothing
  holds-nothing (Reader r) op filter tally = absurd (none-some _ (sym op))
  holds-nothing (Writer v) op filter tally = absurd (none-some _ (sym op))
  holds-nothing (Plug v) op filter tally = absurd (none-some _ (sym filter))
  holds-nothing (Tally v) op filter tally = absurd (none-some _ (sym tally))
  holds-nothing (Filter f) op filter tally = refl
  holds-nothing (Collector c) op filter tally = refl
  holds-nothing (Views h) op filter tally = refl
  holds-nothing (ViewFiles t) op filter tally = refl

  held-same : (v w : StageWork S K P Q) → (keeps_of v ≡ None → w ≡ v) → op_of w ≡ op_of v → HoldsSame fs ts v w → held_by w ≡ held_by v
  held-same (ViewFiles t) w stays op holds = holds-nothing w op holds.0 holds.1
  held-same (Reader r) w stays op holds = ap held_by (stays refl)
  held-same (Filter f) w stays op holds = ap held_by (stays refl)
  held-same (Plug v) w stays op holds = ap held_by (stays refl)
  held-same (Tally v) w stays op holds = ap held_by (stays refl)
  held-same (Collector c) w stays op holds = ap held_by (stays refl)
  held-same (Views h) w stays op holds = ap held_by (stays refl)
  held-same (Writer v) w stays op holds = ap held_by (stays refl)

  folded-same : {A : Type 0} (put : Held S K P Q → A → A) (xs ys : List (StageWork S K P Q)) → length ys ≡ length xs
      → ((i : ℕ) (v w : StageWork S K P Q) → slice_get xs i ≡ Some v → slice_get ys i ≡ Some w → held_by w ≡ held_by v)
      → (a : A) → fold (λ now w. put (held_by w) now) a ys ≡ fold (λ now w. put (held_by w) now) a xs
  folded-same put [] [] e same a = refl
  folded-same put [] (y ∷ ys) e same a = absurd (omega (arith, e))
  folded-same put (x ∷ xs) [] e same a = absurd (omega (arith, e))
  folded-same put (x ∷ xs) (y ∷ ys) e same a = ap (λ h. fold (λ now w. put (held_by w) now) (put h a) ys) (same 0 x y refl refl)
      ∙ folded-same put xs ys (omega (arith, e)) (λ i. same (suc i)) (put (held_by x) a)

  pub put-same : (faults : StageWork S K P Q → ℕ) (old new : List (StageWork S K P Q)) → AreLater fs ts faults old new
      → ((i : ℕ) (w : StageWork S K P Q) → slice_get old i ≡ Some w → keeps_of w ≡ None → slice_get new i ≡ Some w)
      → {before after : Places P Q} → ArePut new before after → ArePut old before after
  put-same faults old new later others {before} put = record {
    filters = put.filters ∙ folded-same with_filter old new later.count each before.filters.items;
    tallies = put.tallies ∙ folded-same with_tally old new later.count each before.tallies.items;
  }
    where
      each : (i : ℕ) (v w : StageWork S K P Q) → slice_get old i ≡ Some v → slice_get new i ≡ Some w → held_by w ≡ held_by v
      each i v w e f = held-same v w (λ none. same_Some w v (sym f ∙ others i v e none)) (later.op i v w e f) (later.same i v w e f)

-- ---- what is put back stays

abbrev pub placed : {X : Type 0} → Option (X × ℕ) → List (Option X) → List (Option X)
placed None places = places
placed (Some o) places = set places o.1 (Some o.0)

-- by what each puts, and where
module _ {A X : Type 0} (out : A → Option (X × ℕ)) (put : A → List (Option X) → List (Option X)) (is : (a : A) (places : List (Option X)) → put a places ≡ placed (out a) places) where
  stays : (xs : List A) (places : List (Option X)) (at : ℕ) → ((j : ℕ) (b : A) (x : X) → slice_get xs j ≡ Some b → out b ≡ Some (x, at) → ⊥)
      → at_place (fold (λ now b. put b now) places xs) at ≡ at_place places at
  stays [] places at none = refl
  stays (a ∷ xs) places at none = stays xs (put a places) at (λ j. none (suc j)) ∙ ap (λ now. at_place now at) (is a places) ∙ one (out a) refl
    where
      one : (o : Option (X × ℕ)) → out a ≡ o → at_place (placed o places) at ≡ at_place places at
      one None e = refl
      one (Some o) e = at_other places at o.1 (Some o.0) (λ same. none 0 a o.0 refl (e ∙ ap (λ k. Some (o.0, k)) (sym same)))

  length-put : (a : A) (places : List (Option X)) → length (put a places) ≡ length places
  length-put a places = ap length (is a places) ∙ one (out a)
    where
      one : (o : Option (X × ℕ)) → length (placed o places) ≡ length places
      one None = refl
      one (Some o) = length-set places o.1 (Some o.0)

  -- where nothing else is put into its place, it stands there
  pub there : (xs : List A) (places : List (Option X)) (i : ℕ) (a : A) (x : X) (at : ℕ) → slice_get xs i ≡ Some a → out a ≡ Some (x, at)
      → ((j : ℕ) (b : A) (y : X) → slice_get xs j ≡ Some b → out b ≡ Some (y, at) → j ≡ i) → at < length places
      → at_place (fold (λ now b. put b now) places xs) at ≡ Some x
  there [] places i a x at e puts apart inside = absurd (none-some a e)
  there (b ∷ xs) places zero a x at e puts apart inside =
      stays xs (put b places) at (λ j c y f o. absurd (let z = apart (suc j) c y f o in omega (arith, z)))
      ∙ ap (λ now. at_place now at) (is b places ∙ ap (λ o. placed o places) (ap out (same_Some b a e) ∙ puts))
      ∙ get_or-set_same places at (Some x) None inside
  there (b ∷ xs) places (suc i) a x at e puts apart inside =
      there xs (put b places) i a x at e puts (λ j c y f o. (let z = apart (suc j) c y f o in omega (arith, z)))
      (let l = length-put b places in omega (arith, l, inside))

module _ {S K P Q : Type 0} where
  abbrev pub filter-out : StageWork S K P Q → Option (P × ℕ)
  filter-out (Plug w) = Some (w.plug, w.place)
  filter-out _ = None

  pub puts-filter : (w : StageWork S K P Q) (places : List (Option P)) → with_filter (held_by w) places ≡ placed (filter-out w) places
  puts-filter (Reader r) places = refl
  puts-filter (Filter f) places = refl
  puts-filter (Plug v) places = refl
  puts-filter (Tally v) places = refl
  puts-filter (Collector c) places = refl
  puts-filter (Views h) places = refl
  puts-filter (ViewFiles t) places = refl
  puts-filter (Writer v) places = refl

  abbrev pub tally-out : StageWork S K P Q → Option (Q × ℕ)
  tally-out (Tally w) = Some (w.tally, w.place)
  tally-out _ = None

  pub puts-tally : (w : StageWork S K P Q) (places : List (Option Q)) → with_tally (held_by w) places ≡ placed (tally-out w) places
  puts-tally (Reader r) places = refl
  puts-tally (Filter f) places = refl
  puts-tally (Plug v) places = refl
  puts-tally (Tally v) places = refl
  puts-tally (Collector c) places = refl
  puts-tally (Views h) places = refl
  puts-tally (ViewFiles t) places = refl
  puts-tally (Writer v) places = refl
