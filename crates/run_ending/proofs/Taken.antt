-- The files of works of which views were taken are kept as before.
use Rattle.std.proofs.Common.{◌≡◌, ◌⊎◌, ℕ, zero, suc, ◌+◌, List, [], ◌∷◌, length, slice_get, Option, Some, None, Result, Ok, Err, OnOk, refl, ap, sym, ◌∙◌, inl, inr, arith}
use Rattle.std.proofs.lemmas.List.Sums.{sum_by-cons}
use Rattle.std.proofs.lemmas.Option.{none-some, slice_get_within}
use Rattle.file_devices.specs.Named.{Names}
use Rattle.file_devices.specs.declared.devices.Op.TheVariants.{Write}
use Rattle.held_devices.specs.Holding.{there, all_held}
use Rattle.held_devices.proofs.Lists.{some_at}
use Rattle.stage_forms.specs.Later.{AreLater}
use Rattle.stage_forms.specs.Starts.{HaveDevices}
use Rattle.stage_kinds.specs.declared.stage_work.StageWork.{StageWork}
use Rattle.stage_kinds.specs.declared.stage_work.StageWork.TheVariants.{Reader, Filter, Plug, Tally, Collector, Views, ViewFiles, Writer}
use Rattle.plug_stages.specs.declared.filter.PlugFilter as plug_type
use Rattle.plug_stages.specs.declared.tally.PlugTally as tally_type
use Rattle.stage_kinds.specs.Held.{op_of}
use Rattle.stage_kinds.specs.Stages.{keeps_of}
use Rattle.stage_options.specs.Roles.{Role, Reads, Filters, Gathers, Writes, WritesEach}
use Rattle.stage_options.specs.declared.stage.StageSpec.{StageSpec}
use Rattle.run_report.specs.declared.refusal.Refusal.{Refusal}
use Rattle.answer_model.specs.Values.{op_for, role_at}
use Rattle.run_ending.specs.Each.{BrokeOffAt, Kept}
use Rattle.run_ending.specs.Keeping.{BrokeOff, kept_first, kept_if, kept_one}

-- of a step that is the last one
pub on-ok-more : {R E : Type 0} (o : Result R E) {P Q : Type 0} → OnOk o P → (P → Q) → OnOk o Q
on-ok-more (Ok r) p f = f p
on-ok-more (Err e) p f = tt

-- works that hold the same devices later hold as many
held-same : {S K P Q : Type 0} (xs ys : List (StageWork S K P Q)) → length ys ≡ length xs → ((i : ℕ) (v w : StageWork S K P Q) → slice_get xs i ≡ Some v → slice_get ys i ≡ Some w → op_of w ≡ op_of v) → all_held ys ≡ all_held xs
held-same [] [] e same = refl
held-same [] (y ∷ ys) e same = absurd (omega (arith, e))
held-same (x ∷ xs) [] e same = absurd (omega (arith, e))
held-same (x ∷ xs) (y ∷ ys) e same =
    let a = sum_by-cons (λ w. there (op_of w)) x xs in
    let b = sum_by-cons (λ w. there (op_of w)) y ys in
    let c = ap there (same 0 x y refl refl) in
    let d = held-same xs ys (omega (arith, e)) (λ i. same (suc i)) in
    omega (arith, a, b, c, d)

pub same-held : {S K P Q : Type 0} (fs : plug_type.Ghosts P) (ts : tally_type.Ghosts Q) (faults : StageWork S K P Q → ℕ) (old new : List (StageWork S K P Q)) → AreLater fs ts faults old new → all_held new ≡ all_held old
same-held fs ts faults old new later = held-same old new later.count later.op

-- it keeps no views, or its stage writes no single file
not-both : {S K P Q : Type 0} (w : StageWork S K P Q) (role : Role) → op_of w ≡ op_for role
    → (keeps_of w ≡ None) ⊎ ((bytes : K → Option (List ℕ)) (m : Option Names) (v : StageWork S K P Q) → kept_one bytes m role v ≡ m)
not-both (Reader r) role e = inl refl
not-both (Filter f) role e = inl refl
not-both (Plug v) role e = inl refl
not-both (Tally v) role e = inl refl
not-both (Collector c) role e = inl refl
not-both (Views h) role e = inl refl
not-both (Writer v) role e = inl refl
not-both (ViewFiles t) (Reads name) e = inr (λ bytes m v. refl)
not-both (ViewFiles t) Filters e = inr (λ bytes m v. refl)
not-both (ViewFiles t) Gathers e = inr (λ bytes m v. refl)
not-both (ViewFiles t) (WritesEach name) e = inr (λ bytes m v. refl)
not-both (ViewFiles t) (Writes name) e = absurd (none-some Write e)

module _ {S K P Q : Type 0} (fs : plug_type.Ghosts P) (ts : tally_type.Ghosts Q) (faults : StageWork S K P Q → ℕ) (stages : List StageSpec) (old new : List (StageWork S K P Q)) (later : AreLater fs ts faults old new)
    (others : (i : ℕ) (w : StageWork S K P Q) → slice_get old i ≡ Some w → keeps_of w ≡ None → slice_get new i ≡ Some w) (fit : HaveDevices stages old) where
  before : (i : ℕ) (w : StageWork S K P Q) → slice_get new i ≡ Some w → (v : StageWork S K P Q) × (slice_get old i ≡ Some v)
  before i w e = some_at old i (let a = slice_get_within new i w e in let b = later.count in omega (arith, a, b))

  pub fit-later : HaveDevices stages new
  fit-later i w e = let v = before i w e in later.op i v.0 w v.1 e ∙ fit i v.0 v.1

  module _ (bytes : K → Option (List ℕ)) where
    same-if : (i : ℕ) (m : Option Names) → kept_if bytes m (role_at stages i) (slice_get new i) ≡ kept_if bytes m (role_at stages i) (slice_get old i)
    same-if i m = go (slice_get new i) (slice_get old i) refl refl
      where
        go : (x y : Option (StageWork S K P Q)) → slice_get new i ≡ x → slice_get old i ≡ y → kept_if bytes m (role_at stages i) x ≡ kept_if bytes m (role_at stages i) y
        go None None e f = refl
        go None (Some v) e f = absurd (none-some _ (sym e ∙ (some_at new i (let a = slice_get_within old i v f in let b = later.count in omega (arith, a, b))).1))
        go (Some w) None e f = absurd (none-some _ (sym f ∙ (before i w e).1))
        go (Some w) (Some v) e f = elim (not-both v (role_at stages i) (fit i v f)) [
          | inl none ↦ ap (kept_if bytes m (role_at stages i)) (sym e ∙ others i v f none)
          | inr stays ↦ stays bytes m w ∙ sym (stays bytes m v)
        ]

    first-same : (n : ℕ) (m : Option Names) → kept_first bytes n m stages new ≡ kept_first bytes n m stages old
    first-same zero m = refl
    first-same (suc n) m = ap (λ x. kept_if bytes x (role_at stages n) (slice_get new n)) (first-same n m) ∙ same-if n (kept_first bytes n m stages old)

    -- what is kept of the works is what is kept of those before
    pub kept-same : (m end : Option Names) → end ≡ kept_first bytes (length new) m stages new → end ≡ kept_first bytes (length old) m stages old
    kept-same m end e = e ∙ ap (λ n. kept_first bytes n m stages new) later.count ∙ first-same (length old) m

    pub broke-same : (rose : Type 0) (m end : Option Names) (refusal : Refusal) → BrokeOff bytes rose m end stages new refusal → BrokeOff bytes rose m end stages old refusal
    broke-same rose m end refusal b = record {
      stage = b.stage;
      inside = (let a = b.inside in let c = later.count in omega (arith, a, c));
      writes = b.writes;
      why = b.why;
      left = elim b.left [
        | inl l ↦ inl (l ∙ first-same b.stage m)
        | inr l ↦ inr (l ∙ first-same (b.stage + 1) m)
      ];
    }

-- a count that rose in a part rose in the whole
pub broke-wider : {P Q : Type 0} (f : P → Q) (old new : Option Names) (stages : List StageSpec) (kept : List Kept) (refusal : Refusal) → BrokeOffAt P old new stages kept refusal → BrokeOffAt Q old new stages kept refusal
broke-wider {P} {Q} f old new stages kept refusal b = record {
  place = b.place;
  stage = b.stage;
  writing = b.writing;
  flow = b.flow;
  of = b.of;
  stops = record {
    done = b.stops.done;
    next = b.stops.next;
    at = b.stops.at;
    of = b.stops.of;
    view = b.stops.view;
    why = elim b.stops.why [ inl m ↦ inl m | inr d ↦ inr (d.0, d.1, d.2, f d.3) ];
    left = b.stops.left;
  };
}
