-- At which steps of a run the device of a stage may fail, by what the stage does.
use Rattle.std.proofs.Common.{◌≡◌, ◌⊎◌, ℕ, ◌+◌, zero, suc, Bool, false, true, List, [], ◌∷◌, ◌++◌, length, take, slice_get, Option, Some, None, refl, ap, sym, subst, ◌∙◌, inl, inr, arith}
use Rattle.std.proofs.lemmas.Option.{none-some, same_Some}
use Rattle.file_devices.specs.declared.devices.Op.{Op}
use Rattle.file_devices.specs.declared.devices.Op.TheVariants as op
use Rattle.cloud_points.specs.declared.point.Point.{Point}
use Rattle.cloud_points.specs.Flows.{Flow}
use Rattle.stage_kinds.specs.declared.file_form.FileForm.{FileForm}
use Rattle.stage_kinds.specs.declared.file_form.FileForm.TheVariants as file
use Rattle.stage_kinds.specs.declared.making.Making.TheVariants.{Gathers as Made, WritesEach as Each}
use Rattle.stage_kinds.specs.declared.file_form.StageForm.{StageForm}
use Rattle.stage_kinds.specs.declared.file_form.StageForm.TheVariants as form
use Rattle.stage_kinds.specs.declared.file_form.Writing.{Writing}
use Rattle.stage_kinds.specs.Files.{finishing_op}
use Rattle.stage_kinds.specs.declared.stage_work.StageWork.{StageWork}
use Rattle.stage_kinds.specs.Stages.{keeps_of}
use Rattle.stage_options.specs.Roles.{Role, Reads, Filters, Gathers, Writes, WritesEach, is_writing, writing_by}
use Rattle.stage_options.specs.Values.{is_numbered}
use Rattle.stage_options.specs.declared.options.Options.{Options}
use Rattle.stage_options.specs.declared.options.Options.TheVariants.{WritersLas, WritersText}
use Rattle.stage_options.specs.declared.stage.StageSpec.{StageSpec}
use Rattle.answer_model.specs.Rows.{Setting}
use Rattle.answer_model.specs.Values.{Opened, Output, options_at, setting_at, stage_value, written, op_for}
use Rattle.stage_forms.specs.Starts.{form_for, kept_for, writes_as}
use Rattle.run_ending.specs.Each.{IsEachOp, kept_at, kept_from}
use Rattle.run_outcome.specs.Cause.{AtRole, patches}

pub at-turns : (earlier all right : Type 0) (role : Role) (o : Op) → earlier → all → op_for role ≡ Some o → AtRole earlier all right role o
at-turns earlier all right (Reads name) op.Read e a is = e
at-turns earlier all right (Reads name) op.Open e a is = e
at-turns earlier all right (Reads name) op.Create e a is = cc
at-turns earlier all right (Reads name) op.Write e a is = cc
at-turns earlier all right (Reads name) op.Patch e a is = cc
at-turns earlier all right (Reads name) op.Keep e a is = cc
at-turns earlier all right Filters o e a is = cc
at-turns earlier all right Gathers o e a is = cc
at-turns earlier all right (WritesEach name) o e a is = cc
at-turns earlier all right (Writes name) op.Write e a is = a
at-turns earlier all right (Writes name) op.Create e a is = a
at-turns earlier all right (Writes name) op.Open e a is = cc
at-turns earlier all right (Writes name) op.Read e a is = cc
at-turns earlier all right (Writes name) op.Patch e a is = cc
at-turns earlier all right (Writes name) op.Keep e a is = cc

pub at-keeping : (earlier all right : Type 0) (role : Role) → is_writing role ≡ true → right → AtRole earlier all right role op.Keep
at-keeping earlier all right (Reads name) w r = cc
at-keeping earlier all right Filters w r = cc
at-keeping earlier all right Gathers w r = cc
at-keeping earlier all right (WritesEach name) w r = cc
at-keeping earlier all right (Writes name) w r = r

-- so may that of the file of a view, in all that becomes of it
pub at-each : (earlier all right : Type 0) (name : List ℕ) (form : FileForm) (o : Op) → right → IsEachOp form o → AtRole earlier all right (WritesEach name) o
at-each earlier all right name form o r is = elim is [
  | inl c ↦ subst (AtRole earlier all right (WritesEach name)) (sym c) r
  | inr w ↦ elim w [
    | inl q ↦ elim q [ inl a ↦ subst (AtRole earlier all right (WritesEach name)) (sym a) r | inr a ↦ by_form form a ]
    | inr k ↦ subst (AtRole earlier all right (WritesEach name)) (sym k) r
  ]
]
  where
    by_form : (form : FileForm) → o ≡ finishing_op form → AtRole earlier all right (WritesEach name) o
    by_form (file.Text f) a = subst (AtRole earlier all right (WritesEach name)) (sym a) r
    by_form (file.Las f) a = subst (AtRole earlier all right (WritesEach name)) (sym a) r

-- a writer's device may fail as its file is finished
pub at-finishing : (earlier all right : Type 0) (role : Role) (o : Op) → all → right → op_for role ≡ Some op.Write → (o ≡ op.Write) ⊎ (o ≡ op.Patch) → AtRole earlier all right role o
at-finishing earlier all right (Reads name) o a r is named = cc
at-finishing earlier all right Filters o a r is named = cc
at-finishing earlier all right Gathers o a r is named = cc
at-finishing earlier all right (WritesEach name) o a r is named = cc
at-finishing earlier all right (Writes name) o a r is named = elim named [
  | inl e ↦ subst (AtRole earlier all right (Writes name)) (sym e) a
  | inr e ↦ subst (AtRole earlier all right (Writes name)) (sym e) r
]

-- nothing is patched while the stages take turns
pub never-patched : (role : Role) → op_for role ≡ Some op.Patch → ⊥
never-patched (Reads name) e = cc
never-patched Filters e = cc
never-patched Gathers e = cc
never-patched (WritesEach name) e = cc
never-patched (Writes name) e = cc

-- what writes while they do is a writer
pub writing-role : (role : Role) → op_for role ≡ Some op.Write → is_writing role ≡ true
writing-role (Reads name) e = cc
writing-role Filters e = cc
writing-role Gathers e = cc
writing-role (WritesEach name) e = cc
writing-role (Writes name) e = refl

-- by what a writer made of this ends its file
abbrev pub last_op : StageForm → Op
last_op (form.Writes x) = finishing_op x.form
last_op _ = op.Read

-- a writer writes what it does to its file, or to each
pub as-plain : (each : Bool) (name : List ℕ) (y x : Writing) → writes_as (writing_by each name) y ≡ form.Writes x → finishing_op y.form ≡ finishing_op x.form
as-plain true name y x is = cc
as-plain false name y x is = ap last_op is

pub as-each : (each : Bool) (name : List ℕ) (y x : Writing) → writes_as (writing_by each name) y ≡ form.Gathers (Each x) → finishing_op y.form ≡ finishing_op x.form
as-each true name y x is = ap last_each is
  where
    last_each : StageForm → Op
    last_each (form.Gathers (Each z)) = finishing_op z.form
    last_each _ = op.Read
as-each false name y x is = cc

-- a writer whose file ends by a patch writes LAS
pub patched-las : (o : Options) (setting : Setting) (x : Writing) → form_for o setting ≡ form.Writes x → finishing_op x.form ≡ op.Patch → patches o ≡ true
patched-las (WritersLas o) setting x is e = refl
patched-las (WritersText o) setting x is e = let no : op.Write ≡ op.Patch = as-plain (is_numbered o.filename) o.filename _ x is ∙ e in cc
patched-las o setting x is e = let no : op.Read ≡ op.Patch = ap last_op is ∙ e in cc

-- so does one of a file for each view
pub each-las : (o : Options) (setting : Setting) (x : Writing) → form_for o setting ≡ form.Gathers (Each x) → (p : Op) → IsEachOp x.form p → p ≡ op.Patch → patches o ≡ true
each-las o setting x e p is patch = by_kind o e
  where
    ends : finishing_op x.form ≡ op.Patch
    ends = elim is [
      | inl c ↦ (let z : op.Create ≡ op.Patch = sym c ∙ patch in cc)
      | inr w ↦ elim w [
        | inl q ↦ elim q [ inl a ↦ (let z : op.Write ≡ op.Patch = sym a ∙ patch in cc) | inr a ↦ sym a ∙ patch ]
        | inr k ↦ (let z : op.Keep ≡ op.Patch = sym k ∙ patch in cc)
      ]
    ]

    by_kind : (o : Options) → form_for o setting ≡ form.Gathers (Each x) → patches o ≡ true
    by_kind (WritersLas w) e = refl
    by_kind (WritersText w) e = let no : op.Write ≡ op.Patch = as-each (is_numbered w.filename) w.filename _ x e ∙ ends in cc
    by_kind o e = cc

-- what is kept stands at a work
abbrev pub KeptAt : {S K P Q : Type 0} → List (StageWork S K P Q) → ℕ → ℕ → Writing × Flow Point → Type 0
KeptAt {S} {K} {P} {Q} works i stage k = (j : ℕ) × (w : StageWork S K P Q) × ((slice_get works j ≡ Some w) × (keeps_of w ≡ Some k)) × (stage ≡ i + j)

pub kept-work : {S K P Q : Type 0} (works : List (StageWork S K P Q)) (i place stage : ℕ) (k : Writing × Flow Point) → slice_get (kept_from i works) place ≡ Some (stage, k) → KeptAt works i stage k
kept-work [] i place stage k e = absurd (none-some _ e)
kept-work (w ∷ works) i place stage k e = by_kept (λ p f. kept-work works (i + 1) p stage k f) (keeps_of w) refl place e
  where
    behind : KeptAt works (i + 1) stage k → KeptAt (w ∷ works) i stage k
    behind r = (suc r.0, r.1, r.2, (let z = r.3 in omega (arith, z)))

    by_kept : ((p : ℕ) → slice_get (kept_from (i + 1) works) p ≡ Some (stage, k) → KeptAt works (i + 1) stage k) → (o : Option (Writing × Flow Point)) → keeps_of w ≡ o
        → (place : ℕ) → slice_get (kept_at i o ++ kept_from (i + 1) works) place ≡ Some (stage, k) → KeptAt (w ∷ works) i stage k
    by_kept rest None is place e = behind (rest place e)
    by_kept rest (Some q) is zero e = let same : (i, q) ≡ (stage, k) = same_Some _ _ e in (0, w, (refl, is ∙ ap (λ x. Some x.1) same), (let z : i ≡ stage = ap (λ x. x.0) same in omega (arith, z)))
    by_kept rest (Some q) is (suc place) e = behind (rest place e)

-- a stage for which something is kept writes a file of each view
pub kept-form : (stages : List StageSpec) (opened : Opened) (i : ℕ) (x : Writing) (flow : Flow Point) → kept_for (form_for (options_at stages i) (setting_at stages opened i)) (stage_value stages opened i) ≡ Some (x, flow)
    → form_for (options_at stages i) (setting_at stages opened i) ≡ form.Gathers (Each x)
kept-form stages opened i x flow e = go (form_for (options_at stages i) (setting_at stages opened i)) e
  where
    go : (f : StageForm) → kept_for f (stage_value stages opened i) ≡ Some (x, flow) → f ≡ form.Gathers (Each x)
    go (form.Gathers (Each y)) e = ap (λ (k : Writing × Flow Point). form.Gathers (Each k.0)) (same_Some _ _ e)
    go (form.Gathers (Made g)) e = absurd (none-some _ e)
    go (form.Filters f) e = absurd (none-some _ e)
    go (form.Plugs n) e = absurd (none-some _ e)
    go (form.Tallies n) e = absurd (none-some _ e)
    go (form.Writes y) e = absurd (none-some _ e)
    go (form.Reads fields) e = absurd (none-some _ e)

-- a writer of one file has one output
pub one-output : (i : ℕ) (role : Role) (bytes : List ℕ) → is_writing role ≡ true → (o : Output) × (written i role bytes ≡ o ∷ []) × (o.stage ≡ i)
one-output i (Writes name) bytes w = (_, refl, refl)
one-output i (Reads name) bytes w = cc
one-output i Filters bytes w = cc
one-output i Gathers bytes w = cc
one-output i (WritesEach name) bytes w = cc

pub take-first : {A : Type 0} (xs ys : List A) → take (length xs) (xs ++ ys) ≡ xs
take-first [] ys = refl
take-first (x ∷ xs) ys = ap (λ zs. x ∷ zs) (take-first xs ys)

pub take-next : {A : Type 0} (xs : List A) (y : A) (ys : List A) → take (suc (length xs)) (xs ++ (y ∷ ys)) ≡ xs ++ (y ∷ [])
take-next [] y ys = refl
take-next (x ∷ xs) y ys = ap (λ zs. x ∷ zs) (take-next xs y ys)

pub at-next : {A : Type 0} (xs : List A) (y : A) (ys : List A) → slice_get (xs ++ (y ∷ ys)) (length xs) ≡ Some y
at-next [] y ys = refl
at-next (x ∷ xs) y ys = at-next xs y ys
