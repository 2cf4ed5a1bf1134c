-- The extra names behind ferries are names that a field may have, where those before them are.
use Rattle.std.proofs.Common.{◌≡◌, ℕ, ◌≤◌, Bool, true, false, List, [], ◌∷◌, ◌++◌, length, Option, Some, None, is_some, if◌then◌else◌, option_map, refl, ltb-false}
use Rattle.std.specs.Prelude.{nat_lt}
use Rattle.std.specs.List.{All}
use Rattle.std.specs.Option.{option_or}
use Rattle.std.proofs.lemmas.List.Elements.{All-append, All-cons, All-head, All-nil, All-tail}
use Rattle.std.proofs.lemmas.Option.{none-some}
use Rattle.cloud_points.specs.ExtraNames.{dim_in, dim_named, place_in}
use Rattle.cloud_points.specs.declared.dims.Dim.{Dim}
use Rattle.cloud_points.specs.declared.dims.Dim.TheVariants.{Extra}
use Rattle.extra_bytes.specs.Asked.{AreOwn}
use Rattle.expr_eval.specs.Bindings.{bound_dim}
use Rattle.option_texts.specs.Ferries.{AreFerries}
use Rattle.option_texts.specs.declared.ferries.NamedFerry.{NamedFerry}
use Rattle.stage_names.specs.declared.faults.PipeFault.{PipeFault}
use Rattle.stage_names.specs.declared.faults.PipeFault.TheVariants.{DimUnknown}
use Rattle.stage_names.specs.Faults.{or_else}
use Rattle.text_bytes.specs.Bytes.{is_name}
use Rattle.name_binding.specs.Ferries.{ferries_refused, ferry_refused, target_refused, with_target, with_targets}
use Rattle.name_binding.specs.Refusals.{refused}

first_none : (a b : Option PipeFault) → or_else a b ≡ None → a ≡ None
first_none None b e = refl
first_none (Some f) b e = absurd (cc)

second_none : (a b : Option PipeFault) → or_else a b ≡ None → b ≡ None
second_none None b e = e
second_none (Some f) b e = absurd (cc)

own_more : (names : List (List ℕ)) (to : List ℕ) → is_name to ≡ true → length to ≤ 32 → dim_named to ≡ None → AreOwn names → AreOwn (names ++ to ∷ [])
own_more names to named short new own =
    let P : List ℕ → Type 0 = λ name. dim_named name ≡ None in
    let Q : List ℕ → Type 0 = λ name. length name ≤ 32 in
    let R : List ℕ → Type 0 = λ name. is_name name ≡ true in (
      (All-append P names (to ∷ []) own.0.0 (All-cons P to [] new (All-nil P)), All-append Q names (to ∷ []) own.0.1 (All-cons Q to [] short (All-nil Q))),
      All-append R names (to ∷ []) own.1 (All-cons R to [] named (All-nil R)),
    )

is_short : (i : ℕ) (to : List ℕ) (later : Option PipeFault) → (if nat_lt 32 (length to) then Some (DimUnknown i to) else later) ≡ None → length to ≤ 32
is_short i to later e = by (nat_lt 32 (length to)) refl e
  where
    by : (b : Bool) → nat_lt 32 (length to) ≡ b → (if b then Some (DimUnknown i to) else later) ≡ None → length to ≤ 32
    by true is e = absurd (cc)
    by false is e = ltb-false 32 (length to) is

is_new : (a b : Option Dim) → option_or a b ≡ None → a ≡ None
is_new None b e = refl
is_new (Some d) b e = absurd (cc)

own_target : (i : ℕ) (names : List (List ℕ)) (to : List ℕ) → is_name to ≡ true → target_refused i names to (dim_in to names) ≡ None → AreOwn names → AreOwn (with_target names to)
own_target i names to named known own = by (dim_in to names) refl known
  where
    by : (o : Option Dim) → dim_in to names ≡ o → target_refused i names to o ≡ None → AreOwn (if is_some o then names else names ++ to ∷ [])
    by (Some d) e known = own
    by None e known = own_more names to named (is_short i to _ known) (is_new (dim_named to) (option_map Extra (place_in to names)) e) own

pub own_behind : (i : ℕ) (has : Dim → Bool) (names : List (List ℕ)) (fs : List NamedFerry) → AreFerries fs → ferries_refused i names has fs ≡ None → AreOwn names → AreOwn (with_targets names fs)
own_behind i has names [] named known own = own
own_behind i has names (f ∷ fs) named known own =
    let P : NamedFerry → Type 0 = λ (f : NamedFerry). is_name f.to ≡ true in
    let here = first_none (ferry_refused i names has f) (ferries_refused i (with_target names f.to) has fs) known in
    let target = second_none (refused i (bound_dim has names f.from)) (target_refused i names f.to (dim_in f.to names)) here in
    own_behind i has (with_target names f.to) fs (All-tail P f fs named) (second_none (ferry_refused i names has f) (ferries_refused i (with_target names f.to) has fs) known)
    (own_target i names f.to (All-head P f fs named) target own)
