-- Names of types are read back.
use Rattle.std.proofs.Common.{◌≡◌, ◌∙◌, ℕ, List, Bool, true, false, Option, Some, unwrap_or, bytes_eq, if◌then◌else◌, refl, ap, sym}
use Rattle.std.proofs.lemmas.Slice.Eq.{bytes_eq-Decides}
use Rattle.std.proofs.lemmas.Option.{none-some}
use Rattle.stage_names.specs.declared.kinds.KindName.{KindName}
use Rattle.stage_names.specs.declared.kinds.KindName.TheVariants.{ReadersLas, FiltersRange, FiltersCrop, FiltersAssign, FiltersFerry, FiltersExpression, FiltersDecimation, FiltersHead, FiltersReturns, FiltersPlug, FiltersMerge, FiltersSort, FiltersTail, FiltersGroupby, FiltersSplitter, FiltersVoxeldownsize, WritersLas, WritersText, WritersTally}
use Rattle.stage_names.specs.Kinds.{name_of, kind_named}
use Rattle.stage_names.specs.Laws.{NamesLeadBack, NamesAreOwn}

pub lead_back : NamesLeadBack
unfolding kind_named
lead_back ReadersLas = refl
lead_back FiltersRange = refl
lead_back FiltersCrop = refl
lead_back FiltersAssign = refl
lead_back FiltersFerry = refl
lead_back FiltersExpression = refl
lead_back FiltersDecimation = refl
lead_back FiltersHead = refl
lead_back FiltersReturns = refl
lead_back FiltersPlug = refl
lead_back FiltersMerge = refl
lead_back FiltersSort = refl
lead_back FiltersTail = refl
lead_back FiltersGroupby = refl
lead_back FiltersSplitter = refl
lead_back FiltersVoxeldownsize = refl
lead_back WritersLas = refl
lead_back WritersText = refl
lead_back WritersTally = refl

-- a name that is this type's, or leads to a type by what is tried after it
choice : (name : List ℕ) (this kind : KindName) {rest : Option KindName} → (rest ≡ Some kind → name_of kind ≡ name)
    → (if bytes_eq name (name_of this) then Some this else rest) ≡ Some kind → name_of kind ≡ name
choice name this kind {rest} later e = go (bytes_eq name (name_of this)) refl e
  where
    go : (b : Bool) → bytes_eq name (name_of this) ≡ b → (if b then Some this else rest) ≡ Some kind → name_of kind ≡ name
    go true same e = ap name_of (sym (ap (λ o. unwrap_or o this) e)) ∙ sym ((bytes_eq-Decides name (name_of this)).0 same)
    go false other e = later e

pub are_own : NamesAreOwn
unfolding kind_named
are_own name kind = choice name ReadersLas kind
    (choice name FiltersRange kind
    (choice name FiltersCrop kind
    (choice name FiltersAssign kind
    (choice name FiltersFerry kind
    (choice name FiltersExpression kind
    (choice name FiltersDecimation kind
    (choice name FiltersHead kind
    (choice name FiltersReturns kind
    (choice name FiltersPlug kind
    (choice name FiltersMerge kind
    (choice name FiltersSort kind
    (choice name FiltersTail kind
    (choice name FiltersGroupby kind
    (choice name FiltersSplitter kind
    (choice name FiltersVoxeldownsize kind
    (choice name WritersLas kind
    (choice name WritersText kind
    (choice name WritersTally kind
    (λ e. absurd (none-some kind e))))))))))))))))))))
