-- Typed options are those of the stage's type.
use Rattle.std.proofs.Common.{ℕ, ◌≡◌, List, Option, refl}
use Rattle.serde_json.specs.Data.{Members}
use Rattle.stage_names.specs.declared.kinds.KindName.{KindName}
use Rattle.stage_names.specs.declared.kinds.KindName.TheVariants as kind
use Rattle.stage_options.specs.Kinds.{kind_of}
use Rattle.stage_typing.specs.Typed.{typed_of}

pub own_kind : (k : KindName) (filename : Option (List ℕ)) (ms : Members) → kind_of (typed_of k filename ms) ≡ k
own_kind kind.ReadersLas filename ms = refl
own_kind kind.FiltersRange filename ms = refl
own_kind kind.FiltersCrop filename ms = refl
own_kind kind.FiltersAssign filename ms = refl
own_kind kind.FiltersFerry filename ms = refl
own_kind kind.FiltersExpression filename ms = refl
own_kind kind.FiltersDecimation filename ms = refl
own_kind kind.FiltersHead filename ms = refl
own_kind kind.FiltersReturns filename ms = refl
own_kind kind.FiltersPlug filename ms = refl
own_kind kind.FiltersMerge filename ms = refl
own_kind kind.FiltersSort filename ms = refl
own_kind kind.FiltersTail filename ms = refl
own_kind kind.FiltersGroupby filename ms = refl
own_kind kind.FiltersSplitter filename ms = refl
own_kind kind.FiltersVoxeldownsize filename ms = refl
own_kind kind.WritersLas filename ms = refl
own_kind kind.WritersText filename ms = refl
own_kind kind.WritersTally filename ms = refl
