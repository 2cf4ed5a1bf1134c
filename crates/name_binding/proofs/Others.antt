-- A stage whose options are none of these is a filter.
use Rattle.std.proofs.Common.{◌≡◌, ℕ, Bool, List, refl}
use Rattle.cloud_points.specs.declared.dims.Dim.{Dim}
use Rattle.expr_eval.specs.declared.assignment.Assignment.{Assignment}
use Rattle.name_binding.specs.Binding.{filter_refused, names_refused, bound_filter, bound_where, bound_with}
use Rattle.name_binding.specs.declared.binding.BoundStage.TheVariants.{Filters}
use Rattle.stage_options.specs.Where.{only_of}
use Rattle.stage_options.specs.declared.options.Options.{Options}
use Rattle.stage_options.specs.declared.options.Options.TheVariants.{ReadersLas, FiltersPlug, FiltersSort, FiltersTail, FiltersGroupby, FiltersSplitter, FiltersVoxeldownsize, WritersLas, WritersText, WritersTally}
use Rattle.stage_options.specs.declared.options.LasReaderOptions.{LasReaderOptions}
use Rattle.stage_options.specs.declared.options.PlugOptions.{PlugOptions}
use Rattle.stage_options.specs.declared.options.SortOptions.{SortOptions}
use Rattle.stage_options.specs.declared.options.TailOptions.{TailOptions}
use Rattle.stage_options.specs.declared.options.GroupbyOptions.{GroupbyOptions}
use Rattle.stage_options.specs.declared.options.SplitterOptions.{SplitterOptions}
use Rattle.stage_options.specs.declared.options.VoxeldownsizeOptions.{VoxeldownsizeOptions}
use Rattle.stage_options.specs.declared.options.LasWriterOptions.{LasWriterOptions}
use Rattle.stage_options.specs.declared.options.TextOptions.{TextOptions}
use Rattle.stage_options.specs.declared.options.TallyOptions.{TallyOptions}

pub filter_names : (i : ℕ) (names : List (List ℕ)) (has : Dim → Bool) (o : Options) → ((x : SortOptions) → o ≡ FiltersSort x → ⊥) → ((x : GroupbyOptions) → o ≡ FiltersGroupby x → ⊥) → ((x : LasWriterOptions) → o ≡ WritersLas x → ⊥) → ((x : TextOptions) → o ≡ WritersText x → ⊥)
    → names_refused i names has o ≡ filter_refused i names has o
filter_names i names has (FiltersSort x) sort group las text = absurd (sort x refl)
filter_names i names has (FiltersGroupby x) sort group las text = absurd (group x refl)
filter_names i names has (WritersLas x) sort group las text = absurd (las x refl)
filter_names i names has (WritersText x) sort group las text = absurd (text x refl)
filter_names i names has o sort group las text = refl

pub filter_bound : (has : Dim → Bool) (names : List (List ℕ)) (ferries : List Assignment) (o : Options) → ((x : LasReaderOptions) → o ≡ ReadersLas x → ⊥) → ((x : PlugOptions) → o ≡ FiltersPlug x → ⊥) → ((x : SortOptions) → o ≡ FiltersSort x → ⊥) → ((x : TailOptions) → o ≡ FiltersTail x → ⊥) → ((x : GroupbyOptions) → o ≡ FiltersGroupby x → ⊥) → ((x : SplitterOptions) → o ≡ FiltersSplitter x → ⊥) → ((x : VoxeldownsizeOptions) → o ≡ FiltersVoxeldownsize x → ⊥) → ((x : LasWriterOptions) → o ≡ WritersLas x → ⊥) → ((x : TextOptions) → o ≡ WritersText x → ⊥) → ((x : TallyOptions) → o ≡ WritersTally x → ⊥)
    → bound_with has names ferries o ≡ Filters (bound_filter names ferries o) (bound_where names (only_of o))
filter_bound has names ferries (ReadersLas x) reads plug sort tail group split voxels las text tally = absurd (reads x refl)
filter_bound has names ferries (FiltersPlug x) reads plug sort tail group split voxels las text tally = absurd (plug x refl)
filter_bound has names ferries (FiltersSort x) reads plug sort tail group split voxels las text tally = absurd (sort x refl)
filter_bound has names ferries (FiltersTail x) reads plug sort tail group split voxels las text tally = absurd (tail x refl)
filter_bound has names ferries (FiltersGroupby x) reads plug sort tail group split voxels las text tally = absurd (group x refl)
filter_bound has names ferries (FiltersSplitter x) reads plug sort tail group split voxels las text tally = absurd (split x refl)
filter_bound has names ferries (FiltersVoxeldownsize x) reads plug sort tail group split voxels las text tally = absurd (voxels x refl)
filter_bound has names ferries (WritersLas x) reads plug sort tail group split voxels las text tally = absurd (las x refl)
filter_bound has names ferries (WritersText x) reads plug sort tail group split voxels las text tally = absurd (text x refl)
filter_bound has names ferries (WritersTally x) reads plug sort tail group split voxels las text tally = absurd (tally x refl)
filter_bound has names ferries o reads plug sort tail group split voxels las text tally = refl
