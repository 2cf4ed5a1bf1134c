-- The types of stages with options.
use Rattle.stage_names.specs.declared.kinds.KindName.{KindName}
use Rattle.stage_names.specs.declared.kinds.KindName.TheVariants as kind
use Rattle.stage_options.specs.declared.options.Options.{Options}
use Rattle.stage_options.specs.declared.options.Options.TheVariants.{ReadersLas, FiltersRange, FiltersCrop, FiltersAssign, FiltersFerry, FiltersExpression, FiltersDecimation, FiltersHead, FiltersReturns, FiltersPlug, FiltersMerge, FiltersSort, FiltersTail, FiltersGroupby, FiltersSplitter, FiltersVoxeldownsize, WritersLas, WritersText, WritersTally}

-- the type whose options these are
abbrev pub kind_of : Options → KindName
kind_of (ReadersLas o) = kind.ReadersLas
kind_of (FiltersRange o) = kind.FiltersRange
kind_of (FiltersCrop o) = kind.FiltersCrop
kind_of (FiltersAssign o) = kind.FiltersAssign
kind_of (FiltersFerry o) = kind.FiltersFerry
kind_of (FiltersExpression o) = kind.FiltersExpression
kind_of (FiltersDecimation o) = kind.FiltersDecimation
kind_of (FiltersHead o) = kind.FiltersHead
kind_of (FiltersReturns o) = kind.FiltersReturns
kind_of (FiltersPlug o) = kind.FiltersPlug
kind_of (FiltersMerge o) = kind.FiltersMerge
kind_of (FiltersSort o) = kind.FiltersSort
kind_of (FiltersTail o) = kind.FiltersTail
kind_of (FiltersGroupby o) = kind.FiltersGroupby
kind_of (FiltersSplitter o) = kind.FiltersSplitter
kind_of (FiltersVoxeldownsize o) = kind.FiltersVoxeldownsize
kind_of (WritersLas o) = kind.WritersLas
kind_of (WritersText o) = kind.WritersText
kind_of (WritersTally o) = kind.WritersTally
