-- The condition of the points that a stage judges, writes or shows.
use Rattle.std.specs.Prelude.{ℕ, List, Option, None}
use Rattle.expr_lang.specs.Formula.{Formula}
use Rattle.stage_options.specs.declared.options.Options.{Options}
use Rattle.stage_options.specs.declared.options.Options.TheVariants.{FiltersRange, FiltersCrop, FiltersAssign, FiltersFerry, FiltersExpression, FiltersDecimation, FiltersHead, FiltersReturns, FiltersPlug, WritersLas, WritersText, WritersTally}

-- a reader, a merge and a stage that needs whole views take all points
abbrev pub only_of : Options → Option (Formula (List ℕ))
only_of (FiltersRange o) = o.only
only_of (FiltersCrop o) = o.only
only_of (FiltersAssign o) = o.only
only_of (FiltersFerry o) = o.only
only_of (FiltersExpression o) = o.only
only_of (FiltersDecimation o) = o.only
only_of (FiltersHead o) = o.only
only_of (FiltersReturns o) = o.only
only_of (FiltersPlug o) = o.only
only_of (WritersLas o) = o.only
only_of (WritersText o) = o.only
only_of (WritersTally o) = o.only
only_of _ = None
