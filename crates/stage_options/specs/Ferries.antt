-- The ferries of a stage: a dimension takes the value of another.
use Rattle.std.specs.Prelude.{List, []}
use Rattle.option_texts.specs.declared.ferries.NamedFerry.{NamedFerry}
use Rattle.stage_options.specs.declared.options.Options.{Options}
use Rattle.stage_options.specs.declared.options.Options.TheVariants.{FiltersFerry}

-- the ferries of a stage with these options
abbrev pub ferries_in : Options → List NamedFerry
ferries_in (FiltersFerry o) = o.ferries
ferries_in _ = []
