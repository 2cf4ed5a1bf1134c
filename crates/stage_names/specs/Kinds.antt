-- The types of stages and their names.
use Rattle.std.specs.Prelude.{ℕ, List, Bool, true, false, codes, bytes_eq, Option, Some, None, if◌then◌else◌}
use Rattle.stage_names.specs.declared.kinds.KindName.{KindName}
use Rattle.stage_names.specs.declared.kinds.KindName.TheVariants.{ReadersLas, FiltersRange, FiltersCrop, FiltersAssign, FiltersFerry, FiltersExpression, FiltersDecimation, FiltersHead, FiltersReturns, FiltersPlug, FiltersMerge, FiltersSort, FiltersTail, FiltersGroupby, FiltersSplitter, FiltersVoxeldownsize, WritersLas, WritersText, WritersTally}

abbrev pub name_of : KindName → List ℕ
name_of ReadersLas = codes "readers.las"
name_of FiltersRange = codes "filters.range"
name_of FiltersCrop = codes "filters.crop"
name_of FiltersAssign = codes "filters.assign"
name_of FiltersFerry = codes "filters.ferry"
name_of FiltersExpression = codes "filters.expression"
name_of FiltersDecimation = codes "filters.decimation"
name_of FiltersHead = codes "filters.head"
name_of FiltersReturns = codes "filters.returns"
name_of FiltersPlug = codes "filters.plug"
name_of FiltersMerge = codes "filters.merge"
name_of FiltersSort = codes "filters.sort"
name_of FiltersTail = codes "filters.tail"
name_of FiltersGroupby = codes "filters.groupby"
name_of FiltersSplitter = codes "filters.splitter"
name_of FiltersVoxeldownsize = codes "filters.voxeldownsize"
name_of WritersLas = codes "writers.las"
name_of WritersText = codes "writers.text"
name_of WritersTally = codes "writers.tally"

-- the type with a name
unfoldable pub kind_named : List ℕ → Option KindName
kind_named name = if bytes_eq name (codes "readers.las") then Some ReadersLas
    else (if bytes_eq name (codes "filters.range") then Some FiltersRange
    else (if bytes_eq name (codes "filters.crop") then Some FiltersCrop
    else (if bytes_eq name (codes "filters.assign") then Some FiltersAssign
    else (if bytes_eq name (codes "filters.ferry") then Some FiltersFerry
    else (if bytes_eq name (codes "filters.expression") then Some FiltersExpression
    else (if bytes_eq name (codes "filters.decimation") then Some FiltersDecimation
    else (if bytes_eq name (codes "filters.head") then Some FiltersHead
    else (if bytes_eq name (codes "filters.returns") then Some FiltersReturns
    else (if bytes_eq name (codes "filters.plug") then Some FiltersPlug
    else (if bytes_eq name (codes "filters.merge") then Some FiltersMerge
    else (if bytes_eq name (codes "filters.sort") then Some FiltersSort
    else (if bytes_eq name (codes "filters.tail") then Some FiltersTail
    else (if bytes_eq name (codes "filters.groupby") then Some FiltersGroupby
    else (if bytes_eq name (codes "filters.splitter") then Some FiltersSplitter
    else (if bytes_eq name (codes "filters.voxeldownsize") then Some FiltersVoxeldownsize
    else (if bytes_eq name (codes "writers.las") then Some WritersLas
    else (if bytes_eq name (codes "writers.text") then Some WritersText
    else (if bytes_eq name (codes "writers.tally") then Some WritersTally
    else (None)))))))))))))))))))

abbrev pub is_reader : KindName → Bool
is_reader ReadersLas = true
is_reader _ = false

abbrev pub is_writer : KindName → Bool
is_writer WritersLas = true
is_writer WritersText = true
is_writer _ = false
