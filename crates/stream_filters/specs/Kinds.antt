-- What each filter is.
use Rattle.stage_meanings.specs.declared.spot.Spot.{Spot}
use Rattle.stage_meanings.specs.Filtering.{Filtering, By, Merge}
use Rattle.stage_meanings.specs.Rules.{head, decimation, returns, range, crop, expression, assign}
use Rattle.stage_meanings.specs.ByRule.{spot_at}
use Rattle.stream_filters.specs.declared.filter.Filter.{Filter}
use Rattle.stream_filters.specs.declared.filter.Filter.TheVariants as filter

abbrev pub filtering_of : Filter → Filtering
filtering_of (filter.Head w) = By (head w.rule.count) w.only
filtering_of (filter.Decimation w) = By (decimation w.rule.step w.rule.offset w.rule.limit) w.only
filtering_of (filter.Returns w) = By (returns w.rule) w.only
filtering_of (filter.Range w) = By (range w.rule) w.only
filtering_of (filter.Crop w) = By (crop w.rule.shape w.rule.outside) w.only
filtering_of (filter.Expression w) = By (expression w.rule.0) w.only
filtering_of (filter.Assign w) = By (assign w.rule) w.only
filtering_of filter.Merge = Merge

-- where the next point stands; merge counts none
abbrev pub spot_of : Filter → Spot
spot_of (filter.Head w) = w.spot
spot_of (filter.Decimation w) = w.spot
spot_of (filter.Returns w) = w.spot
spot_of (filter.Range w) = w.spot
spot_of (filter.Crop w) = w.spot
spot_of (filter.Expression w) = w.spot
spot_of (filter.Assign w) = w.spot
spot_of filter.Merge = spot_at 0
