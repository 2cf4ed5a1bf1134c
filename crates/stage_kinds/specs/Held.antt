-- What the stages hold.
use Rattle.std.specs.Prelude.{◌≡◌, ℕ, List, Option, Some, None}
use Rattle.file_devices.specs.declared.devices.Op.{Op}
use Rattle.file_devices.specs.declared.devices.Op.TheVariants.{Read, Write}
use Rattle.cloud_points.specs.Meaning.{Nature}
use Rattle.cloud_points.specs.declared.point.Point.{Point}
use Rattle.plug_stages.specs.Handed.{filter_nature, tally_nature_at}
use Rattle.plug_stages.specs.declared.filter.PlugFilter as filter
use Rattle.plug_stages.specs.declared.tally.PlugTally as tally
use Rattle.stage_kinds.specs.Files.{sink_of}
use Rattle.stage_kinds.specs.declared.held.Held.{Held}
use Rattle.stage_kinds.specs.declared.held.Held.TheVariants.{Nothing, Source, Sink, Filter, Tally}
use Rattle.stage_kinds.specs.declared.stage_work.StageWork.{StageWork}
use Rattle.stage_kinds.specs.declared.stage_work.StageWork.TheVariants.{Reader, Writer, Plug as PlugStage, Tally as TallyStage}

module _ {S K P Q : Type 0} where
  -- what a stage's work holds
  abbrev pub held_by : StageWork S K P Q → Held S K P Q
  held_by (Reader r) = Source r.source
  held_by (Writer w) = Sink (sink_of w.file)
  held_by (PlugStage w) = Filter w.plug w.place
  held_by (TallyStage w) = Tally w.tally w.place
  held_by _ = Nothing

  -- what is done with a device while the stages take turns
  abbrev pub op_on : Held S K P Q → Option Op
  op_on (Source s) = Some Read
  op_on (Sink k) = Some Write
  op_on _ = None

  -- how often it failed, by how often a source and a sink failed
  abbrev pub faults_on : (S → ℕ) → (K → ℕ) → Held S K P Q → ℕ
  faults_on source_faults sink_faults (Source s) = source_faults s
  faults_on source_faults sink_faults (Sink k) = sink_faults k
  faults_on source_faults sink_faults _ = 0

  -- the bytes of a sink, where it tells them
  abbrev pub told_on : (K → Option (List ℕ)) → Held S K P Q → Option (List ℕ)
  told_on bytes (Sink k) = bytes k
  told_on bytes _ = None

  -- the same of a stage's work
  abbrev pub op_of : StageWork S K P Q → Option Op
  op_of k = op_on (held_by k)

  abbrev pub faults_of : (S → ℕ) → (K → ℕ) → StageWork S K P Q → ℕ
  faults_of source_faults sink_faults k = faults_on source_faults sink_faults (held_by k)

  abbrev pub told_by : (K → Option (List ℕ)) → StageWork S K P Q → Option (List ℕ)
  told_by bytes k = told_on bytes (held_by k)

  -- what is held of the caller's, but for what that remembers: a filter, or a tally
  abbrev pub filter_on : filter.Ghosts P → Held S K P Q → Option (Nature Point)
  filter_on plugs (Filter p at) = Some (filter_nature plugs at p)
  filter_on plugs _ = None

  abbrev pub tally_on : tally.Ghosts Q → Held S K P Q → Option (Nature Point)
  tally_on tallies (Tally q at) = Some (tally_nature_at tallies at q)
  tally_on tallies _ = None

  -- the same of a stage's work
  abbrev pub filter_in : filter.Ghosts P → StageWork S K P Q → Option (Nature Point)
  filter_in plugs k = filter_on plugs (held_by k)

  abbrev pub tally_in : tally.Ghosts Q → StageWork S K P Q → Option (Nature Point)
  tally_in tallies k = tally_on tallies (held_by k)

  -- a work holds of the caller's what another one holds
  abbrev pub HoldsSame : filter.Ghosts P → tally.Ghosts Q → StageWork S K P Q → StageWork S K P Q → Type 0
  HoldsSame plugs tallies old new = (filter_in plugs new ≡ filter_in plugs old) × (tally_in tallies new ≡ tally_in tallies old)
