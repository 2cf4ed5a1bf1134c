-- Works at their start that give on each point.
use Rattle.std.proofs.Common.{◌≡◌, ℕ, Bool, true, false, true≢false, not, List, Option, refl, sym, ap, ◌∙◌}
use Rattle.network_theory.specs.Ahead.{KeepsCount}
use Rattle.las_reader.specs.declared.reader.LasReader.{LasReader}
use Rattle.las_reader.specs.declared.reader.Progress.TheVariants.{Records}
use Rattle.stream_filters.specs.Kinds.{filtering_of}
use Rattle.stream_filters.specs.declared.filter.Filter.{Filter as Filtering}
use Rattle.stream_filters.specs.declared.filter.Filter.TheVariants as filter
use Rattle.stage_kinds.specs.declared.file_form.StageForm.{StageForm}
use Rattle.stage_kinds.specs.declared.file_form.StageForm.TheVariants.{Reads, Filters, Plugs, Tallies, Gathers, Writes}
use Rattle.stage_kinds.specs.declared.file_form.Writing.{Writing}
use Rattle.stage_kinds.specs.declared.stage_work.StageWork.{StageWork}
use Rattle.stage_kinds.specs.declared.stage_work.StageWork.TheVariants.{Reader, Filter, Plug, Tally, Collector, Writer}
use Rattle.stage_kinds.specs.Leads.{taken_in}
use Rattle.stage_kinds.specs.Stages.{filter_work, writer_work, meaning_of, state_of, is_leaf}
use Rattle.stage_kinds.proofs.Counted.{assign-count, merge-count, writer-count}
use Rattle.stage_options.specs.Roles.{Role, role_of, is_reading, is_gathering, is_writing}
use Rattle.stage_options.specs.Roles as role
use Rattle.stage_options.specs.Values.{is_numbered}
use Rattle.stage_options.specs.declared.options.Options.{Options}
use Rattle.stage_options.specs.declared.options.Options.TheVariants.{ReadersLas, FiltersAssign, FiltersFerry, FiltersMerge, WritersLas, WritersText, WritersTally}
use Rattle.answer_model.specs.Rows.{Setting}
use Rattle.stage_forms.specs.Starts.{IsAtStart, IsStarted, form_for, writes_as}
use Rattle.stage_forms.proofs.Works.{writer-begins}
use Rattle.stage_forms.proofs.Rowed.{IsRow, row-is}
use Rattle.stage_runs.proofs.Tallied.{tally-count}
use Rattle.cloud_points.specs.declared.dims.Dim.{Dim}
use Rattle.expr_lang.specs.Formula.{Formula}
use Rattle.plug_stages.specs.declared.filter.PlugFilter as plug_type
use Rattle.plug_stages.specs.declared.tally.PlugTally as tally_type
use Rattle.stage_runs.specs.Ahead.{keeps_points}

not-both : (r : Role) → is_reading r ≡ true → is_writing r ≡ true → ⊥
not-both (role.Reads name) r w = true≢false (sym w)
not-both (role.Writes name) r w = true≢false (sym r)
not-both does r w = true≢false (sym r)

abbrev is_changing : Filtering → Bool
is_changing (filter.Assign x) = true
is_changing filter.Merge = true
is_changing f = false

-- an assignment, or a merge
keep-filter : (g f : Filtering) → g ≡ f → is_changing f ≡ true → KeepsCount (filter_work (filtering_of g))
keep-filter (filter.Assign x) f e c = assign-count x.rule x.only
keep-filter filter.Merge f e c = merge-count
keep-filter g f e c = absurd (true≢false (sym c ∙ ap is_changing (sym e)))

module _ {S K P Q : Type 0} (fs : plug_type.Ghosts P) (ts : tally_type.Ghosts Q) (bytes : K → Option (List ℕ)) where
  -- a writer of one file
  by-each : (has : Dim → Bool) (each : Bool) (name : List ℕ) (x : Writing) (w : StageWork S K P Q) → not (is_gathering (role.writing_by each name)) ≡ true → IsStarted bytes has (writes_as (role.writing_by each name) x) w → KeepsCount (meaning_of fs ts w)
  by-each has false name x (Writer v) one start = writer-count
  by-each has false name x w one start = absurd start
  by-each has true name x w one start = absurd (true≢false (sym one))

  filter-at : (has : Dim → Bool) (f : Filtering) (w : StageWork S K P Q) → is_changing f ≡ true → IsStarted bytes has (Filters f) w → KeepsCount (meaning_of fs ts w)
  filter-at has f (Filter g) c start = keep-filter g f start c
  filter-at has f w c start = absurd start

  tally-at : (has : Dim → Bool) (only : Option (Formula Dim)) (w : StageWork S K P Q) → IsStarted bytes has (Tallies only) w → KeepsCount (meaning_of fs ts w)
  tally-at has only (Tally v) start = tally-count ts v
  tally-at has only w start = absurd start

  pub keeps-at : (o : Options) (setting : Setting) (w : StageWork S K P Q) → keeps_points o ≡ true → IsAtStart bytes o setting w → is_leaf w ≡ false → KeepsCount (meaning_of fs ts w)
  keeps-at (ReadersLas o) setting (Reader r) keep start inner = absurd (true≢false inner)
  keeps-at (ReadersLas o) setting w keep start inner = absurd start
  keeps-at (FiltersAssign o) setting w keep start inner = filter-at setting.dims _ w refl start
  keeps-at (FiltersFerry o) setting w keep start inner = filter-at setting.dims _ w refl start
  keeps-at (FiltersMerge o) setting w keep start inner = filter-at setting.dims _ w refl start
  keeps-at (WritersLas o) setting w keep start inner = by-each setting.dims (is_numbered o.filename) o.filename _ w keep start
  keeps-at (WritersText o) setting w keep start inner = by-each setting.dims (is_numbered o.filename) o.filename _ w keep start
  keeps-at (WritersTally o) setting w keep start inner = tally-at setting.dims _ w start
  keeps-at o setting w keep start inner = absurd (true≢false (sym keep))

  -- a leaf is a reader at its first record
  pub record IsFirst (w : StageWork S K P Q) : Type 0 where
    pub reader : LasReader S
    pub is : w ≡ Reader reader
    pub first : reader.progress ≡ Records 0

  pub leaf-first : (o : Options) (setting : Setting) (w : StageWork S K P Q) → IsAtStart bytes o setting w → is_leaf w ≡ true → IsFirst w
  leaf-first o setting w start leaf = go (form_for o setting) w start leaf
    where
      go : (form : StageForm) (w : StageWork S K P Q) → IsStarted bytes setting.dims form w → is_leaf w ≡ true → IsFirst w
      go (Reads fields) (Reader r) start leaf = record { reader = r; is = refl; first = start.0 }
      go (Filters f) (Filter g) start leaf = absurd (true≢false (sym leaf))
      go (Plugs only) (Plug v) start leaf = absurd (true≢false (sym leaf))
      go (Tallies only) (Tally v) start leaf = absurd (true≢false (sym leaf))
      go (Gathers g) (Collector c) start leaf = absurd (true≢false (sym leaf))
      go (Writes x) (Writer v) start leaf = absurd (true≢false (sym leaf))
      go form w start leaf = absurd start

  pub reader-reads : (o : Options) (setting : Setting) (r : LasReader S) → IsAtStart {S = S} {K = K} {P = P} {Q = Q} bytes o setting (Reader r) → is_reading (role_of o) ≡ true
  reader-reads o setting r start = go (form_for o setting) (row-is o setting) start
    where
      go : (form : StageForm) → IsRow form o setting → IsStarted {S = S} {K = K} {P = P} {Q = Q} bytes setting.dims form (Reader r) → is_reading (role_of o) ≡ true
      go (Reads fields) row start = row.0
      go form row start = absurd start

  -- a writer of one file took no point yet
  pub record IsFirstWriter (w : StageWork S K P Q) : Type 0 where
    pub inner : is_leaf w ≡ false
    pub meaning : meaning_of fs ts w ≡ writer_work
    pub none : taken_in (state_of fs ts w) ≡ 0

  pub writer-first : (o : Options) (setting : Setting) (w : StageWork S K P Q) → IsAtStart bytes o setting w → is_writing (role_of o) ≡ true → IsFirstWriter w
  writer-first o setting w start writes = go (form_for o setting) (row-is o setting) w start
    where
      go : (form : StageForm) → IsRow form o setting → (w : StageWork S K P Q) → IsStarted bytes setting.dims form w → IsFirstWriter w
      go (Reads fields) row (Reader r) start = absurd (not-both (role_of o) row.0 writes)
      go (Filters f) row (Filter g) start = absurd (true≢false (sym writes ∙ ap is_writing row.does))
      go (Plugs only) row (Plug v) start = absurd (true≢false (sym writes ∙ ap is_writing row.does))
      go (Tallies only) row (Tally v) start = absurd (true≢false (sym writes ∙ ap is_writing row.does))
      go (Gathers m) row (Collector c) start = absurd (true≢false (sym writes ∙ row.0.later))
      go (Writes x) row (Writer v) start = record { inner = refl; meaning = refl; none = ap taken_in (writer-begins {bytes = bytes} v x start) }
      go form row w start = absurd start
