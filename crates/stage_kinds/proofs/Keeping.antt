-- What works keep of views, and what they write.
use Rattle.std.proofs.Common.{◌≡◌, false, length, Option, Some, None, refl, ap, sym, ◌∙◌}
use Rattle.std.proofs.lemmas.Option.{none-some, same_Some}
use Rattle.cloud_points.specs.declared.point.Point.{Point}
use Rattle.cloud_points.specs.Flows.{Flow, all_of}
use Rattle.cloud_points.specs.Queue.{up_to_limit}
use Rattle.file_devices.specs.declared.devices.Op.{Op}
use Rattle.file_devices.specs.declared.devices.Op.TheVariants.{Write}
use Rattle.plug_stages.specs.declared.filter.PlugFilter as filter
use Rattle.plug_stages.specs.declared.tally.PlugTally as tally
use Rattle.stage_kinds.specs.declared.file_form.Writing.{Writing}
use Rattle.stage_kinds.specs.declared.stage_work.StageState.{StageState}
use Rattle.stage_kinds.specs.declared.stage_work.StageState.TheVariants.{Reading, Keeping}
use Rattle.stage_kinds.specs.declared.stage_work.StageWork.{StageWork}
use Rattle.stage_kinds.specs.declared.stage_work.StageWork.TheVariants.{Reader, Filter, Plug, Tally, Collector, Views, ViewFiles, Writer}
use Rattle.stage_kinds.specs.Files.{chosen}
use Rattle.stage_kinds.specs.Held.{op_of}
use Rattle.stage_kinds.specs.Stages.{files_by, keeps_of, meaning_of, written_by}

-- what is kept by a state
abbrev kept_in : StageState → Option (Writing × Flow Point)
kept_in (Keeping x views) = Some (x, views)
kept_in _ = None

-- what a work keeps of views stands in what it means
module _ {S K P Q : Type 0} (plugs : filter.Ghosts P) (tallies : tally.Ghosts Q) where
  kept-is : (w : StageWork S K P Q) → keeps_of w ≡ kept_in ((meaning_of plugs tallies w).at_end Reading false).0
  kept-is (Reader r) = refl
  kept-is (Filter f) = refl
  kept-is (Plug f) = refl
  kept-is (Tally f) = refl
  kept-is (Collector c) = refl
  kept-is (Views h) = refl
  kept-is (ViewFiles t) = refl
  kept-is (Writer w) = refl

  pub keeps-same : (v w : StageWork S K P Q) → meaning_of plugs tallies v ≡ meaning_of plugs tallies w → keeps_of v ≡ keeps_of w
  keeps-same v w e = kept-is v ∙ ap (λ m. kept_in (m.at_end Reading false).0) e ∙ sym (kept-is w)

-- a work that doesn't write wrote nothing
pub wrote-none : {S K P Q : Type 0} (w : StageWork S K P Q) {o : Option Op} → op_of w ≡ o → (o ≡ Some Write → ⊥) → keeps_of w ≡ None → written_by w ≡ None
wrote-none (Reader r) e reads none = refl
wrote-none (Filter f) e reads none = refl
wrote-none (Plug f) e reads none = refl
wrote-none (Tally f) e reads none = refl
wrote-none (Collector c) e reads none = refl
wrote-none (Views h) e reads none = refl
wrote-none (ViewFiles t) e reads none = absurd (none-some _ (sym none))
wrote-none (Writer v) e reads none = absurd (reads (sym e))

pub no-files : {S K P Q : Type 0} (w : StageWork S K P Q) {o : Option Op} → op_of w ≡ o → (o ≡ Some Write → ⊥) → keeps_of w ≡ None → files_by w ≡ 0
no-files (Reader r) e reads none = refl
no-files (Filter f) e reads none = refl
no-files (Plug f) e reads none = refl
no-files (Tally f) e reads none = refl
no-files (Collector c) e reads none = refl
no-files (Views h) e reads none = refl
no-files (ViewFiles t) e reads none = absurd (none-some _ (sym none))
no-files (Writer v) e reads none = absurd (reads (sym e))

-- a writer writes one file
pub one-file : {S K P Q : Type 0} (w : StageWork S K P Q) → op_of w ≡ Some Write → files_by w ≡ 1
one-file (Reader r) e = absurd cc
one-file (Filter f) e = absurd (none-some Write e)
one-file (Plug f) e = absurd (none-some Write e)
one-file (Tally f) e = absurd (none-some Write e)
one-file (Collector c) e = absurd (none-some Write e)
one-file (Views h) e = absurd (none-some Write e)
one-file (ViewFiles t) e = absurd (none-some Write e)
one-file (Writer v) e = refl

-- one that keeps views writes a file of each, and the points that are chosen of them
pub wrote-each : {S K P Q : Type 0} (w : StageWork S K P Q) (x : Writing) (flow : Flow Point) → keeps_of w ≡ Some (x, flow) → written_by w ≡ Some (up_to_limit (length (chosen x.only (all_of flow.views))))
wrote-each (ViewFiles t) x flow e = let same : (t.writing, t.views.views) ≡ (x, flow) = same_Some _ _ e in
    ap Some (t.count ∙ ap (λ (y : Writing × Flow Point). up_to_limit (length (chosen y.0.only (all_of y.1.views)))) same)
wrote-each (Reader r) x flow e = absurd (none-some _ e)
wrote-each (Filter f) x flow e = absurd (none-some _ e)
wrote-each (Plug f) x flow e = absurd (none-some _ e)
wrote-each (Tally f) x flow e = absurd (none-some _ e)
wrote-each (Collector c) x flow e = absurd (none-some _ e)
wrote-each (Views h) x flow e = absurd (none-some _ e)
wrote-each (Writer v) x flow e = absurd (none-some _ e)

pub files-each : {S K P Q : Type 0} (w : StageWork S K P Q) (x : Writing) (flow : Flow Point) → keeps_of w ≡ Some (x, flow) → files_by w ≡ up_to_limit (length flow.views)
files-each (ViewFiles t) x flow e = let same : (t.writing, t.views.views) ≡ (x, flow) = same_Some _ _ e in
    ap (λ (y : Writing × Flow Point). up_to_limit (length y.1.views)) same
files-each (Reader r) x flow e = absurd (none-some _ e)
files-each (Filter f) x flow e = absurd (none-some _ e)
files-each (Plug f) x flow e = absurd (none-some _ e)
files-each (Tally f) x flow e = absurd (none-some _ e)
files-each (Collector c) x flow e = absurd (none-some _ e)
files-each (Views h) x flow e = absurd (none-some _ e)
files-each (Writer v) x flow e = absurd (none-some _ e)
