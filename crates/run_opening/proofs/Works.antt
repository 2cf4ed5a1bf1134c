-- What a work holds of a caller's, over one state of its places and over another.
use Rattle.std.proofs.Common.{◌≡◌, List, Some, Result, Ok, Err, IfOk, OnErr, refl, sym, ◌∙◌}
use Rattle.std.proofs.lemmas.Option.{none-some}
use Rattle.answer_model.specs.Naming.{AreBack, found_in}
use Rattle.cloud_points.specs.Meaning.{Nature}
use Rattle.cloud_points.specs.declared.point.Point.{Point}
use Rattle.plug_stages.specs.Handed.{Handed}
use Rattle.plug_stages.specs.declared.filter.PlugFilter as plug_type
use Rattle.plug_stages.specs.declared.places.Places.{Places}
use Rattle.plug_stages.specs.declared.tally.PlugTally as tally_type
use Rattle.stage_forms.specs.Starts.{IsHandedIn}
use Rattle.stage_kinds.specs.Held.{filter_in, tally_in}
use Rattle.stage_kinds.specs.declared.stage_work.StageWork.{StageWork}
use Rattle.stage_kinds.specs.declared.stage_work.StageWork.TheVariants.{Reader, Filter, Plug, Tally, Collector, Views, ViewFiles, Writer}
use Rattle.stage_options.specs.Roles.{plug_of, tally_of}
use Rattle.stage_options.specs.declared.options.Options.{Options}
use Rattle.stage_options.specs.declared.stage.StageSpec.{StageSpec}

module _ {S K P Q : Type 0} (fs : plug_type.Ghosts P) (ts : tally_type.Ghosts Q) (o : Options) where
  -- the filter that it holds is the one that its options name
  pub filter-is : (handed : Handed) (w : StageWork S K P Q) → IsHandedIn fs ts o handed w → (n : Nature Point) → filter_in fs w ≡ Some n → found_in handed.filters (plug_of o) ≡ Some n
  filter-is handed (Plug v) is n e = is ∙ e
  filter-is handed (Tally v) is n e = absurd (none-some n e)
  filter-is handed (Reader r) is n e = absurd (none-some n e)
  filter-is handed (Filter f) is n e = absurd (none-some n e)
  filter-is handed (Collector c) is n e = absurd (none-some n e)
  filter-is handed (Views h) is n e = absurd (none-some n e)
  filter-is handed (ViewFiles t) is n e = absurd (none-some n e)
  filter-is handed (Writer v) is n e = absurd (none-some n e)

  pub tally-is : (handed : Handed) (w : StageWork S K P Q) → IsHandedIn fs ts o handed w → (n : Nature Point) → tally_in ts w ≡ Some n → found_in handed.tallies (tally_of o) ≡ Some n
  tally-is handed (Tally v) is n e = is.0 ∙ e
  tally-is handed (Plug v) is n e = absurd (none-some n e)
  tally-is handed (Reader r) is n e = absurd (none-some n e)
  tally-is handed (Filter f) is n e = absurd (none-some n e)
  tally-is handed (Collector c) is n e = absurd (none-some n e)
  tally-is handed (Views h) is n e = absurd (none-some n e)
  tally-is handed (ViewFiles t) is n e = absurd (none-some n e)
  tally-is handed (Writer v) is n e = absurd (none-some n e)

  -- where the same is found by those names
  pub handed-before : (before now : Handed) → found_in now.filters (plug_of o) ≡ found_in before.filters (plug_of o) → found_in now.tallies (tally_of o) ≡ found_in before.tallies (tally_of o)
      → (w : StageWork S K P Q) → IsHandedIn fs ts o now w → IsHandedIn fs ts o before w
  handed-before before now filters tallies (Plug v) is = sym filters ∙ is
  handed-before before now filters tallies (Tally v) is = (sym tallies ∙ is.0, is.1)
  handed-before before now filters tallies (Reader r) is = tt
  handed-before before now filters tallies (Filter f) is = tt
  handed-before before now filters tallies (Collector c) is = tt
  handed-before before now filters tallies (Views h) is = tt
  handed-before before now filters tallies (ViewFiles t) is = tt
  handed-before before now filters tallies (Writer v) is = tt

-- where nothing is taken, all is where it was
pub nothing-taken : {P Q : Type 0} (fs : plug_type.Ghosts P) (ts : tally_type.Ghosts Q) (stages : List StageSpec) (old : Places P Q) → AreBack fs ts stages old old
nothing-taken fs ts stages old = record { same = refl; filters = λ k other. refl; tallies = λ k other. refl }

-- three things that hold of the answer of a step
pub if-ok3 : {R E : Type 0} (o : Result R E) {A B C Z : R → Type 0} → IfOk o A → IfOk o B → IfOk o C → ((r : R) → A r → B r → C r → Z r) → IfOk o Z
if-ok3 (Ok r) a b c f = f r a b c
if-ok3 (Err e) a b c f = tt

pub on-err : {R E : Type 0} (o : Result R E) {A : Type 0} → A → OnErr o A
on-err (Ok r) a = tt
on-err (Err e) a = a
