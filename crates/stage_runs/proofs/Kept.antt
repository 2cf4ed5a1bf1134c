-- A work keeps what it writes, which stands in its state.
use Rattle.std.proofs.Common.{◌≡◌, ◌+◌, Bool, true, false, cond, List, [], ◌∷◌, Option, Some, None, is_some, refl, ap, sym, ◌∙◌, true≢false}
use Rattle.std.specs.Prelude.{◌==◌}
use Rattle.cloud_points.specs.declared.point.Point.{Point}
use Rattle.cloud_points.specs.declared.faults.StageFault.{StageFault}
use Rattle.cloud_points.specs.Flows.{Flow}
use Rattle.cloud_points.specs.Marks.{Mark, At, View_end, End, flow_marks}
use Rattle.network_theory.specs.Machine.{Machine, next, after_all, at_last, one_end, state_after, at_start}
use Rattle.stage_kinds.specs.declared.file_form.Writing.{Writing as Writes}
use Rattle.stage_kinds.specs.declared.stage_work.StageState.{StageState}
use Rattle.stage_kinds.specs.declared.stage_work.StageState.TheVariants.{Reading, Filtering, Plugging, Tallying, Collecting, Keeping, Writing}
use Rattle.stage_kinds.specs.declared.stage_work.StageWork.{StageWork}
use Rattle.stage_kinds.specs.declared.stage_work.StageWork.TheVariants.{Reader, Filter, Plug, Tally, Collector, Views, ViewFiles, Writer}
use Rattle.stage_kinds.specs.Stages.{is_leaf, meaning_of, state_of, writing_of}
use Rattle.plug_stages.specs.declared.filter.PlugFilter as plug_type
use Rattle.plug_stages.specs.declared.tally.PlugTally as tally_type

-- what is written by a state
abbrev pub written_in : StageState → Option Writes
written_in (Writing x spot) = Some x
written_in _ = None

module _ {S K P Q : Type 0} (fs : plug_type.Ghosts P) (ts : tally_type.Ghosts Q) where
  pub writing-is : (w : StageWork S K P Q) → writing_of w ≡ written_in (state_of fs ts w)
  writing-is (Reader r) = refl
  writing-is (Filter f) = refl
  writing-is (Plug v) = refl
  writing-is (Tally v) = refl
  writing-is (Collector c) = refl
  writing-is (Views h) = refl
  writing-is (ViewFiles t) = refl
  writing-is (Writer w) = refl

  after-keeps : (w : StageWork S K P Q) (t : StageState) (ps : List Point) → written_in ((meaning_of fs ts w).after t ps) ≡ written_in t
  after-keeps (Reader r) t ps = refl
  after-keeps (Views h) t ps = refl
  after-keeps (ViewFiles f) t ps = refl
  after-keeps (Filter f) Reading ps = refl
  after-keeps (Filter f) (Filtering spot) ps = refl
  after-keeps (Filter f) (Plugging spot) ps = refl
  after-keeps (Filter f) (Tallying spot) ps = refl
  after-keeps (Filter f) (Collecting g views) ps = refl
  after-keeps (Filter f) (Keeping x views) ps = refl
  after-keeps (Filter f) (Writing x spot) ps = refl
  after-keeps (Plug v) Reading ps = refl
  after-keeps (Plug v) (Filtering spot) ps = refl
  after-keeps (Plug v) (Plugging spot) ps = refl
  after-keeps (Plug v) (Tallying spot) ps = refl
  after-keeps (Plug v) (Collecting g views) ps = refl
  after-keeps (Plug v) (Keeping x views) ps = refl
  after-keeps (Plug v) (Writing x spot) ps = refl
  after-keeps (Tally v) Reading ps = refl
  after-keeps (Tally v) (Filtering spot) ps = refl
  after-keeps (Tally v) (Plugging spot) ps = refl
  after-keeps (Tally v) (Tallying spot) ps = refl
  after-keeps (Tally v) (Collecting g views) ps = refl
  after-keeps (Tally v) (Keeping x views) ps = refl
  after-keeps (Tally v) (Writing x spot) ps = refl
  after-keeps (Collector c) Reading ps = refl
  after-keeps (Collector c) (Filtering spot) ps = refl
  after-keeps (Collector c) (Plugging spot) ps = refl
  after-keeps (Collector c) (Tallying spot) ps = refl
  after-keeps (Collector c) (Collecting g views) ps = refl
  after-keeps (Collector c) (Keeping x views) ps = refl
  after-keeps (Collector c) (Writing x spot) ps = refl
  after-keeps (Writer w) Reading ps = refl
  after-keeps (Writer w) (Filtering spot) ps = refl
  after-keeps (Writer w) (Plugging spot) ps = refl
  after-keeps (Writer w) (Tallying spot) ps = refl
  after-keeps (Writer w) (Collecting g views) ps = refl
  after-keeps (Writer w) (Keeping x views) ps = refl
  after-keeps (Writer w) (Writing x spot) ps = refl

  view-keeps : (w : StageWork S K P Q) (t : StageState) → written_in ((meaning_of fs ts w).at_view t).0 ≡ written_in t
  view-keeps (Reader r) t = refl
  view-keeps (Views h) t = refl
  view-keeps (ViewFiles f) t = refl
  view-keeps (Filter f) Reading = refl
  view-keeps (Filter f) (Filtering spot) = refl
  view-keeps (Filter f) (Plugging spot) = refl
  view-keeps (Filter f) (Tallying spot) = refl
  view-keeps (Filter f) (Collecting g views) = refl
  view-keeps (Filter f) (Keeping x views) = refl
  view-keeps (Filter f) (Writing x spot) = refl
  view-keeps (Plug v) Reading = refl
  view-keeps (Plug v) (Filtering spot) = refl
  view-keeps (Plug v) (Plugging spot) = refl
  view-keeps (Plug v) (Tallying spot) = refl
  view-keeps (Plug v) (Collecting g views) = refl
  view-keeps (Plug v) (Keeping x views) = refl
  view-keeps (Plug v) (Writing x spot) = refl
  view-keeps (Tally v) Reading = refl
  view-keeps (Tally v) (Filtering spot) = refl
  view-keeps (Tally v) (Plugging spot) = refl
  view-keeps (Tally v) (Tallying spot) = refl
  view-keeps (Tally v) (Collecting g views) = refl
  view-keeps (Tally v) (Keeping x views) = refl
  view-keeps (Tally v) (Writing x spot) = refl
  view-keeps (Collector c) Reading = refl
  view-keeps (Collector c) (Filtering spot) = refl
  view-keeps (Collector c) (Plugging spot) = refl
  view-keeps (Collector c) (Tallying spot) = refl
  view-keeps (Collector c) (Collecting g views) = refl
  view-keeps (Collector c) (Keeping x views) = refl
  view-keeps (Collector c) (Writing x spot) = refl
  view-keeps (Writer w) Reading = refl
  view-keeps (Writer w) (Filtering spot) = refl
  view-keeps (Writer w) (Plugging spot) = refl
  view-keeps (Writer w) (Tallying spot) = refl
  view-keeps (Writer w) (Collecting g views) = refl
  view-keeps (Writer w) (Keeping x views) = refl
  view-keeps (Writer w) (Writing x spot) = refl

  end-keeps : (w : StageWork S K P Q) (t : StageState) (cut : Bool) → is_leaf w ≡ false → written_in ((meaning_of fs ts w).at_end t cut).0 ≡ written_in t
  end-keeps (Reader r) t cut inner = refl
  end-keeps (Views h) t cut inner = refl
  end-keeps (ViewFiles f) t cut inner = absurd (true≢false inner)
  end-keeps (Filter f) Reading cut inner = refl
  end-keeps (Filter f) (Filtering spot) cut inner = refl
  end-keeps (Filter f) (Plugging spot) cut inner = refl
  end-keeps (Filter f) (Tallying spot) cut inner = refl
  end-keeps (Filter f) (Collecting g views) cut inner = refl
  end-keeps (Filter f) (Keeping x views) cut inner = refl
  end-keeps (Filter f) (Writing x spot) cut inner = refl
  end-keeps (Plug v) Reading cut inner = refl
  end-keeps (Plug v) (Filtering spot) cut inner = refl
  end-keeps (Plug v) (Plugging spot) cut inner = refl
  end-keeps (Plug v) (Tallying spot) cut inner = refl
  end-keeps (Plug v) (Collecting g views) cut inner = refl
  end-keeps (Plug v) (Keeping x views) cut inner = refl
  end-keeps (Plug v) (Writing x spot) cut inner = refl
  end-keeps (Tally v) Reading cut inner = refl
  end-keeps (Tally v) (Filtering spot) cut inner = refl
  end-keeps (Tally v) (Plugging spot) cut inner = refl
  end-keeps (Tally v) (Tallying spot) cut inner = refl
  end-keeps (Tally v) (Collecting g views) cut inner = refl
  end-keeps (Tally v) (Keeping x views) cut inner = refl
  end-keeps (Tally v) (Writing x spot) cut inner = refl
  end-keeps (Collector c) Reading cut inner = refl
  end-keeps (Collector c) (Filtering spot) cut inner = refl
  end-keeps (Collector c) (Plugging spot) cut inner = refl
  end-keeps (Collector c) (Tallying spot) cut inner = refl
  end-keeps (Collector c) (Collecting g views) cut inner = refl
  end-keeps (Collector c) (Keeping x views) cut inner = refl
  end-keeps (Collector c) (Writing x spot) cut inner = refl
  end-keeps (Writer w) Reading cut inner = refl
  end-keeps (Writer w) (Filtering spot) cut inner = refl
  end-keeps (Writer w) (Plugging spot) cut inner = refl
  end-keeps (Writer w) (Tallying spot) cut inner = refl
  end-keeps (Writer w) (Collecting g views) cut inner = refl
  end-keeps (Writer w) (Keeping x views) cut inner = refl
  end-keeps (Writer w) (Writing x spot) cut inner = refl

  next-keeps : (w : StageWork S K P Q) → is_leaf w ≡ false → (c : Machine StageState StageFault) (t : Mark Point) → written_in (next (meaning_of fs ts w) c t).state ≡ written_in c.state
  next-keeps w inner c (At p) = go (is_some c.fault)
    where
      go : (b : Bool) → written_in (cond b c (record c { state = (meaning_of fs ts w).after c.state (p ∷ []); fault = (meaning_of fs ts w).fault c.state (p ∷ []) })).state ≡ written_in c.state
      go true = refl
      go false = after-keeps w c.state (p ∷ [])
  next-keeps w inner c View_end = go (is_some c.fault)
    where
      go : (b : Bool) → written_in (cond b c (record c { state = ((meaning_of fs ts w).at_view c.state).0 })).state ≡ written_in c.state
      go true = refl
      go false = view-keeps w c.state
  next-keeps w inner c (End cut) = go (c.ended + 1 == c.inputs)
    where
      go : (b : Bool) → written_in (cond b (at_last (meaning_of fs ts w) (one_end c cut)) (one_end c cut)).state ≡ written_in c.state
      go true = end-keeps w c.state _ inner
      go false = refl

  all-keep : (w : StageWork S K P Q) → is_leaf w ≡ false → (c : Machine StageState StageFault) (ms : List (Mark Point)) → written_in (after_all (meaning_of fs ts w) c ms).state ≡ written_in c.state
  all-keep w inner c [] = refl
  all-keep w inner c (m ∷ ms) = all-keep w inner (next (meaning_of fs ts w) c m) ms ∙ next-keeps w inner c m

  -- so one that is no leaf does over a whole flow
  pub writing-kept : (v w : StageWork S K P Q) (flow : Flow Point) → is_leaf v ≡ false → state_of fs ts w ≡ state_after (meaning_of fs ts v) (state_of fs ts v) flow → writing_of w ≡ writing_of v
  writing-kept v w flow inner e = writing-is w ∙ ap written_in e ∙ all-keep v inner (at_start 1 (state_of fs ts v)) (flow_marks flow) ∙ sym (writing-is v)
