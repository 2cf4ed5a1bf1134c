use Rattle.std.proofs.Common.{◌≡◌, ◌≤◌, length, vec_len}
use Rattle.std.specs.Prelude.{vec_capacity}
use Rattle.answer_model.specs.Values.{Opened, names_at}
use Rattle.extra_bytes.specs.Asked.{AreOwn}
use Rattle.stage_forms.specs.Below.{AreBelow, AreInside, HaveReaders}
use Rattle.run_opening.specs.Begun.{AreFine, AreForms, AreLayouts, AreNamesBound, FitStages}
use Rattle.run_opening.proofs.bind.bind_stages.Given as goal

abbrev pub invariant-loop-i : goal.invariant-loop-i
invariant-loop-i g l = record {
  forms : AreForms l.stages l.readers l.forms.items;
  fits : FitStages l.stages l.forms.items;
  layouts : AreLayouts l.stages l.readers l.layouts.items;
  bound : AreNamesBound l.stages l.readers l.i;
  names : (opened : Opened) → HaveReaders l.readers opened → l.names ≡ names_at l.stages opened l.i;
  fine : AreFine l.readers l.forms.items;
  own : AreOwn l.names;
  below : AreBelow l.stages l.readers l.belows.items;
  inside : AreInside (length l.readers) l.belows.items;
  count : vec_len l.forms ≡ l.i;
  belows_count : vec_len l.belows ≡ l.i;
  room : length l.stages ≤ vec_capacity l.forms;
  layouts_count : vec_len l.layouts ≡ l.i;
  layouts_room : length l.stages ≤ vec_capacity l.layouts;
  belows_room : length l.stages ≤ vec_capacity l.belows;
}
