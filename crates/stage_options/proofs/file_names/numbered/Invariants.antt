use Rattle.std.proofs.Common.{◌≡◌, ◌++◌, length, string_bytes}
use denote.Shadow.{shadow}
use denote.Text.{Utf8}
use Rattle.stage_options.specs.Values.{numbered}
use Rattle.stage_options.proofs.file_names.numbered.Given as goal

abbrev pub invariant-loop-front : goal.invariant-loop-front
invariant-loop-front l = record {
  same : string_bytes l.text ++ numbered l.rest l.view_number ≡ numbered l.name l.view_number;
  is_text : shadow (Utf8 l.rest);
}

abbrev pub decreases-loop-front : goal.decreases-loop-front
decreases-loop-front l = length l.rest
