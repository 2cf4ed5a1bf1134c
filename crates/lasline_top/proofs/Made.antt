-- Files of generated points that were made, or couldn't be.
use Rattle.std.proofs.Common.{◌≡◌, ℕ, List, [], ◌∷◌, Option, None, option_map, Ok, ap, sym, ◌∙◌}
use Rattle.file_devices.specs.Content.{AppendsPart}
use Rattle.file_devices.specs.Named.{Names, put}
use Rattle.file_devices.specs.declared.devices.Op.TheVariants as op
use Rattle.cloud_gen.specs.GeneratedFile.{generated_file, IsPut}
use Rattle.run_report.specs.declared.refusal.Place.TheVariants as at
use Rattle.run_report.specs.declared.refusal.Refusal.{Refusal}
use Rattle.run_report.specs.declared.refusal.Refusal.TheVariants as of
use Rattle.run_outcome.specs.Cause.{WerePut}
use Rattle.lasline_top.specs.Texts.{generated_line}
use Rattle.lasline_top.specs.Words.{Make_file}
use Rattle.lasline_top.specs.Ends.{WasRefused}
use Rattle.lasline_top.proofs.Printed.{unprinted}
use Rattle.plug_stages.specs.Handed.{Handed}

-- ---- files that were made

-- the map has the file then
pub put-as : (old new : Option Names) (name bytes : List ℕ) → IsPut old name bytes new → WerePut old (record { stage = 0; name = name; bytes = bytes; view = None } ∷ []) new
put-as old new name bytes h n e x is = ap (option_map (λ o. put o name bytes)) (sym e) ∙ h x is

pub file-unprinted : (handed : Handed) (count : ℕ) (name : List ℕ) (rose out : Type 0) (old new : Option Names) (out0 out1 : Option (List ℕ)) (r : Refusal) → r ≡ of.Device at.Out op.Write → out
    → IsPut old name (generated_file count) new → AppendsPart out0 (generated_line count) out1 → WasRefused handed (Ok (Make_file count name)) rose out old new out0 out1 r
file-unprinted handed count name rose out old new out0 out1 r is risen h line =
    unprinted handed (Make_file count name) rose out old new out0 out1 r is risen
    (λ m t. record { put = put-as old new name (generated_file count) h; report = line }) (λ m t. risen) (λ m t. h)
