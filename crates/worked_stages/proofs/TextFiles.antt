-- Files of text.
use Rattle.std.proofs.Common.{◌≡◌, ℕ, ◌+◌, true, not, List, [], ◌∷◌, None, refl, ap}
use Rattle.std.specs.Prelude.{is_some}
use Rattle.cloud_points.specs.Queue.{up_to_limit}
use Rattle.cloud_points.specs.declared.point.Point.{Point}
use Rattle.stage_kinds.specs.Files.{unwritten}
use Rattle.stage_kinds.specs.Stages.{stops_nowhere}
use Rattle.stage_kinds.specs.declared.file_form.FileForm.TheVariants.{Text}
use Rattle.stage_meanings.specs.Conditions.{passes}
use Rattle.stage_meanings.specs.Filters.{first_refused}
use Rattle.text_writer.specs.declared.form.TextForm.{TextForm}

placed : (f : TextForm) (n k : ℕ) (ps : List Point) → first_refused (unwritten (Text f)) (passes None) n k ps ≡ None
placed f n k [] = refl
placed f n k (p ∷ ps) = placed f (n + 1) (up_to_limit (k + 1)) ps

-- each point has its place in a file of text
pub nowhere-in-text : (f : TextForm) (ps : List Point) → stops_nowhere (record { form = Text f; only = None }) ps ≡ true
nowhere-in-text f ps = ap (λ o. not (is_some o)) (placed f 0 0 ps)
