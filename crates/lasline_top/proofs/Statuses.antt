-- A status tells its refusal.
use Rattle.std.proofs.Common.{◌≡◌, refl, ap, sym, ◌∙◌}
use Rattle.run_report.specs.declared.refusal.Refusal.{Refusal}
use Rattle.run_report.specs.declared.refusal.Refusal.TheVariants.{Usage, Pipeline, Data, Device, Memory}
use Rattle.lasline_top.specs.declared.status.Status.{Status}
use Rattle.lasline_top.specs.declared.status.Status.TheVariants as status
use Rattle.lasline_top.specs.Codes.{code_of}
use Rattle.lasline_top.specs.Refusals.{status_for}

-- the refusal of a status; of one that is none, any
abbrev refusal_in : Status → Refusal
refusal_in status.Ok = Memory
refusal_in (status.Usage k) = Usage k
refusal_in (status.Pipeline f) = Pipeline f
refusal_in (status.Data i f) = Data i f
refusal_in (status.Device p o) = Device p o
refusal_in status.Memory = Memory

back : (refusal : Refusal) → refusal_in (status_for refusal) ≡ refusal
back (Usage k) = refl
back (Pipeline f) = refl
back (Data i f) = refl
back (Device p o) = refl
back Memory = refl

-- two refusals with one status are the same
pub status_tells : (s : Status) (a b : Refusal) → s ≡ status_for a → s ≡ status_for b → a ≡ b
status_tells s a b is_a is_b = sym (back a) ∙ (ap refusal_in (sym is_a ∙ is_b) ∙ back b)

-- only that of a command that was done has the code 0
pub only-ok : (s : Status) → code_of s ≡ 0 → s ≡ status.Ok
only-ok status.Ok e = refl
only-ok (status.Usage k) e = absurd cc
only-ok (status.Pipeline f) e = absurd cc
only-ok (status.Data i f) e = absurd cc
only-ok (status.Device p o) e = absurd cc
only-ok status.Memory e = absurd cc
