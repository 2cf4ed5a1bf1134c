use Rattle.std.proofs.Common.{ℕ, List, Option, Result, Ok, Err, ◌≡◌, ◌∷◌, option_map, subst, arith, OnOk}
use Rattle.file_devices.specs.Counts.{Rose}
use Rattle.file_devices.specs.Told.{IsAsTold}
use Rattle.file_devices.specs.declared.devices.Op.TheVariants.{Open, Read, Create, Write, Patch, Keep}
use Rattle.cloud_gen.specs.GeneratedFile.{IsToldUnmade, IsUnwritten}
use Rattle.cloud_gen.specs.declared.faults.GenerateError.{GenerateError}
use Rattle.cloud_gen.specs.declared.faults.GenerateError.TheVariants.{Device, Memory}
use Rattle.cloud_gen.proofs.file.generate.Goals as goal

kept-so : {X E P : Type 0} (r : Result X E) → P → OnOk r P
kept-so (Ok x) is = is
kept-so (Err e) is = tt

pub returns-in-Ok-clause-gave : goal.returns-in-Ok-clause-gave
returns-in-Ok-clause-gave g c =
    let files = g.F.Files in
    let count = g.F.Out.Sink.faults c.in-Ok.sink in
    kept-so c.keep_file.result (count, subst (λ o. IsAsTold (files.counts c.keep_file.new.files) (option_map (λ cs. count ∷ cs) o)) c.create_file.ensures.counts c.keep_file.ensures.gave)

-- a file that couldn't be written was given back with a fault
unwritten-told : (before after : Option (List ℕ)) (first last : ℕ) (refusal : GenerateError) → first ≡ 0 → IsUnwritten (Rose first last) refusal
    → IsAsTold after (option_map (λ cs. last ∷ cs) before) → IsToldUnmade before after refusal
unwritten-told before after first last Memory none failed told = tt
unwritten-told before after first last (Device Write) none failed told = (last, omega (arith, none, failed), told)
unwritten-told before after first last (Device Patch) none failed told = (last, omega (arith, none, failed), told)
unwritten-told before after first last (Device Open) none failed told = absurd failed
unwritten-told before after first last (Device Read) none failed told = absurd failed
unwritten-told before after first last (Device Create) none failed told = absurd failed
unwritten-told before after first last (Device Keep) none failed told = absurd failed

pub returns-in-Err-clause-told : goal.returns-in-Err-clause-told
returns-in-Err-clause-told g c =
    let files = g.F.Files in
    unwritten-told (files.counts c.args.files.now) (files.counts c.done_out.new.self) _ (g.F.Out.Sink.faults c.in-Err.sink) c.in-Err.refusal c.in_ok-sink.ensures.fresh c.in-Err.ensures.failed
    (subst (λ o. IsAsTold (files.counts c.done_out.new.self) (option_map (λ cs. g.F.Out.Sink.faults c.in-Err.sink ∷ cs) o)) c.create_file.ensures.counts c.done_out.ensures.counts)
