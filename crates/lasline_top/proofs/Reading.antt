-- How far commands read files.
use Rattle.std.proofs.Common.{◌≡◌, ◌+◌, ℕ, List, length, Option, Some, None, option_map, IfSome, Result, Ok, Err, IfOk, IfErr, refl, ap, subst, sym, ◌∙◌, arith}
use Rattle.file_devices.specs.Named.{Names}
use Rattle.cloud_points.specs.declared.faults.PointFault.{PointFault}
use Rattle.cloud_points.specs.declared.faults.StageFault.{StageFault}
use Rattle.cloud_points.specs.declared.faults.StageFault.TheVariants as stage
use Rattle.network_core.specs.declared.stop.Stop.{Stop}
use Rattle.network_core.specs.declared.stop.Stop.TheVariants.{Last, First}
use Rattle.answer_model.specs.Runs.{file_at}
use Rattle.run_report.specs.declared.refusal.Fault.{Fault}
use Rattle.run_report.specs.declared.refusal.Fault.TheVariants.{Header, Vlr, Point}
use Rattle.run_report.specs.declared.refusal.Place.TheVariants as at
use Rattle.run_report.specs.declared.refusal.Refusal.{Refusal}
use Rattle.run_report.specs.declared.refusal.Refusal.TheVariants as of
use Rattle.stage_options.specs.declared.stage.StageSpec.{StageSpec}
use Rattle.run_engine.specs.ReadAhead.{HasReadNoMore, ReadAtMost}
use Rattle.run_engine.specs.declared.engine.Engine.{Engine as Chosen}
use Rattle.run_engine.specs.declared.engine.Engine.TheVariants as chosen
use Rattle.run_engine.specs.declared.shape.Shape.{Shape}
use Rattle.lasline_top.specs.Answer.{stages_in}
use Rattle.lasline_top.specs.Cause.{IsOfText}
use Rattle.lasline_top.specs.Reading.{IsReadAhead, IsTextAhead}
use Rattle.lasline_top.specs.Tasks.{engine_view}
use Rattle.lasline_top.specs.Words.{Engine, Queues, Whole, Run_file}

-- nothing was read
pub read-nothing : (most : ℕ) (old new : Option ℕ) → new ≡ old → ReadAtMost most old new
read-nothing most old new same k is = (k, sym same ∙ is, omega arith)

-- only of a refusal for a point is it said how far was read
pub at-points : (engine : Engine) (m : Names) (text : List ℕ) (old new : Option ℕ) (r : Refusal)
    → ((chunk queue i : ℕ) (f : PointFault) → engine ≡ Queues chunk queue First → r ≡ of.Data i (Point f) → IfOk (stages_in text) (λ stages. HasReadNoMore m stages queue chunk i (stage.Point f) old new))
    → IsTextAhead engine m text old new r
at-points Whole m text old new r ahead = tt
at-points (Queues chunk queue Last) m text old new r ahead = tt
at-points (Queues chunk queue First) m text old new (of.Data i (Point f)) ahead = ahead chunk queue i f refl refl
at-points (Queues chunk queue First) m text old new (of.Data i (Header f)) ahead = tt
at-points (Queues chunk queue First) m text old new (of.Data i (Vlr f)) ahead = tt
at-points (Queues chunk queue First) m text old new of.Memory ahead = tt
at-points (Queues chunk queue First) m text old new (of.Usage k) ahead = tt
at-points (Queues chunk queue First) m text old new (of.Pipeline f) ahead = tt
at-points (Queues chunk queue First) m text old new (of.Device p o) ahead = tt

-- not of one for the pipeline
pub text-refused : (engine : Engine) (m : Names) (text : List ℕ) (old new : Option ℕ) (r : Refusal) → IsOfText r → IsTextAhead engine m text old new r
text-refused engine m text old new r h = at-points engine m text old new r (λ chunk queue i f engine_is is. absurd (subst IsOfText is h))

-- the run of a text reads as the run of its stages
pub text-ahead : {T : Type 0} (bounded : Type 0) (engine : Chosen) (stop : Stop) (map : Option Names) (text : List ℕ) (stages : List StageSpec) (old new : Option ℕ) (result : Result T Refusal) → stages_in text ≡ Ok stages
    → (bounded → (shape : Shape) (m : Names) (i : ℕ) (f : PointFault) → engine ≡ chosen.Queues shape → stop ≡ First → map ≡ Some m → result ≡ Err (of.Data i (Point f)) → HasReadNoMore m stages shape.queue shape.chunk i (stage.Point f) old new)
    → IfErr result (λ r. bounded → (m : Names) → map ≡ Some m → IsTextAhead (engine_view stop engine) m text old new r)
text-ahead bounded engine stop map text stages old new (Ok x) is ahead = tt
text-ahead bounded chosen.Whole stop map text stages old new (Err r) is ahead = λ near m told. tt
text-ahead bounded (chosen.Queues shape) Last map text stages old new (Err r) is ahead = λ near m told. tt
text-ahead bounded (chosen.Queues shape) First map text stages old new (Err r) is ahead = λ near m told.
    at-points (Queues shape.chunk shape.queue First) m text old new r (λ chunk queue i f engine_is refusal_is.
    subst (λ p. IfOk p (λ ss. HasReadNoMore m ss queue chunk i (stage.Point f) old new)) (sym is)
    (let same_chunk : shape.chunk ≡ chunk = (let e = engine_is in cc) in
    let same_queue : shape.queue ≡ queue = (let e = engine_is in cc) in
    subst (λ c. HasReadNoMore m stages queue c i (stage.Point f) old new) same_chunk
    (subst (λ q. HasReadNoMore m stages q shape.chunk i (stage.Point f) old new) same_queue
    (ahead near shape m i f refl refl told (ap (λ x. Err x) refusal_is)))))

-- ---- of a file

-- a run that reads a text before
behind : (m : Names) (stages : List StageSpec) (queue chunk first i : ℕ) (f : StageFault) (old middle new : Option ℕ) → ReadAtMost first old middle → HasReadNoMore m stages queue chunk i f middle new
    → HasReadNoMore m stages queue chunk i f (option_map (λ n. n + first) old) new
behind m stages queue chunk first i f old middle new text more keep writes readers told bytes plain k is =
    let later = more keep writes readers told bytes plain k is in
    let earlier = text later.0 later.1 in
    (earlier.0 + first, ap (option_map (λ n. n + first)) earlier.1, omega (arith, later.2, earlier.2))

if-behind : (plan : Result (List StageSpec) Refusal) (m : Names) (queue chunk first i : ℕ) (f : StageFault) (old middle new : Option ℕ) → ReadAtMost first old middle
    → IfOk plan (λ stages. HasReadNoMore m stages queue chunk i f middle new) → IfOk plan (λ stages. HasReadNoMore m stages queue chunk i f (option_map (λ n. n + first) old) new)
if-behind (Ok stages) m queue chunk first i f old middle new text more = behind m stages queue chunk first i f old middle new text more
if-behind (Err r) m queue chunk first i f old middle new text more = tt

text-behind : (engine : Engine) (m : Names) (text : List ℕ) (first : ℕ) (old middle new : Option ℕ) (r : Refusal) → ReadAtMost first old middle → IsTextAhead engine m text middle new r
    → IsTextAhead engine m text (option_map (λ n. n + first) old) new r
text-behind engine m text first old middle new r read ahead = at-points engine m text (option_map (λ n. n + first) old) new r
    (λ chunk queue i f engine_is refusal_is. if-behind (stages_in text) m queue chunk first i (stage.Point f) old middle new read
    (subst (λ x. IsTextAhead (Queues chunk queue First) m text middle new x) refusal_is (subst (λ e. IsTextAhead e m text middle new r) engine_is ahead)))

-- its text was read, and run
pub file-ahead : (file : List ℕ) (engine : Engine) (m : Names) (text : List ℕ) (old middle new : Option ℕ) (r : Refusal) → file_at (m file) at.PipelineFile ≡ Ok text
    → ReadAtMost (length text) old middle → IsTextAhead engine m text middle new r → IsReadAhead (Ok (Run_file file engine)) m old new r
file-ahead file engine m text old middle new r is read ahead = go (m file) is
  where
    go : (o : Option (List ℕ)) → file_at o at.PipelineFile ≡ Ok text → IfSome o (λ t. IsTextAhead engine m t (option_map (λ n. n + length t) old) new r)
    go (Some t) e = let same : t ≡ text = cc in subst (λ x. IsTextAhead engine m x (option_map (λ n. n + length x) old) new r) (sym same) (text-behind engine m text (length text) old middle new r read ahead)
    go None e = absurd (cc)

-- its text couldn't be read, or is no pipeline; or its report couldn't be printed
pub file-refused : (file : List ℕ) (engine : Engine) (m : Names) (old new : Option ℕ) (r : Refusal) → ((i : ℕ) (f : Fault) → r ≡ of.Data i f → ⊥) → IsReadAhead (Ok (Run_file file engine)) m old new r
file-refused file engine m old new r other = go (m file)
  where
    go : (o : Option (List ℕ)) → IfSome o (λ t. IsTextAhead engine m t (option_map (λ n. n + length t) old) new r)
    go (Some t) = at-points engine m t (option_map (λ n. n + length t) old) new r (λ chunk queue i f engine_is refusal_is. absurd (other i (Point f) refusal_is))
    go None = tt
