-- What was printed, and what couldn't be.
use Rattle.std.proofs.Common.{◌≡◌, List, ℕ, Option, Result, Ok, Err, IsOk, IsOkAnd, IfErr, OnErr, refl, subst, sym, inl, inr}
use Rattle.file_devices.specs.Content.{Appends}
use Rattle.file_devices.specs.Named.{Names}
use Rattle.file_devices.specs.declared.devices.Op.{Op}
use Rattle.file_devices.specs.declared.devices.Op.TheVariants as op
use Rattle.run_report.specs.declared.refusal.Place.TheVariants as at
use Rattle.run_report.specs.declared.refusal.Refusal.{Refusal}
use Rattle.run_report.specs.declared.refusal.Refusal.TheVariants as of
use Rattle.answer_model.specs.Runs.{Run}
use Rattle.run_outcome.specs.Cause.{WerePut, IsDone, IsPartDone}
use Rattle.lasline_top.specs.Words.{Task}
use Rattle.lasline_top.specs.Answer.{done}
use Rattle.lasline_top.specs.Cause.{AtTask}
use Rattle.lasline_top.specs.Left.{AreTold, IsLeftBy}
use Rattle.lasline_top.specs.Ends.{WasRefused}
use Rattle.plug_stages.specs.Handed.{Handed}

-- ---- runs that were right

pub ok-only : {A : Type 0} {E : Type 0} (r : Result A E) (P : A → Type 0) → IsOkAnd r P → IsOk r
ok-only (Ok x) P h = refl
ok-only (Err e) P h = absurd h

pub ok-more : {A E : Type 0} (r : Result A E) (P Q : A → Type 0) → ((x : A) → P x → Q x) → IsOkAnd r P → IsOkAnd r Q
ok-more (Ok x) P Q more h = more x h
ok-more (Err e) P Q more h = absurd h

-- what was done was put, and reported
pub done_put : (r : Result Run Refusal) (old new : Option Names) (out0 out1 : Option (List ℕ)) → IsOkAnd r (IsDone old new out0 out1) → IsOkAnd r (λ run. WerePut old run.outputs new)
done_put r old new out0 out1 = ok-more r (IsDone old new out0 out1) (λ run. WerePut old run.outputs new) (λ run h. h.put)

pub done_report : (r : Result Run Refusal) (old new : Option Names) (out0 out1 : Option (List ℕ)) → IsOkAnd r (IsDone old new out0 out1) → IsOkAnd r (λ run. Appends out0 run.report out1)
done_report r old new out0 out1 = ok-more r (IsDone old new out0 out1) (λ run. Appends out0 run.report out1) (λ run h. h.report)

pub part_put : (r : Result Run Refusal) (old new : Option Names) (out0 out1 : Option (List ℕ)) → IsOkAnd r (IsPartDone old new out0 out1) → IsOkAnd r (λ run. WerePut old run.outputs new)
part_put r old new out0 out1 = ok-more r (IsPartDone old new out0 out1) (λ run. WerePut old run.outputs new) (λ run h. h.put)

pub part_ok : (r : Result Run Refusal) (old new : Option Names) (out0 out1 : Option (List ℕ)) → IsOkAnd r (IsPartDone old new out0 out1) → IsOk r
part_ok r old new out0 out1 = ok-only r (IsPartDone old new out0 out1)

-- ---- the output failed

-- a command whose text couldn't be printed is refused for that
pub unprinted : (handed : Handed) (task : Task) (files out : Type 0) (old new : Option Names) (out0 out1 : Option (List ℕ)) (r : Refusal) → r ≡ of.Device at.Out op.Write → out
    → ((m : Names) → AreTold (Ok task) old new m → IsOkAnd (done handed m task) (IsPartDone old new out0 out1))
    → ((m : Names) → AreTold (Ok task) old new m → AtTask handed files out m (Ok task) at.Out op.Write)
    → ((m : Names) → AreTold (Ok task) old new m → IsLeftBy handed (Ok task) (of.Device at.Out op.Write) old new m)
    → WasRefused handed (Ok task) files out old new out0 out1 r
unprinted handed task files out old new out0 out1 r is rose part device left = subst (WasRefused handed (Ok task) files out old new out0 out1) (sym is) (record {
  because = λ m t. inl (inr (device m t));
  risen = rose;
  out_risen = λ o e. (named o e, rose);
  left = left;
  quiet = inr (refl, part);
})
  where
    named : (o : Op) → of.Device at.Out op.Write ≡ of.Device at.Out o → o ≡ op.Write
    named o e = cc

-- a text that couldn't be printed
pub if-unprinted : {T : Type 0} (r : Result T Refusal) (P Q : Type 0) (W : Refusal → Type 0) → IfErr r (λ x. x ≡ of.Device at.Out op.Write) → OnErr r P → OnErr r Q
    → ((x : Refusal) → x ≡ of.Device at.Out op.Write → P → Q → W x) → IfErr r W
if-unprinted (Ok x) P Q W is p q f = tt
if-unprinted (Err e) P Q W is p q f = f e is p q
