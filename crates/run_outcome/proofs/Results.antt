-- What holds of the answer of a step, by what held of it.
use Rattle.std.proofs.Common.{◌≡◌, Result, Ok, Err, IfOk, IfErr, OnOk, OnErr, sym, subst}

pub if-ok : {R E : Type 0} (o : Result R E) {P Q : R → Type 0} → IfOk o P → ((r : R) → P r → Q r) → IfOk o Q
if-ok (Ok r) p f = f r p
if-ok (Err e) p f = tt

pub if-ok2 : {R E : Type 0} (o : Result R E) {P Q Z : R → Type 0} → IfOk o P → IfOk o Q → ((r : R) → P r → Q r → Z r) → IfOk o Z
if-ok2 (Ok r) p q f = f r p q
if-ok2 (Err e) p q f = tt

pub if-err : {R E : Type 0} (o : Result R E) {P Q : E → Type 0} → IfErr o P → ((e : E) → P e → Q e) → IfErr o Q
if-err (Ok r) p f = tt
if-err (Err e) p f = f e p

pub if-on-err : {R E : Type 0} (o : Result R E) {P Q : Type 0} → OnErr o P → (P → Q) → OnErr o Q
if-on-err (Ok r) p f = tt
if-on-err (Err e) p f = f p

pub ok-of : {R E : Type 0} (P : R → Type 0) (o : Result R E) (r : R) → o ≡ Ok r → IfOk o P → P r
ok-of P (Ok s) r e p = let same : s ≡ r = cc in subst P same p
ok-of P (Err f) r e p = cc

pub err-of : {R E : Type 0} (P : E → Type 0) (o : Result R E) (f : E) → o ≡ Err f → IfErr o P → P f
err-of P (Ok r) f e p = cc
err-of P (Err g) f e p = let same : g ≡ f = cc in subst P same p

pub on-ok : {R E : Type 0} (o : Result R E) (r : R) {P : Type 0} → o ≡ Ok r → OnOk o P → P
on-ok (Ok s) r e p = p
on-ok (Err f) r e p = cc

-- of the same answer
pub ok-same : {R E : Type 0} (P : R → Type 0) (o p : Result R E) → o ≡ p → IfOk p P → IfOk o P
ok-same P o p e h = subst (λ r. IfOk r P) (sym e) h
