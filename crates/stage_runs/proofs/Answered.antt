-- What holds of an answer.
use Rattle.std.proofs.Common.{Result, Ok, Err, OnErr, OnOk}

pub on-ok : {T E : Type 0} (r : Result T E) (P Q : Type 0) → (P → Q) → OnOk r P → OnOk r Q
on-ok (Ok x) P Q f h = f h
on-ok (Err e) P Q f h = tt

pub any-ok : {T E : Type 0} (r : Result T E) (P : Type 0) → P → OnOk r P
any-ok (Ok x) P p = p
any-ok (Err e) P p = tt

pub both-ok : {T E : Type 0} (r : Result T E) (P Q : Type 0) → OnOk r P → OnOk r Q → OnOk r (P × Q)
both-ok (Ok x) P Q p q = (p, q)
both-ok (Err e) P Q p q = tt

pub on-err : {T E : Type 0} (r : Result T E) (P Q : Type 0) → (P → Q) → OnErr r P → OnErr r Q
on-err (Ok x) P Q f h = tt
on-err (Err e) P Q f h = f h
