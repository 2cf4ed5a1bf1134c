-- Points that are put behind others, one after the other.
use Rattle.std.proofs.Common.{◌≡◌, ℕ, ◌+◌, ◌<◌, ◌≤◌, true, false, List, [], ◌∷◌, ◌++◌, length, take, get_or, Result, Ok, Err, OnOk, OnErr, refl, ap, sym, ◌∙◌, arith, append_assoc}
use Rattle.std.specs.Result.{is_err}
use Rattle.std.proofs.lemmas.Bool.{false≢true}
use Rattle.std.proofs.lemmas.List.{take_at, take_all, take_more}
use Rattle.cloud_points.specs.declared.point.Point.{Point}

-- what is said of a refused call, where it was refused
pub where_refused : {T E P : Type 0} (r : Result T E) → is_err r ≡ true → OnErr r P → P
where_refused (Ok x) refused said = absurd (false≢true refused)
where_refused (Err e) refused said = said

-- and of one that was not
pub where_done : {T E P : Type 0} (r : Result T E) → is_err r ≡ false → OnOk r P → P
where_done (Ok x) done said = said
where_done (Err e) done said = absurd (false≢true (sym done))

-- what holds anyway
pub anyway : {T E P : Type 0} (r : Result T E) → P → OnErr r P
anyway (Ok x) holds = tt
anyway (Err e) holds = holds

pub none_of : (points : List Point) → length points ≡ 0 → points ≡ []
none_of [] none = refl
none_of (p ∷ rest) none = absurd (omega (arith, none))

pub one_behind : (before more : List Point) (k : ℕ) (p : Point) (points : List Point) → k < length more → get_or more k p ≡ p
    → points ≡ before ++ take k more → points ++ p ∷ [] ≡ before ++ take (k + 1) more
one_behind before more k p points inside got are =
    ap (λ l. l ++ p ∷ []) are ∙ append_assoc before (take k more) (p ∷ [])
    ∙ ap (λ l. before ++ l) ((λ j. take k more ++ sym got j ∷ []) ∙ sym (take_more more k p inside))

pub all_behind : (before more : List Point) (k : ℕ) (points : List Point) → length more ≤ k → points ≡ before ++ take k more → points ≡ before ++ more
all_behind before more k points all are = are ∙ ap (λ l. before ++ l) (take_all k more all)

-- the points before them stay
pub before_stay : (before more : List Point) (k : ℕ) (points : List Point) → points ≡ before ++ take k more → take (length before) points ≡ before
before_stay before more k points are = ap (take (length before)) are ∙ take_at before (take k more) (length before) refl
