use Rattle.std.proofs.Common.{arith, ◌≡◌, ◌+◌, ◌^◌, ◌<◌, sym, ℤ, pos, neg_ℤ, subst, w64, FitsSigned, unsigned_abs, ◌≤◌}
use Rattle.std.proofs.lemmas.Int.{ints, to_z-of_z}
use Rattle.ieee_words.specs.Near.{IsNearest}
use Rattle.ieee_words.proofs.Signed.{near_zero, near_positive, near_negative}
use Rattle.ieee_words.proofs.NearWords.{is_near_word}
use Rattle.ieee_words.proofs.near.Goals as goal

mag_fits : (n : ℤ) → FitsSigned w64 n → unsigned_abs n ≤ 2 ^ 63
mag_fits n f = omega (arith, ints, f)

pub returns-then-n-eq0-clause-nearest : goal.returns-then-n-eq0-clause-nearest
returns-then-n-eq0-clause-nearest c =
    let e : c.args.n ≡ pos 0 = omega (arith, ints) in
    subst (λ (n : ℤ). IsNearest n c.args.k 0) (sym e) (near_zero c.args.k)

pub returns-then-n-lt0-clause-nearest : goal.returns-then-n-lt0-clause-nearest
returns-then-n-lt0-clause-nearest c =
    let i = to_z-of_z w64 c.args.n c.ranges.n in
    let e : c.args.n ≡ neg_ℤ (pos c.unsigned_abs.result) = grind (arith, ints) in
    let p : 0 < c.unsigned_abs.result = grind (arith, ints) in
    subst (λ (n : ℤ). IsNearest n c.args.k (c.near_size-size.result + 2 ^ 63)) (sym e)
    (near_negative c.unsigned_abs.result c.args.k c.near_size-size.result p c.near_size-size.ensures)

pub returns-else-n-lt0-clause-nearest : goal.returns-else-n-lt0-clause-nearest
returns-else-n-lt0-clause-nearest c =
    let i = to_z-of_z w64 c.args.n c.ranges.n in
    let e : c.args.n ≡ pos c.unsigned_abs.result = grind (arith, ints) in
    let p : 0 < c.unsigned_abs.result = grind (arith, ints) in
    subst (λ (n : ℤ). IsNearest n c.args.k c.near_size-size.result) (sym e)
    (near_positive c.unsigned_abs.result c.args.k c.near_size-size.result p c.near_size-size.ensures)

pub returns-then-n-eq0-clause-value : goal.returns-then-n-eq0-clause-value
returns-then-n-eq0-clause-value c = is_near_word c.args.n c.args.k 0 c.requires (mag_fits c.args.n c.ranges.n) (returns-then-n-eq0-clause-nearest c)

pub returns-then-n-lt0-clause-value : goal.returns-then-n-lt0-clause-value
returns-then-n-lt0-clause-value c = is_near_word c.args.n c.args.k _ c.requires (mag_fits c.args.n c.ranges.n) (returns-then-n-lt0-clause-nearest c)

pub returns-else-n-lt0-clause-value : goal.returns-else-n-lt0-clause-value
returns-else-n-lt0-clause-value c = is_near_word c.args.n c.args.k _ c.requires (mag_fits c.args.n c.ranges.n) (returns-else-n-lt0-clause-nearest c)
