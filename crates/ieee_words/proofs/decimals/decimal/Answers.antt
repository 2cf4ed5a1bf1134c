use Rattle.std.proofs.Common.{arith, ◌≡◌, ℕ, ◌%◌, ◌^◌, ◌<◌, ℤ, pos, neg_ℤ, ◌-ℤ◌, below_more, w64, FitsSigned, rules, sym, subst, to_z, of_z}
use Rattle.std.proofs.lemmas.Int.{ints}
use Rattle.ieee_words.specs.Near.{IsShort}
use Rattle.ieee_words.specs.Dec.{IsExact, IsRoundedOff}
use Rattle.ieee_words.proofs.Below.{nano_below, short_below, scaled_below}
use Rattle.ieee_words.proofs.OfWord.{is_large, is_small, scaled_is, exact, rounded_off}
use Rattle.ieee_words.specs.declared.decimals.WordFault.TheVariants.{NotFinite}
use Rattle.std.specs.Prelude.{Err, unsigned_abs}
use Rattle.ieee_words.specs.Word.{exponent_bits}
use Rattle.ieee_words.proofs.WordDecimals.{is_decimal_of_word}
use Rattle.ieee_words.proofs.decimals.decimal.Goals as goal

pub overflow_mul-result : goal.overflow_mul-result
overflow_mul-result c =
    let f : FitsSigned w64 c.in-Some.n = search rules in
    (scaled_is c.in-Some.n c.loop-k.k c.power_of_ten.result f c.loop-k-test.true c.in-Some.ensures.fits c.power_of_ten.ensures.value (omega arith)).0

pub returns-in-Some-clause-decimal : goal.returns-in-Some-clause-decimal
returns-in-Some-clause-decimal c =
    let f : FitsSigned w64 c.in-Some.n = search rules in
    let s = scaled_is c.in-Some.n c.loop-k.k c.power_of_ten.result f c.loop-k-test.true c.in-Some.ensures.fits c.power_of_ten.ensures.value (omega arith) in
    let m = is_small c.args.w (omega arith) (omega arith) in (
      m.0,
      m.1,
      subst (λ (z : ℤ). IsExact c.args.w z) (sym s.1)
          (exact c.args.w c.loop-k.k c.power_of_ten.result c.in-Some.n c.in-Some.ensures.some c.loop-k.invariant c.power_of_ten.ensures.value),
    )

pub returns-then-size-ge-LARGE-clause-decimal : goal.returns-then-size-ge-LARGE-clause-decimal
returns-then-size-ge-LARGE-clause-decimal c = is_large c.args.w (omega arith) c.if-size-ge-LARGE.true c.if-size-ge-INFINITE.false

pub returns-then-size-w-clause-decimal : goal.returns-then-size-w-clause-decimal
returns-then-size-w-clause-decimal c =
    let m = is_small c.args.w (omega arith) (omega arith) in
    let e : pos c.nearest_whole-n.result ≡ to_z w64 c.nearest_whole-n.result = omega (arith, ints) in
    let none = λ (j : ℕ) (h : j < 10). c.loop-k.invariant j (omega arith) in (
      m.0,
      m.1,
      subst (λ (z : ℤ). IsRoundedOff c.args.w z) e
          ((rounded_off c.args.w c.nearest_whole-n.result (omega arith) none c.nearest_whole-n.ensures.nearest).0 c.if-size-w.true),
    )

pub returns-else-size-w-clause-decimal : goal.returns-else-size-w-clause-decimal
returns-else-size-w-clause-decimal c =
    let m = is_small c.args.w (omega arith) (omega arith) in
    let e : neg_ℤ (pos c.nearest_whole-n.result) ≡ to_z w64 (of_z w64 (pos 0 -ℤ to_z w64 c.nearest_whole-n.result)) = omega (arith, ints) in
    let none = λ (j : ℕ) (h : j < 10). c.loop-k.invariant j (omega arith) in (
      m.0,
      m.1,
      subst (λ (z : ℤ). IsRoundedOff c.args.w z) e
          ((rounded_off c.args.w c.nearest_whole-n.result (omega arith) none c.nearest_whole-n.ensures.nearest).1 c.if-size-w.false),
    )

pub loop-k-preserved : goal.loop-k-preserved
loop-k-preserved c = below_more (λ (j : ℕ). (m : ℤ) → ¬ IsShort c.args.w m j) c.loop-k.k c.loop-k.invariant c.in_default.ensures.none

pub returns-in-Some-clause-value : goal.returns-in-Some-clause-value
returns-in-Some-clause-value c = is_decimal_of_word c.args.w _ (omega arith) (returns-in-Some-clause-decimal c)

pub returns-then-size-ge-LARGE-clause-value : goal.returns-then-size-ge-LARGE-clause-value
returns-then-size-ge-LARGE-clause-value c = is_decimal_of_word c.args.w _ (omega arith) (returns-then-size-ge-LARGE-clause-decimal c)

pub returns-then-size-w-clause-value : goal.returns-then-size-w-clause-value
returns-then-size-w-clause-value c = is_decimal_of_word c.args.w _ (omega arith) (returns-then-size-w-clause-decimal c)

pub returns-else-size-w-clause-value : goal.returns-else-size-w-clause-value
returns-else-size-w-clause-value c = is_decimal_of_word c.args.w _ (omega arith) (returns-else-size-w-clause-decimal c)

pub returns-then-size-ge-INFINITE-clause-value : goal.returns-then-size-ge-INFINITE-clause-value
returns-then-size-ge-INFINITE-clause-value c = is_decimal_of_word c.args.w (Err NotFinite) (omega arith) (let e : exponent_bits c.args.w ≡ 2047 = omega arith in e)

pub returns-in-Some-clause-size : goal.returns-in-Some-clause-size
returns-in-Some-clause-size c =
    let f : FitsSigned w64 c.in-Some.n = search rules in
    let s = scaled_is c.in-Some.n c.loop-k.k c.power_of_ten.result f c.loop-k-test.true c.in-Some.ensures.fits c.power_of_ten.ensures.value (omega arith) in
    let b = short_below c.in-Some.n c.loop-k.k c.args.w (omega arith) (omega arith) c.in-Some.ensures.some.near in
    subst (λ (z : ℤ). unsigned_abs z < 10 ^ 18) (sym s.1)
    (scaled_below c.in-Some.n c.loop-k.k c.power_of_ten.result c.loop-k-test.true b c.power_of_ten.ensures.value)

pub returns-then-size-w-clause-size : goal.returns-then-size-w-clause-size
returns-then-size-w-clause-size c =
    let b = nano_below (c.args.w % 2 ^ 63) c.nearest_whole-n.result (omega arith) c.nearest_whole-n.ensures.nearest in omega (arith, ints)

pub returns-else-size-w-clause-size : goal.returns-else-size-w-clause-size
returns-else-size-w-clause-size c =
    let b = nano_below (c.args.w % 2 ^ 63) c.nearest_whole-n.result (omega arith) c.nearest_whole-n.ensures.nearest in omega (arith, ints)
