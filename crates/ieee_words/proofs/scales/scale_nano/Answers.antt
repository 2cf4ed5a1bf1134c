use Rattle.std.proofs.Common.{arith, rules, pos, FitsSigned, w64}
use Rattle.std.proofs.lemmas.Int.{ints, to_z-of_z}
use Rattle.ieee_words.proofs.ScaleWords.{scale_small, scale_short, scale_in_range}
use Rattle.ieee_words.proofs.WordDecimals.{is_scale_of_word, no_scale_of_word}
use Rattle.ieee_words.proofs.scales.scale_nano.Goals as goal
use Rattle.ieee_words.proofs.scales.scale_nano.Goals.{else-n-ge1-via-then-n-ge1+else-n-le1000000000, else-n-ge1-via-else-n-ge1}

pub returns-then-w-ge-LARGE-clause-scale : goal.returns-then-w-ge-LARGE-clause-scale
returns-then-w-ge-LARGE-clause-scale c s = let l = scale_small c.args.w s in let g = c.if-w-ge-LARGE.true in omega arith

pub returns-in_default-clause-scale : goal.returns-in_default-clause-scale
returns-in_default-clause-scale c s = let t = scale_short c.args.w s in c.in_default.ensures.none (pos t.0) t.3

pub returns-else-n-ge1-clause-scale : goal.returns-else-n-ge1-clause-scale
returns-else-n-ge1-clause-scale c s =
    let f : FitsSigned w64 c.in-Some.n = search rules in
    let r = scale_in_range c.args.w c.in-Some.n (omega arith) c.in-Some.ensures.some s in
    elim c.else-n-ge1.branch [
      | else-n-ge1-via-then-n-ge1+else-n-le1000000000 w ↦ omega (arith, ints, r.1)
      | else-n-ge1-via-else-n-ge1 w ↦ omega (arith, ints, r.0)
    ]

pub returns-then-w-ge-LARGE-clause-value : goal.returns-then-w-ge-LARGE-clause-value
returns-then-w-ge-LARGE-clause-value c = no_scale_of_word c.args.w (returns-then-w-ge-LARGE-clause-scale c)

pub returns-in_default-clause-value : goal.returns-in_default-clause-value
returns-in_default-clause-value c = no_scale_of_word c.args.w (returns-in_default-clause-scale c)

pub returns-else-n-ge1-clause-value : goal.returns-else-n-ge1-clause-value
returns-else-n-ge1-clause-value c = no_scale_of_word c.args.w (returns-else-n-ge1-clause-scale c)

pub returns-then-n-le1000000000-clause-value : goal.returns-then-n-le1000000000-clause-value
returns-then-n-le1000000000-clause-value c =
    let f : FitsSigned w64 c.in-Some.n = search rules in
    let e = to_z-of_z w64 c.in-Some.n f in
    rw e (is_scale_of_word c.args.w c.in-Some.n (omega arith) (record { low = omega (arith, ints); high = omega (arith, ints); near = c.in-Some.ensures.some.near }))
