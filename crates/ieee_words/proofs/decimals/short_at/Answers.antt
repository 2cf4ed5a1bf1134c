use Rattle.std.proofs.Common.{arith, ◌≡◌, ℕ, ◌^◌, ◌<◌, ◌≤◌, inl, inr, ◌⊎◌, ap, subst, sym, ◌∙◌, ℤ, pos, neg_ℤ}
use Rattle.std.specs.Prelude.{unsigned_abs}
use Rattle.std.proofs.lemmas.Int.{ints}
use Rattle.ieee_words.specs.Near.{IsNearest}
use Rattle.ieee_words.proofs.Short.{candidate}
use Rattle.ieee_words.proofs.Unique.{unique}
use Rattle.ieee_words.proofs.decimals.short_at.Goals as goal
use Rattle.ieee_words.proofs.decimals.short_at.Goals.{then-size-w, else-size-w}

too_long : (n : ℕ) (m : ℤ) → 10 ^ 15 ≤ n → unsigned_abs m < 10 ^ 15 → (m ≡ pos n) ⊎ (m ≡ neg_ℤ (pos n)) → ⊥
too_long n m l s e = elim e [
  | inl p ↦ let q = ap unsigned_abs p in omega arith
  | inr p ↦ omega (arith, ints)
]

pub returns-then-n-gt-MOST-clause-none : goal.returns-then-n-gt-MOST-clause-none
returns-then-n-gt-MOST-clause-none c m s =
    too_long c.nearest_whole-n.result m c.if-n-gt-MOST.true s.digits
    (elim (candidate c.args.w c.args.k c.nearest_whole-n.result m c.requires.places (omega arith) c.requires.small c.nearest_whole-n.ensures.nearest s) [
      | inl e ↦ inl e.1
      | inr e ↦ inr e.1
    ])

pub returns-else-near-w-clause-none : goal.returns-else-near-w-clause-none
returns-else-near-w-clause-none c m s =
    let t = candidate c.args.w c.args.k c.nearest_whole-n.result m c.requires.places (omega arith) c.requires.small c.nearest_whole-n.ensures.nearest s in
    let e : m ≡ c.if-size-w.signed = elim c.if-size-w.branch [
      | then-size-w v ↦ elim t [ inl x ↦ x.1 ∙ (let k : pos c.nearest_whole-n.result ≡ c.if-size-w.signed = grind (arith, ints, v.signed-is) in k) | inr x ↦ absurd (x.0 v.if-size-w.true) ]
      | else-size-w v ↦ elim t [ inl x ↦ absurd (v.if-size-w.false x.0) | inr x ↦ x.1 ∙ (let k : neg_ℤ (pos c.nearest_whole-n.result) ≡ c.if-size-w.signed = grind (arith, ints, v.signed-is) in k) ]
    ] in
    let n = subst (λ (z : ℤ). IsNearest z c.args.k c.near.result) (c.if-size-w.signed-is ∙ sym e) c.near.ensures.nearest in
    c.if-near-w.false (unique m c.args.k c.near.result c.args.w c.requires.places n s.near)
