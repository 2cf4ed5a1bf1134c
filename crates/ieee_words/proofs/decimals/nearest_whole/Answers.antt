use Rattle.std.proofs.Common.{◌≡◌, ℕ, ◌-◌, ◌*◌, ◌^◌, ◌≤◌, subst}
use Rattle.ieee_words.specs.Word.{size_in_parts}
use Rattle.ieee_words.specs.Sizes.{IsRounded, IsNearestCount}
use Rattle.ieee_words.proofs.Wholes.{nearest_from, nearest_none, whole_bound, wide_fits}
use Rattle.ieee_words.proofs.decimals.nearest_whole.Goals as goal

nearest : (u k t kept up n : ℕ) → t ≡ 10 ^ k → size_in_parts u ≡ kept * 2 ^ up → up ≤ 1051 →
    IsRounded (kept * t) (1074 - up) n → IsNearestCount u (10 ^ k) n
nearest u k t kept up n e is high r =
    nearest_from u (10 ^ k) kept up is high n (subst (λ x. IsRounded (kept * x) (1074 - up) n) e r)

pub returns-then-down-gt84-clause-nearest : goal.returns-then-down-gt84-clause-nearest
returns-then-down-gt84-clause-nearest c =
    nearest_none c.args.size (10 ^ c.args.k) c.size_of_word-parts.result.kept c.size_of_word-parts.result.up
    c.size_of_word-parts.ensures.value c.size_of_word-parts.ensures.up
    (wide_fits c.size_of_word-parts.result.kept c.args.k c.size_of_word-parts.ensures.kept c.requires.places) c.if-down-gt84.true

pub returns-clause-nearest : goal.returns-clause-nearest
returns-clause-nearest c =
    nearest c.args.size c.args.k c.power_of_ten.result c.size_of_word-parts.result.kept c.size_of_word-parts.result.up c.rounded.result
    c.power_of_ten.ensures.value c.size_of_word-parts.ensures.value c.size_of_word-parts.ensures.up c.rounded.ensures

pub returns-clause-bound : goal.returns-clause-bound
returns-clause-bound c = whole_bound c.args.size c.args.k c.rounded.result c.requires.small
    (nearest c.args.size c.args.k c.power_of_ten.result c.size_of_word-parts.result.kept c.size_of_word-parts.result.up c.rounded.result
    c.power_of_ten.ensures.value c.size_of_word-parts.ensures.value c.size_of_word-parts.ensures.up c.rounded.ensures)
