use Rattle.std.proofs.Common.{◌∷◌, ◌++◌, [], ◌∙◌, refl, sym, Bool, not, true, false, ◌≡◌, get_or}
use Rattle.std.specs.HashSet as table
use Rattle.cloud_points.specs.Points.{zero_point}
use Rattle.whole_filters.proofs.Groups.{firsts_next, firsts_stay, seen_next}
use Rattle.whole_filters.proofs.Walking.{split_first}
use Rattle.whole_filters.proofs.thinning.firsts_of.Goals as goal

-- what isn't so is its contrary
not_true : (b : Bool) → not b ≡ true → b ≡ false
not_true false e = refl
not_true true e = absurd cc

not_false : (b : Bool) → not b ≡ false → b ≡ true
not_false true e = refl
not_false false e = absurd cc

pub loop-seen-preserved-then-branch : goal.loop-seen-preserved-then-branch
loop-seen-preserved-then-branch g c =
    let eq = g.K.Key.PartialEq.eq in
    let key = g.K.PointKey.key c.args.by.now in
    let laws = g.met.K.Key.Eq.laws in
    let so = c.loop-seen.invariant in
    let p = get_or c.loop-seen.points 0 zero_point in
    let some = c.has_more.ensures.more c.loop-seen-test.true in
    let seen = table.contains eq c.loop-seen.seen in
    let found : seen c.first_key.result ≡ false = not_true _ (sym c.in_ok-insert.ensures.added ∙ c.if-branch.true) in
    record {
      before = so.before ++ p ∷ [];
      split = split_first so.before c.loop-seen.points _ c.args.view zero_point so.split some c.skip.ensures;
      holds = (
        firsts_next laws key so.before p c.first_key.result c.first_key.ensures seen so.holds.1 c.loop-seen.made so.holds.0 found _ c.in_ok-push_first.ensures.ok,
        seen_next laws key so.before p c.first_key.result c.first_key.ensures seen _ so.holds.1 c.in_ok-insert.ensures.updates.0,
      );
    }

pub loop-seen-preserved : goal.loop-seen-preserved
loop-seen-preserved g c =
    let eq = g.K.Key.PartialEq.eq in
    let key = g.K.PointKey.key c.args.by.now in
    let laws = g.met.K.Key.Eq.laws in
    let so = c.loop-seen.invariant in
    let p = get_or c.loop-seen.points 0 zero_point in
    let some = c.has_more.ensures.more c.loop-seen-test.true in
    let seen = table.contains eq c.loop-seen.seen in
    let found : seen c.first_key.result ≡ true = not_false _ (sym c.in_ok-insert.ensures.added ∙ c.if-branch.false) in
    record {
      before = so.before ++ p ∷ [];
      split = split_first so.before c.loop-seen.points _ c.args.view zero_point so.split some c.skip-else-branch.ensures;
      holds = (
        firsts_stay laws key so.before p c.first_key.result c.first_key.ensures seen so.holds.1 c.loop-seen.made so.holds.0 found,
        seen_next laws key so.before p c.first_key.result c.first_key.ensures seen _ so.holds.1 c.in_ok-insert.ensures.updates.0,
      );
    }
