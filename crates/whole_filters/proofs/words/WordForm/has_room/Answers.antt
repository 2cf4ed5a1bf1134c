use Rattle.std.proofs.Common.{◌-◌, ◌*◌, ◌/◌, ◌^◌, ◌<◌, sym, ◌∙◌, arith}
use Rattle.std.proofs.lemmas.Bool.{leb-true}
use Rattle.std.proofs.lemmas.Nat.{shr_split}
use Rattle.std.proofs.Math.Nat.{mod-eq_of_lt}
use Rattle.whole_filters.proofs.Joining.{room_below}
use Rattle.whole_filters.proofs.words.WordForm.has_room.Goals as goal

pub returns-then-counted-self : goal.returns-then-counted-self
returns-then-counted-self c = λ room.
    let zeros = c.args.self.zeros in
    let bits = c.args.self.bits in
    let above = c.args.key - c.args.self.least in
    let high = above / 2 ^ zeros in
    let less : high * 2 ^ zeros < 2 ^ 64 = omega (arith, shr_split above zeros, c.ranges.key.fits) in
    record {
      above = omega (arith, c.if-key-self.false);
      whole = sym (mod-eq_of_lt less) ∙ c.if-counted-self.true;
      below = room_below high bits c.requires.bits (leb-true high ((2 ^ 64 - 1) / 2 ^ bits) room);
    }
