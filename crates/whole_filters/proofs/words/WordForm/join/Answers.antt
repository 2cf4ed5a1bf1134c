use Rattle.std.proofs.Common.{◌+◌, ◌-◌, ◌*◌, ◌^◌, ◌%◌, ◌<◌, ◌≢◌, length, get_or, get_or-set_other, get_or-set_same, length-set, below_more, ap, ◌∙◌, subst, sym, arith}
use Rattle.whole_filters.specs.Places.{counted}
use Rattle.whole_filters.proofs.Joining.{whole_key, word_below}
use Rattle.whole_filters.proofs.words.WordForm.join.Goals as goal

pub overflow_add-keys : goal.overflow_add-keys
overflow_add-keys c =
    let place = c.loop-place.place in
    let least = c.args.self.least in
    let zeros = c.args.self.zeros in
    let bits = c.args.self.bits in
    let inside : place < length c.args.keys.now = omega arith in
    let same = c.loop-place.invariant.rest place (omega arith) in
    let key : counted least zeros (get_or c.loop-place.keys place 0) < 2 ^ (64 - bits) = subst (λ z. counted least zeros z < 2 ^ (64 - bits)) (sym same) (c.requires.room place inside).below in
    let low : place < 2 ^ bits = omega (arith, inside, c.requires.places) in
    omega (arith, whole_key (counted least zeros (get_or c.loop-place.keys place 0)) bits c.requires.narrow key, word_below (counted least zeros (get_or c.loop-place.keys place 0)) bits place c.requires.narrow key low)

pub loop-place-preserved : goal.loop-place-preserved
loop-place-preserved c =
    let place = c.loop-place.place in
    let least = c.args.self.least in
    let zeros = c.args.self.zeros in
    let bits = c.args.self.bits in
    let inside : place < length c.args.keys.now = omega arith in
    let lt : place < length c.loop-place.keys = omega arith in
    let same = c.loop-place.invariant.rest place (omega arith) in
    let word = whole_key (counted least zeros (get_or c.args.keys.now place 0)) bits c.requires.narrow (c.requires.room place inside).below in
    record {
      each = length-set c.loop-place.keys place _ ∙ c.loop-place.invariant.each;
      done = below_more _ _
          (λ k h. let ne : k ≢ place = omega arith in get_or-set_other c.loop-place.keys place k _ 0 ne ∙ c.loop-place.invariant.done k h)
          (get_or-set_same c.loop-place.keys place _ 0 lt ∙ ap (λ z. counted least zeros z * 2 ^ bits % 2 ^ 64 + place) same ∙ ap (λ z. z + place) word);
      rest = λ k h. let ne : k ≢ place = omega arith in get_or-set_other c.loop-place.keys place k _ 0 ne ∙ c.loop-place.invariant.rest k (omega arith);
    }
