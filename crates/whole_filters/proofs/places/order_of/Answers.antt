use Rattle.std.proofs.Common.{◌≡◌, ℕ, ◌++◌, ◌%◌, ◌^◌, List, length, get_or, map, take, drop, ap, sym, ◌∙◌, subst}
use Rattle.std.specs.List.{range_with_len}
use Rattle.std.specs.List.Sorted.{IsPermutation}
use Rattle.std.proofs.lemmas.List.{length-map, take_at}
use Rattle.whole_filters.specs.Places.{AreWords, FitWords}
use Rattle.whole_filters.proofs.Joining.{words_in_order, words_once}
use Rattle.whole_filters.proofs.places.order_of.Goals as goal

pub returns-in-Some : goal.returns-in-Some
returns-in-Some c =
    let points = c.args.points.now in
    let keys = c.in_ok-words.words.items in
    let least = c.in-Some.form.least in
    let zeros = c.in-Some.form.zeros in
    let bits = c.in-Some.form.bits in
    let words = c.join.new.keys in
    let sorted = c.sort_unstable.new.self.items in
    let places = c.keep_places.new.words in
    let fit = subst (FitWords least zeros bits) c.as_slice.ensures.value c.in-Some.ensures in
    let made = subst (λ z. AreWords least zeros bits z words) c.as_mut_slice.ensures.value c.join.ensures in
    let moved = subst (λ z. IsPermutation z sorted) (take_at words (drop (length words) keys) c.in_ok-words.words.len (c.join.ensures.each ∙ c.as_mut_slice.ensures.len)) c.sort_unstable.ensures.permutation in
    let kept : take c.sort_unstable.new.self.len (places ++ drop (length places) sorted) ≡ map (λ w. w % 2 ^ bits) sorted =
    take_at places (drop (length places) sorted) c.sort_unstable.new.self.len
    (ap length c.keep_places.ensures ∙ length-map c.as_mut_slice-in-Some.result.now (λ w. w % 2 ^ bits) ∙ c.as_mut_slice-in-Some.ensures.len)
    ∙ c.keep_places.ensures ∙ ap (map (λ w. w % 2 ^ bits)) c.as_mut_slice-in-Some.ensures.value in
    record {
      each_once = subst (λ (z : List ℕ). IsPermutation (range_with_len 0 (length points)) z) (sym kept)
          (words_once c.args.dim c.args.down points keys c.in_ok-words.ensures least zeros bits fit words made sorted moved);
      in_order = λ d. ap (map (λ k. get_or points k d)) kept
          ∙ words_in_order c.args.dim c.args.down points keys c.in_ok-words.ensures least zeros bits fit words made sorted moved c.sort_unstable.ensures.sorted d;
    }
