use Rattle.std.proofs.Common.{◌≡◌, ◌<◌, refl, length, get_or, sym, ◌∙◌, arith}
use Rattle.std.specs.Prelude.{slice_get, Some}
use Rattle.std.proofs.lemmas.List.Elements.{All-get_or}
use Rattle.std.proofs.lemmas.Option.{slice_get_read, get_or_from_slice_get}
use Rattle.cloud_points.specs.Flows.{empty_flow}
use Rattle.set_engine.specs.Taking.{value_in}
use Rattle.set_engine.proofs.Joined.{joined_more, not-before, apart, stays-elsewhere}
use Rattle.set_engine.proofs.inputs.take_joined.Goals as goal

pub loop-place-preserved : goal.loop-place-preserved
loop-place-preserved c =
    let places = c.args.places.now in
    let values = c.args.values.now in
    let i = c.loop-place.place-index in
    let p = get_or places i 0 in
    let now = c.loop-place.invariant in
    let lt : i < length places = omega arith in
    let inside : p < length values = All-get_or (λ j. j < length values) places i 0 lt c.requires.inside in
    let size : length values ≡ length c.loop-place.values = (let same = c.loop-place.auto.values in omega (arith, same)) in
    let there : slice_get c.loop-place.values p ≡ Some c.index-values-place.result = slice_get_read c.loop-place.values (length c.loop-place.values) p c.index-values-place.result refl (omega (arith, inside, size)) c.index-values-place.is in
    let stood : slice_get values p ≡ Some c.index-values-place.result = sym (now.others p (not-before places i lt c.requires.once)) ∙ there in
    let value : value_in values p ≡ c.replace-value.result = get_or_from_slice_get values p c.index-values-place.result empty_flow stood ∙ c.index-values-place.is ∙ sym c.replace-value.ensures.value in
    record {
      joined = joined_more values places i c.loop-place.joined c.replace-value.result c.append.new.self lt now.joined value c.in_ok-append.ensures.ok;
      others = λ j e.
          let away = apart places i j lt e in
          stays-elsewhere c.loop-place.values p j c.replace-value.new.dest away.1 ∙ now.others j away.0;
    }
