use Rattle.std.proofs.Common.{◌≡◌, ℕ, ◌-◌, ◌≤◌, List, ◌++◌, length, length-append, length-drop, length-take, take, drop, ap, ◌∙◌, arith}
use Rattle.std.proofs.lemmas.List.{length-take-le, take-append-le}
use Rattle.las_header.specs.Headers.{minor_of}
use Rattle.las_header.specs.Versions.{block_size}
use Rattle.las_reader.proofs.Openings.{seen_front, two_fronts, version_in_file, version_stays, asked_for}
use Rattle.las_reader.proofs.opening.fill_block.Goals as goal

-- the sizes of the parts
first_room : (block : List ℕ) → length block ≡ 375 → length (take 26 block) ≡ 26
first_room block long = length-take-le 26 block (omega (arith, long))

mid_room : (k : ℕ) (xs : List ℕ) → length (take k xs) ≤ k
mid_room k xs = let l = length-take k xs in omega (arith, l)

pub returns-then-seen-lt-VERSION_END-clause-front : goal.returns-then-seen-lt-VERSION_END-clause-front
returns-then-seen-lt-VERSION_END-clause-front g c = λ file e.
    (seen_front _ file _ c.fill.new.into _ c.in_ok-seen.seen e (first_room c.args.block.now c.told-block) c.fill.auto.into c.in_ok-seen.ensures.filled).short c.if-seen-lt-VERSION_END.true

pub returns-clause-front : goal.returns-clause-front
returns-clause-front g c = λ file e.
    let room = first_room c.args.block.now c.told-block in
    let long : length c.fill.new.into ≡ 26 = c.fill.auto.into ∙ room in
    let seen = seen_front _ file _ c.fill.new.into (drop 26 c.args.block.now) c.in_ok-seen.seen e room c.fill.auto.into c.in_ok-seen.ensures.filled in
    let version = version_in_file c.fill.new.into (drop 26 c.args.block.now) long file (seen.front c.if-seen-lt-VERSION_END.false) in
    let size : c.block_size-size.result ≡ block_size (minor_of file) = c.block_size-size.ensures.size ∙ ap block_size version in
    let front : take 26 (c.fill.new.into ++ drop 26 c.args.block.now) ≡ take 26 file =
    take-append-le 26 c.fill.new.into (drop 26 c.args.block.now) (omega (arith, long)) ∙ seen.front c.if-seen-lt-VERSION_END.false in
    let whole : length (c.fill.new.into ++ drop 26 c.args.block.now) ≡ 375 =
    length-append c.fill.new.into (drop 26 c.args.block.now) ∙ (let d = length-drop 26 c.args.block.now in let t = c.told-block in omega (arith, long, d, t)) in
    let mid : length (take (c.block_size-size.result - 26) (drop 26 (c.fill.new.into ++ drop 26 c.args.block.now))) ≡ c.block_size-size.result - 26 =
    length-take-le (c.block_size-size.result - 26) (drop 26 (c.fill.new.into ++ drop 26 c.args.block.now))
    (let d = length-drop 26 (c.fill.new.into ++ drop 26 c.args.block.now) in let s = c.block_size-size.ensures.short in omega (arith, d, whole, s)) in
    two_fronts _ file (c.fill.new.into ++ drop 26 c.args.block.now) _ c.fill-2.new.into c.block_size-size.result c.in_ok-more.more (c.in_ok-seen.ensures.same ∙ e) (omega (arith, whole)) c.block_size-size.ensures.long
    (seen.whole c.if-seen-lt-VERSION_END.false) front mid c.fill-2.auto.into c.in_ok-more.ensures.filled
    ∙ ap (λ k. take k file) size

-- what was asked for, where the second part failed and in the end
pub returns-in_err-more-clause-reached : goal.returns-in_err-more-clause-reached
returns-in_err-more-clause-reached g c =
    let long : length c.fill.new.into ≡ 26 = c.fill.auto.into ∙ first_room c.args.block.now c.told-block in
    let size = c.block_size-size.ensures.size ∙ ap block_size (version_stays c.fill.new.into _ long (c.block_size-size.result - 26) c.fill-2.new.into) in
    asked_for c.args.block.now _ _ c.block_size-size.result (g.S.Source.reached c.args.source.now) _ _ c.told-block size c.block_size-size.ensures.long (mid_room _ _) c.in_ok-seen.ensures.reached c.in_err-more.ensures.reached

pub returns-in_err-more-clause-no_further : goal.returns-in_err-more-clause-no_further
returns-in_err-more-clause-no_further g c = λ file e.
    let room = first_room c.args.block.now c.told-block in
    let seen = seen_front _ file _ c.fill.new.into (drop 26 c.args.block.now) c.in_ok-seen.seen e room c.fill.auto.into c.in_ok-seen.ensures.filled in
    let version = version_in_file c.fill.new.into _ (c.fill.auto.into ∙ room) file (seen.front c.if-seen-lt-VERSION_END.false) in
    let size = c.block_size-size.ensures.size ∙ ap block_size version in
    asked_for c.args.block.now _ _ c.block_size-size.result (g.S.Source.reached c.args.source.now) _ _ c.told-block size c.block_size-size.ensures.long (mid_room _ _) c.in_ok-seen.ensures.reached c.in_err-more.ensures.reached

pub returns-clause-reached : goal.returns-clause-reached
returns-clause-reached g c =
    let long : length c.fill.new.into ≡ 26 = c.fill.auto.into ∙ first_room c.args.block.now c.told-block in
    let size = c.block_size-size.ensures.size ∙ ap block_size (version_stays c.fill.new.into _ long (c.block_size-size.result - 26) c.fill-2.new.into) in
    asked_for c.args.block.now _ _ c.block_size-size.result (g.S.Source.reached c.args.source.now) _ _ c.told-block size c.block_size-size.ensures.long (mid_room _ _) c.in_ok-seen.ensures.reached c.in_ok-more.ensures.reached

pub returns-clause-no_further : goal.returns-clause-no_further
returns-clause-no_further g c = λ file e.
    let room = first_room c.args.block.now c.told-block in
    let seen = seen_front _ file _ c.fill.new.into (drop 26 c.args.block.now) c.in_ok-seen.seen e room c.fill.auto.into c.in_ok-seen.ensures.filled in
    let version = version_in_file c.fill.new.into _ (c.fill.auto.into ∙ room) file (seen.front c.if-seen-lt-VERSION_END.false) in
    let size = c.block_size-size.ensures.size ∙ ap block_size version in
    asked_for c.args.block.now _ _ c.block_size-size.result (g.S.Source.reached c.args.source.now) _ _ c.told-block size c.block_size-size.ensures.long (mid_room _ _) c.in_ok-seen.ensures.reached c.in_ok-more.ensures.reached
