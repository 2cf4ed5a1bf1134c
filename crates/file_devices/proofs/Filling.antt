-- The loop that fills a slice.
use Rattle.std.proofs.Common.{◌≡◌, min, ℕ, ◌+◌, ◌-◌, ◌<◌, ◌≤◌, max, List, [], ◌++◌, length, take, drop, Option, Some, sym, ap, ◌∙◌, arith, drop-drop, append-nil, length-append, length-drop}
use Rattle.std.proofs.lemmas.List.{length-take-le, length-take, drop_all, take_all, take_min}
use Rattle.std.proofs.Math.Seq.{drop-append-add, take-append-add, take-append_seam, take-add}
use Rattle.file_devices.specs.Content.{ReadsAt}
use Rattle.file_devices.specs.Filled.{Fills}
use borrow.Rule.Slice.PartMut.{put_mid}

-- so many bytes are there
pub record Filling (before bytes : Option (List ℕ)) (faults_before faults reached_before reached at done : ℕ) (old new : List ℕ) : Type 0 where
  pub same : bytes ≡ before
  pub calm : faults ≡ faults_before
  pub got : reached ≤ max reached_before (at + done)
  pub within : done ≤ length old
  pub rest : drop done new ≡ drop done old
  pub given : (b : List ℕ) → before ≡ Some b → take done new ≡ take done (drop at b)

-- what is left of the slice
pub left_is : (xs : List ℕ) (d : ℕ) → take (length xs - d) (drop d xs) ≡ drop d xs
left_is xs d = take_all (length xs - d) (drop d xs) (omega (arith, length-drop d xs))

-- a part that goes to the end
pub part_to_end : (xs ys : List ℕ) (d : ℕ) → put_mid d (length xs - d) xs ys ≡ take d xs ++ ys
part_to_end xs ys d =
    let none : drop (length xs - d) (drop d xs) ≡ [] = drop_all (length xs - d) (drop d xs) (omega (arith, length-drop d xs)) in
    ap (λ zs. take d xs ++ (ys ++ zs)) none ∙ ap (λ zs. take d xs ++ zs) (append-nil ys)

rest_stays : (old xs ys : List ℕ) (d n : ℕ) → d ≤ length xs → drop d xs ≡ drop d old → drop n ys ≡ drop n (drop d xs) → drop (d + n) (take d xs ++ ys) ≡ drop (d + n) old
rest_stays old xs ys d n h rest read =
    let front : length (take d xs) ≡ d = length-take-le d xs h in
    ap (λ k. drop (k + n) (take d xs ++ ys)) (sym front) ∙ drop-append-add (take d xs) ys n ∙ read ∙ ap (drop n) rest ∙ drop-drop n d old

more_given : (b xs ys : List ℕ) (at d n : ℕ) → d ≤ length xs → take d xs ≡ take d (drop at b) → take n ys ≡ take n (drop (at + d) b) → take (d + n) (take d xs ++ ys) ≡ take (d + n) (drop at b)
more_given b xs ys at d n h given read =
    let front : length (take d xs) ≡ d = length-take-le d xs h in
    ap (λ k. take (k + n) (take d xs ++ ys)) (sym front) ∙ take-append-add (take d xs) ys n ∙ ap (λ zs. zs ++ take n ys) given
    ∙ ap (λ zs. take d (drop at b) ++ zs) (read ∙ ap (take n) (sym (drop-drop d at b))) ∙ sym (take-add d n (drop at b))

-- the loop goes on
pub filling_more : (before bytes bytes_after : Option (List ℕ)) (f0 f1 f2 r0 r1 r2 at d n : ℕ) (old xs ys : List ℕ) → length xs ≡ length old → bytes_after ≡ bytes → f2 ≡ f1 → r2 ≡ max r1 (at + d + n)
    → Filling before bytes f0 f1 r0 r1 at d old xs → ReadsAt bytes (at + d) n (take (length xs - d) (drop d xs)) ys → Filling before bytes_after f0 f2 r0 r2 at (d + n) old (put_mid d (length xs - d) xs ys)
filling_more before bytes bytes_after f0 f1 f2 r0 r1 r2 at d n old xs ys len same calm got was read =
    let inside : d ≤ length xs = omega (arith, was.within) in
    let within : n ≤ length xs - d = omega (arith, read.within, ap length (left_is xs d), length-drop d xs) in
    record {
      same = same ∙ was.same;
      calm = calm ∙ was.calm;
      got = omega (arith, was.got, was.within);
      within = omega (arith, was.within);
      rest = rw (part_to_end xs ys d) (rest_stays old xs ys d n inside was.rest (read.rest ∙ ap (drop n) (left_is xs d)));
      given = λ b e. rw (part_to_end xs ys d) (more_given b xs ys at d n inside (was.given b e) (read.given b (was.same ∙ e)));
    }

-- how much is there
amount : (b xs : List ℕ) (at d : ℕ) → d ≤ length xs → take d xs ≡ take d (drop at b) → d ≤ length b - at
amount b xs at d h e = omega (arith, ap length e, length-take d xs, length-take d (drop at b), length-drop at b)

pub filled_all : (before bytes : Option (List ℕ)) (f0 f1 r0 r1 at d : ℕ) (old xs : List ℕ) → length xs ≡ length old → length xs ≤ d → Filling before bytes f0 f1 r0 r1 at d old xs → Fills before at d old xs
filled_all before bytes f0 f1 r0 r1 at d old xs len whole was =
    let inside : d ≤ length xs = omega (arith, was.within) in
    record {
      within = was.within;
      rest = was.rest;
      given = was.given;
      all = λ b e. omega (arith, was.within, amount b xs at d inside (was.given b e));
    }

pub filled_to_end : (before bytes bytes_after : Option (List ℕ)) (f0 f1 f2 r0 r1 r2 at d n : ℕ) (old xs ys : List ℕ) → length xs ≡ length old → bytes_after ≡ bytes → f2 ≡ f1 → r2 ≡ max r1 (at + d + n)
    → d < length xs → n ≡ 0 → Filling before bytes f0 f1 r0 r1 at d old xs → ReadsAt bytes (at + d) n (take (length xs - d) (drop d xs)) ys → Fills before at d old (put_mid d (length xs - d) xs ys)
filled_to_end before bytes bytes_after f0 f1 f2 r0 r1 r2 at d n old xs ys len same calm got more none was read =
    let inside : d ≤ length xs = omega arith in
    let now = filling_more before bytes bytes_after f0 f1 f2 r0 r1 r2 at d n old xs ys len same calm got was read in
    let still : d + n ≡ d = omega arith in
    let room : 0 < length (take (length xs - d) (drop d xs)) = omega (arith, ap length (left_is xs d), length-drop d xs) in
    record {
      within = was.within;
      rest = rw still at now.rest;
      given = rw still at now.given;
      all = λ b e. let past : length b ≤ at + d = (read.end b (was.same ∙ e) room).0 none in omega (arith, was.within, amount b xs at d inside (was.given b e));
    }

-- what was filled in front is the front of what is left, as far as the slice goes
pub front_is : (bytes : Option (List ℕ)) (b old new : List ℕ) (at n k : ℕ) → length old ≡ k → Fills bytes at n old new → bytes ≡ Some b → take n new ≡ take k (drop at b)
front_is bytes b old new at n k room fills e =
    let is : n ≡ min k (length (drop at b)) = omega (arith, fills.all b e, length-drop at b) in
    fills.given b e ∙ ap (λ j. take j (drop at b)) is ∙ take_min k (drop at b)

-- a list whose end was filled, without what wasn't filled
pub cut_off : (xs ys old rest : List ℕ) (start n room : ℕ) → take start xs ≡ old → start ≤ length xs → length ys ≡ length xs - start → room ≡ length xs
    → take (start + n) (take room (put_mid start (length xs - start) xs ys ++ rest)) ≡ old ++ take n ys
cut_off xs ys old rest start n room front inside full all =
    let filled = take start xs ++ ys in
    let size : length (take start xs) ≡ start = length-take-le start xs inside in
    let whole : room ≡ length filled = omega (arith, length-append (take start xs) ys) in
    rw (part_to_end xs ys start) (
    ap (λ k. take (start + n) (take k (filled ++ rest))) whole ∙ ap (take (start + n)) (take-append_seam filled rest)
    ∙ ap (λ k. take (k + n) filled) (sym size) ∙ take-append-add (take start xs) ys n ∙ ap (λ l. l ++ take n ys) front)

-- the first bytes are there, so many as there is room for
pub record Beginning (before bytes : Option (List ℕ)) (faults_before faults reached_before reached limit : ℕ) (items : List ℕ) : Type 0 where
  pub same : bytes ≡ before
  pub later : faults_before ≤ faults
  pub got : reached ≤ max reached_before (length items)
  pub within : length items ≤ limit + 1
  pub given : (b : List ℕ) → before ≡ Some b → items ≡ take (length items) b

pub beginning_more : (before bytes bytes_after : Option (List ℕ)) (f0 f1 f2 r0 r1 r2 limit most : ℕ) (items after : List ℕ)
    → Beginning before bytes f0 f1 r0 r1 limit items → length items + most ≤ limit + 1 → length items + most ≤ length after
    → bytes_after ≡ bytes → f1 ≤ f2 → r2 ≤ max r1 (length after) → length after ≤ length items + most
    → ((b : List ℕ) → bytes ≡ Some b → after ≡ items ++ take most (drop (length items) b))
    → Beginning before bytes_after f0 f2 r0 r2 limit after
beginning_more before bytes bytes_after f0 f1 f2 r0 r1 r2 limit most items after was room full same later got size read = record {
  same = same ∙ was.same;
  later = omega (arith, was.later);
  got = omega (arith, was.got);
  within = omega arith;
  given = λ b e.
      let len : length after ≡ length items + most = omega arith in
      read b (was.same ∙ e) ∙ ap (λ l. l ++ take most (drop (length items) b)) (was.given b e)
      ∙ sym (take-add (length items) most b) ∙ ap (λ n. take n b) (sym len);
}

-- fewer bytes than were asked for are the last ones
pub ends_at : (before bytes : Option (List ℕ)) (f0 f1 r0 r1 limit most : ℕ) (items after b : List ℕ)
    → Beginning before bytes f0 f1 r0 r1 limit items → before ≡ Some b → length items ≤ limit → length items + most ≤ limit + 1 → length after < length items + most
    → after ≡ items ++ take most (drop (length items) b) → (length b ≤ limit) × (after ≡ b)
ends_at before bytes f0 f1 r0 r1 limit most items after b was e low room few read =
    let all : after ≡ take (length items + most) b = read ∙ ap (λ l. l ++ take most (drop (length items) b)) (was.given b e) ∙ sym (take-add (length items) most b) in
    let size : length b < length items + most = omega (arith, ap length all, length-take (length items + most) b) in
    (omega arith, all ∙ take_all (length items + most) b (omega arith))

-- bytes past the limit
pub passes : (before bytes : Option (List ℕ)) (f0 f1 r0 r1 limit : ℕ) (items b : List ℕ) → Beginning before bytes f0 f1 r0 r1 limit items → before ≡ Some b → limit < length items → limit < length b
passes before bytes f0 f1 r0 r1 limit items b was e past = omega (arith, ap length (was.given b e), length-take (length items) b)
