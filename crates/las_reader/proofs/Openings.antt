-- What the front of a file says of the file.
use Rattle.std.proofs.Common.{◌≡◌, ℕ, ◌+◌, ◌-◌, ◌≤◌, ◌<◌, min, max, List, ◌++◌, length, length-append, get_or, take, drop, Option, Some, Result, ap, sym, ◌∙◌, subst, arith}
use Rattle.std.proofs.lemmas.List.{get_or-take, length-take-le, take_all, take-append-le, take_min}
use Rattle.std.proofs.lemmas.Slice.{take-put_mid_below}
use Rattle.std.proofs.Math.ListN.{get_or-append}
use Rattle.std.proofs.Math.Seq.{take-append-add, take-add}
use borrow.Rule.Slice.PartMut.{put_mid}
use Rattle.file_devices.specs.Filled.{Fills}
use Rattle.las_header.specs.declared.block.Header.{Header}
use Rattle.las_header.specs.declared.faults.HeaderFault.{HeaderFault}
use Rattle.las_header.specs.Headers.{minor_of, header_of}
use Rattle.las_header.specs.Versions.{block_size}
use Rattle.las_header.proofs.Fronts.{header_of_front}
use Rattle.las_header.proofs.Standing.{block_is_some}
use Rattle.file_devices.proofs.Filling.{front_is}
use Rattle.las_reader.specs.Frames.{header_in, header_or}

pub header_is : (file block : List ℕ) (r : Result Header HeaderFault) → block ≡ take (block_size (minor_of file)) file → r ≡ header_of block → header_in file ≡ header_or r
header_is file block r is e = ap header_or (sym (header_of_front file) ∙ ap header_of (sym is) ∙ sym e)

-- a block whose front up to the version was filled first, and then what follows of it
pub two_fronts : (bytes : Option (List ℕ)) (file xs mid ys : List ℕ) (size more : ℕ) → bytes ≡ Some file → 26 ≤ length xs → 26 ≤ size → 26 ≤ length file → take 26 xs ≡ take 26 file → length mid ≡ size - 26 → length ys ≡ length mid
    → Fills bytes 26 more mid ys → take (26 + more) (put_mid 26 (size - 26) xs ys) ≡ take size file
two_fronts bytes file xs mid ys size more told long some there front room same fills =
    let within : more ≤ length ys = (let w = fills.within in omega (arith, w, same)) in
    let first : length (take 26 xs) ≡ 26 = length-take-le 26 xs long in
    let behind = drop (size - 26) (drop 26 xs) in
    let given : take more ys ≡ take more (drop 26 file) = fills.given file told in
    let count : 26 + more ≡ min size (length file) = (let a = fills.all file told in omega (arith, a, room)) in
    ap (λ k. take (k + more) (take 26 xs ++ (ys ++ behind))) (sym first)
    ∙ take-append-add (take 26 xs) (ys ++ behind) more
    ∙ (λ i. front i ++ (take-append-le more ys behind within ∙ given) i)
    ∙ sym (take-add 26 more file)
    ∙ ap (λ k. take k file) count
    ∙ take_min size file

-- ---- the byte of the version, in a block that was filled so far and in one that was filled further

none_more : (n : ℕ) → n ≡ n + 0
none_more n = omega arith

module _ (xs post : List ℕ) (long : length xs ≡ 26) where
  pub version_in_file : (file : List ℕ) → take 26 xs ≡ take 26 file → get_or (xs ++ post) 25 0 ≡ minor_of file
  version_in_file file front =
      get_or-append xs post 0 25 (omega (arith, long)) ∙ sym (get_or-take 26 xs 25 0 (omega arith)) ∙ ap (λ l. get_or l 25 0) front ∙ get_or-take 26 file 25 0 (omega arith)
      ∙ none_more (get_or file 25 0)

  pub version_stays : (k : ℕ) (ys : List ℕ) → get_or (xs ++ post) 25 0 ≡ minor_of (put_mid 26 k (xs ++ post) ys)
  version_stays k ys =
      let room : 26 ≤ length (xs ++ post) = (let l = length-append xs post in omega (arith, l, long)) in
      sym (get_or-take 26 (xs ++ post) 25 0 (omega arith)) ∙ ap (λ l. get_or l 25 0) (sym (take-put_mid_below 26 k (xs ++ post) ys 26 (omega arith) room))
      ∙ get_or-take 26 (put_mid 26 k (xs ++ post) ys) 25 0 (omega arith) ∙ none_more (get_or (put_mid 26 k (xs ++ post) ys) 25 0)

-- no more was asked for than a block has, in the first part and then in the second
pub asked_for : (block mid : List ℕ) (bound size r0 r1 r2 : ℕ) → length block ≡ 375 → size ≡ bound → 26 ≤ size → length (take (size - 26) mid) ≤ size - 26
    → r1 ≤ max r0 (0 + length (take 26 block)) → r2 ≤ max r1 (26 + length (take (size - 26) mid)) → r2 ≤ max r0 bound
asked_for block mid bound size r0 r1 r2 long is some few low high =
    let room = length-take-le 26 block (omega (arith, long)) in
    let all : r2 ≤ max r0 size = omega (arith, room, low, high, few, some) in
    subst (λ (k : ℕ). r2 ≤ max r0 k) is all

-- the first part of a block that was filled as far as the version
pub record SeenFront (file xs post : List ℕ) (seen : ℕ) : Type 0 where
  pub short : seen < 26 → take seen (xs ++ post) ≡ take (block_size (minor_of file)) file
  pub whole : 26 ≤ seen → 26 ≤ length file
  pub front : 26 ≤ seen → take 26 xs ≡ take 26 file

pub seen_front : (bytes : Option (List ℕ)) (file old xs post : List ℕ) (seen : ℕ) → bytes ≡ Some file → length old ≡ 26 → length xs ≡ length old → Fills bytes 0 seen old xs → SeenFront file xs post seen
seen_front bytes file old xs post seen told room same fills =
    let count : seen ≡ min 26 (length file) = (let a = fills.all file told in omega (arith, a, room)) in
    let given : take seen xs ≡ take 26 file = front_is bytes file old xs 0 seen 26 room fills told in
    let within : seen ≤ length xs = (let w = fills.within in omega (arith, w, same)) in
    record {
      short = λ less.
          let some = block_is_some (minor_of file) in
          take-append-le seen xs post within ∙ given ∙ take_all 26 file (omega (arith, count, less))
          ∙ sym (take_all (block_size (minor_of file)) file (omega (arith, count, less, some)));
      whole = λ all. omega (arith, count, all);
      front = λ all. ap (λ k. take k xs) (let z : 26 ≡ seen = omega (arith, count, all) in z) ∙ given;
    }
