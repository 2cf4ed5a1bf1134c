-- A record that is written is the record that is read.
use Rattle.std.proofs.Common.{◌≡◌, ℕ, ◌+◌, ◌^◌, ◌<◌, List, ◌++◌, length, take, drop, refl, ap, sym, ◌∙◌, append_assoc, w16, w64}
use Rattle.std.specs.Int.{to_le_bytes}
use Rattle.std.proofs.Math.Seq.{drop-append-add, take-append_seam}
use Rattle.byte_numbers.specs.Bytes.{number_at, piece}
use Rattle.byte_numbers.proofs.Places.{two_first, eight_first}
use Rattle.byte_numbers.proofs.Written.{number_past}
use Rattle.las_vlr.specs.Vlrs.{entry_of}
use Rattle.las_vlr.specs.Written.{HasSizes, vlr_bytes, evlr_bytes}
use Rattle.las_vlr.specs.declared.entry.Vlr.{Vlr}
use Rattle.las_vlr.specs.declared.entry.ListKind.TheVariants.{Plain, Extended}

-- behind m bytes
piece_past : (n k m : ℕ) (xs ys : List ℕ) → length xs ≡ m → piece (m + k) n (xs ++ ys) ≡ piece k n ys
piece_past n k m xs ys is = ap (λ j. take n (drop (j + k) (xs ++ ys))) (sym is) ∙ ap (take n) (drop-append-add xs ys k)

piece_here : (n : ℕ) (xs ys : List ℕ) → length xs ≡ n → piece 0 n (xs ++ ys) ≡ xs
piece_here n xs ys is = ap (λ j. take j (xs ++ ys)) (sym is) ∙ take-append_seam xs ys

flat : (r u i s t p rest : List ℕ) → (((((r ++ u) ++ i) ++ s) ++ t) ++ p) ++ rest ≡ r ++ (u ++ (i ++ (s ++ (t ++ (p ++ rest)))))
flat r u i s t p rest = simp append_assoc refl

pub vlr_length : (vlr : Vlr) (rest : List ℕ) → HasSizes vlr → length vlr.payload < 2 ^ 16 → number_at 20 2 (vlr_bytes vlr ++ rest) ≡ length vlr.payload
vlr_length vlr rest sizes size =
    let s = to_le_bytes w16 (length vlr.payload) in
    let x4 = vlr.text ++ (vlr.payload ++ rest) in
    let x3 = s ++ x4 in
    let x2 = to_le_bytes w16 vlr.id ++ x3 in
    let x1 = vlr.user ++ x2 in
    ap (number_at 20 2) (flat (to_le_bytes w16 vlr.reserved) vlr.user (to_le_bytes w16 vlr.id) s vlr.text vlr.payload rest)
    ∙ number_past 2 18 2 (to_le_bytes w16 vlr.reserved) x1 refl ∙ number_past 2 2 16 vlr.user x2 sizes.user ∙ number_past 2 0 2 (to_le_bytes w16 vlr.id) x3 refl ∙ two_first (length vlr.payload) x4 size

pub evlr_length : (vlr : Vlr) (rest : List ℕ) → HasSizes vlr → length vlr.payload < 2 ^ 64 → number_at 20 8 (evlr_bytes vlr ++ rest) ≡ length vlr.payload
evlr_length vlr rest sizes size =
    let s = to_le_bytes w64 (length vlr.payload) in
    let x4 = vlr.text ++ (vlr.payload ++ rest) in
    let x3 = s ++ x4 in
    let x2 = to_le_bytes w16 vlr.id ++ x3 in
    let x1 = vlr.user ++ x2 in
    ap (number_at 20 8) (flat (to_le_bytes w16 vlr.reserved) vlr.user (to_le_bytes w16 vlr.id) s vlr.text vlr.payload rest)
    ∙ number_past 8 18 2 (to_le_bytes w16 vlr.reserved) x1 refl ∙ number_past 8 2 16 vlr.user x2 sizes.user ∙ number_past 8 0 2 (to_le_bytes w16 vlr.id) x3 refl ∙ eight_first (length vlr.payload) x4 size

pub vlr_is : (vlr : Vlr) (points_at : ℕ) (rest : List ℕ) → HasSizes vlr → length vlr.payload < 2 ^ 16 → entry_of (Plain points_at) (vlr_bytes vlr ++ rest) ≡ vlr
vlr_is vlr points_at rest sizes size =
    let user = sizes.user in
    let text = sizes.text in
    let s = to_le_bytes w16 (length vlr.payload) in
    let x5 = vlr.payload ++ rest in
    let x4 = vlr.text ++ x5 in
    let x3 = s ++ x4 in
    let x2 = to_le_bytes w16 vlr.id ++ x3 in
    let x1 = vlr.user ++ x2 in
    let all = to_le_bytes w16 vlr.reserved ++ x1 in
    let long : number_at 20 2 all ≡ length vlr.payload = number_past 2 18 2 (to_le_bytes w16 vlr.reserved) x1 refl ∙ number_past 2 2 16 vlr.user x2 user ∙ number_past 2 0 2 (to_le_bytes w16 vlr.id) x3 refl ∙ two_first (length vlr.payload) x4 size in
    let user_is : piece 2 16 all ≡ vlr.user = piece_past 16 0 2 (to_le_bytes w16 vlr.reserved) x1 refl ∙ piece_here 16 vlr.user x2 user in
    let id_is : number_at 18 2 all ≡ vlr.id = number_past 2 16 2 (to_le_bytes w16 vlr.reserved) x1 refl ∙ number_past 2 0 16 vlr.user x2 user ∙ two_first vlr.id x3 sizes.id in
    let text_is : piece 22 32 all ≡ vlr.text = piece_past 32 20 2 (to_le_bytes w16 vlr.reserved) x1 refl ∙ piece_past 32 4 16 vlr.user x2 user ∙ piece_past 32 2 2 (to_le_bytes w16 vlr.id) x3 refl ∙ piece_past 32 0 2 s x4 refl ∙ piece_here 32 vlr.text x5 text in
    let payload_is : piece 54 (length vlr.payload) all ≡ vlr.payload = piece_past (length vlr.payload) 52 2 (to_le_bytes w16 vlr.reserved) x1 refl ∙ piece_past (length vlr.payload) 36 16 vlr.user x2 user ∙ piece_past (length vlr.payload) 34 2 (to_le_bytes w16 vlr.id) x3 refl ∙ piece_past (length vlr.payload) 32 2 s x4 refl ∙ piece_past (length vlr.payload) 0 32 vlr.text x5 text ∙ piece_here (length vlr.payload) vlr.payload rest refl in
    ap (entry_of (Plain points_at)) (flat (to_le_bytes w16 vlr.reserved) vlr.user (to_le_bytes w16 vlr.id) s vlr.text vlr.payload rest)
    ∙ rw (two_first vlr.reserved x1 sizes.reserved) (rw user_is (rw id_is (rw text_is (rw long (rw payload_is refl)))))

pub evlr_is : (vlr : Vlr) (rest : List ℕ) → HasSizes vlr → length vlr.payload < 2 ^ 64 → entry_of Extended (evlr_bytes vlr ++ rest) ≡ vlr
evlr_is vlr rest sizes size =
    let user = sizes.user in
    let text = sizes.text in
    let s = to_le_bytes w64 (length vlr.payload) in
    let x5 = vlr.payload ++ rest in
    let x4 = vlr.text ++ x5 in
    let x3 = s ++ x4 in
    let x2 = to_le_bytes w16 vlr.id ++ x3 in
    let x1 = vlr.user ++ x2 in
    let all = to_le_bytes w16 vlr.reserved ++ x1 in
    let long : number_at 20 8 all ≡ length vlr.payload = number_past 8 18 2 (to_le_bytes w16 vlr.reserved) x1 refl ∙ number_past 8 2 16 vlr.user x2 user ∙ number_past 8 0 2 (to_le_bytes w16 vlr.id) x3 refl ∙ eight_first (length vlr.payload) x4 size in
    let user_is : piece 2 16 all ≡ vlr.user = piece_past 16 0 2 (to_le_bytes w16 vlr.reserved) x1 refl ∙ piece_here 16 vlr.user x2 user in
    let id_is : number_at 18 2 all ≡ vlr.id = number_past 2 16 2 (to_le_bytes w16 vlr.reserved) x1 refl ∙ number_past 2 0 16 vlr.user x2 user ∙ two_first vlr.id x3 sizes.id in
    let text_is : piece 28 32 all ≡ vlr.text = piece_past 32 26 2 (to_le_bytes w16 vlr.reserved) x1 refl ∙ piece_past 32 10 16 vlr.user x2 user ∙ piece_past 32 8 2 (to_le_bytes w16 vlr.id) x3 refl ∙ piece_past 32 0 8 s x4 refl ∙ piece_here 32 vlr.text x5 text in
    let payload_is : piece 60 (length vlr.payload) all ≡ vlr.payload = piece_past (length vlr.payload) 58 2 (to_le_bytes w16 vlr.reserved) x1 refl ∙ piece_past (length vlr.payload) 42 16 vlr.user x2 user ∙ piece_past (length vlr.payload) 40 2 (to_le_bytes w16 vlr.id) x3 refl ∙ piece_past (length vlr.payload) 32 8 s x4 refl ∙ piece_past (length vlr.payload) 0 32 vlr.text x5 text ∙ piece_here (length vlr.payload) vlr.payload rest refl in
    ap (entry_of Extended) (flat (to_le_bytes w16 vlr.reserved) vlr.user (to_le_bytes w16 vlr.id) s vlr.text vlr.payload rest)
    ∙ rw (two_first vlr.reserved x1 sizes.reserved) (rw user_is (rw id_is (rw text_is (rw long (rw payload_is refl)))))
