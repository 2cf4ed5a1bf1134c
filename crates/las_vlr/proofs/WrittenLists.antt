-- Lists of records that are written are the lists that are read.
use Rattle.std.proofs.Common.{◌≡◌, ℕ, suc, ◌+◌, ◌≤◌, nat_lt, false, List, [], ◌∷◌, ◌++◌, length, drop, None, Ok, refl, ap, sym, ◌∙◌, arith, append_assoc, w16, w64, length-append}
use Rattle.std.specs.Int.{to_le_bytes}
use Rattle.std.specs.List.{All, flat_map, sum_by}
use Rattle.std.proofs.Math.Seq.{drop-append_seam}
use Rattle.std.proofs.lemmas.Bool.{le-ltb}
use Rattle.std.proofs.lemmas.List.Elements.{All-head, All-tail}
use Rattle.std.proofs.lemmas.List.Sums.{sum_by-cons}
use Rattle.std.proofs.lemmas.List.Concat.{flat_map-cons}
use Rattle.las_vlr.specs.Vlrs.{head_size, payload_length, entry_of, past, behind, entries_from, vlrs_of, evlrs_of, MayReach}
use Rattle.las_vlr.specs.Limits.{IsOf, AreHeldVlrs, AreHeldEvlrs}
use Rattle.las_vlr.specs.Written.{payload_size, vlr_bytes, evlr_bytes}
use Rattle.las_vlr.proofs.Heads.{no_fault}
use Rattle.las_vlr.proofs.Readings.{next_entry, no_entries, list_is}
use Rattle.las_vlr.proofs.Entries.{vlr_is, evlr_is, vlr_length, evlr_length}
use Rattle.las_vlr.specs.declared.entry.Vlr.{Vlr}
use Rattle.las_vlr.specs.declared.entry.ListKind.{ListKind}
use Rattle.las_vlr.specs.declared.entry.ListKind.TheVariants.{Plain, Extended}

abbrev entry_bytes : ListKind → Vlr → List ℕ
entry_bytes (Plain points_at) vlr = vlr_bytes vlr
entry_bytes Extended vlr = evlr_bytes vlr

-- what the bytes of a record, and more behind them, say of it
record Again (kind : ListKind) (vlr : Vlr) (rest : List ℕ) : Type 0 where
  long : payload_length kind (entry_bytes kind vlr ++ rest) ≡ length vlr.payload
  is : entry_of kind (entry_bytes kind vlr ++ rest) ≡ vlr
  size : length (entry_bytes kind vlr) ≡ head_size kind + length vlr.payload

length_flat : (r u i s t p : List ℕ) → length (((((r ++ u) ++ i) ++ s) ++ t) ++ p) ≡ length r + length u + length i + length s + length t + length p
length_flat r u i s t p = simp length-append refl

again : (kind : ListKind) (vlr : Vlr) (rest : List ℕ) → IsOf kind vlr → Again kind vlr rest
again (Plain points_at) vlr rest h = record {
  long = vlr_length vlr rest h.sizes h.short;
  is = vlr_is vlr points_at rest h.sizes h.short;
  size = length_flat (to_le_bytes w16 vlr.reserved) vlr.user (to_le_bytes w16 vlr.id) (to_le_bytes w16 (length vlr.payload)) vlr.text vlr.payload ∙ omega (arith, h.sizes.user, h.sizes.text);
}
again Extended vlr rest h = record {
  long = evlr_length vlr rest h.sizes h.short;
  is = evlr_is vlr rest h.sizes h.short;
  size = length_flat (to_le_bytes w16 vlr.reserved) vlr.user (to_le_bytes w16 vlr.id) (to_le_bytes w64 (length vlr.payload)) vlr.text vlr.payload ∙ omega (arith, h.sizes.user, h.sizes.text);
}

reaches : (kind : ListKind) (k end last : ℕ) (file : List ℕ) → MayReach kind last → end ≤ last → end ≤ length file → past kind k end file ≡ None
reaches (Plain points_at) k end last file may h inside =
    let front : nat_lt points_at end ≡ false = le-ltb points_at end (omega arith) in
    let there : nat_lt (length file) end ≡ false = le-ltb (length file) end inside in
    rw front (rw there refl)
reaches Extended k end last file may h inside =
    let there : nat_lt (length file) end ≡ false = le-ltb (length file) end inside in
    rw there refl

one_more : (kind : ListKind) (left k before last : ℕ) (front tail : List ℕ) (vlr : Vlr) (vlrs : List Vlr) → IsOf kind vlr → before + length vlr.payload ≤ 16777216 → MayReach kind last → length (front ++ entry_bytes kind vlr) ≤ last
    → entries_from kind left (k + 1) (length (front ++ entry_bytes kind vlr)) (before + length vlr.payload) (front ++ (entry_bytes kind vlr ++ tail)) ≡ Ok vlrs
    → entries_from kind (suc left) k (length front) before (front ++ (entry_bytes kind vlr ++ tail)) ≡ Ok (vlr ∷ vlrs)
one_more kind left k before last front tail vlr vlrs held room may within rest =
    let file = front ++ (entry_bytes kind vlr ++ tail) in
    let a = again kind vlr tail held in
    let here : drop (length front) file ≡ entry_bytes kind vlr ++ tail = drop-append_seam front (entry_bytes kind vlr ++ tail) in
    let long : length vlr.payload ≡ payload_length kind (drop (length front) file) = sym (ap (payload_length kind) here ∙ a.long) in
    let is : vlr ≡ entry_of kind (drop (length front) file) = sym (ap (entry_of kind) here ∙ a.is) in
    let size : length file ≡ length front + (length (entry_bytes kind vlr) + length tail) = length-append front (entry_bytes kind vlr ++ tail) ∙ ap (λ n. length front + n) (length-append (entry_bytes kind vlr) tail) in
    let front_size : length (front ++ entry_bytes kind vlr) ≡ length front + length (entry_bytes kind vlr) = length-append front (entry_bytes kind vlr) in
    let end : length front + (head_size kind + length vlr.payload) ≡ length (front ++ entry_bytes kind vlr) = omega (arith, a.size) in
    let head = reaches kind k (length front + head_size kind) last file may (omega arith) (omega (arith, a.size)) in
    let whole = reaches kind k (length front + head_size kind + length vlr.payload) last file may (omega arith) (omega (arith, a.size)) in
    let none = no_fault kind k (length front) before (length vlr.payload) file long room head whole in
    next_entry kind left k (length front) before file vlr (length vlr.payload) none is long
    ∙ ap (λ n. behind None vlr (entries_from kind left (k + 1) n (before + length vlr.payload) file)) end ∙ ap (behind None vlr) rest

all_of : (kind : ListKind) (vlrs : List Vlr) (k before last : ℕ) (front rest : List ℕ) → All (IsOf kind) vlrs → before + sum_by payload_size vlrs ≤ 16777216 → MayReach kind last → length front + length (flat_map (entry_bytes kind) vlrs) ≤ last
    → entries_from kind (length vlrs) k (length front) before (front ++ (flat_map (entry_bytes kind) vlrs ++ rest)) ≡ Ok vlrs
all_of kind [] k before last front rest held room may within = no_entries kind k (length front) before (front ++ (flat_map (entry_bytes kind) [] ++ rest))
all_of kind (v ∷ vs) k before last front rest held room may within =
    let b = entry_bytes kind v in
    let more = flat_map (entry_bytes kind) vs in
    let sums : sum_by payload_size (v ∷ vs) ≡ length v.payload + sum_by payload_size vs = sum_by-cons payload_size v vs in
    let cons : flat_map (entry_bytes kind) (v ∷ vs) ≡ b ++ more = flat_map-cons (entry_bytes kind) v vs in
    let split : flat_map (entry_bytes kind) (v ∷ vs) ++ rest ≡ b ++ (more ++ rest) = ap (λ l. l ++ rest) cons ∙ append_assoc b more rest in
    let sizes : length (flat_map (entry_bytes kind) (v ∷ vs)) ≡ length b + length more = ap length cons ∙ length-append b more in
    let front_size : length (front ++ b) ≡ length front + length b = length-append front b in
    let rec = all_of kind vs (k + 1) (before + length v.payload) last (front ++ b) rest (All-tail (IsOf kind) v vs held) (omega arith) may (omega arith) in
    let moved = ap (λ l. entries_from kind (length vs) (k + 1) (length (front ++ b)) (before + length v.payload) l) (sym (append_assoc front b (more ++ rest))) ∙ rec in
    ap (λ l. entries_from kind (suc (length vs)) k (length front) before (front ++ l)) split
    ∙ one_more kind (length vs) k before last front (more ++ rest) v vs (All-head (IsOf kind) v vs held) (omega arith) may (omega arith) moved

pub vlrs_again : (front rest : List ℕ) (vlrs : List Vlr) (points_at : ℕ) → AreHeldVlrs vlrs → length front + length (flat_map vlr_bytes vlrs) ≤ points_at
    → vlrs_of (length front) points_at (length vlrs) (front ++ (flat_map vlr_bytes vlrs ++ rest)) ≡ Ok vlrs
vlrs_again front rest vlrs points_at held within =
    list_is (Plain points_at) (length vlrs) (length front) _ vlrs held.count (all_of (Plain points_at) vlrs 0 0 points_at front rest held.each (let room = held.payloads in omega arith) (omega arith) within)

pub evlrs_again : (front rest : List ℕ) (vlrs : List Vlr) → AreHeldEvlrs vlrs
    → evlrs_of (length front) (length vlrs) (front ++ (flat_map evlr_bytes vlrs ++ rest)) ≡ Ok vlrs
evlrs_again front rest vlrs held =
    list_is Extended (length vlrs) (length front) _ vlrs held.count (all_of Extended vlrs 0 0 (length front + length (flat_map evlr_bytes vlrs)) front rest held.each (let room = held.payloads in omega arith) tt (omega arith))
