-- A record by its head and its payload.
use Rattle.std.proofs.Common.{◌≡◌, ℕ, ◌+◌, ◌<◌, ◌≤◌, nat_lt, true, false, List, take, drop, Some, None, refl, ap, sym, ◌∙◌, arith, drop-drop}
use Rattle.std.proofs.lemmas.Bool.{lt-ltb, le-ltb}
use Rattle.byte_numbers.specs.Bytes.{piece}
use Rattle.byte_numbers.proofs.Fronts.{number_front, piece_front}
use Rattle.las_vlr.specs.Vlrs.{head_size, payload_length, entry_size, entry_of, past, entry_fault, IsFault}
use Rattle.las_vlr.specs.declared.entry.ListKind.{ListKind}
use Rattle.las_vlr.specs.declared.entry.ListKind.TheVariants.{Plain, Extended}
use Rattle.las_vlr.specs.declared.entry.VlrFault.TheVariants.{TooManyVlrs}
use Rattle.las_vlr.specs.declared.entry.VlrErr.{VlrErr}
use Rattle.las_vlr.specs.declared.entry.VlrErr.TheVariants.{Fault, ReadFailed, Memory}

pub same_length : (kind : ListKind) (a b : List ℕ) → take (head_size kind) a ≡ take (head_size kind) b → payload_length kind a ≡ payload_length kind b
same_length (Plain points_at) a b e = number_front 2 20 54 a b (omega arith) e
same_length Extended a b e = number_front 8 20 60 a b (omega arith) e

same_entry : (kind : ListKind) (a b payload : List ℕ) → take (head_size kind) a ≡ take (head_size kind) b → payload ≡ piece (head_size kind) (payload_length kind b) b → record (entry_of kind a) { payload = payload } ≡ entry_of kind b
same_entry (Plain points_at) a b payload e is =
    rw (number_front 2 0 54 a b (omega arith) e) (rw (piece_front 2 16 54 a b (omega arith) e) (rw (number_front 2 18 54 a b (omega arith) e) (rw (piece_front 22 32 54 a b (omega arith) e) (rw is refl))))
same_entry Extended a b payload e is =
    rw (number_front 2 0 60 a b (omega arith) e) (rw (piece_front 2 16 60 a b (omega arith) e) (rw (number_front 2 18 60 a b (omega arith) e) (rw (piece_front 28 32 60 a b (omega arith) e) (rw is refl))))

-- the record at a place, by its head and its payload
pub entry_read : (kind : ListKind) (at : ℕ) (file head payload : List ℕ) → take (head_size kind) head ≡ take (head_size kind) (drop at file) → payload ≡ take (payload_length kind head) (drop (at + head_size kind) file)
    → record (entry_of kind head) { payload = payload } ≡ entry_of kind (drop at file)
entry_read kind at file head payload e is =
    same_entry kind head (drop at file) payload e (is ∙ ap (λ n. take n (drop (at + head_size kind) file)) (same_length kind head (drop at file) e) ∙ ap (take (payload_length kind (drop at file))) (sym (drop-drop (head_size kind) at file)))

-- a record without a fault
pub no_fault : (kind : ListKind) (k at before size : ℕ) (file : List ℕ) → size ≡ payload_length kind (drop at file) → before + size ≤ 16777216
    → past kind k (at + head_size kind) file ≡ None → past kind k (at + head_size kind + size) file ≡ None → entry_fault kind k at before file ≡ None
no_fault kind k at before size file is room head whole =
    let few : nat_lt 16777216 (before + payload_length kind (drop at file)) ≡ false = le-ltb 16777216 (before + payload_length kind (drop at file)) (omega arith) in
    let end : at + head_size kind + size ≡ at + entry_size kind (drop at file) = omega arith in
    rw head (rw few (ap (λ n. past kind k n file) (sym end) ∙ whole))

-- a fault of the head
pub head_fault : (kind : ListKind) (k at before : ℕ) (file : List ℕ) (e : VlrErr) → IsFault (past kind k (at + head_size kind) file) e → IsFault (entry_fault kind k at before file) e
head_fault kind k at before file (Fault f) h = rw h refl
head_fault kind k at before file ReadFailed h = tt
head_fault kind k at before file Memory h = tt

-- payloads past the limit
pub too_many_fault : (kind : ListKind) (k at before size : ℕ) (file : List ℕ) → size ≡ payload_length kind (drop at file) → 16777216 < before + size → past kind k (at + head_size kind) file ≡ None → entry_fault kind k at before file ≡ Some TooManyVlrs
too_many_fault kind k at before size file is many head =
    let test : nat_lt 16777216 (before + payload_length kind (drop at file)) ≡ true = lt-ltb 16777216 (before + payload_length kind (drop at file)) (omega arith) in
    rw head (rw test refl)

-- a fault of the payload
pub payload_fault : (kind : ListKind) (k at before size : ℕ) (file : List ℕ) (e : VlrErr) → size ≡ payload_length kind (drop at file) → before + size ≤ 16777216 → past kind k (at + head_size kind) file ≡ None
    → IsFault (past kind k (at + head_size kind + size) file) e → IsFault (entry_fault kind k at before file) e
payload_fault kind k at before size file (Fault f) is room head h =
    let few : nat_lt 16777216 (before + payload_length kind (drop at file)) ≡ false = le-ltb 16777216 (before + payload_length kind (drop at file)) (omega arith) in
    let end : at + head_size kind + size ≡ at + entry_size kind (drop at file) = omega arith in
    rw head (rw few (ap (λ n. past kind k n file) (sym end) ∙ h))
payload_fault kind k at before size file ReadFailed is room head h = tt
payload_fault kind k at before size file Memory is room head h = tt
