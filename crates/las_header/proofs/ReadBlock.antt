-- A header that is read of a block that is filled with zero bytes.
use Rattle.std.proofs.Common.{◌≡◌, ℕ, ◌+◌, ◌-◌, ◌≤◌, true, List, length, length-take, take, replicate, ◌++◌, Some, Ok, refl, sym, ap, ◌∙◌, subst, arith}
use Rattle.std.proofs.lemmas.List.{length-take-le, take-take}
use Rattle.decimal_coords.specs.declared.grid.Scale.{Scale}
use Rattle.std.specs.Prelude.{ℤ}
use Rattle.las_header.specs.declared.block.Header.{Header}
use Rattle.las_header.specs.declared.form.Format.{Format}
use Rattle.byte_numbers.specs.Bytes.{number_at}
use Rattle.byte_numbers.proofs.Fronts.{number_front}
use Rattle.las_header.specs.Formats.{format_of}
use Rattle.las_header.specs.Headers.{minor_of, scales_of, offsets_of, header_with}
use Rattle.las_header.specs.Standing.{FitsBlock, Stands}
use Rattle.las_header.specs.Versions.{block_size, is_version}
use Rattle.las_header.proofs.Padded.{number_padded, scales_padded, offsets_padded, header_padded, number_behind, numbers_behind}
use Rattle.las_header.proofs.Standing.{block_is_long, block_ends}

-- what is read of a file: its block, filled with zero bytes, has this format, these scales and these offsets
pub record IsRead (file block : List ℕ) (format : Format) (scale : List Scale) (offset : List ℤ) : Type 0 where
  pub filled : block ≡ take (block_size (minor_of file)) file ++ replicate (375 - block_size (minor_of file)) 0
  pub version : is_version (minor_of file) ≡ true
  pub there : block_size (minor_of file) ≤ length file
  pub known : format_of (number_at 104 1 block) ≡ Some format
  pub scales : scales_of block ≡ Ok scale
  pub offsets : offsets_of block ≡ Ok offset

-- numbers of the first 227 bytes are those of the file
pub number_in_block : (at n : ℕ) (file : List ℕ) → is_version (minor_of file) ≡ true → at + n ≤ 227 → number_at at n (take (block_size (minor_of file)) file) ≡ number_at at n file
number_in_block at n file version room =
    let long = block_is_long (minor_of file) version in
    number_front n at (at + n) (take (block_size (minor_of file)) file) file (omega arith) (take-take (at + n) (block_size (minor_of file)) file (omega (arith, room, long)))

-- fields behind the end of a block are 0
fits_with : (format : Format) (scale : List Scale) (offset : List ℤ) (block : List ℕ) → is_version (minor_of block) ≡ true → length block ≡ block_size (minor_of block) → FitsBlock (header_with format scale offset block)
unfolding header_with
fits_with format scale offset block version size =
    let ends = block_ends (minor_of block) version in
    record {
      version = version;
      waveform = λ less. number_behind 227 8 block (let e = ends.bounds less in omega (arith, e, size));
      evlrs_at = λ less. number_behind 235 8 block (let e = ends.packets (omega (arith, less)) in omega (arith, e, size));
      evlrs = λ less. number_behind 243 4 block (let e = ends.packets (omega (arith, less)) in omega (arith, e, size));
      count = λ less. number_behind 247 8 block (let e = ends.packets (omega (arith, less)) in omega (arith, e, size));
      returns = λ less. numbers_behind 255 15 8 block (let e = ends.packets less in omega (arith, e, size));
    }

minor_with : (format : Format) (scale : List Scale) (offset : List ℤ) (block : List ℕ) → (header_with format scale offset block).minor ≡ minor_of block
unfolding header_with
minor_with format scale offset block = refl

format_with : (format : Format) (scale : List Scale) (offset : List ℤ) (block : List ℕ) → (header_with format scale offset block).format ≡ format
unfolding header_with
format_with format scale offset block = refl

scale_with : (format : Format) (scale : List Scale) (offset : List ℤ) (block : List ℕ) → (header_with format scale offset block).scale ≡ scale
unfolding header_with
scale_with format scale offset block = refl

offset_with : (format : Format) (scale : List Scale) (offset : List ℤ) (block : List ℕ) → (header_with format scale offset block).offset ≡ offset
unfolding header_with
offset_with format scale offset block = refl

again : (format : Format) (scale : List Scale) (offset : List ℤ) (block : List ℕ)
    → header_with (header_with format scale offset block).format (header_with format scale offset block).scale (header_with format scale offset block).offset block ≡ header_with format scale offset block
unfolding header_with
again format scale offset block = refl

-- the block stands for the header that is read, and so it fits its version
pub record IsOf (file : List ℕ) (h : Header) : Type 0 where
  pub minor : h.minor ≡ minor_of file
  pub stands : Stands (take (block_size h.minor) file) h
  pub fits : FitsBlock h

pub header_is_read : (file block : List ℕ) (format : Format) (scale : List Scale) (offset : List ℤ) → IsRead file block format scale offset → IsOf file (header_with format scale offset block)
header_is_read file block format scale offset r =
    let front = take (block_size (minor_of file)) file in
    let zeros = 375 - block_size (minor_of file) in
    let long = block_is_long (minor_of file) r.version in
    let size : length front ≡ block_size (minor_of file) = length-take-le (block_size (minor_of file)) file r.there in
    let same : header_with format scale offset block ≡ header_with format scale offset front =
    ap (header_with format scale offset) r.filled ∙ header_padded format scale offset front zeros (omega (arith, long, size)) in
    let minor : minor_of front ≡ minor_of file = number_in_block 25 1 file r.version (omega arith) in
    let own : (header_with format scale offset front).minor ≡ minor_of file = minor_with format scale offset front ∙ minor in
    let front_size : length front ≡ block_size (minor_of front) = size ∙ ap block_size (sym minor) in
    let stands : Stands (take (block_size (header_with format scale offset front).minor) file) (header_with format scale offset front) =
    subst (λ (m : ℕ). Stands (take (block_size m) file) (header_with format scale offset front)) (sym own) (record {
      size = size ∙ ap block_size (sym own);
      format = ap format_of (sym (number_padded 104 1 front zeros) ∙ ap (number_at 104 1) (sym r.filled)) ∙ r.known ∙ ap (λ f. Some f) (sym (format_with format scale offset front));
      scale = sym (scales_padded front zeros) ∙ ap scales_of (sym r.filled) ∙ r.scales ∙ ap (λ s. Ok s) (sym (scale_with format scale offset front));
      offset = sym (offsets_padded front zeros) ∙ ap offsets_of (sym r.filled) ∙ r.offsets ∙ ap (λ o. Ok o) (sym (offset_with format scale offset front));
      fields = again format scale offset front;
    }) in
    subst (IsOf file) (sym same) (record {
      minor = own;
      stands = stands;
      fits = fits_with format scale offset front (ap is_version minor ∙ r.version) front_size;
    })

-- the version of a header that is read of the front of a block is the one that stands in the block
pub own_version : (block : List ℕ) (held : ℕ) (h : Header) → Stands (take (block_size h.minor) (take held block)) h → is_version h.minor ≡ true → minor_of block ≡ h.minor
own_version block held h stands version =
    let size = block_size h.minor in
    let front = take size (take held block) in
    let long : 227 ≤ size = block_is_long h.minor version in
    let all : size ≤ held = (let a = stands.size in let b = length-take size (take held block) in let c = length-take held block in omega (arith, a, b, c)) in
    let same : take 26 block ≡ take 26 front = sym (take-take 26 size (take held block) (omega (arith, long)) ∙ take-take 26 held block (omega (arith, long, all))) in
    number_front 1 25 26 block front (omega arith) same ∙ sym (minor_with h.format h.scale h.offset front) ∙ ap (λ (x : Header). x.minor) stands.fields
