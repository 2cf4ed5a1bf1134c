use Rattle.std.proofs.Common.{◌≡◌, ◌+◌, ◌-◌, ◌++◌, ◌≤◌, true, List, ℕ, length, take, replicate, Ok, Err, sym, ap, ◌∙◌, subst, rules, arith}
use Rattle.std.proofs.lemmas.List.{length-take-le}
use Rattle.std.proofs.lemmas.Grind.{common_steps}
use Rattle.std.specs.List.{All}
use Rattle.byte_numbers.specs.Bytes.{number_at}
use Rattle.las_header.specs.Formats.{format_size}
use Rattle.las_header.specs.Offsets.{IsOffset}
use Rattle.std.specs.Prelude.{ℤ}
use Rattle.decimal_coords.specs.declared.grid.Scale.{Scale}
use Rattle.las_header.specs.declared.block.Header.{Header}
use Rattle.las_header.specs.declared.form.Format.{Format}
use Rattle.las_header.specs.declared.faults.HeaderFault.{HeaderFault}
use Rattle.las_header.specs.Headers.{minor_of, block_of, record_format, scales_of, offsets_of, header_with, header_in, header_of}
use Rattle.las_header.specs.Steps.{◌>>=◌}
use Rattle.las_header.specs.Versions.{block_size, is_version, takes_format}
use Rattle.las_header.proofs.Padded.{block_padded, number_padded}
use Rattle.las_header.proofs.ReadBlock.{IsRead, IsOf, header_is_read, number_in_block}
use Rattle.las_header.proofs.Standing.{block_is_long}
use Rattle.las_header.proofs.reading.read_header.Goals as goal

-- what is read of the block that is filled with zero bytes is read of the file
of_block : (file block : List ℕ) → block_of file ≡ Ok (take (block_size (minor_of file)) file) → block ≡ take (block_size (minor_of file)) file ++ replicate (375 - block_size (minor_of file)) 0
    → is_version (minor_of file) ≡ true → block_size (minor_of file) ≤ length file → header_in block ≡ header_of file
of_block file block front filled version there =
    let long = block_is_long (minor_of file) version in
    let size = length-take-le (block_size (minor_of file)) file there in
    ap header_in filled ∙ block_padded (take (block_size (minor_of file)) file) (375 - block_size (minor_of file)) (omega (arith, long, size)) ∙ ap (λ r. r >>= header_in) (sym front)

pub returns-in_err-format-clause-value : goal.returns-in_err-format-clause-value
unfolding header_in
returns-in_err-format-clause-value c =
    let e = c.in_ok-block.ensures in
    let here : c.from_residual-in_err-format.result ≡ header_in c.in_ok-block.block = grind (arith, common_steps) in
    here ∙ of_block c.args.bytes.now c.in_ok-block.block e.ok e.filled e.version e.there

-- where the scales or the offsets have a fault, it is that of the block
scales_fail : (block : List ℕ) (format : Format) (e : HeaderFault) → Ok format ≡ record_format block → Err e ≡ scales_of block → header_in block ≡ Err e
unfolding header_in
scales_fail block format e known fails =
    (λ i. sym known i >>= (λ format. scales_of block >>= (λ scale. offsets_of block >>= (λ offset. Ok (header_with format scale offset block)))))
    ∙ (λ i. sym fails i >>= (λ scale. offsets_of block >>= (λ offset. Ok (header_with format scale offset block))))

offsets_fail : (block : List ℕ) (format : Format) (scale : List Scale) (e : HeaderFault) → Ok format ≡ record_format block → Ok scale ≡ scales_of block → Err e ≡ offsets_of block → header_in block ≡ Err e
unfolding header_in
offsets_fail block format scale e known scales fails =
    (λ i. sym known i >>= (λ format. sym scales i >>= (λ scale. offsets_of block >>= (λ offset. Ok (header_with format scale offset block)))))
    ∙ (λ i. sym fails i >>= (λ offset. Ok (header_with format scale offset block)))

pub returns-in_err-scale-clause-value : goal.returns-in_err-scale-clause-value
returns-in_err-scale-clause-value c =
    let e = c.in_ok-block.ensures in
    let here : c.from_residual-in_err-scale.result ≡ Err c.in_err-scale.field-0.0 = search rules in
    here ∙ sym (scales_fail c.in_ok-block.block c.in_ok-format.format _ c.in_ok-format.ensures.value c.in_err-scale.ensures) ∙ of_block c.args.bytes.now c.in_ok-block.block e.ok e.filled e.version e.there

pub returns-in_err-offset-clause-value : goal.returns-in_err-offset-clause-value
returns-in_err-offset-clause-value c =
    let e = c.in_ok-block.ensures in
    let here : c.from_residual-in_err-offset.result ≡ Err c.in_err-offset.field-0.0 = search rules in
    here ∙ sym (offsets_fail c.in_ok-block.block c.in_ok-format.format c.in_ok-scale.scale _ c.in_ok-format.ensures.value c.in_ok-scale.ensures c.in_err-offset.ensures.value) ∙ of_block c.args.bytes.now c.in_ok-block.block e.ok e.filled e.version e.there

pub returns-clause-value : goal.returns-clause-value
unfolding header_in
returns-clause-value c =
    let e = c.in_ok-block.ensures in
    let here : Ok c.header_with.result ≡ header_in c.in_ok-block.block = grind (arith, common_steps) in
    here ∙ of_block c.args.bytes.now c.in_ok-block.block e.ok e.filled e.version e.there

-- the block stands for the header
read_of : (file block : List ℕ) (format : Format) (scale : List Scale) (offset : List ℤ) (h : Header) → h ≡ header_with format scale offset block → IsRead file block format scale offset → IsOf file h
read_of file block format scale offset h is r = subst (IsOf file) (sym is) (header_is_read file block format scale offset r)

is_of : (c : goal.After-header_with) → IsOf c.args.bytes.now c.header_with.result
is_of c =
    let e = c.in_ok-block.ensures in
    read_of c.args.bytes.now c.in_ok-block.block c.in_ok-format.format c.in_ok-scale.scale c.in_ok-offset.offset c.header_with.result c.header_with.ensures.value (record {
      filled = e.filled;
      version = e.version;
      there = e.there;
      known = c.in_ok-format.ensures.known;
      scales = sym c.in_ok-scale.ensures;
      offsets = sym c.in_ok-offset.ensures.value;
    })

in_block : (at n : ℕ) (file block : List ℕ) → block ≡ take (block_size (minor_of file)) file ++ replicate (375 - block_size (minor_of file)) 0 → is_version (minor_of file) ≡ true → at + n ≤ 227 → number_at at n block ≡ number_at at n file
in_block at n file block filled version room = ap (number_at at n) filled ∙ number_padded at n (take (block_size (minor_of file)) file) (375 - block_size (minor_of file)) ∙ number_in_block at n file version room

pub returns-clause-sound : goal.returns-clause-sound
returns-clause-sound c =
    let h = c.header_with.ensures in
    let format = c.in_ok-format.ensures in
    let long : format_size c.header_with.result.format ≤ number_at 105 2 c.in_ok-block.block =
    subst (λ (f : Format). format_size f ≤ number_at 105 2 c.in_ok-block.block) (sym h.format) format.long in
    record {
      behind = (let b = format.behind in let s = h.size in let p = h.points_at in omega (arith, b, s, p));
      long = (let r = h.record_length in omega (arith, long, r));
      offsets = subst (All IsOffset) (sym h.offset) c.in_ok-offset.ensures.sizes;
    }

pub returns-clause-block : goal.returns-clause-block
returns-clause-block c =
    let of = is_of c in
    let e = c.in_ok-block.ensures in
    let h = c.header_with.ensures in
    let file = c.args.bytes.now in
    let own : minor_of c.in_ok-block.block ≡ c.header_with.result.minor =
    in_block 25 1 file c.in_ok-block.block e.filled e.version (omega arith) ∙ sym of.minor in
    let size : number_at 94 2 c.in_ok-block.block ≡ number_at 94 2 file = in_block 94 2 file c.in_ok-block.block e.filled e.version (omega arith) in
    let block : block_size c.header_with.result.minor ≤ number_at 94 2 file =
    subst (λ (m : ℕ). block_size m ≤ number_at 94 2 file) (sym of.minor) e.size in
    record {
      fits = of.fits;
      format = ap (λ m. takes_format m c.header_with.result.format) (sym own) ∙ ap (takes_format (minor_of c.in_ok-block.block)) h.format
          ∙ c.in_ok-format.ensures.takes;
      block = subst (λ (k : ℕ). block_size c.header_with.result.minor ≤ k) (sym size ∙ sym h.size) block;
    }

pub returns-clause-stands : goal.returns-clause-stands
returns-clause-stands c = (is_of c).stands
