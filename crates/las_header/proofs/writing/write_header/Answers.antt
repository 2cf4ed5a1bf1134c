use Rattle.std.proofs.Common.{◌≡◌, ℕ, List, ◌++◌, length, length-append, sym, ap, ◌∙◌, arith}
use Rattle.las_header.specs.Written.{file_part, record_part, grid_part, count_part, header_fields}
use Rattle.las_header.proofs.Standing.{HasSizes, block_stands, block_length}
use Rattle.las_header.proofs.ReadBack.{is_read_back}
use Rattle.las_header.proofs.writing.write_header.Goals as goal

sized : (xs ys : List ℕ) (n : ℕ) → xs ≡ ys → length xs ≡ n → length ys ≡ n
sized xs ys n e l = sym (ap length e) ∙ l

four : (a b c d : List ℕ) → length a ≡ 94 → length b ≡ 37 → length c ≡ 96 → length d ≡ 148 → length (a ++ b ++ c ++ d) ≡ 375
four a b c d p q r s = simp length-append (omega (arith, p, q, r, s))

long_fields : (c : goal.After-copy_from_slice) → length (header_fields c.args.h.now) ≡ 375
long_fields c = four (file_part c.args.h.now) (record_part c.args.h.now) (grid_part c.args.h.now) (count_part c.args.h.now)
    (sized _ _ 94 c.file_part.ensures.items c.file_part.ensures.len) (sized _ _ 37 c.record_part.ensures.items c.record_part.ensures.len)
    (sized _ _ 96 c.grid_part.ensures.items c.grid_part.ensures.len) (sized _ _ 148 c.count_part.ensures.items c.count_part.ensures.len)

pub returns-clause-long : goal.returns-clause-long
returns-clause-long c = block_length c.args.h.now (long_fields c)

pub returns-clause-stands : goal.returns-clause-stands
returns-clause-stands c =
    let sizes : HasSizes c.args.h.now = record {
      file = c.file_part.ensures.sizes;
      recorded = c.record_part.ensures.sizes;
      grid = c.grid_part.ensures.sizes;
      count = c.count_part.ensures.sizes;
    } in
    λ fits words. block_stands c.args.h.now sizes (long_fields c) fits words

pub returns-clause-read_back : goal.returns-clause-read_back
returns-clause-read_back c = λ fits words sound. is_read_back c.args.h.now _ (returns-clause-stands c fits words) sound
