use Rattle.std.proofs.Common.{◌≡◌, true, nat_le, length, refl, sym, rules, arith}
use Rattle.std.proofs.lemmas.Bool.{le-leb}
use Rattle.las_header.specs.Headers.{has_signature, has_version, has_block, block_of}
use Rattle.las_header.proofs.reading.block_of.Goals as goal

pub returns-clause-ok : goal.returns-clause-ok
unfolding block_of
returns-clause-ok c =
    let signature : has_signature c.args.bytes.now ≡ true = sym c.if-not-starts_with.ensures.value in
    let long : nat_le 26 (length c.args.bytes.now) ≡ true = le-leb 26 (length c.args.bytes.now) (omega arith) in
    let version : has_version c.args.bytes.now ≡ true = search rules in
    let block : has_block c.args.bytes.now ≡ true = search rules in
    rw (signature, long, version, block) refl
