use Rattle.std.proofs.Common.{ℕ, ◌≤◌, max, subst, arith}
use Rattle.las_header.specs.Versions.{block_size}
use Rattle.las_reader.proofs.Openings.{header_is}
use Rattle.las_header.proofs.ReadBlock.{own_version}
use Rattle.las_reader.proofs.opening.read_block.Goals as goal

pub returns-in-Ok-read_header-clause-ok : goal.returns-in-Ok-read_header-clause-ok
returns-in-Ok-read_header-clause-ok g c = λ file e. header_is file _ _ (c.in-Ok.ensures.front file e) c.in-Ok-read_header.ensures.value

pub returns-in-Err-clause-err : goal.returns-in-Err-clause-err
returns-in-Err-clause-err g c = λ file e. header_is file _ _ (c.in-Ok.ensures.front file e) c.in-Err.ensures.value

pub returns-in-Ok-read_header-clause-reached : goal.returns-in-Ok-read_header-clause-reached
returns-in-Ok-read_header-clause-reached g c =
    let e = c.in-Ok-read_header.ensures in
    let h = c.in-Ok-read_header.header in
    let own = own_version c.fill_block.new.block c.in-Ok.held h e.stands e.block.fits.version in
    let asked : g.S.Source.reached c.fill_block.new.source ≤ max (g.S.Source.reached c.args.source.now) (block_size h.minor) =
    subst (λ (m : ℕ). g.S.Source.reached c.fill_block.new.source ≤ max (g.S.Source.reached c.args.source.now) (block_size m)) own c.in-Ok.ensures.reached in
    within _ _ _ _ asked e.block.block
  where
    within : (r0 r1 size given : ℕ) → r1 ≤ max r0 size → size ≤ given → r1 ≤ max r0 given
    within r0 r1 size given asked few = omega (arith, asked, few)
