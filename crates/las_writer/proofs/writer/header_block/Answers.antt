use Rattle.std.proofs.Common.{◌≡◌, length, ap, subst, ◌∙◌}
use Rattle.las_header.specs.declared.block.Header.{Header}
use Rattle.las_header.specs.Versions.{block_size}
use Rattle.las_header.specs.Written.{header_block}
use Rattle.las_writer.proofs.HeaderSizes.{same_minor}
use Rattle.las_writer.proofs.writer.header_block.Goals as goal

pub returns-clause-size : goal.returns-clause-size
returns-clause-size c = c.write_header.ensures.size ∙ ap (λ (h : Header). block_size h.minor) c.header_with.ensures ∙ ap block_size (same_minor c.args.form.now c.args.totals.now)

pub returns-clause-long : goal.returns-clause-long
returns-clause-long c =
    subst (λ (h : Header). length (header_block h) ≡ block_size h.minor) c.header_with.ensures c.write_header.ensures.long ∙ ap block_size (same_minor c.args.form.now c.args.totals.now)
