use Rattle.std.proofs.Common.{sym, subst}
use Rattle.std.specs.List.{All}
use Rattle.extra_bytes.specs.Written.{HasShortName}
use Rattle.extra_bytes.proofs.Sized.{laid_short}
use Rattle.las_header.specs.Formats.{format_size}
use Rattle.las_writer.proofs.lists.extra_vlrs.Goals as goal

pub extra_vlr-requires : goal.extra_vlr-requires
extra_vlr-requires c =
    let form = c.args.form.now in
    subst (All HasShortName) (sym c.as_slice-fields.ensures) (laid_short (format_size form.format) form.extra c.requires.extra)
