use Rattle.std.proofs.Common.{subst, sym}
use Rattle.extra_bytes.specs.Fields.{AreLaid}
use Rattle.las_header.specs.Formats.{format_size}
use Rattle.worked_values.proofs.written.samples.with_heights.Goals as goal

pub returns : goal.returns
returns c =
    let was = c.plain-form.ensures.form in
    let laid = c.in_ok-form.ensures in
    record {
      version = was.version;
      format = was.format;
      offsets = was.offsets;
      vlrs = was.vlrs;
      evlrs = was.evlrs;
      extra = subst (λ format. AreLaid (format_size format) c.in_ok-form.field-0) (sym c.plain-form.ensures.same) laid.0;
      few = laid.1;
    }
