use Rattle.stage_forms.proofs.fields.take_fields.Goals as goal

pub returns-clause-fine : goal.returns-clause-fine
returns-clause-fine g c = record {
  within = c.in_ok-fields.ensures.within c.args.reader.now.header.record_length c.in_ok-found.ensures.within;
  places = c.in_ok-fields.ensures.places;
}
