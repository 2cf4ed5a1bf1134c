use Rattle.extra_bytes.proofs.Offered.{own_result, within_result}
use Rattle.extra_bytes.proofs.record.find_fields.Goals as goal

pub returns-clause-within : goal.returns-clause-within
returns-clause-within c = within_result c.read_fields.result c.unwrap_or-payload.result.now c.args.from c.args.record_length c.read_fields.ensures

pub returns-clause-own : goal.returns-clause-own
returns-clause-own c = own_result c.read_fields.result c.unwrap_or-payload.result.now c.args.from c.args.record_length c.read_fields.ensures
