use Rattle.run_report.proofs.faults.push_header_fault.Goals as goal

pub returns-in-OffsetOutOfRange-clause-bytes : goal.returns-in-OffsetOutOfRange-clause-bytes
returns-in-OffsetOutOfRange-clause-bytes c = rw c.in-OffsetOutOfRange.is c.push_axis-in-OffsetOutOfRange.ensures.bytes
