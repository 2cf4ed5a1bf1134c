use Rattle.std.proofs.Common.{◌≡◌, ◌+◌, None, length, take, drop, arith, ◌∙◌, ap, subst}
use Rattle.std.proofs.lemmas.Result.{err_from_is_err_and}
use Rattle.las_vlr.specs.Vlrs.{head_size, past, IsFault}
use Rattle.las_vlr.proofs.Heads.{same_length, entry_read, no_fault, payload_fault}
use Rattle.las_vlr.proofs.reads.read_entry.Goals as goal

pub returns-in_err-payload-clause-fault : goal.returns-in_err-payload-clause-fault
returns-in_err-payload-clause-fault g c =
    let p = err_from_is_err_and c.from_residual-in_err-payload.result c.from_residual-in_err-payload.ensures.1 in
    rw (p.1, p.2) (λ file e.
    let long = c.payload_length-size.ensures.value ∙ same_length c.args.kind c.read_head.new.head (drop c.args.at file) (c.in_ok-read_head.ensures.front file e) in
    payload_fault c.args.kind c.args.number c.args.at c.args.before c.payload_length-size.result file c.in_err-payload.field-0.0 long (omega (arith, c.requires, c.if-size-before.false)) (c.in_ok-read_head.ensures.whole file e)
    (subst (λ n. IsFault (past c.args.kind c.args.number (c.args.at + n + c.payload_length-size.result) file) c.in_err-payload.field-0.0) c.head_size.ensures (c.in_err-payload.ensures.fault file (c.in_ok-read_head.ensures.same ∙ e))))

pub returns-clause-whole : goal.returns-clause-whole
returns-clause-whole g c = λ file e.
    let head = c.in_ok-read_head.ensures.whole file e in
    let long = c.payload_length-size.ensures.value ∙ same_length c.args.kind c.read_head.new.head (drop c.args.at file) (c.in_ok-read_head.ensures.front file e) in
    let whole = c.in_ok-payload.ensures.whole file (c.in_ok-read_head.ensures.same ∙ e) in
    no_fault c.args.kind c.args.number c.args.at c.args.before c.payload_length-size.result file long (omega (arith, c.requires, c.if-size-before.false)) head
    (subst (λ n. past c.args.kind c.args.number (c.args.at + n) file ≡ None → past c.args.kind c.args.number (c.args.at + n + c.payload_length-size.result) file ≡ None) c.head_size.ensures whole head)

pub returns-clause-entry : goal.returns-clause-entry
returns-clause-entry g c = λ file e.
    let payload = c.in_ok-payload.ensures.piece file (c.in_ok-read_head.ensures.same ∙ e) in
    c.with_payload.ensures.value ∙ entry_read c.args.kind c.args.at file c.read_head.new.head _ (c.in_ok-read_head.ensures.front file e)
    (payload ∙ ap (λ n. take c.payload_length-size.result (drop (c.args.at + n) file)) c.head_size.ensures ∙ ap (λ n. take n (drop (c.args.at + head_size c.args.kind) file)) c.payload_length-size.ensures.value)

pub returns-clause-size : goal.returns-clause-size
returns-clause-size g c = λ file e.
    let long = c.payload_length-size.ensures.value ∙ same_length c.args.kind c.read_head.new.head (drop c.args.at file) (c.in_ok-read_head.ensures.front file e) in
    ap (λ v. length v.payload) c.with_payload.ensures.value ∙ c.in_ok-payload.ensures.size ∙ long
