use Rattle.std.proofs.Common.{map}
use Rattle.std.proofs.lemmas.Result.{err_from_is_err_and}
use Rattle.workload_text.proofs.PlainForms.{plain_fails}
use Rattle.workload_text.proofs.call_reading.read_call_on.Goals as goal

pub returns-in_err-read_operation-in_default : goal.returns-in_err-read_operation-in_default
returns-in_err-read_operation-in_default c =
    let p = err_from_is_err_and c.from_residual.result c.from_residual.ensures.1 in
    let fault = c.in_err-read_operation-in_default in
    rw (p.1, p.2) (plain_fails c.args.draft.now c.args.verb c.args.kind (map (λ w. w.now) c.args.words.now) fault.field-0.0 c.in_default.not-WaitFor c.in_default.not-Go fault.ensures)
