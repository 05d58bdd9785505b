use Rattle.std.proofs.Common.{ℕ, List, subst}
use Rattle.workload.specs.Reads.{ReadsIn, IsFaultIn, IsRefusedIn}
use Rattle.gosync_call.proofs.Reading.{read_or_refused, whole_read, whole_refused}
use Rattle.gosync_call.proofs.read.read_workload.Goals as goal

pub returns-in-Ok-parse_in-clause-read : goal.returns-in-Ok-parse_in-clause-read
returns-in-Ok-parse_in-clause-read g c =
    let dialect = c.args.dialect in
    let read = subst (λ (b : List ℕ). ReadsIn dialect b c.in-Ok-parse_in.workload) c.deref.ensures.value c.in-Ok-parse_in.ensures.read in
    whole_read dialect _ c.in-Ok.bytes.items _ c.in-Ok.ensures.bytes read c.is_in_range.ensures

pub returns-in-Err-Refused-clause-read : goal.returns-in-Err-Refused-clause-read
returns-in-Err-Refused-clause-read g c =
    let dialect = c.args.dialect in
    let fault = subst (IsFaultIn dialect c.deref.result.now) c.in-Err-Refused.field-0-is c.in-Err-Refused.ensures.refused in
    let refused = subst (λ (b : List ℕ). IsRefusedIn dialect b c.in-Err-Refused.line c.in-Err-Refused.reason) c.deref.ensures.value fault in
    whole_refused dialect _ c.in-Ok.bytes.items _ _ (read_or_refused dialect c.read_or_refused.ensures c.run_texts_are_read_or_refused.ensures.apart c.race_texts_are_read_or_refused.ensures.apart) c.in-Ok.ensures.bytes refused
