use Rattle.std.proofs.Common.{ℕ, List, subst}
use Rattle.record_text.specs.Refused.{IsCheckFault, IsRecordRefused}
use Rattle.run_check.specs.Completeness.{HasVerdict}
use Rattle.gosync_call.proofs.Judged.{whole_judged, whole_refused}
use Rattle.gosync_call.proofs.judge.verdict_of.Goals as goal

pub returns-in-Ok-check-clause-judged : goal.returns-in-Ok-check-clause-judged
returns-in-Ok-check-clause-judged g c =
    whole_judged _ c.in-Ok.bytes.items _ c.in-Ok.ensures.bytes (subst (λ (b : List ℕ). HasVerdict b c.in-Ok-check.verdict) c.deref.ensures.value c.in-Ok-check.ensures.comes)

pub returns-in-Err-Refused-clause-judged : goal.returns-in-Err-Refused-clause-judged
returns-in-Err-Refused-clause-judged g c =
    let fault = subst (IsCheckFault c.deref.result.now) c.in-Err-Refused.field-0-is c.in-Err-Refused.ensures.comes in
    let refused = subst (λ (b : List ℕ). IsRecordRefused b c.in-Err-Refused.line c.in-Err-Refused.reason) c.deref.ensures.value fault in
    whole_refused _ c.in-Ok.bytes.items _ _ c.a_text_is_refused_once.ensures.apart c.in-Ok.ensures.bytes refused
