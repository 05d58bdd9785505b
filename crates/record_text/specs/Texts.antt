-- What the program says of a refusal.
use Rattle.std.specs.Prelude.{ℕ, List, codes}
use Rattle.workload.specs.Reason as workload
use Rattle.record_text.specs.declared.fault.CheckReason.{CheckReason}
use Rattle.record_text.specs.declared.fault.CheckReason.TheVariants.{Workload, BadRecordLine}

abbrev pub reason_text : CheckReason → List ℕ
reason_text (Workload reason) = workload.reason_text reason
reason_text BadRecordLine = codes "bad record line"
