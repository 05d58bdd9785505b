use Rattle.std.proofs.Common.{◌≡◌, take}
use Rattle.workload.specs.NumberWords.{number_of}
use Rattle.workload_text.proofs.number.value.Given as goal

abbrev pub invariant-loop-digit : goal.invariant-loop-digit
invariant-loop-digit l = l.value ≡ number_of (take l.digit-index l.word)
