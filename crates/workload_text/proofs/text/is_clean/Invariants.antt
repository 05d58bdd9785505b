use Rattle.std.proofs.Common.{◌≡◌, ◌&&◌, drop}
use Rattle.workload.specs.Lines.{is_clean}
use Rattle.workload_text.proofs.text.is_clean.Given as goal

abbrev pub invariant-loop-byte : goal.invariant-loop-byte
invariant-loop-byte l = (l.clean && is_clean (drop l.byte-index l.line)) ≡ is_clean l.line
