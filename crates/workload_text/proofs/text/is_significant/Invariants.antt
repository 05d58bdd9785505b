use Rattle.std.proofs.Common.{◌≡◌, drop}
use Rattle.workload.specs.Lines.{is_significant, words_of}
use Rattle.workload_text.proofs.text.is_significant.Given as goal

abbrev pub invariant-loop-byte : goal.invariant-loop-byte
invariant-loop-byte l = is_significant (words_of (drop l.byte-index l.line)) ≡ is_significant (words_of l.line)
