use Rattle.std.proofs.Common.{◌≡◌, ◌≤◌, vec_len, vec_capacity}
use Rattle.ruled_object.proofs.new.parkers.Given as goal

abbrev pub invariant-loop : goal.invariant-loop
invariant-loop l = record {
  made : vec_len l.parkers ≡ l.counter;
  room : l.callers ≤ vec_capacity l.parkers;
}
