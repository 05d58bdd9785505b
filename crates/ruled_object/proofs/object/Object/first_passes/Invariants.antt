use Rattle.std.proofs.Common.{◌≡◌, ℕ, ◌≤◌, [], All, Some, length, replicate, slice_get, vec_len, vec_capacity}
use Rattle.ruled_object.specs.Gathered.{Dealing, IsDealt}
use Rattle.ruled_object.specs.Passes.{left_of, turns_of}
use Rattle.ruled_object.specs.Steps.{new_own}
use Rattle.ruled_object.proofs.object.Object.first_passes.Given as goal

abbrev pub invariant-loop-number : goal.invariant-loop-number
invariant-loop-number g l = record {
  table : l.all.table_id ≡ l.self.table.shared.table_id;
  empty : l.all.me.1 ≡ [];
  dealing : Dealing l.number [] (replicate l.callers new_own) l.all.me.0;
  made : vec_len l.passes ≡ l.number;
  count : length l.passes.items ≡ l.number;
  room : l.callers ≤ vec_capacity l.passes;
  turns : All (λ pass. turns_of pass ≡ 0) l.passes.items;
  dealt : (i : ℕ) (pass : _) → slice_get l.passes.items i ≡ Some pass → IsDealt l.self i [] (replicate l.callers new_own) pass × (left_of pass ≡ l.calls);
}
