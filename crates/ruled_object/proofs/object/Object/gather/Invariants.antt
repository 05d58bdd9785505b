use Rattle.std.proofs.Common.{◌≡◌, ℕ, ◌≤◌, [], slice_get}
use Rattle.ruled_object.specs.Gathered.{Gathered, SamePasses, SameTurns}
use Rattle.ruled_object.proofs.object.Object.gather.Given as goal

abbrev pub invariant-loop-pass : goal.invariant-loop-pass
invariant-loop-pass g l = record {
  table : l.all.table_id ≡ l.self.table.shared.table_id;
  empty : l.all.me.1 ≡ [];
  gathered : Gathered l.pass-index l.initial.passes l.all.me.0;
  same : SamePasses l.initial.passes l.passes;
  turns : SameTurns l.initial.passes l.passes;
  rest : (i : ℕ) → l.pass-index ≤ i → slice_get l.passes i ≡ slice_get l.initial.passes i;
}
