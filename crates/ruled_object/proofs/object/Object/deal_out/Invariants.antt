use Rattle.std.proofs.Common.{◌≡◌, ℕ, ◌<◌, ◌≤◌, [], Some, slice_get}
use Rattle.ruled_object.specs.Gathered.{SamePasses, SameTurns, Dealing, IsDealt}
use Rattle.ruled_object.proofs.object.Object.deal_out.Given as goal

abbrev pub invariant-loop-pass : goal.invariant-loop-pass
invariant-loop-pass g l = record {
  table : l.all.table_id ≡ l.self.table.shared.table_id;
  empty : l.all.me.1 ≡ [];
  dealing : Dealing l.pass-index l.initial.all.me.0.seen l.initial.all.me.0.owns l.all.me.0;
  same : SamePasses l.initial.passes l.passes;
  turns : SameTurns l.initial.passes l.passes;
  dealt : (i : ℕ) (pass : _) → i < l.pass-index → slice_get l.passes i ≡ Some pass → IsDealt l.self i l.initial.all.me.0.seen l.initial.all.me.0.owns pass;
  rest : (i : ℕ) → l.pass-index ≤ i → slice_get l.passes i ≡ slice_get l.initial.passes i;
}
