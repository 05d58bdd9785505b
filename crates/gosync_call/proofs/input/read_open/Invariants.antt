use Rattle.std.proofs.Common.{◌≡◌, ℕ, List, ◌≤◌, ◌+◌, ◌-◌, IsTrue}
use Rattle.std.specs.Vec.{vec_len}
use Rattle.sync_outside.specs.Bytes.{Gives}
use Rattle.gosync_call.proofs.input.read_open.Given as goal

abbrev pub invariant-loop-chunk : goal.invariant-loop-chunk
invariant-loop-chunk g l = record {
  is_open : IsTrue (g.S.Sources.is_open l.src);
  gives : Gives (g.S.Sources.remaining l.initial.src) (g.S.Sources.remaining l.src) l.bytes.items;
  read_faults : g.S.Sources.read_faults l.initial.src ≤ g.S.Sources.read_faults l.src;
  open_faults : (name : List ℕ) → g.S.Sources.open_faults l.src name ≡ g.S.Sources.open_faults l.initial.src name;
  reads : g.S.Sources.reads l.src ≤ g.S.Sources.reads l.initial.src + vec_len l.bytes;
  within : vec_len l.bytes ≤ l.limit + 1;
}

abbrev pub decreases-loop-chunk : goal.decreases-loop-chunk
decreases-loop-chunk g l = l.limit + 1 - vec_len l.bytes
