use Rattle.ruled_object.specs.Growth.{KeepsNote}
use Rattle.go_pool.specs.Pools.{IsPassOf, SamePass}
use Rattle.go_pool.proofs.FirstHalts.{HaltedSo}
use Rattle.go_pool.proofs.pool.Pool.halt.Given as goal

abbrev pub invariant-loop-part : goal.invariant-loop-part
invariant-loop-part g l = record {
  is : IsPassOf l.self l.pass;
  same : SamePass l.fn.pass l.pass;
  keeps : KeepsNote g.N.Note.at g.N.Note.own g.N.Note.front l.fn.note l.note;
  halted : HaltedSo l.self l.misuse (g.N.Note.front l.fn.note) l.part l.fn.pass l.pass (g.N.Note.front l.note);
}
