use Rattle.sync_model.specs.Note.{SameHome}
use Rattle.go_pool.proofs.Making.{MadeSo}
use Rattle.go_pool.proofs.pool.Pool.new.Given as goal

abbrev pub invariant-loop-number : goal.invariant-loop-number
invariant-loop-number g l = record {
  note : SameHome g.N.Note.at l.initial.note l.note;
  made : MadeSo g.N.Note.at l.initial.note l.fn.callers l.fn.room l.fn.calls l.number l.parts.items l.passes.items;
}
