use Rattle.std.proofs.Common.{◌≡◌, ◌+◌}
use Rattle.sync_model.specs.Note.{SameHome}
use Rattle.run_record.specs.Objects.{first_part}
use Rattle.thread_runner.specs.Dealing.{AreMade}
use Rattle.thread_runner.proofs.deal.make_parts.Given as goal

abbrev pub invariant-loop-part : goal.invariant-loop-part
invariant-loop-part g l = record {
  home : SameHome g.N.Note.at l.fn.note l.note;
  own : g.N.Note.own l.note ≡ g.N.Note.own l.fn.note;
  front : g.N.Note.front l.note ≡ g.N.Note.front l.fn.note;
  made : AreMade g.N.Note.at l.fn.crew.home.now l.fn.crew.workers l.fn.workload (first_part l.fn.workload l.fn.place + l._part) l.objects.items l.columns.items;
}
