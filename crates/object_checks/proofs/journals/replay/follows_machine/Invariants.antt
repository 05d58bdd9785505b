use Rattle.object_checks.proofs.Replays.{LeadsTo}
use Rattle.object_checks.proofs.journals.replay.follows_machine.Given as goal

abbrev pub invariant-loop-row : goal.invariant-loop-row
invariant-loop-row g l = LeadsTo g.K.JournalKind.event g.K.JournalKind.reply g.K.Machine.next l.fn.start l.journal l.row-index l.state l.halted
