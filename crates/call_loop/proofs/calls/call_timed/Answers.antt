use Rattle.ruled_object.specs.Passes.{start_of}
use Rattle.call_loop.proofs.calls.call_timed.Goals as goal

pub returns-clause-turns : goal.returns-clause-turns
returns-clause-turns g c = c.turns_needed.ensures.spent (start_of c.args.object.now) c.args.pass.now c.spend.new.pass c.call_within_timed.new.pass (g.N.Note.front c.args.note.now) (g.N.Note.front c.call_within_timed.new.note) c.spend.ensures.pass.1 c.call_within_timed.ensures.turns
