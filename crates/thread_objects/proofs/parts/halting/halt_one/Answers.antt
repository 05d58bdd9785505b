use Rattle.thread_objects.proofs.HaltLemmas.{halted_as}
use Rattle.thread_objects.proofs.parts.halting.halt_one.Goals as goal

pub returns-clause-halted : goal.returns-clause-halted
returns-clause-halted g c = λ event reply. let e = c.halt.ensures.entry in halted_as event reply c.args.misuse _ _ c.args.pass.now c.halt.new.pass e.0 e.1.mine e.2 e.3 c.halt.ensures.no_edge c.halt.ensures.later
