use Rattle.std.proofs.Common.{sym, ◌∙◌}
use Rattle.shared_plain.proofs.TakenCalls.{taken, all_taken}
use Rattle.shared_plain.proofs.plain.Plain.takes.Goals as goal

pub returns-clause-taken : goal.returns-clause-taken
returns-clause-taken c is = taken c.args.self.now.keys c.args.call.now (sym c.is_taken.ensures ∙ is)

pub returns-clause-all : goal.returns-clause-all
returns-clause-all c is = c.is_taken.ensures ∙ all_taken c.args.self.now.keys c.args.call.now is
