use Rattle.std.proofs.Common.{arith}
use Rattle.sync_model.proofs.CallersLemmas.{added, added_others}
use Rattle.sync_model.proofs.callers.Callers.with.Goals as goal

pub returns-clause-added : goal.returns-clause-added
returns-clause-added c = λ below. added c.self.inside.bits c.args.caller below

pub returns-clause-others : goal.returns-clause-others
returns-clause-others c = λ other apart. rw c.self.view_is (added_others c.args.self c.args.caller other (omega (arith, c.if-caller-ge64.false)) apart)
