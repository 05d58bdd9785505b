use Rattle.std.proofs.Common.{arith}
use Rattle.sync_model.proofs.SharedCallers.{known_before, bound_is, bound_above}
use Rattle.sync_model.proofs.laws.shared.a_call_lies_behind_what_its_caller_knew.Goals as goal

pub returns-clause-below : goal.returns-clause-below
returns-clause-below c = λ start history calls c d i j known call lawful at_known at_call counted is.
    let below = known_before start history calls lawful c d i j known call at_call counted at_known in let bounded = bound_is known is in omega arith

pub returns-clause-order : goal.returns-clause-order
returns-clause-order c = λ start history calls c d i j known call lawful at_known at_call counted.
    let below = known_before start history calls lawful c d i j known call at_call counted at_known in let above = bound_above known in omega arith

pub returns-clause-forgets_nothing : goal.returns-clause-forgets_nothing
returns-clause-forgets_nothing c = λ start history calls c i j first second lawful. lawful.rises c i j first second
