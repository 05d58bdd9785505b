use Rattle.std.proofs.Common.{arith}
use Rattle.sync_model.proofs.SharedCallers.{own_before, bound_is, bound_above}
use Rattle.sync_model.proofs.laws.shared.a_callers_calls_are_in_order.Goals as goal

pub returns-clause-below : goal.returns-clause-below
returns-clause-below c = λ start history calls c i j first second lawful before at_first at_second is.
    let below = own_before start history calls lawful c i j first second before at_first at_second in let bounded = bound_is first is in omega arith

pub returns-clause-order : goal.returns-clause-order
returns-clause-order c = λ start history calls c i j first second lawful before at_first at_second.
    let below = own_before start history calls lawful c i j first second before at_first at_second in let above = bound_above first in omega arith
