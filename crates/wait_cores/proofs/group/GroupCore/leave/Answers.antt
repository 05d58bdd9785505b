use Rattle.std.proofs.Common.{sym, ◌∙◌, rules}
use Rattle.wait_cores.proofs.GroupLemmas.{same_after_leaving, left_to}
use Rattle.wait_cores.proofs.group.GroupCore.leave.Goals as goal
use Rattle.wait_cores.proofs.group.GroupCore.leave.Goals.{then-reused, else-reused}

pub invariant_of-self : goal.invariant_of-self
invariant_of-self c = c.self.invariant ∙ sym (same_after_leaving c.self.inside.places.items c.args.caller (search rules))

pub returns-clause-step : goal.returns-clause-step
returns-clause-step c = left_to c.args.self.now c.args.caller c.requires ∙ elim c.if-reused.branch [ then-reused w ↦ search rules | else-reused w ↦ search rules ]
