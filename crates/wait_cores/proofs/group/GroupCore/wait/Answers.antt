use Rattle.std.proofs.Common.{sym, rules}
use Rattle.wait_cores.proofs.GroupLemmas.{some_after_waiting}
use Rattle.wait_cores.proofs.group.GroupCore.wait.Goals as goal

pub invariant_of-self : goal.invariant_of-self
invariant_of-self c = sym (some_after_waiting c.self.inside.places.items c.args.caller (search rules))
