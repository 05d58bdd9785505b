use Rattle.std.proofs.Common.{◌∷◌}
use Rattle.mutex_core.specs.MutexMachine.{start}
use Rattle.mutex_core.proofs.HandsOver.{hand_off}
use Rattle.mutex_core.proofs.laws.hand_off.Goals as goal

pub returns : goal.returns
returns c callers earlier later unlock follows =
    hand_off callers earlier later unlock (c.logs_go_on.ensures.apart (start callers) earlier (unlock ∷ later) follows).1
