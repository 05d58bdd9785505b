use Rattle.std.proofs.Common.{◌≡◌, subst, sym, refl, true}
use Rattle.sync_model.specs.Log as log
use Rattle.sync_model.specs.Journal.{log_of}
use Rattle.mutex_core.specs.declared.event.MutexEvent.TheVariants.{Unlock}
use Rattle.mutex_core.specs.MutexMachine.{start, next}
use Rattle.mutex_core.specs.HandOff.{HandsOff}
use Rattle.go_locks.proofs.Logs.{log_of-one, after-log}
use Rattle.go_locks.proofs.laws.hand_off.Goals as goal

pub returns : goal.returns
returns c callers earlier later unlock reply follows is below locked starving =
    let follows_log = subst (log.Follows next (start callers)) (log_of-one earlier later unlock Unlock reply is) (c.journal_is_log.ensures (start callers) _ follows).0 in
    let after = after-log next (start callers) earlier in
    subst (λ s. HandsOff s.queue reply (log_of later)) after
    (c.hand_off.ensures callers (log_of earlier) (log_of later) (log.entry unlock.caller Unlock reply) follows_log refl below (subst (λ s. s.locked ≡ true) (sym after) locked) (subst (λ s. s.starving ≡ true) (sym after) starving))
