use Rattle.std.proofs.Common.{subst, sym, ◌∙◌}
use Rattle.sync_model.specs.Log as log
use Rattle.sync_model.specs.Journal.{log_of}
use Rattle.mutex_core.specs.Edges.{acquires, releases}
use Rattle.mutex_core.specs.MutexMachine.{start, next}
use Rattle.go_locks.proofs.Logs.{took, log_of-two, any_of-log}
use Rattle.go_locks.proofs.laws.mutual_exclusion.Goals as goal

pub returns : goal.returns
returns c callers earlier between later first second follows at_first at_second =
    let a = took (λ event reply. acquires reply) first at_first in
    let b = took (λ event reply. acquires reply) second at_second in
    let follows_log = subst (log.Follows next (start callers)) (log_of-two earlier between later first second a.event b.event a.reply b.reply a.deed b.deed) (c.journal_is_log.ensures (start callers) _ follows).0 in
    sym (any_of-log (λ event reply. releases reply) between)
    ∙ c.mutual_exclusion.ensures.unlocked_between callers (log_of earlier) (log_of between) (log_of later) (log.entry first.caller a.event a.reply) (log.entry second.caller b.event b.reply) follows_log a.passes b.passes
