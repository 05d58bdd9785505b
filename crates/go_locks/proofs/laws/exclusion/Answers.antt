use Rattle.std.proofs.Common.{◌≡◌, ◌≤◌, subst, sym, ◌∙◌, ◌&&◌, true, length}
use Rattle.std.specs.Prelude.{not, filter}
use Rattle.sync_model.specs.Log as log
use Rattle.sync_model.specs.Journal.{log_of, state_after}
use Rattle.rw_core.specs.Edges.{is_read, is_acquired, is_released, read_releases}
use Rattle.rw_core.specs.RwMachine.{start, next, is_announced}
use Rattle.go_locks.proofs.Logs.{took, log_of-two, log_of-between, any_of-log, count_of-log, after-log}
use Rattle.go_locks.proofs.laws.exclusion.Goals as goal

pub returns-clause-after_writer : goal.returns-clause-after_writer
returns-clause-after_writer c callers earlier between later first second follows at_first at_second =
    let a = took (λ event reply. not (is_read event) && is_acquired reply) first at_first in
    let b = took (λ event reply. is_acquired reply) second at_second in
    let follows_log = subst (log.Follows next (start callers)) (log_of-two earlier between later first second a.event b.event a.reply b.reply a.deed b.deed) (c.journal_is_log.ensures (start callers) _ follows).0 in
    sym (any_of-log (λ event reply. not (is_read event) && is_released reply) between)
    ∙ c.exclusion.ensures.after_writer callers (log_of earlier) (log_of between) (log_of later) (log.entry first.caller a.event a.reply) (log.entry second.caller b.event b.reply) follows_log a.passes b.passes

pub returns-clause-after_reader : goal.returns-clause-after_reader
returns-clause-after_reader c callers earlier between later first second follows at_first at_second =
    let a = took (λ event reply. is_read event && is_acquired reply) first at_first in
    let b = took (λ event reply. not (is_read event) && is_acquired reply) second at_second in
    let follows_log = subst (log.Follows next (start callers)) (log_of-two earlier between later first second a.event b.event a.reply b.reply a.deed b.deed) (c.journal_is_log.ensures (start callers) _ follows).0 in
    sym (any_of-log (λ event reply. is_read event && is_released reply) between)
    ∙ c.exclusion.ensures.after_reader callers (log_of earlier) (log_of between) (log_of later) (log.entry first.caller a.event a.reply) (log.entry second.caller b.event b.reply) follows_log a.passes b.passes

pub returns-clause-announced : goal.returns-clause-announced
returns-clause-announced c callers earlier between later second follows announced at_second =
    let b = took (λ event reply. is_acquired reply) second at_second in
    let follows_log = subst (log.Follows next (start callers)) (log_of-between earlier between later second b.event b.reply b.deed) (c.journal_is_log.ensures (start callers) _ follows).0 in
    let after = after-log next (start callers) earlier in
    sym (any_of-log (λ event reply. not (is_read event) && is_released reply) between)
    ∙ c.announced_writer.ensures callers (log_of earlier) (log_of between) (log_of later) (log.entry second.caller b.event b.reply) follows_log (subst (λ s. is_announced s.writer ≡ true) (sym after) announced) b.passes

pub returns-clause-beside_readers : goal.returns-clause-beside_readers
returns-clause-beside_readers c callers earlier between later second follows at_second =
    let b = took (λ event reply. not (is_read event) && is_acquired reply) second at_second in
    let follows_log = subst (log.Follows next (start callers)) (log_of-between earlier between later second b.event b.reply b.deed) (c.journal_is_log.ensures (start callers) _ follows).0 in
    let after = after-log next (start callers) earlier in
    let few = c.exclusion.ensures.beside_readers callers (log_of earlier) (log_of between) (log_of later) (log.entry second.caller b.event b.reply) follows_log b.passes in
    subst (λ n. (state_after next (start callers) earlier).readers ≤ n) (count_of-log (λ event reply. is_read event && is_released reply) between) (subst (λ s. s.readers ≤ length (filter read_releases (log_of between))) after few)
