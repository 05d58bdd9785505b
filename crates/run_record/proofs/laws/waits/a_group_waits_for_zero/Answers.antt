use Rattle.std.proofs.Common.{pos, ◌∷◌, ◌++◌, refl, ap, ◌∙◌, subst}
use Rattle.sync_model.specs.Journal.{is_such, log_of}
use Rattle.sync_model.specs.Log.{Follows, entry, after}
use Rattle.wait_cores.specs.declared.group.GroupEvent.TheVariants.{Add}
use Rattle.wait_cores.specs.declared.group.GroupReply.TheVariants.{Done, Queued}
use Rattle.wait_cores.specs.GroupLaws.{Log, wait_by, leave_by}
use Rattle.wait_cores.specs.GroupMachine.{GroupState, next}
use Rattle.workload.specs.declared.object.ObjectKind.TheVariants as kinds
use Rattle.run_record.specs.Edges.{frees, takes}
use Rattle.run_record.specs.Record.{object_number}
use Rattle.run_record.specs.WaitGroupKind.{group_start}
use Rattle.run_record.proofs.EdgeLemmas.{of_object}
use Rattle.run_record.proofs.GroupSums.{from_none, same_end}
use Rattle.run_record.proofs.ObjectJournals.{journal_at}
use Rattle.run_record.proofs.laws.waits.a_group_waits_for_zero.Goals as goal

pub returns-clause-zero : goal.returns-clause-zero
returns-clause-zero c plan r place declared object lawful some is =
    let j = journal_at plan r place object (kinds.WaitGroup declared) lawful some is in
    let workers = plan.workers in
    let s : GroupState = group_start workers declared in
    let follows = (c.journal_is_log.ensures s j.0 j.2).0 in (
      log_of j.0,
      (j.0, j.1, refl),
      record {
        at_once = λ earlier later caller parts.
            c.waits_for_zero.ensures.at_once (after next s earlier) caller later (c.logs_go_on.ensures.apart s earlier (wait_by caller Done ∷ later) (subst (λ (l : Log). Follows next s l) parts follows)).1;
        waited = λ earlier between later caller answer made parts.
            let zero = c.waits_for_zero.ensures.queued (after next s earlier) caller between later answer made (c.logs_go_on.ensures.apart s earlier (wait_by caller Queued ∷ (between ++ leave_by caller answer ∷ later)) (subst (λ (l : Log). Follows next s l) parts follows)).1 in
            (zero.done, zero.left, zero.parts, ap (λ (state : GroupState). state.counter) (c.logs_go_on.ensures.after s earlier (wait_by caller Queued ∷ zero.done)) ∙ zero.zero_then);
        sum = λ earlier later has_callers few parts.
            ap (λ (state : GroupState). pos state.counter) (same_end workers declared earlier has_callers few)
            ∙ c.counts_additions.ensures.sum workers (entry 0 (Add (pos declared)) Done ∷ earlier) (from_none workers declared earlier has_callers few (c.logs_go_on.ensures.apart s earlier later (subst (λ (l : Log). Follows next s l) parts follows)).0);
      },
    )

pub returns-clause-returned : goal.returns-clause-returned
returns-clause-returned c plan r place m n below added returned lawful before at_added at_returned is_added is_returned =
    of_object plan r lawful (object_number place) m n added returned before at_added at_returned (ap (is_such frees) is_added) (ap (is_such takes) is_returned)

pub returns-clause-left : goal.returns-clause-left
returns-clause-left c plan r place m n below added leaving lawful before at_added at_leaving is_added is_leaving =
    of_object plan r lawful (object_number place) m n added leaving before at_added at_leaving (ap (is_such frees) is_added) (ap (is_such takes) is_leaving)
