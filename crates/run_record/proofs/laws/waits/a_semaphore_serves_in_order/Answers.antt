use Rattle.std.proofs.Common.{◌++◌, refl, sym, ap, ◌∙◌, subst}
use Rattle.sync_model.specs.Journal.{is_such, log_of}
use Rattle.sync_model.specs.Log.{Follows, after}
use Rattle.sema_core.specs.SemaLaws.{Log, arrived, ServesInOrder}
use Rattle.sema_core.specs.SemaMachine.{SemaState, next, start}
use Rattle.workload.specs.declared.object.ObjectKind.TheVariants as kinds
use Rattle.run_record.specs.Edges.{frees, takes}
use Rattle.run_record.specs.Record.{object_number}
use Rattle.run_record.proofs.EdgeLemmas.{of_object}
use Rattle.run_record.proofs.ObjectJournals.{journal_at}
use Rattle.run_record.proofs.laws.waits.a_semaphore_serves_in_order.Goals as goal

pub returns-clause-serves : goal.returns-clause-serves
returns-clause-serves c plan r place size object lawful some is =
    let j = journal_at plan r place object (kinds.Sema size) lawful some is in
    let workers = plan.workers in
    let s : SemaState = start workers size in
    let follows = (c.journal_is_log.ensures s j.0 j.2).0 in (
      log_of j.0,
      (j.0, j.1, refl),
      record {
        held = λ earlier later parts. c.holds_no_more_than_its_size.ensures.held workers size earlier;
        counted = λ earlier later parts. c.counts_weights.ensures workers size earlier (c.logs_go_on.ensures.apart s earlier later (subst (λ (l : Log). Follows next s l) parts follows)).0;
        in_order = λ earlier between later parts.
            let behind = (c.logs_go_on.ensures.apart s earlier (between ++ later) (subst (λ (l : Log). Follows next s l) parts follows)).1 in
            let served = c.serves_in_order.ensures (after next s earlier) between (c.logs_go_on.ensures.apart (after next s earlier) between later behind).0 in
            subst (λ (state : SemaState). ServesInOrder (after next s earlier) (arrived between) state) (sym (c.logs_go_on.ensures.after s earlier between)) served;
        none_idle = λ earlier later parts. c.leaves_no_weight_idle.ensures workers size earlier;
      },
    )

pub returns-clause-knows : goal.returns-clause-knows
returns-clause-knows c plan r place m n weight event released had lawful before at_released at_had is_released is_had acquires =
    of_object plan r lawful (object_number place) m n released had before at_released at_had (ap (is_such frees) is_released) (ap (is_such takes) is_had ∙ acquires)
