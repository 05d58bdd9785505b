use Rattle.std.proofs.Common.{◌≡◌, true, List, [], sym, ap, ◌∙◌, subst}
use Rattle.std.specs.List.{list_all}
use Rattle.step_runner.specs.declared.trace.TraceItem.{TraceItem}
use Rattle.step_runner.specs.Traces.{trace_of}
use Rattle.scheduled_record.specs.Ledgers.{AreRight}
use Rattle.scheduled_record.specs.ToldItems.{told_turns, told_run, lines_told, is_in_64_bits, have_64_bit_fronts}
use Rattle.scheduled_record.proofs.Adding.{right_before, run_right}
use Rattle.scheduled_record.proofs.items.items_of_run.Goals as goal

pub returns : goal.returns
returns c =
    let plan = c.args.workload.now in
    let trace : c.as_slice.result.now ≡ trace_of plan = c.as_slice.ensures ∙ c.requires in
    let right : AreRight plan (told_run plan c.as_slice.result.now) =
    subst (λ (t : List TraceItem). AreRight plan (told_run plan t)) (sym trace) (run_right plan (trace_of plan) (c.the_calls_of_a_scheduled_run_are_a_legal_history.ensures.answered plan c.workers-workers.ensures.valid)) in
    let turns = told_turns plan c.as_slice.result.now in
    let kept = c.in_ok-close.ensures.kept turns (c.in_ok-add_turns.ensures.kept [] c.in_ok-ledger.ensures.kept (right_before plan turns _ right)) right in
    let items = kept.lines ∙ ap (λ (t : List TraceItem). lines_told plan (told_run plan t)) trace in
    let of = c.in_ok-close.ensures.stays (c.in_ok-add_turns.ensures.stays c.in_ok-ledger.ensures.of) in
    record {
      items = items;
      numbers = record {
        lines = ap (list_all is_in_64_bits) (sym items) ∙ of.numbers;
        fronts = subst (λ (t : List TraceItem). have_64_bit_fronts plan (told_run plan t) ≡ true) trace kept.fronts;
      };
    }
