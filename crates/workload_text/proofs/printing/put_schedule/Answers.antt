use Rattle.std.proofs.Common.{rules, take, drop, ap, ◌∙◌}
use Rattle.workload_text.proofs.PrintLemmas.{schedule_more}
use Rattle.workload_text.proofs.printing.put_schedule.Goals as goal

pub loop-rest-preserved : goal.loop-rest-preserved
loop-rest-preserved c =
    let rest = c.loop-rest.rest.now in
    schedule_more c.schedules_go_by_eights.ensures _ _ _ rest c.split_at.result.0.now c.split_at.result.1.now
    (search rules)
    (c.split_at.ensures.front ∙ ap (λ k. take k rest) c.min.ensures)
    (c.split_at.ensures.back ∙ ap (λ k. drop k rest) c.min.ensures)
    c.in_ok-put_turns.ensures
    c.loop-rest.invariant
