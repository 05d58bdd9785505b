use Rattle.std.proofs.Common.{◌++◌, slice_get, sym, ap, ◌∙◌, arith}
use Rattle.step_runner.specs.Outcomes.{rounds}
use Rattle.race_clocks.proofs.Told.{on_objects}
use Rattle.race_clocks.proofs.telling.turns_call_objects_at_small_places.Goals as goal

pub returns : goal.returns
returns c plan n turn call readable at calls =
    let whole = c.a_trace_tells_what_turns_made.ensures.whole plan in
    let placed = c.a_trace_tells_what_turns_made.ensures.places plan (plan.schedule ++ rounds whole.0 plan.workers) n turn (ap (λ trace. slice_get trace n) (sym whole.1) ∙ at) in
    let within = on_objects plan readable.valid turn.worker turn.call turn.index turn.reply placed call calls in
    let few = c.a_workload_has_few_objects.ensures plan readable in
    omega (arith, within, few)
