use Rattle.std.proofs.Common.{◌++◌, slice_get, sym, ap, ◌∙◌}
use Rattle.step_runner.specs.Outcomes.{rounds}
use Rattle.step_runner.specs.State.{start}
use Rattle.race_clocks.proofs.Accesses.{access_made}
use Rattle.race_clocks.proofs.laws.races.an_access_is_made_whole.Goals as goal

pub returns : goal.returns
returns c plan number one access at accessed =
    let whole = c.a_trace_tells_what_turns_made.ensures.whole plan in
    access_made plan (plan.schedule ++ rounds whole.0 plan.workers) (start plan) number one access (ap (λ trace. slice_get trace number) (sym whole.1) ∙ at) accessed
