use Rattle.std.proofs.Common.{◌≡◌, false, sym, ap, ◌∙◌}
use Rattle.step_runner.specs.declared.step.Step.TheVariants as steps
use Rattle.step_runner.specs.Noted.{noted}
use Rattle.step_runner.specs.Traces.{all_rounds_traced}
use Rattle.step_runner.specs.Turns.{items_of, round, has_ended}
use Rattle.step_runner.proofs.RunLemmas.{UsesUp, uses_up}
use Rattle.step_runner.proofs.TraceLemmas.{traced_made}
use Rattle.step_runner.proofs.RoundLemmas.{where_going, round_less}
use Rattle.step_runner.proofs.run.take_rounds.Goals as goal

uses : (c : goal.In-Made) → UsesUp c.args.workload.now
uses c =
    let plan = c.args.workload.now in
    uses_up plan (c.events_use_something_up.ensures.still plan) (c.events_use_something_up.ensures.made plan) (c.events_use_something_up.ensures.misused plan)

event : (c : goal.In-Made) → items_of c.args.workload.now (round c.args.workload.now.workers) c.loop-alloc.state.state ≡ (c.take_round.new.state.state, steps.Made)
event c = c.in_ok-take_round.ensures.items ∙ ap (λ step. (c.take_round.new.state.state, step)) c.in-Made.is

pub loop-alloc-smaller : goal.loop-alloc-smaller
loop-alloc-smaller c =
    round_less c.args.workload.now (c.validity.ensures.goes_on c.args.workload.now) (uses c) c.loop-alloc.state.state c.take_round.new.state.state c.loop-alloc.invariant.of.of (event c)

pub loop-alloc-preserved : goal.loop-alloc-preserved
loop-alloc-preserved c =
    let going : has_ended c.args.workload.now c.loop-alloc.state.state ≡ false = cc in
    record {
      of = c.in_ok-take_round.ensures.of;
      rest = sym (where_going c.args.workload.now (c.validity.ensures.goes_on c.args.workload.now) (uses c) c.loop-alloc.state.state (c.take_round.new.state.state, steps.Made) c.loop-alloc.invariant.of.of going (event c)) ∙ c.loop-alloc.invariant.rest;
      told = ap (noted (all_rounds_traced c.args.workload.now c.take_round.new.state.state)) c.in_ok-take_round.ensures.noted
          ∙ traced_made c.args.workload.now (c.validity.ensures.goes_on c.args.workload.now) (uses c) c.loop-alloc.state.state c.take_round.new.state.state c.loop-alloc.trace c.loop-alloc.invariant.of.of going (event c)
          ∙ c.loop-alloc.invariant.told;
    }
