use Rattle.std.proofs.Common.{◌≡◌, ℕ, ◌+◌, ◌<◌, true, List, [], ◌++◌, refl, sym, ap, ◌∙◌, subst}
use Rattle.script_calls.specs.declared.outcome.Outcome.TheVariants as outcomes
use Rattle.starts_core.specs.StartsEdges.{starts_releases, starts_acquires}
use Rattle.starts_core.specs.StartsMachine.{begun, next}
use Rattle.workload.specs.declared.turn.Turn.{Turn}
use Rattle.run_record.specs.declared.entered.ObjectEvent.TheVariants as events
use Rattle.run_record.specs.declared.entered.ObjectReply.TheVariants as answered
use Rattle.run_record.specs.Objects.{first_part, starts_number}
use Rattle.run_record.specs.Record.{journal_of}
use Rattle.step_runner.specs.declared.turns.item.Item.{Item}
use Rattle.step_runner.specs.Outcomes.{rounds}
use Rattle.step_runner.specs.RunItems.{all_made}
use Rattle.step_runner.specs.State.{State, start}
use Rattle.step_runner.specs.Traces.{items_told, trace_of}
use Rattle.step_runner.specs.Turns.{after_items, has_ended}
use Rattle.scheduled_record.specs.RunActs.{acts_of, run_acts, scheduled_record}
use Rattle.scheduled_record.specs.ItemsOf.{HasPool}
use Rattle.scheduled_record.proofs.Journals.{follows_from}
use Rattle.scheduled_record.proofs.RunEnds.{ends_in}
use Rattle.scheduled_record.proofs.StartsEnd.{so_begins, closed_led}
use Rattle.scheduled_record.proofs.StartsRun.{So, run_so}
use Rattle.scheduled_record.proofs.StartsWalk.{AreOwn}
use Rattle.scheduled_record.proofs.laws.the_starts_of_a_scheduled_run_follow_their_machine.Goals as goal

pub returns : goal.returns
returns c plan report valid some done =
    let whole = c.a_trace_tells_what_turns_made.ensures.whole plan in
    let list : List Turn = plan.schedule ++ rounds whole.0 plan.workers in
    let s : State = after_items plan list (start plan) in
    let items : List Item = items_told (trace_of plan) in
    let same : items ≡ all_made plan list (start plan) = ap items_told whole.1 ∙ c.a_trace_tells_what_turns_made.ensures.items plan list in
    let ends = ends_in plan report ((c.each_run_has_one_outcome.ensures.exact plan (outcomes.Done report) valid).1 done) in
    let over : has_ended plan s ≡ true = ap (has_ended plan) (sym whole.2) ∙ ends.over in
    let of = c.validity.ensures.always plan list valid in
    let all = c.the_acts_of_a_run_are_the_workloads.ensures plan valid in
    let parts : (place part : ℕ) → HasPool plan place → part < plan.workers → first_part plan place + part < starts_number plan = λ place part there within. c.parts_have_numbers_of_their_own.ensures.within plan place part there.0 there.1 there.2 within in
    let own : AreOwn = λ worker moment begun call objects. c.items_are_of_their_workers.ensures.own worker moment begun call objects in
    let so : So plan parts some own (acts_of plan items) s =
    subst (λ (l : List Item). So plan parts some own (acts_of plan l) s) (sym same)
    (run_so plan parts some own (λ worker t of_t. c.validity.ensures.goes_on plan worker t of_t) list (start plan) [] (c.validity.ensures.begins plan valid) (so_begins plan parts some own)) in
    let led = closed_led plan parts some own (acts_of plan items) s of so over in
    follows_from events.Starts answered.Starts next starts_releases starts_acquires (λ e r. refl) (λ e r. refl) (begun plan.dormant) (journal_of (scheduled_record plan) (starts_number plan)) led.all
    (c.a_record_has_what_was_made.ensures.deeds plan (run_acts plan (trace_of plan)) (starts_number plan) all ∙ led.are) led.follows
    (c.the_journals_of_a_scheduled_run_keep_the_edge_law.ensures plan (starts_number plan) valid)
