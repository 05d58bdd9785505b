use Rattle.std.proofs.Common.{◌≡◌, true, sym, subst, ap, ◌∙◌}
use Rattle.script_calls.specs.declared.outcome.Ending.{Ending}
use Rattle.script_calls.specs.declared.outcome.Outcome.{Outcome}
use Rattle.script_calls.specs.Outcome.{shows_to}
use Rattle.workload.specs.declared.limits.TheConstants.{MAX_KEYS}
use Rattle.workload.specs.Plan.{Plan}
use Rattle.workload.specs.Forms.{has_forms}
use Rattle.step_runner.specs.Ends.{variables_behind}
use Rattle.step_runner.specs.Places.{Kept}
use Rattle.step_runner.specs.State.{State, start}
use Rattle.step_runner.specs.Turns.{items_of}
use Rattle.step_runner.specs.Computed.{behind_schedule, whole_run, outcome_of, turns}
use Rattle.step_runner.proofs.RunKeys.{Keys, few_pairs}
use Rattle.step_runner.proofs.run.run.Goals as goal

run_is : (plan : Plan) (first : State) (last : State × Ending) → first ≡ start plan → behind_schedule plan (items_of plan plan.schedule first) ≡ last → last ≡ whole_run plan
run_is plan first last begins is = sym is ∙ ap (λ s. behind_schedule plan (items_of plan plan.schedule s)) begins

computed : (plan : Plan) (first : State) (last : State × Ending) (outcome : Outcome) → first ≡ start plan → behind_schedule plan (items_of plan plan.schedule first) ≡ last → outcome ≡ outcome_of plan last → outcome ≡ turns plan
computed plan first last outcome begins is so = so ∙ ap (outcome_of plan) (run_is plan first last begins is)

pub returns-clause-computed : goal.returns-clause-computed
returns-clause-computed c = computed c.args.workload.now _ _ c.in_ok-outcome.outcome c.in_ok-state.ensures.start c.in_ok-ending.ensures.ending c.in_ok-outcome.ensures

pub returns-clause-variables : goal.returns-clause-variables
returns-clause-variables c =
    c.in_ok-variables.ensures
    ∙ ap (λ objects. variables_behind objects c.in_ok-ending.ending) (c.deref.ensures.value ∙ ap (λ (k : Kept). k.state.objects) c.state.view_is)
    ∙ ap (λ (x : State × Ending). variables_behind x.0.objects x.1) (run_is c.args.workload.now _ (c.take_all.new.state.state, c.in_ok-ending.ending) c.in_ok-state.ensures.start c.in_ok-ending.ensures.ending)

pub returns-clause-outcome : goal.returns-clause-outcome
returns-clause-outcome c =
    let plan = c.args.workload.now in
    (c.each_run_has_one_outcome.ensures.exact plan c.in_ok-outcome.outcome c.in_ok-state.ensures.of.of.valid).0
    (sym (computed plan _ _ c.in_ok-outcome.outcome c.in_ok-state.ensures.start c.in_ok-ending.ensures.ending c.in_ok-outcome.ensures))

pub returns-clause-pairs : goal.returns-clause-pairs
returns-clause-pairs c =
    let plan = c.args.workload.now in
    let keys : Keys = record { begins = c.maps_keep_to_the_keys_of_calls.ensures.begins; goes_on = c.keys_are_kept.ensures } in
    subst (λ (o : Outcome). shows_to MAX_KEYS o ≡ true)
    (sym (computed plan _ _ c.in_ok-outcome.outcome c.in_ok-state.ensures.start c.in_ok-ending.ensures.ending c.in_ok-outcome.ensures))
    (few_pairs keys plan c.in_ok-state.ensures.readable)

pub returns-clause-forms : goal.returns-clause-forms
returns-clause-forms c =
    let plan = c.args.workload.now in
    subst (λ (o : Outcome). has_forms plan o ≡ true)
    (sym (computed plan _ _ c.in_ok-outcome.outcome c.in_ok-state.ensures.start c.in_ok-ending.ensures.ending c.in_ok-outcome.ensures))
    (c.replies_have_their_form.ensures.left plan c.in_ok-state.ensures.of.of.valid)
