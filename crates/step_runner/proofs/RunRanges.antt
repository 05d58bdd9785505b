-- The atomics of a run stay in their types' ranges.
use Rattle.std.proofs.Common.{ℕ, List}
use Rattle.script_calls.specs.declared.call.Call.{Call}
use Rattle.workload.specs.declared.object.ObjectKind.{ObjectKind}
use Rattle.workload.specs.declared.turn.Turn.{Turn}
use Rattle.workload.specs.Plan.{Plan}
use Rattle.workload.specs.Keys.{keys_in}
use Rattle.step_runner.specs.declared.turns.answer.Answer.{Answer}
use Rattle.step_runner.specs.declared.turns.answer.Answer.TheVariants as answers
use Rattle.step_runner.specs.declared.turns.object_state.ObjectState.{ObjectState}
use Rattle.step_runner.specs.AtomicRange.{IsInRange}
use Rattle.step_runner.specs.Objects.{new_object, EachAt}
use Rattle.step_runner.specs.StandsWithin.{IsReadyWithin}
use Rattle.step_runner.specs.TurnWithin.{turn_within}
use Rattle.workload.specs.Puts.{puts_at}
use Rattle.step_runner.specs.State.{State, start, IsStateOf}
use Rattle.step_runner.specs.Turns.{begun_by, turn_of, after_items}
use Rattle.step_runner.proofs.StartLemmas.{each_start}
use Rattle.step_runner.proofs.TurnLemmas.{Takes, takes_by, turn_cases}
use Rattle.step_runner.proofs.RunLemmas.{GoesOn, moment_valid, Kept, items_keep}

-- what the law of turns says
pub record Ranges : Type 0 where
  pub begins : (workers room : ℕ) (keys : List (List ℕ)) (kind : ObjectKind) → IsInRange (new_object workers room keys kind)
  pub goes_on : (workers worker moment begun : ℕ) (call : Call) (objects : List ObjectState) → IsReadyWithin workers worker call objects → EachAt (λ place. IsInRange) objects
      → EachAt (λ place. IsInRange) (turn_within call worker moment begun objects).0.0

abbrev AllInRange : List ObjectState → Type 0
AllInRange objects = EachAt (λ place. IsInRange) objects

takes_stays : Ranges → (plan : Plan) (worker : ℕ) (s : State) (call : Call) (objects : List ObjectState) (waits : ℕ) (answer : Answer) → IsStateOf plan s → AllInRange s.objects → Takes plan worker s call objects waits answer → AllInRange objects
takes_stays ranges plan worker s call objects waits answer of are takes =
    takes_by (λ x. AllInRange x.0.0) plan worker s call objects waits answer of takes (λ r. ranges.goes_on plan.workers worker s.moment (begun_by worker s) call s.objects r are)

turn_stays : Ranges → (plan : Plan) (worker : ℕ) (s : State) → IsStateOf plan s → AllInRange s.objects → AllInRange (turn_of plan worker s).0.objects
turn_stays ranges plan worker s of are = turn_cases (λ step. AllInRange step.0.objects) plan worker s of (record {
  ended = λ is. are;
  still = λ call objects waits takes. takes_stays ranges plan worker s call objects waits answers.Still of are takes;
  unfinished = λ call objects waits takes. takes_stays ranges plan worker s call objects waits answers.Unfinished of are takes;
  completed = λ call objects waits reply takes is. takes_stays ranges plan worker s call objects waits (answers.Completed reply) of are takes;
  closed = λ call objects waits reply takes is. takes_stays ranges plan worker s call objects waits (answers.Completed reply) of are takes;
  misused = λ call objects waits misuse takes. takes_stays ranges plan worker s call objects waits (answers.Misused misuse) of are takes;
})

-- a state of the plan in which the atomics are in range
record InRange (plan : Plan) (s : State) : Type 0 where
  of : IsStateOf plan s
  are : AllInRange s.objects

ranges_kept : Ranges → (plan : Plan) → GoesOn plan → Kept plan (InRange plan)
ranges_kept ranges plan goes_on = record {
  turn = λ worker s h. record { of = goes_on worker s h.of; are = turn_stays ranges plan worker s h.of h.are };
  moment = λ moment s h. record { of = moment_valid plan moment s h.of; are = h.are };
}

pub in_range : Ranges → (plan : Plan) → GoesOn plan → IsStateOf plan (start plan) → (list : List Turn) → AllInRange (after_items plan list (start plan)).objects
in_range ranges plan goes_on of list =
    (items_keep plan (InRange plan) (ranges_kept ranges plan goes_on) list (start plan)
    (record { of = of; are = each_start (λ place. IsInRange) plan (λ place kind. ranges.begins plan.workers (puts_at place plan.scripts) (keys_in plan.scripts) kind) })).are
