-- A turn at a group of flights spells its stage.
use Rattle.std.proofs.Common.{◌≡◌, ℕ, ◌<◌, true, List, [], ◌∷◌, ◌++◌, map, Option, Some, None, refl, sym, ap, subst}
use Rattle.std.specs.Prelude.{ℤ, Ok}
use Rattle.std.specs.Int.{w64, int_wrapping_add}
use Rattle.sync_model.specs.declared.answer.Answer.TheVariants.{Done}
use Rattle.sync_types.specs.SequentialAtomic.{atomic_reply}
use Rattle.sync_types.specs.declared.atomic_object.AtomicCall.TheVariants.{Add}
use Rattle.sync_types.specs.declared.atomic_object.Number.TheVariants.{Int64}
use Rattle.script_calls.specs.declared.call.Operation.TheVariants as operations
use Rattle.script_calls.specs.declared.call.Reply.{Reply}
use Rattle.script_calls.specs.declared.call.Reply.TheVariants as replies
use Rattle.flight_core.specs.FlightMachine as flight
use Rattle.flight_core.specs.FlightStages.{flight_event, flight_meaning}
use Rattle.flight_core.specs.FlightStanding as standing
use Rattle.flight_core.specs.declared.calls.FlightOutcome.{FlightOutcome}
use Rattle.flight_core.specs.declared.calls.FlightOutcome.TheVariants as outcome
use Rattle.flight_core.specs.declared.calls.FlightStage.{FlightStage}
use Rattle.flight_core.specs.declared.calls.FlightStage.TheVariants as stage
use Rattle.flight_core.specs.declared.calls.FlightStand.{FlightStand}
use Rattle.flight_core.specs.declared.calls.FlightStand.TheVariants as stand
use Rattle.flight_core.specs.declared.event.FlightReply.{FlightReply}
use Rattle.flight_core.specs.declared.event.FlightReply.TheVariants as reply
use Rattle.protocols.specs.Spelling.{CallAnswer}
use Rattle.protocols.specs.declared.step.Step.TheVariants.{Finished, Waits}
use Rattle.run_record.specs.AtomicKind.{adds}
use Rattle.run_record.specs.FlightKind.{flight_part}
use Rattle.run_record.specs.Objects.{atomic_number}
use Rattle.run_record.specs.Parts.{Part}
use Rattle.run_record.specs.Record.{object_number}
use Rattle.run_record.specs.declared.entered.ObjectEvent.TheVariants as events
use Rattle.run_record.specs.declared.entered.ObjectReply.TheVariants as answered
use Rattle.run_record.specs.declared.made.Made.{Made}
use Rattle.workload.specs.Plan.{Plan}
use Rattle.step_runner.specs.declared.turns.item.Deed.TheVariants as deeds
use Rattle.step_runner.specs.declared.turns.item.Item.{Item}
use Rattle.step_runner.specs.Due.{flight_due, flown}
use Rattle.step_runner.specs.Items.{landed_items, stage_items}
use Rattle.step_runner.specs.Left.{flight_left}
use Rattle.step_runner.specs.MachinesStand.{FlightStands}
use Rattle.step_runner.specs.Recorded.{recorded, made_shared, shared_calls}
use Rattle.step_runner.specs.Stages.{make, answer_by}
use Rattle.step_runner.specs.Tells.{Tells}
use Rattle.step_runner.proofs.FlightTurns.{comes_to, behind_due, Each, flight_by}
use Rattle.step_runner.proofs.KindTurns.{Behind}
use Rattle.step_runner.proofs.PlacedSpelled.{places}
use Rattle.step_runner.proofs.Spelled.{event_made, says}

-- the group at this place adds this amount to the atomic at another place, which holds this number
module _ (law : FlightStands) (plan : Plan) (place other worker moment before key : ℕ) (delta held : ℤ) (f : flight.FlightState) (below : worker < flight.callers_of f) where
  abbrev sum : ℤ
  sum = int_wrapping_add w64 held delta

  abbrev left : FlightStand → Part (Reply ℕ)
  left at = flight_left (flight_part (object_number place)) (adds (atomic_number plan.objects other) delta) key at

  abbrev made_of : FlightStage → FlightReply → Made
  made_of due r = event_made events.Flight answered.Flight flight_event flight_meaning (object_number place) worker (flight_event due moment) r

  said : (due : FlightStage) (r : FlightReply) (o : FlightOutcome) → flight_meaning due r ≡ Finished o → flight_part (object_number place) due (made_of due r ∷ []) (Done (Ok o))
  said due r o is = says events.Flight answered.Flight flight_event flight_meaning (object_number place) worker due moment r (Finished o) is

  -- what the function does, in a record
  abbrev function_made : List Made
  function_made = map (made_shared plan) (shared_calls plan before other (operations.Atomic (Add (Int64 delta))) (replies.Atomic (atomic_reply (Add (Int64 delta)) (Int64 held))))

  -- the item of the stage that is due, if one is
  abbrev items_of : Option FlightStage → FlightReply → List Item
  items_of None r = []
  items_of (Some due) r = record { object = place; caller = worker; deed = deeds.Entered (events.Flight (flight_event due moment)) (answered.Flight r) } ∷ []

  abbrev FlightTells : Option FlightStage → flight.FlightState × FlightReply → Type 0
  FlightTells due n =
      let made = comes_to due n in
      Tells plan (left (standing.stands_at f worker)) (left (standing.stands_at made.0 worker)) (recorded plan before (landed_items worker other delta (Int64 held) made.1 ++ items_of due n.1)) (answer_by (flown sum) made.1)
      × Behind (Unit {0}) (standing.stands_at made.0 worker ≡ stand.Out) (answer_by (flown sum) made.1)

  -- from where the worker stands then
  from_new : (n : flight.FlightState) (at : FlightStand) → standing.stands_at n worker ≡ at → (rest : List Made) (given : CallAnswer (Reply ℕ)) → left (standing.stands_at n worker) rest given → left at rest given
  from_new n at is rest given l = subst (λ (s : FlightStand). left s rest given) is l

  to_old : (at : FlightStand) → standing.stands_at f worker ≡ at → (items : List Made) (given : CallAnswer (Reply ℕ)) → left at items given → left (standing.stands_at f worker) items given
  to_old at is items given l = subst (λ (s : FlightStand). left s items given) (sym is) l

  each : Each law worker moment key sum f below FlightTells
  each = record {
    waiting = λ at. (refl, tt);
    leading = λ n at behind less. (
      λ rest given l. to_old stand.Out at (made_of (stage.Join key) reply.Lead ∷ rest) given
          (made_of (stage.Join key) reply.Lead ∷ [], rest, Done (Ok outcome.Lead), refl, said (stage.Join key) reply.Lead outcome.Lead refl, from_new n stand.Leads behind rest given l),
      tt,
    );
    joining = λ n at behind less. (
      λ rest given l.
          let y = from_new n stand.Waits behind rest given l in
          to_old stand.Out at (made_of (stage.Join key) reply.Queued ∷ rest) given (
            made_of (stage.Join key) reply.Queued ∷ y.0,
            y.1,
            y.2,
            ap (λ (l : List Made). made_of (stage.Join key) reply.Queued ∷ l) y.3,
            says events.Flight answered.Flight flight_event flight_meaning (object_number place) worker (stage.Join key) moment reply.Queued (Waits stage.Leave) refl y.0 y.2 y.4,
            y.5,
          ),
      tt,
    );
    landing = λ n shared at behind more. (
      to_old stand.Leads at (function_made ++ made_of (stage.Land sum) (reply.Landed shared) ∷ []) (Done (Ok (replies.Flown sum shared))) (
        function_made,
        made_of (stage.Land sum) (reply.Landed shared) ∷ [],
        Done (Ok sum),
        refl,
        (sum, places plan (shared_calls plan before other (operations.Atomic (Add (Int64 delta))) (replies.Atomic (atomic_reply (Add (Int64 delta)) (Int64 held)))), refl),
        (Done (Ok (outcome.Landed shared)), said (stage.Land sum) (reply.Landed shared) (outcome.Landed shared) refl, refl),
      ),
      behind,
    );
    leaving = λ n got at behind more. (
      to_old stand.Waits at (made_of stage.Leave (reply.Left got) ∷ []) (Done (Ok (replies.Flown got true)))
          (made_of stage.Leave (reply.Left got) ∷ [], [], Done (Ok (outcome.Got got)), refl, said stage.Leave (reply.Left got) (outcome.Got got) refl, (refl, refl)),
      behind,
    );
  }

  abbrev FlightTurn : Option FlightStage → Type 0
  FlightTurn due =
      let made = make flight.next flight_event flight_meaning worker moment due f in
      Tells plan (left (standing.stands_at f worker)) (left (standing.stands_at made.0 worker))
      (recorded plan before (landed_items worker other delta (Int64 held) made.1 ++ stage_items events.Flight answered.Flight flight.next flight_event worker moment place due f)) (answer_by (flown sum) made.1)
      × Behind (Unit {0}) (standing.stands_at made.0 worker ≡ stand.Out) (answer_by (flown sum) made.1)

  by_due : (due : Option FlightStage) → FlightTells due (behind_due law worker moment key sum f below due) → FlightTurn due
  by_due None is = is
  by_due (Some due) is = is

  pub flight_tells : FlightTurn (flight_due key sum (flight.place_of f worker))
  flight_tells = by_due (flight_due key sum (flight.place_of f worker)) (flight_by law worker moment key sum f below FlightTells each)
