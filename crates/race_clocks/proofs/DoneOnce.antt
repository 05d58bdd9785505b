-- What a turn made that completed a `do` of a once: the end of its function, or a return.
use Rattle.std.proofs.Common.{◌≡◌, ℕ, ℤ, ◌<◌, Bool, true, false, List, [], ◌∷◌, ◌++◌, Option, Some, None, slice_get, refl, ap, ◌∙◌, subst}
use Rattle.std.specs.Option.{option_map_or}
use Rattle.std.proofs.lemmas.Bool.{false≢true}
use Rattle.script_calls.specs.declared.call.Operation.TheVariants as operations
use Rattle.script_calls.specs.declared.call.Reply.{Reply}
use Rattle.script_calls.specs.declared.call.Reply.TheVariants as replies
use Rattle.sync_types.specs.SequentialAtomic.{atomic_after}
use Rattle.sync_types.specs.declared.atomic_object.AtomicCall.TheVariants.{Add}
use Rattle.sync_types.specs.declared.atomic_object.Number.{Number}
use Rattle.sync_types.specs.declared.atomic_object.Number.TheVariants.{Int64}
use Rattle.sync_types.specs.declared.once_call.DoReply.TheVariants as do_replies
use Rattle.wait_cores.specs.OnceMachine as once
use Rattle.wait_cores.specs.OnceStanding.{runs_at}
use Rattle.wait_cores.specs.declared.once.OnceEvent.TheVariants as once_events
use Rattle.wait_cores.specs.declared.once.OncePlace.{OncePlace}
use Rattle.wait_cores.specs.declared.once.OncePlace.TheVariants as once_places
use Rattle.wait_cores.specs.declared.once.OnceReply.{OnceReply}
use Rattle.wait_cores.specs.declared.once.OnceReply.TheVariants as once_replies
use Rattle.flight_core.specs.FlightMachine as flight
use Rattle.wait_cores.specs.NotifyMachine as notify
use Rattle.protocols.specs.OnceStages.{once_event, once_meaning}
use Rattle.protocols.specs.declared.once.OnceStage.{OnceStage}
use Rattle.protocols.specs.declared.once.OnceStage.TheVariants as once_stages
use Rattle.workload.specs.Plan.{Plan}
use Rattle.run_record.specs.declared.entered.ObjectEvent.TheVariants as events
use Rattle.run_record.specs.declared.entered.ObjectReply.TheVariants as answered
use Rattle.step_runner.specs.declared.trace.TraceItem.{TraceItem}
use Rattle.step_runner.specs.declared.turns.answer.Answer.{Answer}
use Rattle.step_runner.specs.declared.turns.answer.Answer.TheVariants as answers
use Rattle.step_runner.specs.declared.turns.item.Deed.{Deed}
use Rattle.step_runner.specs.declared.turns.item.Deed.TheVariants as deeds
use Rattle.step_runner.specs.declared.turns.item.Item.{Item}
use Rattle.step_runner.specs.declared.turns.object_state.ObjectState.{ObjectState}
use Rattle.step_runner.specs.declared.turns.object_state.ObjectState.TheVariants as states
use Rattle.step_runner.specs.Due.{once_due, ran_or}
use Rattle.step_runner.specs.Items.{stage_items, add_items, sum_items, items_on_both}
use Rattle.step_runner.specs.Stages.{make, outcome_of, answer_by}
use Rattle.step_runner.specs.TurnAtObjects.{sum_turn, turn_on_both, with_both}
use Rattle.race_clocks.specs.HappensBefore.{Before}
use Rattle.race_clocks.specs.Rows.{item, Completes, IsOnceEnd, once, IsOnceReturn, once_left}
use Rattle.race_clocks.proofs.Accesses.{IsToldOf}
use Rattle.race_clocks.proofs.CompletedCalls.{never, later, made_by, step_by, at_found, whole}
use Rattle.race_clocks.proofs.Ordered.{once_row}

module _ (place worker : ℕ) where
  -- the function ended, behind its `add`; or the call returned
  record Ends (made : List Item) : Type 0 where
    pub front : List Item
    pub deed : Deed
    pub is : made ≡ front ++ item place worker deed ∷ []
    pub ends : IsOnceEnd deed

  record Returns (made : List Item) : Type 0 where
    pub deed : Deed
    pub is : made ≡ item place worker deed ∷ []
    pub returns : IsOnceReturn deed

-- the reply tells which
has_ran : Answer → Bool
has_ran (answers.Completed (replies.Once (do_replies.Ran sum))) = true
has_ran a = false

has_done : Answer → Bool
has_done (answers.Completed (replies.Once do_replies.Done)) = true
has_done a = false

module _ (place other worker moment : ℕ) (delta sum : ℤ) (number : Number) (reply : Reply (List ℕ)) where
  -- by what the turn answers: the end where it ran the function, and a return where another one did
  record Did (made : List Item) : Type 0 where
    pub ran : has_ran (answers.Completed reply) ≡ true → Ends place worker made
    pub done : has_done (answers.Completed reply) ≡ true → Returns place worker made

  -- what a stage comes to, as the turn's answer, and what it made
  abbrev answer_of : OnceStage ℤ → OnceReply ℤ → Answer
  answer_of stage q = answer_by (ran_or (replies.Once (do_replies.Ran sum)) (λ kept. replies.Once do_replies.Done)) (outcome_of (once_meaning stage q))

  abbrev made_of : OnceStage ℤ → OnceReply ℤ → List Item
  made_of stage q = add_items worker other delta number (outcome_of (once_meaning stage q)) ++ item place worker (deeds.Entered (events.Once (once_event stage moment)) (answered.Once q)) ∷ []

  returned : (made : List Item) → Returns place worker made → answers.Completed (replies.Once do_replies.Done) ≡ answers.Completed reply → Did made
  unfolding has_ran has_done
  returned made r is = record { ran = λ ran. absurd (false≢true (ap has_ran is ∙ ran)); done = λ done. r }

  ended : (made : List Item) → Ends place worker made → answers.Completed (replies.Once (do_replies.Ran sum)) ≡ answers.Completed reply → Did made
  unfolding has_ran has_done
  ended made e is = record { ran = λ ran. e; done = λ done. absurd (false≢true (ap has_done is ∙ done)) }

  begun : (q : OnceReply ℤ) → answer_of once_stages.Begin q ≡ answers.Completed reply → Did (made_of once_stages.Begin q)
  begun once_replies.Run is = later reply is
  begun once_replies.Queued is = later reply is
  begun (once_replies.Done kept) is = returned (made_of once_stages.Begin (once_replies.Done kept)) (record { deed = deeds.Entered (events.Once once_events.Begin) (answered.Once (once_replies.Done kept)); is = refl; returns = once kept }) is
  begun once_replies.Ended is = never reply is
  begun (once_replies.Left kept) is = never reply is
  begun once_replies.Still is = never reply is

  ending : (q : OnceReply ℤ) → answer_of (once_stages.End sum) q ≡ answers.Completed reply → Did (made_of (once_stages.End sum) q)
  ending once_replies.Ended is = ended (made_of (once_stages.End sum) once_replies.Ended) (record { front = add_items worker other delta number (outcome_of (once_meaning (once_stages.End sum) once_replies.Ended)); deed = deeds.Entered (events.Once (once_events.End sum)) (answered.Once once_replies.Ended); is = refl; ends = once sum }) is
  ending once_replies.Run is = never reply is
  ending once_replies.Queued is = never reply is
  ending (once_replies.Done kept) is = never reply is
  ending (once_replies.Left kept) is = never reply is
  ending once_replies.Still is = never reply is

  leaving : (q : OnceReply ℤ) → answer_of once_stages.Leave q ≡ answers.Completed reply → Did (made_of once_stages.Leave q)
  leaving (once_replies.Left kept) is = returned (made_of once_stages.Leave (once_replies.Left kept)) (record { deed = deeds.Entered (events.Once once_events.Leave) (answered.Once (once_replies.Left kept)); is = refl; returns = once_left kept }) is
  leaving once_replies.Still is = later reply is
  leaving once_replies.Run is = never reply is
  leaving once_replies.Queued is = never reply is
  leaving (once_replies.Done kept) is = never reply is
  leaving once_replies.Ended is = never reply is

  at_place : (o : once.OnceState ℤ) (runs : Bool) (at : OncePlace) → answer_by (ran_or (replies.Once (do_replies.Ran sum)) (λ kept. replies.Once do_replies.Done)) (make once.next once_event once_meaning worker moment (once_due sum runs at) o).1 ≡ answers.Completed reply
      → Did (add_items worker other delta number (make once.next once_event once_meaning worker moment (once_due sum runs at) o).1 ++ stage_items events.Once answered.Once once.next once_event worker moment place (once_due sum runs at) o)
  at_place o true once_places.Out is = ending (once.next o worker (once_events.End sum)).1 is
  at_place o false once_places.Out is = begun (once.next o worker once_events.Begin).1 is
  at_place o runs once_places.Waiting is = never reply is
  at_place o runs once_places.Released is = leaving (once.next o worker once_events.Leave).1 is

module _ (place worker moment : ℕ) (objects : List ObjectState) (reply : Reply (List ℕ)) where
  abbrev DidSo : List Item → Type 0
  DidSo made = (has_ran (answers.Completed reply) ≡ true → Ends place worker made) × (has_done (answers.Completed reply) ≡ true → Returns place worker made)

  by_sum : (other : ℕ) (o : once.OnceState ℤ) (delta : ℤ) (number new : Number) → (sum_turn worker moment o other delta number new).1 ≡ answers.Completed reply → DidSo (sum_items worker moment place other o delta number new)
  by_sum other o delta number (Int64 sum) is = let did = at_place place other worker moment delta sum number reply o (runs_at o worker) (once.place_of o worker) is in (did.ran, did.done)
  by_sum other o delta number new is = never reply is

  by_target : (other : ℕ) (o : once.OnceState ℤ) (delta : ℤ) (target : Option ObjectState) → (option_map_or (λ t. with_both place other objects (turn_on_both operations.Once worker moment (states.Once o other delta) t)) target (objects, answers.Still)).1 ≡ answers.Completed reply
      → DidSo (option_map_or (λ t. items_on_both operations.Once worker moment place other (states.Once o other delta) t) target [])
  by_target other o delta None is = never reply is
  by_target other o delta (Some (states.Atomic number)) is = by_sum other o delta number (atomic_after (Add (Int64 delta)) number) is
  by_target other o delta (Some target) is = never reply is

  by_cond : (c : notify.NotifyState) (other : ℕ) (target : Option ObjectState) → (option_map_or (λ t. with_both place other objects (turn_on_both operations.Once worker moment (states.Cond c other) t)) target (objects, answers.Still)).1 ≡ answers.Completed reply → ⊥
  by_cond c other None is = never reply is
  by_cond c other (Some target) is = never reply is

  by_flight : (f : flight.FlightState) (keys : List (List ℕ)) (other : ℕ) (delta : ℤ) (target : Option ObjectState) → (option_map_or (λ t. with_both place other objects (turn_on_both operations.Once worker moment (states.Flight f keys other delta) t)) target (objects, answers.Still)).1 ≡ answers.Completed reply → ⊥
  by_flight f keys other delta None is = never reply is
  by_flight f keys other delta (Some target) is = never reply is

  do_each : (object : ObjectState) → (step_by place operations.Once worker moment objects object).1 ≡ answers.Completed reply → DidSo (made_by place operations.Once worker moment objects object)
  do_each (states.Once o other delta) is = by_target other o delta (slice_get objects other) is
  do_each (states.Cond c other) is = absurd (by_cond c other (slice_get objects other) is)
  do_each (states.Flight f keys other delta) is = absurd (by_flight f keys other delta (slice_get objects other) is)
  do_each object is = never reply is

module _ (plan : Plan) (trace : List TraceItem) (told : (n : ℕ) (one : TraceItem) → slice_get trace n ≡ Some one → IsToldOf plan one) where
  did : (i place : ℕ) (reply : Reply (List ℕ)) (c : Completes trace i place operations.Once reply) → (w : ℕ) × DidSo place w 0 [] reply c.turn.made
  did i place reply c = let w = whole plan trace told i place operations.Once reply c in (
    w.worker,
    subst (DidSo place w.worker 0 [] reply) w.made (at_found place operations.Once w.worker w.state.moment w.state.objects (λ made _. DidSo place w.worker 0 [] reply made) reply (do_each place w.worker w.state.moment w.state.objects reply) (slice_get w.state.objects place) w.completes),
  )

  pub do_then : (i j place : ℕ) (sum : ℤ) → i < j → Completes trace i place operations.Once (replies.Once (do_replies.Ran sum)) → Completes trace j place operations.Once (replies.Once do_replies.Done) → Before plan trace i j
  unfolding has_ran has_done
  do_then i j place sum earlier a b = by (did i place (replies.Once (do_replies.Ran sum)) a) (did j place (replies.Once do_replies.Done) b) where
    row : (w v : ℕ) → Ends place w a.turn.made → Returns place v b.turn.made → Before plan trace i j
    row w v e r = once_row plan trace i j place w v e.deed r.deed earlier (record { turn = a.turn; at = a.at; front = e.front; back = []; made = e.is }) (record { turn = b.turn; at = b.at; front = []; back = []; made = r.is }) e.ends r.returns

    by : (w : ℕ) × DidSo place w 0 [] (replies.Once (do_replies.Ran sum)) a.turn.made → (v : ℕ) × DidSo place v 0 [] (replies.Once do_replies.Done) b.turn.made → Before plan trace i j
    by (w, x) (v, y) = row w v (x.0 refl) (y.1 refl)
