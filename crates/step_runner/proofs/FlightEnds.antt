-- A turn lands a flight exactly where the stage that is due does.
use Rattle.std.proofs.Common.{◌≡◌, ℕ, ◌<◌, Bool, false, cond, [], refl, sym, ap, ◌∙◌}
use Rattle.std.specs.Prelude.{ℤ, Result, Ok, Err, if◌then◌else◌}
use Rattle.std.specs.Int.{w64, int_wrapping_add}
use Rattle.std.proofs.lemmas.Bool.{lt-ltb}
use Rattle.sync_types.specs.declared.atomic_object.Number.TheVariants.{Int64}
use Rattle.flight_core.specs.FlightMachine.{FlightState, callers_of, place_of, is_joined, land_from, made, next}
use Rattle.flight_core.specs.FlightStages.{flight_event, flight_meaning}
use Rattle.flight_core.specs.declared.calls.FlightOutcome.{FlightOutcome}
use Rattle.flight_core.specs.declared.calls.FlightOutcome.TheVariants.{Lead, Got, Landed}
use Rattle.flight_core.specs.declared.calls.FlightStage.TheVariants as stage
use Rattle.flight_core.specs.declared.event.FlightEvent.{FlightEvent}
use Rattle.flight_core.specs.declared.event.FlightEvent.TheVariants as events
use Rattle.flight_core.specs.declared.event.FlightPlace.{FlightPlace}
use Rattle.flight_core.specs.declared.event.FlightPlace.TheVariants as places
use Rattle.flight_core.specs.declared.event.FlightReply.{FlightReply}
use Rattle.flight_core.specs.declared.event.FlightReply.TheVariants as reply
use Rattle.step_runner.specs.declared.turns.answer.Answer.{Answer}
use Rattle.step_runner.specs.Due.{flight_due, lands}
use Rattle.step_runner.specs.Items.{landed_items}
use Rattle.step_runner.specs.Stages.{outcome_of, make}
use Rattle.step_runner.specs.TurnAtObjects.{flight_made, number_landed}
use Rattle.step_runner.proofs.FlightTurns.{is_landed}
use Rattle.step_runner.proofs.OnceEnds.{Adds}

-- no other stage lands
joined : (key : ℕ) (r : FlightReply) → false ≡ is_landed (outcome_of (flight_meaning (stage.Join key) r))
joined key reply.Lead = refl
joined key reply.Queued = refl
joined key (reply.Landed shared) = refl
joined key (reply.Left value) = refl
joined key reply.Still = refl

left : (r : FlightReply) → false ≡ is_landed (outcome_of (flight_meaning stage.Leave r))
left reply.Lead = refl
left reply.Queued = refl
left (reply.Landed shared) = refl
left (reply.Left value) = refl
left reply.Still = refl

abbrev if_there : Bool → FlightState → ℕ → FlightEvent → FlightState × FlightReply
if_there test f worker event = if test then made f worker event else (f, reply.Still)

module _ (worker moment key : ℕ) (value : ℤ) (f : FlightState) (below : worker < callers_of f) where
  -- the worker that leads a flight lands it
  lands_reply : (own : ℕ) → place_of f worker ≡ places.Leads own → (next f worker (events.Land value)).1 ≡ reply.Landed (is_joined own f)
  lands_reply own at =
      ap (λ (test : Bool). (if_there test f worker (events.Land value)).1) (lt-ltb worker (callers_of f) below)
      ∙ ap (λ (p : FlightPlace). (land_from p f worker value).1) at

  by_place : (p : FlightPlace) → place_of f worker ≡ p → lands (flight_due key value p) ≡ is_landed (make next flight_event flight_meaning worker moment (flight_due key value p) f).1
  by_place places.Out at = joined key (next f worker (events.Join key)).1
  by_place (places.Leads own) at = ap (λ (r : FlightReply). is_landed (outcome_of (flight_meaning (stage.Land value) r))) (sym (lands_reply own at))
  by_place (places.Waits own) at = refl
  by_place (places.Landed got) at = left (next f worker events.Leave).1

  landed : lands (flight_due key value (place_of f worker)) ≡ is_landed (flight_made worker moment key value f).1
  landed = by_place (place_of f worker) refl

number_by : (r : Result FlightOutcome Answer) (sum old : ℤ) → number_landed r (Int64 sum) (Int64 old) ≡ Int64 (cond (is_landed r) sum old)
number_by (Ok (Landed shared)) sum old = refl
number_by (Ok Lead) sum old = refl
number_by (Ok (Got value)) sum old = refl
number_by (Err answer) sum old = refl

items_by : (worker object : ℕ) (delta old : ℤ) (r : Result FlightOutcome Answer) → landed_items worker object delta (Int64 old) r ≡ cond (is_landed r) (Adds worker object delta (int_wrapping_add w64 old delta)) []
items_by worker object delta old (Ok (Landed shared)) = refl
items_by worker object delta old (Ok Lead) = refl
items_by worker object delta old (Ok (Got value)) = refl
items_by worker object delta old (Err answer) = refl

module _ (worker moment key : ℕ) (f : FlightState) (old delta : ℤ) (below : worker < callers_of f) where
  abbrev the_sum : ℤ
  the_sum = int_wrapping_add w64 old delta

  abbrev its_end : Bool
  its_end = lands (flight_due key the_sum (place_of f worker))

  pub number_then : number_landed (flight_made worker moment key the_sum f).1 (Int64 the_sum) (Int64 old) ≡ Int64 (cond its_end the_sum old)
  number_then = number_by (flight_made worker moment key the_sum f).1 the_sum old ∙ ap (λ (b : Bool). Int64 (cond b the_sum old)) (sym (landed worker moment key the_sum f below))

  pub items_then : (object : ℕ) → landed_items worker object delta (Int64 old) (flight_made worker moment key the_sum f).1 ≡ cond its_end (Adds worker object delta the_sum) []
  items_then object = items_by worker object delta old (flight_made worker moment key the_sum f).1 ∙ ap (λ (b : Bool). cond b (Adds worker object delta the_sum) []) (sym (landed worker moment key the_sum f below))
