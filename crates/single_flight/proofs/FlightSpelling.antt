-- The calls of a group's protocol, in the words of this crate.
use Rattle.std.proofs.Common.{◌≡◌, ◌⊎◌, inl, inr, ℕ, suc, ◌∷◌, [], ◌++◌, replicate, Ok, Err, refl, sym, ap, ◌∙◌, subst}
use Rattle.std.specs.Prelude.{ℤ, List, false}
use Rattle.std.proofs.lemmas.Bool.{false≢true}
use Rattle.sync_types.specs.declared.misuse.Misuse.{Misuse}
use Rattle.sync_model.specs.declared.answer.Answer.{Answer}
use Rattle.sync_model.specs.declared.answer.Answer.TheVariants.{Done, Halted}
use Rattle.sync_model.specs.declared.journal.Deed.TheVariants.{Event, Refused, Halt}
use Rattle.flight_core.specs.declared.event.FlightEvent.{FlightEvent}
use Rattle.flight_core.specs.declared.event.FlightEvent.TheVariants.{Join, Land, Leave}
use Rattle.flight_core.specs.declared.event.FlightReply.TheVariants as reply
use Rattle.flight_core.specs.declared.calls.FlightOutcome.{FlightOutcome}
use Rattle.flight_core.specs.declared.calls.FlightOutcome.TheVariants as outcome
use Rattle.flight_core.specs.declared.calls.FlightStage.TheVariants as stage
use Rattle.flight_core.specs.declared.calls.FlightStand.TheVariants as stand
use Rattle.flight_core.specs.FlightStages.{flight_event, flight_meaning, flight_stands, flight_left, flight_gives, flight_gains}
use Rattle.protocols.specs.Spelling.{CallAnswer, Spells}
use Rattle.ruled_object.specs.Growth.{Placed, MeetsHalt}
use Rattle.ruled_object.specs.Passes as object
use Rattle.ruled_object.specs.Standing.{stand_by}
use Rattle.call_loop.specs.Calls.{IsGiven, left_in, has_gained}
use Rattle.single_flight.specs.declared.begun.Begun.{Begun}
use Rattle.single_flight.specs.declared.begun.Begun.TheVariants.{Lead, Got}
use Rattle.single_flight.specs.declared.group.Group.{Group}
use Rattle.single_flight.specs.Answers.{land_answer, IsBegunBy}
use Rattle.single_flight.specs.FlightCalls.{FlightDeeds, LeavesBy, Comes, Lands, StandsAs}
use Rattle.single_flight.specs.Flights.{FlightPass}
use Rattle.single_flight.proofs.Calling.{ends, once_more}

-- coming for a key, by what its protocol gives
abbrev Joins : ℕ → FlightDeeds → CallAnswer FlightOutcome → Type 0
Joins key deeds (Done (Ok outcome.Lead)) = deeds ≡ Event (Join key) reply.Lead ∷ []
Joins key deeds (Done (Ok (outcome.Got value))) = LeavesBy key (Event Leave (reply.Left value)) deeds
Joins key deeds (Done (Ok (outcome.Landed shared))) = ⊥
Joins key deeds (Done (Err misuse)) = ⊥
Joins key deeds (Halted misuse) = (deeds ≡ Refused (Join key) misuse ∷ []) ⊎ LeavesBy key (Refused Leave misuse) deeds

-- a caller so far that was queued, and tried to leave
abbrev so_far : ℕ → ℕ → FlightDeeds
so_far key count = Event (Join key) reply.Queued ∷ replicate count (Event Leave reply.Still)

leaves_by : (k count : ℕ) (deeds : FlightDeeds) (answer : CallAnswer FlightOutcome) → Spells flight_event flight_meaning stage.Leave deeds answer → Joins k (so_far k count ++ deeds) answer
leaves_by k count [] answer spelt = absurd spelt
leaves_by k count (Event e (reply.Left v) ∷ rest) answer (of, on) = ends (Joins k) (λ (a : CallAnswer FlightOutcome). a) (so_far k count) (λ x. Event x (reply.Left v)) e Leave rest answer (Done (Ok (outcome.Got v))) of.1 on.0 on.1 (count, refl)
leaves_by k count (Event e reply.Still ∷ rest) answer (of, on) =
    let still : FlightDeeds = Event Leave reply.Still ∷ rest in
    let more : Joins k (so_far k count ++ still) answer = subst (λ (ds : FlightDeeds). Joins k (Event (Join k) reply.Queued ∷ ds) answer) (once_more count (Event Leave reply.Still) rest) (leaves_by k (suc count) rest answer on) in
    subst (λ (x : FlightEvent). Joins k (so_far k count ++ Event x reply.Still ∷ rest) answer) (sym of.1) more
leaves_by k count (Event e reply.Lead ∷ rest) answer (of, on) = absurd on
leaves_by k count (Event e reply.Queued ∷ rest) answer (of, on) = absurd on
leaves_by k count (Event e (reply.Landed b) ∷ rest) answer (of, on) = absurd on
leaves_by k count (Refused e m ∷ rest) answer (of, none, is) = ends (Joins k) (λ (a : CallAnswer FlightOutcome). a) (so_far k count) (λ x. Refused x m) e Leave rest answer (Halted m) of.1 none is (inr (count, refl))
leaves_by k count (Halt m ∷ rest) answer spelt = absurd spelt

joins_by : (k : ℕ) (deeds : FlightDeeds) (answer : CallAnswer FlightOutcome) → Spells flight_event flight_meaning (stage.Join k) deeds answer → Joins k deeds answer
joins_by k [] answer spelt = absurd spelt
joins_by k (Event e reply.Lead ∷ rest) answer (of, on) = ends (Joins k) (λ (a : CallAnswer FlightOutcome). a) [] (λ x. Event x reply.Lead) e (Join k) rest answer (Done (Ok outcome.Lead)) of.1 on.0 on.1 refl
joins_by k (Event e reply.Queued ∷ rest) answer (of, on) = subst (λ (x : FlightEvent). Joins k (Event x reply.Queued ∷ rest) answer) (sym of.1) (leaves_by k 0 rest answer on)
joins_by k (Event e (reply.Landed b) ∷ rest) answer (of, on) = absurd on
joins_by k (Event e (reply.Left v) ∷ rest) answer (of, on) = absurd on
joins_by k (Event e reply.Still ∷ rest) answer (of, on) = absurd on
joins_by k (Refused e m ∷ rest) answer (of, none, is) = ends (Joins k) (λ (a : CallAnswer FlightOutcome). a) [] (λ x. Refused x m) e (Join k) rest answer (Halted m) of.1 none is (inl refl)
joins_by k (Halt m ∷ rest) answer spelt = absurd spelt

-- coming for a key
pub comes_by : (k : ℕ) (deeds : FlightDeeds) (answer : CallAnswer FlightOutcome) (caller : ℕ) (result : Answer Begun) → IsBegunBy answer caller result → Spells flight_event flight_meaning (stage.Join k) deeds answer → Comes k deeds result
comes_by k deeds answer caller (Done (Lead flight)) is spelt = subst (Joins k deeds) is.0 (joins_by k deeds answer spelt)
comes_by k deeds answer caller (Done (Got value)) is spelt = subst (Joins k deeds) is (joins_by k deeds answer spelt)
comes_by k deeds answer caller (Halted misuse) is spelt = subst (Joins k deeds) is (joins_by k deeds answer spelt)

pub begun_meets : {E R : Type 0} (es : List (Placed E R)) (answer : CallAnswer FlightOutcome) (caller : ℕ) (result : Answer Begun) → IsBegunBy answer caller result → MeetsHalt es answer → MeetsHalt es result
begun_meets es answer caller (Done (Lead flight)) is meets = subst (λ (a : CallAnswer FlightOutcome). MeetsHalt es a) is.0 meets
begun_meets es answer caller (Done (Got value)) is meets = subst (λ (a : CallAnswer FlightOutcome). MeetsHalt es a) is meets
begun_meets es answer caller (Halted misuse) is meets = subst (λ (a : CallAnswer FlightOutcome). MeetsHalt es a) is meets

-- where the caller then stands
pub stands_as : {N H : Type 0} (group : Group N H) (pass : FlightPass N) (answer : CallAnswer FlightOutcome) (caller : ℕ) (result : Answer Begun) → IsBegunBy answer caller result
    → object.IsPassOf group.object pass → object.number_of pass ≡ caller → stand_by stand.Out flight_stands (object.own_by pass) ≡ left_in stand.Out flight_left answer → StandsAs group pass result
stands_as group pass answer caller (Done (Lead flight)) is of number stands = (record { of = of; leads = stands ∙ ap (left_in stand.Out flight_left) is.0 }, is.1 ∙ sym number)
stands_as group pass answer caller (Done (Got value)) is of number stands = record { of = of; stands = stands ∙ ap (left_in stand.Out flight_left) is }
stands_as group pass answer caller (Halted misuse) is of number stands = record { of = of; stands = stands ∙ ap (left_in stand.Out flight_left) is }

pub halted_gains : (k : ℕ) (answer : CallAnswer FlightOutcome) (caller : ℕ) (result : Answer Begun) (m : Misuse) → IsBegunBy answer caller result → result ≡ Halted m → has_gained (flight_gains (stage.Join k)) answer ≡ false
halted_gains k answer caller (Done begun) m is same = cc
halted_gains k answer caller (Halted misuse) m is same = ap (has_gained (flight_gains (stage.Join k))) is

-- a landing
pub lands_by : (v : ℤ) (deeds : FlightDeeds) (answer : CallAnswer FlightOutcome) → Spells flight_event flight_meaning (stage.Land v) deeds answer → Lands v deeds (land_answer answer)
lands_by v [] answer spelt = absurd spelt
lands_by v (Event e (reply.Landed b) ∷ rest) answer (of, on) = ends (Lands v) land_answer [] (λ x. Event x (reply.Landed b)) e (Land v) rest answer (Done (Ok (outcome.Landed b))) of.1 on.0 on.1 refl
lands_by v (Event e reply.Lead ∷ rest) answer (of, on) = absurd on
lands_by v (Event e reply.Queued ∷ rest) answer (of, on) = absurd on
lands_by v (Event e (reply.Left w) ∷ rest) answer (of, on) = absurd on
lands_by v (Event e reply.Still ∷ rest) answer (of, on) = absurd on
lands_by v (Refused e m ∷ rest) answer (of, none, is) = ends (Lands v) land_answer [] (λ x. Refused x m) e (Land v) rest answer (Halted m) of.1 none is refl
lands_by v (Halt m ∷ rest) answer spelt = absurd spelt

-- a landing leaves its caller out
pub landed_out : (v : ℤ) (answer : CallAnswer FlightOutcome) → IsGiven (flight_gives (stage.Land v)) answer → left_in stand.Out flight_left answer ≡ stand.Out
landed_out v (Done (Ok (outcome.Landed b))) given = refl
landed_out v (Done (Ok outcome.Lead)) given = absurd (false≢true given)
landed_out v (Done (Ok (outcome.Got w))) given = absurd (false≢true given)
landed_out v (Done (Err m)) given = refl
landed_out v (Halted m) given = refl
