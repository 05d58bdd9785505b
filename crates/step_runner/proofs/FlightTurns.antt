-- What a turn at a group of flights comes to, by the stage that is due and what the machine answers.
use Rattle.std.proofs.Common.{◌≡◌, ◌≢◌, ℕ, ◌+◌, ◌<◌, ◌≤◌, Bool, true, false, Option, Some, None, refl, ap, ◌∙◌, subst, arith}
use Rattle.std.specs.Prelude.{ℤ, Result, Ok, Err}
use Rattle.flight_core.specs.FlightEventsLeft.{flight_left, flight_used, flight_given}
use Rattle.flight_core.specs.FlightMachine as flight
use Rattle.flight_core.specs.FlightStages.{flight_event, flight_meaning}
use Rattle.flight_core.specs.FlightStanding as standing
use Rattle.flight_core.specs.declared.calls.FlightOutcome.{FlightOutcome}
use Rattle.flight_core.specs.declared.calls.FlightOutcome.TheVariants as outcome
use Rattle.flight_core.specs.declared.calls.FlightStage.{FlightStage}
use Rattle.flight_core.specs.declared.calls.FlightStage.TheVariants as stage
use Rattle.flight_core.specs.declared.calls.FlightStand.{FlightStand}
use Rattle.flight_core.specs.declared.calls.FlightStand.TheVariants as stand
use Rattle.flight_core.specs.declared.event.FlightEvent.{FlightEvent}
use Rattle.flight_core.specs.declared.event.FlightPlace.{FlightPlace}
use Rattle.flight_core.specs.declared.event.FlightPlace.TheVariants as place
use Rattle.flight_core.specs.declared.event.FlightReply.{FlightReply}
use Rattle.flight_core.specs.declared.event.FlightReply.TheVariants as reply
use Rattle.step_runner.specs.declared.turns.answer.Answer.{Answer}
use Rattle.step_runner.specs.declared.turns.answer.Answer.TheVariants as answers
use Rattle.step_runner.specs.Due.{flight_due, flown}
use Rattle.step_runner.specs.MachinesStand.{FlightStands}
use Rattle.step_runner.specs.ObjectLeft.{UsesBy}
use Rattle.step_runner.specs.Stages.{outcome_of, make, answer_by}
use Rattle.step_runner.specs.TurnAtObjects.{flight_made}
use Rattle.step_runner.specs.TurnsLeft.{TakesBy, flight_left as turns_left}
use Rattle.step_runner.proofs.SpellingLaws.{may}
use Rattle.step_runner.proofs.Refuted.{no}

-- what a stage comes to behind which the group stands and answers so: nothing, where none is due
abbrev pub comes_to : Option FlightStage → flight.FlightState × FlightReply → flight.FlightState × Result FlightOutcome Answer
comes_to None n = (n.0, Err answers.Still)
comes_to (Some due) n = (n.0, outcome_of (flight_meaning due n.1))

-- whether a turn landed
abbrev pub is_landed : Result FlightOutcome Answer → Bool
is_landed (Ok (outcome.Landed shared)) = true
is_landed other = false

module _ (law : FlightStands) (x moment key : ℕ) (value : ℤ) (f : flight.FlightState) (below : x < flight.callers_of f) where
  -- the group behind the stage that is due, and what it answers
  abbrev pub behind_due : Option FlightStage → flight.FlightState × FlightReply
  behind_due None = (f, reply.Still)
  behind_due (Some due) = flight.next f x (flight_event due moment)

  -- what is so of each thing that a turn may be
  pub record Each (Q : Option FlightStage → flight.FlightState × FlightReply → Type 0) : Type 0 where
    pub waiting : standing.stands_at f x ≡ stand.Waits → Q None (f, reply.Still)
    pub leading : (n : flight.FlightState) → standing.stands_at f x ≡ stand.Out → standing.stands_at n x ≡ stand.Leads → flight_left n < flight_left f → Q (Some (stage.Join key)) (n, reply.Lead)
    pub joining : (n : flight.FlightState) → standing.stands_at f x ≡ stand.Out → standing.stands_at n x ≡ stand.Waits → flight_left n < flight_left f → Q (Some (stage.Join key)) (n, reply.Queued)
    pub landing : (n : flight.FlightState) (shared : Bool) → standing.stands_at f x ≡ stand.Leads → standing.stands_at n x ≡ stand.Out → flight_left n ≤ flight_left f + 1 → Q (Some (stage.Land value)) (n, reply.Landed shared)
    pub leaving : (n : flight.FlightState) (got : ℤ) → standing.stands_at f x ≡ stand.Waits → standing.stands_at n x ≡ stand.Out → flight_left n ≤ flight_left f + 1 → Q (Some stage.Leave) (n, reply.Left got)

  module _ (Q : Option FlightStage → flight.FlightState × FlightReply → Type 0) (each : Each Q) where
    -- by what the machine answers, and where it says that the caller stands then
    joined : (n : flight.FlightState) (r : FlightReply) → standing.answers_join stand.Out r ≡ true → standing.stands_at f x ≡ stand.Out → standing.stands_at n x ≡ standing.stands_after stand.Out r
        → flight_left n + flight_used r ≤ flight_left f + flight_given r → Q (Some (stage.Join key)) (n, r)
    joined n reply.Lead is at behind used = each.leading n at behind (omega (arith, used))
    joined n reply.Queued is at behind used = each.joining n at behind (omega (arith, used))
    joined n r is at behind used = no is

    landed : (n : flight.FlightState) (r : FlightReply) → standing.answers_land stand.Leads r ≡ true → standing.stands_at f x ≡ stand.Leads → standing.stands_at n x ≡ standing.stands_after stand.Leads r
        → flight_left n + flight_used r ≤ flight_left f + flight_given r → Q (Some (stage.Land value)) (n, r)
    landed n (reply.Landed shared) is at behind used = each.landing n shared at behind (omega (arith, used))
    landed n r is at behind used = no is

    left : (n : flight.FlightState) (r : FlightReply) → standing.answers_leaving stand.Waits r ≡ true → r ≢ reply.Still → standing.stands_at f x ≡ stand.Waits → standing.stands_at n x ≡ standing.stands_after stand.Waits r
        → flight_left n + flight_used r ≤ flight_left f + flight_given r → Q (Some stage.Leave) (n, r)
    left n (reply.Left got) is made at behind used = each.leaving n got at behind (omega (arith, used))
    left n reply.Still is made at behind used = absurd (made refl)
    left n r is made at behind used = no is

    -- what the laws say of an event of a caller that stands so
    answered : (e : FlightEvent) (at : FlightStand) → standing.stands_at f x ≡ at → standing.answers at e (flight.next f x e).1 ≡ true
    answered e at is = subst (λ (s : FlightStand). standing.answers s e (flight.next f x e).1 ≡ true) is (law.answers f x e below)

    moved : (e : FlightEvent) (at : FlightStand) → standing.stands_at f x ≡ at → standing.stands_at (flight.next f x e).0 x ≡ standing.stands_after at (flight.next f x e).1
    moved e at is = law.own f x e ∙ ap (λ (s : FlightStand). standing.stands_after s (flight.next f x e).1) is

    by_place : (p : FlightPlace) → flight.place_of f x ≡ p → Q (flight_due key value p) (behind_due (flight_due key value p))
    by_place place.Out at =
        let e = flight_event (stage.Join key) moment in
        let is = ap standing.stand_in at in
        joined (flight.next f x e).0 (flight.next f x e).1 (answered e stand.Out is) is (moved e stand.Out is) (law.used f x e)
    by_place (place.Leads own) at =
        let e = flight_event (stage.Land value) moment in
        let is = ap standing.stand_in at in
        landed (flight.next f x e).0 (flight.next f x e).1 (answered e stand.Leads is) is (moved e stand.Leads is) (law.used f x e)
    by_place (place.Waits own) at = each.waiting (ap standing.stand_in at)
    by_place (place.Landed got) at =
        let e = flight_event stage.Leave moment in
        let is = ap standing.stand_in at in
        left (flight.next f x e).0 (flight.next f x e).1 (answered e stand.Waits is)
        (law.made f x e (may x (flight.callers_of f) (standing.is_needed e (flight.place_of f x)) below (ap (standing.is_needed e) at))) is (moved e stand.Waits is) (law.used f x e)

    pub flight_by : Q (flight_due key value (flight.place_of f x)) (behind_due (flight_due key value (flight.place_of f x)))
    flight_by = by_place (flight.place_of f x) refl

  -- what hangs on what the stage came to
  come_made : (P : Option FlightStage → flight.FlightState × Result FlightOutcome Answer → Type 0) (due : Option FlightStage) → P due (comes_to due (behind_due due)) → P due (make flight.next flight_event flight_meaning x moment due f)
  come_made P None is = is
  come_made P (Some due) is = is

  pub made_by : (P : Option FlightStage → flight.FlightState × Result FlightOutcome Answer → Type 0) → Each (λ due n. P due (comes_to due n)) → P (flight_due key value (flight.place_of f x)) (flight_made x moment key value f)
  made_by P each = come_made P (flight_due key value (flight.place_of f x)) (flight_by (λ due n. P due (comes_to due n)) each)

  -- what a turn leaves to do, with whatever else, the same where no stage is due
  pub flight_uses : (Same : flight.FlightState × Result FlightOutcome Answer → Type 0) → Same (f, Err answers.Still)
      → let made = flight_made x moment key value f in UsesBy (flight_left f) (flight_left made.0) (Same made) (answer_by (flown value) made.1)
  flight_uses Same same = made_by (λ due made. UsesBy (flight_left f) (flight_left made.0) (Same made) (answer_by (flown value) made.1)) (record {
    waiting = λ at. same;
    leading = λ n at behind less. less;
    joining = λ n at behind less. less;
    landing = λ n shared at behind more. omega (arith, more);
    leaving = λ n got at behind more. omega (arith, more);
  })

  -- and what it takes of its call's turns
  pub flight_takes : let made = flight_made x moment key value f in TakesBy false (turns_left (standing.stands_at f x)) (turns_left (standing.stands_at made.0 x)) (answer_by (flown value) made.1)
  flight_takes = made_by (λ due made. TakesBy false (turns_left (standing.stands_at f x)) (turns_left (standing.stands_at made.0 x)) (answer_by (flown value) made.1)) (record {
    waiting = λ at. tt;
    leading = λ n at behind less. omega (arith, ap turns_left at, ap turns_left behind);
    joining = λ n at behind less. omega (arith, ap turns_left at, ap turns_left behind);
    landing = λ n shared at behind more. tt;
    leaving = λ n got at behind more. tt;
  })
