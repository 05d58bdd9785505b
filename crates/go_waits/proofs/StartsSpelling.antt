-- The calls of the protocol of Starts, in the words of this crate.
use Rattle.std.proofs.Common.{◌≡◌, ◌≢◌, ℕ, suc, Bool, true, false, [], ◌∷◌, ◌++◌, replicate, Ok, Err, refl, sym, ◌∙◌, subst}
use Rattle.sync_model.specs.declared.answer.Answer.{Answer}
use Rattle.sync_model.specs.declared.answer.Answer.TheVariants.{Done, Halted}
use Rattle.sync_model.specs.declared.journal.Deed.TheVariants.{Event, Refused, Halt}
use Rattle.sync_model.specs.Front.{Front}
use Rattle.starts_core.specs.declared.protocol.StartsOutcome.{StartsOutcome}
use Rattle.starts_core.specs.declared.protocol.StartsOutcome.TheVariants as outcome
use Rattle.starts_core.specs.declared.protocol.StartsStage.{StartsStage}
use Rattle.starts_core.specs.declared.protocol.StartsStage.TheVariants as stage
use Rattle.starts_core.specs.declared.starts.StartEvent.{StartEvent}
use Rattle.starts_core.specs.declared.starts.StartEvent.TheVariants as event
use Rattle.starts_core.specs.declared.starts.StartReply.{StartReply}
use Rattle.starts_core.specs.declared.starts.StartReply.TheVariants as reply
use Rattle.starts_core.specs.StartsMachine.{StartsState, next}
use Rattle.starts_core.specs.StartsStages.{starts_event, starts_moment, starts_meaning, starts_gains, made_meaning}
use Rattle.protocols.specs.declared.step.Step.{Step}
use Rattle.protocols.specs.Spelling.{CallAnswer, Spells, Rest, AreTimely}
use Rattle.call_loop.specs.Calls as running
use Rattle.go_locks.specs.Calls.{Did}
use Rattle.go_waits.specs.Answers.{done_answer, started_of}
use Rattle.go_waits.specs.StartCalls.{StartDeeds, MakesStart, WaitsStart}
use Rattle.go_waits.specs.Startings.{StartsPass}
use Rattle.go_waits.proofs.Calling.{ends, once_more, done_meets}

-- a start, an end
makes_by : (first : StartsStage) (event : StartEvent) → ((now : ℕ) → starts_event first now ≡ event) → ((r : StartReply) → starts_meaning first r ≡ made_meaning r)
    → (deeds : StartDeeds) (answer : CallAnswer StartsOutcome) → Spells starts_event starts_meaning first deeds answer → MakesStart event deeds (done_answer answer)
makes_by first event makes means [] answer spelt = absurd spelt
makes_by first event makes means (Event e r ∷ rest) answer (of, on) = by_reply r (subst (λ (step : Step StartsStage StartsOutcome). Rest step rest (λ later. Spells starts_event starts_meaning later rest answer) answer) (means r) on) where
  by_reply : (r : StartReply) → Rest (made_meaning r) rest (λ later. Spells starts_event starts_meaning later rest answer) answer → MakesStart event (Event e r ∷ rest) (done_answer answer)
  by_reply reply.Done end = ends (λ ds a. MakesStart event ds (done_answer a)) [] (λ x. Event x reply.Done) e event rest answer (Done (Ok outcome.Done)) (of.1 ∙ makes of.0) end.0 end.1 refl
  by_reply reply.Go end = absurd end
  by_reply reply.Never end = absurd end
  by_reply reply.Still end = absurd end
makes_by first event makes means (Refused e m ∷ rest) answer (of, none, is) = ends (λ ds a. MakesStart event ds (done_answer a)) [] (λ x. Refused x m) e event rest answer (Halted m) (of.1 ∙ makes of.0) none is refl
makes_by first event makes means (Halt m ∷ rest) answer spelt = absurd spelt

-- a worker that has asked so often before
waits_on : (count : ℕ) (deeds : StartDeeds) (answer : CallAnswer StartsOutcome) → Spells starts_event starts_meaning stage.WaitStart deeds answer
    → WaitsStart (replicate count (Event event.Leave reply.Still) ++ deeds) (running.told started_of answer)
waits_on count [] answer spelt = absurd spelt
waits_on count (Event e reply.Done ∷ rest) answer (of, on) = absurd on
waits_on count (Event e reply.Go ∷ rest) answer (of, on) =
    ends (λ ds a. WaitsStart ds (running.told started_of a)) (replicate count (Event event.Leave reply.Still)) (λ x. Event x reply.Go) e event.Leave rest answer (Done (Ok (outcome.Started true))) of.1 on.0 on.1 (count, refl)
waits_on count (Event e reply.Never ∷ rest) answer (of, on) =
    ends (λ ds a. WaitsStart ds (running.told started_of a)) (replicate count (Event event.Leave reply.Still)) (λ x. Event x reply.Never) e event.Leave rest answer (Done (Ok (outcome.Started false))) of.1 on.0 on.1 (count, refl)
waits_on count (Event e reply.Still ∷ rest) answer (of, on) =
    let more = subst (λ (ds : StartDeeds). WaitsStart ds (running.told started_of answer)) (once_more count (Event event.Leave reply.Still) rest) (waits_on (suc count) rest answer on) in
    subst (λ (x : StartEvent). WaitsStart (replicate count (Event event.Leave reply.Still) ++ Event x reply.Still ∷ rest) (running.told started_of answer)) (sym of.1) more
waits_on count (Refused e m ∷ rest) answer (of, none, is) =
    ends (λ ds a. WaitsStart ds (running.told started_of a)) (replicate count (Event event.Leave reply.Still)) (λ x. Refused x m) e event.Leave rest answer (Halted m) of.1 none is (count, refl)
waits_on count (Halt m ∷ rest) answer spelt = absurd spelt

module _ {N : Type 0} (start : StartsState) (shows : ℕ → Type 0) (old new : StartsPass N) (from to : Front) (answer : CallAnswer StartsOutcome) where
  -- what a call of the protocol did, and in the words of this crate
  abbrev Called : StartsStage → Type 0
  Called first = running.Did next true start (λ ds a. Spells starts_event starts_meaning first ds a) (λ ds. AreTimely starts_moment shows ds) old from answer new to

  abbrev Does : {A : Type 0} → (StartDeeds → Answer A → Type 0) → Answer A → Type 0
  Does spells result = Did next start spells (λ ds. Unit {0}) old from result new to

  -- a start and an end
  pub made_by : (first : StartsStage) (event : StartEvent) → ((now : ℕ) → starts_event first now ≡ event) → ((r : StartReply) → starts_meaning first r ≡ made_meaning r) → (result : Answer Unit) → result ≡ done_answer answer → Called first → Does (MakesStart event) result
  made_by first event makes means result is did =
      subst (λ (a : Answer Unit). Does (MakesStart event) a) (sym is) (record { entries = did.entries; grows = did.grows; spelt = makes_by first event makes means _ answer did.spelt; halted = done_meets did.entries answer did.halted; moments = tt })

  -- a worker that waits
  pub waited_by : (result : Answer Bool) → result ≡ running.told started_of answer → Called stage.WaitStart → Does WaitsStart result
  waited_by result is did =
      subst (λ (a : Answer Bool). Does WaitsStart a) (sym is) (record { entries = did.entries; grows = did.grows; spelt = waits_on 0 _ answer did.spelt; halted = running.halt_told started_of answer did.entries did.halted; moments = tt })

-- a worker gains only where it is started
pub wait_gains : (answer : CallAnswer StartsOutcome) (result : Answer Bool) → result ≡ running.told started_of answer → result ≢ Done true → running.has_gained (starts_gains stage.WaitStart) answer ≡ false
wait_gains (Done (Ok (outcome.Started true))) result is other = absurd (other is)
wait_gains (Done (Ok (outcome.Started false))) result is other = refl
wait_gains (Done (Ok outcome.Done)) result is other = refl
wait_gains (Done (Err m)) result is other = refl
wait_gains (Halted m) result is other = refl
