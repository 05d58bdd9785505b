-- What a call on a group of flights is made of.
use Rattle.std.proofs.Common.{◌≡◌, ℕ, ℤ, true, refl, Ok}
use Rattle.sync_model.specs.declared.answer.Answer.TheVariants.{Done, Halted}
use Rattle.script_calls.specs.declared.call.Reply.{Reply}
use Rattle.script_calls.specs.declared.call.Reply.TheVariants as replies
use Rattle.sync_types.specs.declared.misuse.Misuse.{Misuse}
use Rattle.flight_core.specs.declared.calls.FlightOutcome.{FlightOutcome}
use Rattle.flight_core.specs.declared.calls.FlightOutcome.TheVariants.{Lead, Got}
use Rattle.flight_core.specs.declared.calls.FlightStage.TheVariants as stage
use Rattle.protocols.specs.Spelling.{CallAnswer}
use Rattle.run_record.specs.AtomicKind.{adds}
use Rattle.run_record.specs.FlightKind.{fly_call, flight_part, goes_on_flight, was_shared}
use Rattle.run_record.specs.Parts.{Part, read_as, with_outcome}
use Rattle.thread_objects.specs.Working.{Desk, Works}
use Rattle.thread_objects.specs.Laws.{Stays, Joins}
use Rattle.thread_objects.proofs.Working.{reads, rests, works_on}

module _ (stays : Stays) (joined : Joins) (object atomic : ℕ) (amount : ℤ) (key : ℕ) (a b : Desk) where
  abbrev coming : Part FlightOutcome
  coming = flight_part object (stage.Join key)

  abbrev next : FlightOutcome → Part (Reply ℕ)
  next = goes_on_flight (flight_part object) (adds atomic amount)

  pub stopped : (misuse : Misuse) → Works coming a (Halted misuse) b → Works (fly_call object atomic amount key) a (Halted misuse) b
  stopped misuse works = works_on coming next joined a b b (Halted misuse) (Halted misuse) works (rests stays _ b _ (refl, refl))

  pub got : (value : ℤ) → Works coming a (Done (Ok (Got value))) b → Works (fly_call object atomic amount key) a (Done (Ok (replies.Flown value true))) b
  got value works = works_on coming next joined a b b (Done (Ok (Got value))) _ works (rests stays _ b _ (refl, refl))

  -- the function was run, and came to this value
  pub led : (m c : Desk) (value : ℤ) (given : CallAnswer FlightOutcome) (answer : CallAnswer (Reply ℕ)) → Works coming a (Done (Ok Lead)) b → Works (adds atomic amount) b (Done (Ok value)) m → Works (flight_part object (stage.Land value)) m given c
      → answer ≡ with_outcome (λ outcome. replies.Flown value (was_shared outcome)) given → Works (fly_call object atomic amount key) a answer c
  led m c value given answer first inner last is =
      let later = reads (λ outcome. replies.Flown value (was_shared outcome)) (flight_part object (stage.Land value)) m c given answer is last in
      works_on coming next joined a b c (Done (Ok Lead)) answer first (works_on (adds atomic amount) (λ v. read_as (λ outcome. replies.Flown v (was_shared outcome)) (flight_part object (stage.Land v))) joined b m c (Done (Ok value)) answer inner later)
