-- The calls of a cond's protocol, in the words of this crate.
use Rattle.std.proofs.Common.{◌≡◌, ℕ, suc, true, false, [], ◌∷◌, ◌++◌, replicate, Ok, refl, sym, ◌∙◌, subst}
use Rattle.sync_types.specs.declared.misuse.Misuse.{Misuse}
use Rattle.sync_model.specs.declared.answer.Answer.{Answer}
use Rattle.sync_model.specs.declared.answer.Answer.TheVariants.{Done, Halted}
use Rattle.sync_model.specs.declared.journal.Deed.TheVariants.{Event, Refused, Halt}
use Rattle.sync_model.specs.Front.{Front, SameCounts}
use Rattle.wait_cores.specs.declared.notify.NotifyEvent.{NotifyEvent}
use Rattle.wait_cores.specs.declared.notify.NotifyEvent.TheVariants as event
use Rattle.wait_cores.specs.declared.notify.NotifyReply.{NotifyReply}
use Rattle.wait_cores.specs.declared.notify.NotifyReply.TheVariants as reply
use Rattle.wait_cores.specs.NotifyMachine.{NotifyState, next}
use Rattle.protocols.specs.declared.cond.CondStage.{CondStage}
use Rattle.protocols.specs.declared.cond.CondStage.TheVariants as stage
use Rattle.protocols.specs.declared.step.Step.{Step}
use Rattle.protocols.specs.CondStages.{cond_event, cond_moment, cond_meaning, cond_gains, at_once_meaning}
use Rattle.protocols.specs.Spelling.{CallAnswer, Spells, Rest, AreTimely}
use Rattle.call_loop.specs.Calls as running
use Rattle.go_locks.specs.Calls.{Did}
use Rattle.go_waits.specs.Answers.{done_answer}
use Rattle.go_waits.specs.CondCalls.{NotifyDeeds, Makes, Leaves}
use Rattle.go_waits.specs.Conds.{CondPass}
use Rattle.go_waits.proofs.Calling.{ends, gains_nothing, once_more, done_meets}

-- a ticket, a signal, a broadcast
pub makes_by : (first : CondStage) (event : NotifyEvent) → ((now : ℕ) → cond_event first now ≡ event) → ((r : NotifyReply) → cond_meaning first r ≡ at_once_meaning r)
    → (deeds : NotifyDeeds) (answer : CallAnswer Unit) → Spells cond_event cond_meaning first deeds answer → Makes event deeds (done_answer answer)
makes_by first event makes means [] answer spelt = absurd spelt
makes_by first event makes means (Event e reply.Done ∷ rest) answer (of, on) =
    let end = subst (λ (step : Step CondStage Unit). Rest step rest (λ later. Spells cond_event cond_meaning later rest answer) answer) (means reply.Done) on in
    ends (λ ds a. Makes event ds (done_answer a)) [] (λ x. Event x reply.Done) e event rest answer (Done (Ok tt)) (of.1 ∙ makes of.0) end.0 end.1 refl
makes_by first event makes means (Event e reply.Still ∷ rest) answer (of, on) =
    absurd (subst (λ (step : Step CondStage Unit). Rest step rest (λ later. Spells cond_event cond_meaning later rest answer) answer) (means reply.Still) on)
makes_by first event makes means (Refused e m ∷ rest) answer (of, none, is) = ends (λ ds a. Makes event ds (done_answer a)) [] (λ x. Refused x m) e event rest answer (Halted m) (of.1 ∙ makes of.0) none is refl
makes_by first event makes means (Halt m ∷ rest) answer spelt = absurd spelt

-- a leaving, of a caller that has tried so often before
leaves_on : (count : ℕ) (deeds : NotifyDeeds) (answer : CallAnswer Unit) → Spells cond_event cond_meaning stage.Leave deeds answer → Leaves (replicate count (Event event.Leave reply.Still) ++ deeds) (done_answer answer)
leaves_on count [] answer spelt = absurd spelt
leaves_on count (Event e reply.Done ∷ rest) answer (of, on) =
    ends (λ ds a. Leaves ds (done_answer a)) (replicate count (Event event.Leave reply.Still)) (λ x. Event x reply.Done) e event.Leave rest answer (Done (Ok tt)) of.1 on.0 on.1 (count, refl)
leaves_on count (Event e reply.Still ∷ rest) answer (of, on) =
    let more = subst (λ (ds : NotifyDeeds). Leaves ds (done_answer answer)) (once_more count (Event event.Leave reply.Still) rest) (leaves_on (suc count) rest answer on) in
    subst (λ (x : NotifyEvent). Leaves (replicate count (Event event.Leave reply.Still) ++ Event x reply.Still ∷ rest) (done_answer answer)) (sym of.1) more
leaves_on count (Refused e m ∷ rest) answer (of, none, is) =
    ends (λ ds a. Leaves ds (done_answer a)) (replicate count (Event event.Leave reply.Still)) (λ x. Refused x m) e event.Leave rest answer (Halted m) of.1 none is (count, refl)
leaves_on count (Halt m ∷ rest) answer spelt = absurd spelt

-- a leaving
pub leaves_by : (deeds : NotifyDeeds) (answer : CallAnswer Unit) → Spells cond_event cond_meaning stage.Leave deeds answer → Leaves deeds (done_answer answer)
leaves_by = leaves_on 0

module _ {N : Type 0} (start : NotifyState) (shows : ℕ → Type 0) (old new : CondPass N) (from to : Front) (answer : CallAnswer Unit) where
  -- what a call of the protocol did, and in the words of this crate
  abbrev Called : CondStage → Type 0
  Called first = running.Did next true start (λ ds a. Spells cond_event cond_meaning first ds a) (λ ds. AreTimely cond_moment shows ds) old from answer new to

  abbrev Does : (NotifyDeeds → Answer Unit → Type 0) → Answer Unit → Type 0
  Does spells result = Did next start spells (λ ds. Unit {0}) old from result new to

  did_by : (first : CondStage) (spells : NotifyDeeds → Answer Unit → Type 0) → ((deeds : NotifyDeeds) → Spells cond_event cond_meaning first deeds answer → spells deeds (done_answer answer)) → (result : Answer Unit) → result ≡ done_answer answer → Called first → Does spells result
  did_by first spells spelt result is did = subst (λ (a : Answer Unit). Does spells a) (sym is) (record { entries = did.entries; grows = did.grows; spelt = spelt _ did.spelt; halted = done_meets did.entries answer did.halted; moments = tt })

  -- a ticket, a signal and a broadcast, after which its caller knows what it knew
  pub made_by : (first : CondStage) (event : NotifyEvent) → ((now : ℕ) → cond_event first now ≡ event) → ((r : NotifyReply) → cond_meaning first r ≡ at_once_meaning r) → ((outcome : Unit) → cond_gains first outcome ≡ false)
      → (result : Answer Unit) → result ≡ done_answer answer → Called first → (running.has_gained (cond_gains first) answer ≡ false → SameCounts to from) → Does (Makes event) result × SameCounts to from
  made_by first event makes means gains result is did no_edge = (did_by first (Makes event) (λ deeds spelt. makes_by first event makes means deeds answer spelt) result is did, no_edge (gains_nothing (cond_gains first) answer gains))

  -- a leaving
  pub left_by : (result : Answer Unit) → result ≡ done_answer answer → Called stage.Leave → Does Leaves result
  left_by = did_by stage.Leave Leaves (λ deeds spelt. leaves_by deeds answer spelt)

-- a leaving that is halted gains nothing
pub halted_gains : (answer : CallAnswer Unit) (misuse : Misuse) → Halted misuse ≡ done_answer answer → running.has_gained (cond_gains stage.Leave) answer ≡ false
halted_gains (Done given) misuse is = cc
halted_gains (Halted other) misuse is = refl
