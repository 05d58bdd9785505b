-- Who queues at a mutex gets a ticket of its own number.
use Rattle.std.proofs.Common.{◌≡◌, ℕ, Bool, true, false, List, [], ◌∷◌, Option, Some, None, slice_get, refl, sym, subst}
use Rattle.std.specs.Prelude.{nat_lt, if◌then◌else◌}
use Rattle.sync_types.specs.declared.misuse.Misuse.{Misuse}
use Rattle.sync_model.specs.declared.journal.Deed.{Deed}
use Rattle.sync_model.specs.declared.journal.Deed.TheVariants.{Event, Refused, Halt}
use Rattle.sync_model.specs.Journal.{Right}
use Rattle.mutex_core.specs.declared.event.MutexEvent.{MutexEvent}
use Rattle.mutex_core.specs.declared.event.MutexEvent.TheVariants as events
use Rattle.mutex_core.specs.declared.place.Place.{Place}
use Rattle.mutex_core.specs.declared.place.Place.TheVariants as places
use Rattle.mutex_core.specs.declared.reply.MutexReply.{MutexReply}
use Rattle.mutex_core.specs.declared.waiter.Waiter.{Waiter}
use Rattle.mutex_core.specs.declared.waiter.Flight.{Flight}
use Rattle.mutex_core.specs.declared.waiter.Flight.TheVariants as flights
use Rattle.mutex_core.specs.MutexMachine.{State, arrived, at_place, next, place_of, resumed, start, still, tried, unlocked}
use Rattle.mutex_core.proofs.Validity.{state}
use Rattle.workload.specs.declared.object.ObjectKind.{ObjectKind}
use Rattle.workload.specs.declared.object.ObjectKind.TheVariants as kinds
use Rattle.workload.specs.declared.object.ObjectLine.{ObjectLine}
use Rattle.workload.specs.Plan.{Plan}
use Rattle.run_record.specs.declared.entered.ObjectEvent.{ObjectEvent}
use Rattle.run_record.specs.declared.entered.ObjectEvent.TheVariants as object_events
use Rattle.run_record.specs.declared.entered.ObjectReply.{ObjectReply}
use Rattle.run_record.specs.declared.entered.ObjectReply.TheVariants as object_replies
use Rattle.run_record.specs.declared.made.Made.TheVariants.{Entered}
use Rattle.run_record.specs.Calls.{IsJournalOf}
use Rattle.run_record.specs.Explains.{IsRecordOf}
use Rattle.run_record.specs.Parts.{lifted_deed}
use Rattle.run_record.specs.Record.{ObjectEntry, Record, journal_of, list_of, object_number}
use Rattle.run_check.proofs.ToldEntries.{MutexReplyIs}
use Rattle.run_check.proofs.ToldJournals.{in_journal, own_at, right_at}

-- ---- the machine

module _ (caller : ℕ) where
  abbrev Own : State × MutexReply → Type 0
  Own step = MutexReplyIs caller step.1

  own_arrived : (n : ℕ) (l k v : Bool) (q : List Waiter) (f : Flight) (now : ℕ) → Own (arrived (state n l k v q f) caller now)
  own_arrived n false k false q f now = tt
  own_arrived n true k v q f now = refl
  own_arrived n false k true q f now = refl

  own_tried : (n : ℕ) (l k v : Bool) (q : List Waiter) (f : Flight) → Own (tried (state n l k v q f))
  own_tried n false k false q f = tt
  own_tried n true k v q f = tt
  own_tried n false k true q f = tt

  own_unlocked : (n : ℕ) (l k v : Bool) (q : List Waiter) (f : Flight) → Own (unlocked (state n l k v q f))
  own_unlocked n false k v q f = tt
  own_unlocked n true k v [] f = tt
  own_unlocked n true k true (w ∷ q) f = tt
  own_unlocked n true true false (w ∷ q) f = tt
  own_unlocked n true false false (w ∷ q) f = tt

  own_resumed : (n : ℕ) (l k v : Bool) (q : List Waiter) (f : Flight) (now : ℕ) → Own (resumed f q now (state n l k v q f))
  own_resumed n l k v q flights.Nobody now = tt
  own_resumed n l k v [] flights.Handed now = tt
  own_resumed n l k v (w ∷ q) flights.Handed now = tt
  own_resumed n true k v q (flights.Woken w) now = tt
  own_resumed n false k v q (flights.Woken w) now = tt

  own_at_place : (e : MutexEvent) (p : Place) (s : State) → Own (at_place e p caller s)
  own_at_place (events.Arrive now) places.Out s = own_arrived s.callers s.locked s.woken s.starving s.queue s.flight now
  own_at_place (events.Arrive now) _ s = tt
  own_at_place events.Try places.Out s = own_tried s.callers s.locked s.woken s.starving s.queue s.flight
  own_at_place events.Try _ s = tt
  own_at_place events.Unlock _ s = own_unlocked s.callers s.locked s.woken s.starving s.queue s.flight
  own_at_place (events.Woken now) places.Woken s = own_resumed s.callers s.locked s.woken s.starving s.queue s.flight now
  own_at_place (events.Woken now) places.Handed s = own_resumed s.callers s.locked s.woken s.starving s.queue s.flight now
  own_at_place (events.Woken now) _ s = tt

  own_ticket : (s : State) (e : MutexEvent) → Own (next s caller e)
  own_ticket s e = by_test (nat_lt caller s.callers) where
    by_test : (b : Bool) → Own (if b then at_place e (place_of s caller) caller s else still s)
    by_test true = own_at_place e (place_of s caller) s
    by_test false = tt

-- ---- the record

-- a ticket that is told in a deed is the caller's number
abbrev TicketIs : ℕ → Deed ObjectEvent ObjectReply → Type 0
TicketIs caller (Event event (object_replies.Mutex reply)) = MutexReplyIs caller reply
TicketIs caller deed = Unit {0}

ticket_right : (s : State) (h : Option Misuse) (caller : ℕ) (deed : Deed MutexEvent MutexReply) → Right next true s h caller deed → TicketIs caller (lifted_deed object_events.Mutex object_replies.Mutex deed)
ticket_right s h caller (Event e r) right = subst (MutexReplyIs caller) (sym right.1) (own_ticket caller s e)
ticket_right s h caller (Refused e misuse) right = tt
ticket_right s h caller (Halt misuse) right = tt

module _ (plan : Plan) (r : Record) (lawful : IsRecordOf plan r) where
  -- who queues at a mutex gets a ticket of its own number
  pub tickets : (worker i place : ℕ) (object : ObjectLine) (entry : ObjectEntry) (event : ObjectEvent) (reply : MutexReply) → slice_get plan.objects place ≡ Some object → object.kind ≡ kinds.Mutex
      → slice_get (list_of r worker) i ≡ Some (Entered (object_number place) entry) → entry.deed ≡ Event event (object_replies.Mutex reply) → MutexReplyIs worker reply
  tickets worker i place object entry event reply there kind at deed =
      let number = object_number place in
      let (k, in_it, caller) = in_journal plan r lawful worker i number entry at in
      let (own, are, follows, keeps) = subst (λ (k : ObjectKind). IsJournalOf plan place k (journal_of r number)) kind (lawful.journals place object there) in
      let (x, at_x, same) = own_at object_events.Mutex object_replies.Mutex (journal_of r number) own are k entry in_it in
      let (s, h, right) = right_at next true (start plan.workers) None own k x follows at_x in
      let ticket : TicketIs entry.caller entry.deed = subst (λ (e : ObjectEntry). TicketIs e.caller e.deed) same (ticket_right s h x.caller x.deed right) in
      subst (λ (c : ℕ). MutexReplyIs c reply) caller (subst (TicketIs entry.caller) deed ticket)
