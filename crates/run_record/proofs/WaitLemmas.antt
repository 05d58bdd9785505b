-- The entries of conds and wait groups in a journal, by their deeds.
use Rattle.std.proofs.Common.{◌≡◌, ◌⊎◌, inl, inr, Bool, true, false, refl, ap}
use Rattle.std.proofs.lemmas.Bool.{false≢true}
use Rattle.sync_model.specs.declared.journal.Deed.{Deed}
use Rattle.sync_model.specs.declared.journal.Deed.TheVariants.{Event, Refused, Halt}
use Rattle.sync_model.specs.Journal.{is_such}
use Rattle.wait_cores.specs.declared.notify.NotifyEvent.{NotifyEvent}
use Rattle.wait_cores.specs.declared.notify.NotifyEvent.TheVariants.{Ticket, Signal, Broadcast, Leave}
use Rattle.wait_cores.specs.declared.notify.NotifyReply.{NotifyReply}
use Rattle.wait_cores.specs.declared.notify.NotifyReply.TheVariants.{Done, Still}
use Rattle.wait_cores.specs.NotifyEdges.{notify_releases}
use Rattle.run_record.specs.declared.entered.ObjectEvent.{ObjectEvent}
use Rattle.run_record.specs.declared.entered.ObjectEvent.TheVariants as event
use Rattle.run_record.specs.declared.entered.ObjectReply.{ObjectReply}
use Rattle.run_record.specs.declared.entered.ObjectReply.TheVariants as reply
use Rattle.run_record.specs.Parts.{lifted_deed}

abbrev lifted : Deed NotifyEvent NotifyReply → Deed ObjectEvent ObjectReply
lifted d = lifted_deed event.Cond reply.Cond d

-- the deed of a cond that is lifted to this event is the event
pub of_cond : (d : Deed NotifyEvent NotifyReply) (e : NotifyEvent) (r : NotifyReply) → lifted d ≡ Event (event.Cond e) (reply.Cond r) → d ≡ Event e r
of_cond (Event f s) e r is = ap read is where
  read : Deed ObjectEvent ObjectReply → Deed NotifyEvent NotifyReply
  read (Event (event.Cond g) (reply.Cond t)) = Event g t
  read d = Event f s
of_cond (Refused f m) e r is = absurd (false≢true (ap is_event is)) where
  is_event : Deed ObjectEvent ObjectReply → Bool
  is_event (Event g t) = true
  is_event (Refused g n) = false
  is_event (Halt n) = false
of_cond (Halt m) e r is = absurd (false≢true (ap is_event is)) where
  is_event : Deed ObjectEvent ObjectReply → Bool
  is_event (Event g t) = true
  is_event (Refused g n) = false
  is_event (Halt n) = false

-- what releases at a cond is a signal or a broadcast
abbrev IsNotice : Deed ObjectEvent ObjectReply → Type 0
IsNotice d = (d ≡ Event (event.Cond Signal) (reply.Cond Done)) ⊎ (d ≡ Event (event.Cond Broadcast) (reply.Cond Done))

pub notice : (d : Deed NotifyEvent NotifyReply) → is_such notify_releases d ≡ true → IsNotice (lifted d)
notice (Event Signal Done) is = inl refl
notice (Event Broadcast Done) is = inr refl
notice (Event Signal Still) is = absurd (false≢true is)
notice (Event Broadcast Still) is = absurd (false≢true is)
notice (Event Ticket r) is = absurd (false≢true is)
notice (Event Leave r) is = absurd (false≢true is)
notice (Refused e m) is = absurd (false≢true is)
notice (Halt m) is = absurd (false≢true is)
