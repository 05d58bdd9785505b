-- What a text can say of the entries of a once. A once keeps a value, which its events and answers have, and which no text says: another value stands in its place.
use Rattle.std.specs.Prelude.{◌≡◌, true, List, map, Option, Some, None}
use Rattle.sync_types.specs.declared.misuse.Misuse.{Misuse}
use Rattle.sync_model.specs.Journal.{Follows}
use Rattle.wait_cores.specs.OnceMachine.{OnceState, next}
use Rattle.sync_model.specs.declared.journal.Deed.{Deed}
use Rattle.sync_model.specs.declared.journal.Deed.TheVariants.{Event, Refused, Halt}
use Rattle.sync_model.specs.declared.journal.Entry.{Entry}
use Rattle.wait_cores.specs.declared.once.OnceEvent.{OnceEvent}
use Rattle.wait_cores.specs.declared.once.OnceEvent.TheVariants.{Begin, End, Leave}
use Rattle.wait_cores.specs.declared.once.OnceReply.{OnceReply}
use Rattle.wait_cores.specs.declared.once.OnceReply.TheVariants as reply

module _ {T : Type 0} (other : T) where
  abbrev pub said_event : OnceEvent T → OnceEvent T
  said_event Begin = Begin
  said_event (End kept) = End other
  said_event Leave = Leave

  abbrev pub said_reply : OnceReply T → OnceReply T
  said_reply reply.Run = reply.Run
  said_reply reply.Queued = reply.Queued
  said_reply (reply.Done kept) = reply.Done other
  said_reply reply.Ended = reply.Ended
  said_reply (reply.Left kept) = reply.Left other
  said_reply reply.Still = reply.Still

  abbrev pub said_deed : Deed (OnceEvent T) (OnceReply T) → Deed (OnceEvent T) (OnceReply T)
  said_deed (Event e r) = Event (said_event e) (said_reply r)
  said_deed (Refused e misuse) = Refused (said_event e) misuse
  said_deed (Halt misuse) = Halt misuse

  -- the entry, with the other value in the place of what is kept
  abbrev pub said : Entry (OnceEvent T) (OnceReply T) → Entry (OnceEvent T) (OnceReply T)
  said entry = record { caller = entry.caller; deed = said_deed entry.deed; front = entry.front; knew = entry.knew; time = entry.time }

module _ {E R : Type 0} where
  -- the event of a deed
  abbrev pub event_in : Deed E R → Option E
  event_in (Event e r) = Some e
  event_in (Refused e misuse) = Some e
  event_in (Halt misuse) = None

  abbrev pub event_of : Entry E R → Option E
  event_of entry = event_in entry.deed

-- It is told by the journal of a once, from a state on where a misuse may stand: by one with the same events, of which the same is said. Its values are those that the machine answers
pub record IsToldBy {T : Type 0} (other : T) (state : OnceState T) (halted : Option Misuse) (own : List (Entry (OnceEvent T) (OnceReply T))) : Type 0 where
  pub whole : List (Entry (OnceEvent T) (OnceReply T))
  pub follows : Follows next true state halted whole
  pub alike : map (said other) whole ≡ map (said other) own
  pub events : map event_of whole ≡ map event_of own
