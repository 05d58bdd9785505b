-- Which events each call of a worker makes, in order, and how it answers by them.
use Rattle.std.specs.Prelude.{◌≡◌, ℕ, Bool, true, false, List, [], ◌∷◌, ◌++◌, replicate}
use Rattle.sync_model.specs.declared.answer.Answer.{Answer}
use Rattle.sync_model.specs.declared.answer.Answer.TheVariants.{Done, Halted}
use Rattle.sync_model.specs.declared.journal.Deed.{Deed}
use Rattle.sync_model.specs.declared.journal.Deed.TheVariants.{Event, Refused}
use Rattle.sync_model.specs.Front.{Front}
use Rattle.starts_core.specs.declared.starts.StartEvent.{StartEvent}
use Rattle.starts_core.specs.declared.starts.StartEvent.TheVariants.{Leave}
use Rattle.starts_core.specs.declared.starts.StartReply.{StartReply}
use Rattle.starts_core.specs.declared.starts.StartReply.TheVariants as reply
use Rattle.starts_core.specs.StartsMachine.{next}
use Rattle.go_locks.specs.Calls.{Did}
use Rattle.go_waits.specs.declared.starts.Starts.{Starts}
use Rattle.go_waits.specs.Startings.{StartsPass, start_of}

abbrev pub StartDeeds : Type 0
StartDeeds = List (Deed StartEvent StartReply)

-- a start and an end are one event each, which is made wherever the caller stands
abbrev pub MakesStart : StartEvent → StartDeeds → Answer Unit → Type 0
MakesStart event deeds (Done done) = deeds ≡ Event event reply.Done ∷ []
MakesStart event deeds (Halted misuse) = deeds ≡ Refused event misuse ∷ []

-- a worker asked any number of times and had to wait, and then was told by this deed
abbrev pub ToldBy : Deed StartEvent StartReply → StartDeeds → Type 0
ToldBy last deeds = (tries : ℕ) × (deeds ≡ replicate tries (Event Leave reply.Still) ++ last ∷ [])

-- a worker waits until it is told to go, or that it never will be
abbrev pub WaitsStart : StartDeeds → Answer Bool → Type 0
WaitsStart deeds (Done true) = ToldBy (Event Leave reply.Go) deeds
WaitsStart deeds (Done false) = ToldBy (Event Leave reply.Never) deeds
WaitsStart deeds (Halted misuse) = ToldBy (Refused Leave misuse) deeds

-- what a call did on the starts: these events, each at its place, and it answered by them
abbrev pub StartsDid : {N H A : Type 0} → Starts N H → (StartDeeds → Answer A → Type 0) → StartsPass N → Front → Answer A → StartsPass N → Front → Type 0
StartsDid starts spells old from answer new to = Did next (start_of starts) spells (λ deeds. Unit {0}) old from answer new to
