-- Which events each call of a WaitGroup makes, in order, and how it answers by them.
use Rattle.std.specs.Prelude.{◌≡◌, ◌⊎◌, ℕ, ℤ, List, [], ◌∷◌, ◌++◌, replicate, Result, Ok, Err}
use Rattle.sync_types.specs.declared.misuse.Misuse.{Misuse}
use Rattle.sync_model.specs.declared.answer.Answer.{Answer}
use Rattle.sync_model.specs.declared.answer.Answer.TheVariants.{Done, Halted}
use Rattle.sync_model.specs.declared.journal.Deed.{Deed}
use Rattle.sync_model.specs.declared.journal.Deed.TheVariants.{Event, Refused}
use Rattle.wait_cores.specs.declared.group.GroupEvent.{GroupEvent}
use Rattle.wait_cores.specs.declared.group.GroupEvent.TheVariants.{Add, Wait, Leave}
use Rattle.wait_cores.specs.declared.group.GroupReply.{GroupReply}
use Rattle.wait_cores.specs.declared.group.GroupReply.TheVariants as reply

abbrev pub GroupDeeds : Type 0
GroupDeeds = List (Deed GroupEvent GroupReply)

-- an add is one event, and a misuse exactly where that is one
abbrev pub Adds : ℤ → GroupDeeds → Answer (Result Unit Misuse) → Type 0
Adds delta deeds (Done (Ok done)) = deeds ≡ Event (Add delta) reply.Done ∷ []
Adds delta deeds (Done (Err misuse)) = deeds ≡ Event (Add delta) (reply.Misused misuse) ∷ []
Adds delta deeds (Halted misuse) = deeds ≡ Refused (Add delta) misuse ∷ []

-- a caller was queued, tried any number of times to leave before it was released, and left by this deed
abbrev pub LeavesBy : Deed GroupEvent GroupReply → GroupDeeds → Type 0
LeavesBy last deeds = (tries : ℕ) × (deeds ≡ Event Wait reply.Queued ∷ (replicate tries (Event Leave reply.Still) ++ last ∷ []))

-- A wait is one event where the counter is 0, and else the leaving after it; a misuse exactly where the leaving is one.
abbrev pub Waits : GroupDeeds → Answer (Result Unit Misuse) → Type 0
Waits deeds (Done (Ok done)) = (deeds ≡ Event Wait reply.Done ∷ []) ⊎ LeavesBy (Event Leave reply.Done) deeds
Waits deeds (Done (Err misuse)) = LeavesBy (Event Leave (reply.Misused misuse)) deeds
Waits deeds (Halted misuse) = (deeds ≡ Refused Wait misuse ∷ []) ⊎ LeavesBy (Refused Leave misuse) deeds
