-- What a lock knows by its last event, and what an unlock tells by its own.
use Rattle.std.proofs.Common.{◌≡◌, ℕ, Bool, true, false, List, [], ◌∷◌, ◌++◌, Result, Ok, Err, refl}
use Rattle.sync_types.specs.declared.misuse.Misuse.{Misuse}
use Rattle.sync_model.specs.declared.answer.Answer.{Answer}
use Rattle.sync_model.specs.declared.answer.Answer.TheVariants.{Done, Halted}
use Rattle.sync_model.specs.declared.journal.Deed.TheVariants.{Event, Refused}
use Rattle.sync_model.specs.Front.{Front}
use Rattle.sync_model.specs.Journal.{is_such}
use Rattle.mutex_core.specs.declared.event.MutexEvent.{MutexEvent}
use Rattle.mutex_core.specs.declared.event.MutexEvent.TheVariants.{Arrive, Try, Unlock, Woken}
use Rattle.mutex_core.specs.declared.reply.MutexReply.{MutexReply}
use Rattle.mutex_core.specs.declared.reply.MutexReply.TheVariants.{Arrived, Tried, Unlocked, Resumed}
use Rattle.mutex_core.specs.declared.reply.Arrival.TheVariants.{Acquired as AtOnce}
use Rattle.mutex_core.specs.declared.reply.Resumption.TheVariants.{Acquired}
use Rattle.mutex_core.specs.declared.reply.Unlocking.TheVariants.{Free, Woke, Handed, Misuse as IsMisuse}
use Rattle.mutex_core.specs.MutexMachine.{State, next}
use Rattle.ruled_object.specs.declared.pass.Pass.{Pass}
use Rattle.ruled_object.specs.Growth.{IsLawful, deeds_of}
use Rattle.go_locks.specs.Calls.{Did}
use Rattle.go_locks.specs.MutexCalls.{MutexDeed, Locks, at_once, refused, acquired, halted, Tries, tried, Unlocks, unlocked, AreClocked}
use Rattle.synced_map.specs.SyncedCalls.{locks, unlocks}
use Rattle.synced_map.specs.Telling.{KnowsBy, Tells}
use Rattle.synced_map.proofs.Telling.{knows_by, tells_by}

-- deeds that end with one by which their caller has the mutex
record EndLocked (ds : List MutexDeed) : Type 0 where
  pub first : List MutexDeed
  pub last : MutexDeed
  pub parts : ds ≡ first ++ last ∷ []
  pub has : is_such locks last ≡ true
  pub lets_go : is_such unlocks last ≡ false

end_locked : {ds : List MutexDeed} {answer : Answer (Unit {0})} → answer ≡ Done tt → Locks ds answer → EndLocked ds
end_locked is (at_once now) = record { first = []; last = Event (Arrive now) (Arrived AtOnce); parts = refl; has = refl; lets_go = refl }
end_locked is (refused now m) = cc
end_locked is (acquired deeds now waits) = record { first = deeds; last = Event (Woken now) (Resumed Acquired); parts = refl; has = refl; lets_go = refl }
end_locked is (halted deeds now m waits) = cc

end_tried : {ds : List MutexDeed} {answer : Answer Bool} → answer ≡ Done true → Tries ds answer → EndLocked ds
end_tried is (tried taken) = record { first = []; last = Event Try (Tried taken); parts = refl; has = cc; lets_go = refl }
end_tried is (refused m) = cc

-- an unlock that is no misuse is one deed, which lets the mutex go
record IsUnlock (ds : List MutexDeed) : Type 0 where
  pub deed : MutexDeed
  pub one : ds ≡ deed ∷ []
  pub lets_go : is_such unlocks deed ≡ true

is_unlock : {ds : List MutexDeed} {answer : Answer (Result (Unit {0}) Misuse)} → answer ≡ Done (Ok tt) → Unlocks ds answer → IsUnlock ds
is_unlock is (unlocked Free) = record { deed = Event Unlock (Unlocked Free); one = refl; lets_go = refl }
is_unlock is (unlocked (Woke ticket)) = record { deed = Event Unlock (Unlocked (Woke ticket)); one = refl; lets_go = refl }
is_unlock is (unlocked (Handed ticket)) = record { deed = Event Unlock (Unlocked (Handed ticket)); one = refl; lets_go = refl }
is_unlock is (unlocked (IsMisuse m)) = cc
is_unlock is (refused m) = cc

module _ {N : Type 0} (start : State) (shows : ℕ → Type 0) (old new : Pass State N MutexEvent MutexReply) (from to : Front) where
  knows : {A : Type 0} (spells : List MutexDeed → Answer A → Type 0) (answer : Answer A) (did : Did next start spells (AreClocked shows) old from answer new to) → IsLawful next true unlocks locks start new
      → EndLocked (deeds_of did.entries) → KnowsBy unlocks new to.counts
  knows spells answer did lawful end = knows_by next true unlocks locks start old new from to did.entries end.first end.last did.grows lawful.edges end.parts end.has end.lets_go

  pub lock_knows : (answer : Answer (Unit {0})) → Did next start Locks (AreClocked shows) old from answer new to → IsLawful next true unlocks locks start new → answer ≡ Done tt → KnowsBy unlocks new to.counts
  lock_knows answer did lawful is = knows Locks answer did lawful (end_locked is did.spelt)

  pub try_knows : (answer : Answer Bool) → Did next start Tries (AreClocked shows) old from answer new to → IsLawful next true unlocks locks start new → answer ≡ Done true → KnowsBy unlocks new to.counts
  try_knows answer did lawful is = knows Tries answer did lawful (end_tried is did.spelt)

  pub unlock_tells : (answer : Answer (Result (Unit {0}) Misuse)) → Did next start Unlocks (AreClocked shows) old from answer new to → answer ≡ Done (Ok tt) → Tells unlocks from.counts old new
  unlock_tells answer did is = let one = is_unlock is did.spelt in tells_by next true unlocks locks start old new from to did.entries one.deed did.grows one.one one.lets_go
