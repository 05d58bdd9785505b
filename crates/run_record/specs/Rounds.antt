-- What a `waitfor` has made, by its items: rounds of a load and a wait, and a load behind them.
use Rattle.std.specs.Prelude.{◌≡◌, ℕ, ◌<◌, ◌≤◌, ◌==◌, Bool, true, false, ◌&&◌, List, [], ◌∷◌, ◌++◌, length, count_by, Some, Ok, slice_get}
use Rattle.std.specs.List.{AllByRecursion, flat_map}
use Rattle.script_calls.specs.declared.call.Call.{Call}
use Rattle.script_calls.specs.declared.call.ComposedCall.TheVariants.{WaitFor}
use Rattle.script_calls.specs.declared.call.Operation.TheVariants as operations
use Rattle.script_calls.specs.declared.call.Reply.{Reply}
use Rattle.script_calls.specs.declared.call.Reply.TheVariants as replies
use Rattle.sync_types.specs.SequentialAtomic.{is_same}
use Rattle.sync_types.specs.declared.atomic_object.AtomicCall.TheVariants.{Load}
use Rattle.sync_types.specs.declared.atomic_object.AtomicReply.{AtomicReply}
use Rattle.sync_types.specs.declared.atomic_object.AtomicReply.TheVariants.{Held}
use Rattle.sync_types.specs.declared.atomic_object.Number.{Number}
use Rattle.sync_types.specs.declared.misuse.Misuse.{Misuse}
use Rattle.sync_types.specs.declared.wait_call.CondCall.TheVariants.{Wait}
use Rattle.sync_model.specs.declared.answer.Answer.TheVariants.{Done}
use Rattle.sync_model.specs.declared.item.Item.{Item}
use Rattle.sync_model.specs.declared.item.SharedCall.TheVariants as shared
use Rattle.sync_model.specs.declared.item.SharedReply.{SharedReply}
use Rattle.sync_model.specs.declared.item.SharedReply.TheVariants as answers
use Rattle.sync_model.specs.declared.journal.Deed.{Deed}
use Rattle.sync_model.specs.declared.journal.Deed.TheVariants.{Event}
use Rattle.mutex_core.specs.declared.event.MutexEvent.TheVariants as on_mutex
use Rattle.mutex_core.specs.declared.reply.MutexReply.TheVariants as mutex_answers
use Rattle.mutex_core.specs.declared.reply.Unlocking.TheVariants as unlocking
use Rattle.protocols.specs.Spelling.{CallAnswer}
use Rattle.wait_cores.specs.declared.notify.NotifyEvent.TheVariants.{Ticket}
use Rattle.workload.specs.declared.object.ObjectKind.TheVariants as kinds
use Rattle.workload.specs.declared.object.ObjectLine.{ObjectLine}
use Rattle.workload.specs.Plan.{Plan}
use Rattle.run_record.specs.declared.entered.ObjectEvent.{ObjectEvent}
use Rattle.run_record.specs.declared.entered.ObjectEvent.TheVariants as event
use Rattle.run_record.specs.declared.entered.ObjectReply.{ObjectReply}
use Rattle.run_record.specs.declared.entered.ObjectReply.TheVariants as reply
use Rattle.run_record.specs.declared.made.Made.{Made}
use Rattle.run_record.specs.declared.made.Made.TheVariants.{Shared, Entered}
use Rattle.run_record.specs.CondKind.{cond_call}
use Rattle.run_record.specs.Record.{ObjectEntry}

-- The call is a `waitfor` on a cond, whose mutex is the object at this place: of the atomic at that place, this number, and so many waits
pub record IsWaitFor (plan : Plan) (call : Call) (mutex atomic : ℕ) (value : Number) (tries : ℕ) : Type 0 where
  pub object : ObjectLine
  pub there : slice_get plan.objects call.object ≡ Some object
  pub on_cond : object.kind ≡ kinds.Cond mutex
  pub waits_for : call.operation ≡ operations.Composed (WaitFor atomic value tries)

-- the item is a load of the atomic
abbrev pub IsLoadOf : ℕ → Item → Type 0
IsLoadOf a x = (given : AtomicReply) × (x.call ≡ shared.Atomic a Load) × (x.reply ≡ answers.Atomic given)

-- whether a reply shows the number
abbrev pub shows_number : Number → SharedReply → Bool
shows_number value (answers.Atomic (Held number)) = is_same number value
shows_number value other = false

-- whether a load found the number
abbrev pub finds : Number → Item → Bool
finds value x = shows_number value x.reply

-- a round: a load, and what the wait behind it made
pub record Round : Type 0 where
  pub look : Item
  pub waited : List Made

abbrev pub round_items : Round → List Made
round_items round = Shared round.look ∷ round.waited

-- the load found another number, and the `wait` on the cond returned
pub record IsRound (cond mutex a : ℕ) (value : Number) (round : Round) : Type 0 where
  pub loads : IsLoadOf a round.look
  pub misses : finds value round.look ≡ false
  pub waits : cond_call cond mutex Wait round.waited (Done (Ok replies.Returned))

-- A `waitfor` that returned: rounds, no more than it may make waits, and a last load. `met` is whether that one found the number; where it didn't, all waits were made.
pub record HasWaited (cond mutex a : ℕ) (value : Number) (tries : ℕ) (met : Bool) (items : List Made) : Type 0 where
  pub rounds : List Round
  pub last : Item
  pub are : items ≡ flat_map round_items rounds ++ Shared last ∷ []
  pub each : AllByRecursion (IsRound cond mutex a value) rounds
  pub loads : IsLoadOf a last
  pub found : finds value last ≡ met
  pub few : length rounds ≤ tries
  pub all_made : met ≡ false → length rounds ≡ tries

-- A `waitfor` that didn't return: rounds, a load that found another number, and a `wait` that answers this
pub record HasStopped (cond mutex a : ℕ) (value : Number) (tries : ℕ) (answer : CallAnswer (Reply ℕ)) (items : List Made) : Type 0 where
  pub rounds : List Round
  pub look : Item
  pub waited : List Made
  pub are : items ≡ flat_map round_items rounds ++ Shared look ∷ waited
  pub each : AllByRecursion (IsRound cond mutex a value) rounds
  pub loads : IsLoadOf a look
  pub misses : finds value look ≡ false
  pub stops : cond_call cond mutex Wait waited answer
  pub few : length rounds < tries

-- the last item is an unlock of the mutex that is this misuse
pub record EndsUnlocking (mutex : ℕ) (misuse : Misuse) (items : List Made) : Type 0 where
  pub earlier : List Made
  pub last : ObjectEntry
  pub are : items ≡ earlier ++ Entered mutex last ∷ []
  pub deed : last.deed ≡ Event (event.Mutex on_mutex.Unlock) (reply.Mutex (mutex_answers.Unlocked (unlocking.Misuse misuse)))

-- whether a deed takes a ticket of a cond
abbrev pub is_ticket : Deed ObjectEvent ObjectReply → Bool
is_ticket (Event (event.Cond Ticket) answer) = true
is_ticket deed = false

abbrev pub is_ticket_of : ℕ → Made → Bool
is_ticket_of cond (Shared x) = false
is_ticket_of cond (Entered object entry) = is_ticket entry.deed && object == cond

-- how many tickets of the cond that is this object are taken by items
abbrev pub tickets_of : ℕ → List Made → ℕ
tickets_of cond items = count_by (is_ticket_of cond) items
