-- What the turn of a `go` comes to.
use Rattle.std.specs.Prelude.{◌≡◌, ℕ, pos, ◌+◌, ◌^◌, ◌<◌, ◌≤◌, List, [], ◌∷◌, length, slice_get, Some}
use Rattle.script_calls.specs.declared.call.Call.{Call}
use Rattle.script_calls.specs.declared.call.Reply.TheVariants.{Returned}
use Rattle.wait_cores.specs.GroupMachine.{GroupState}
use Rattle.wait_cores.specs.declared.group.GroupEvent.TheVariants.{Add}
use Rattle.wait_cores.specs.declared.group.GroupReply.{GroupReply}
use Rattle.wait_cores.specs.declared.group.GroupReply.TheVariants as group_replies
use Rattle.run_record.specs.declared.entered.ObjectEvent.TheVariants as events
use Rattle.run_record.specs.declared.entered.ObjectReply.TheVariants as answered
use Rattle.step_runner.specs.declared.turns.answer.Answer.{Answer}
use Rattle.step_runner.specs.declared.turns.answer.Answer.TheVariants as answers
use Rattle.step_runner.specs.declared.turns.object_state.ObjectState.{ObjectState}
use Rattle.step_runner.specs.declared.turns.object_state.ObjectState.TheVariants as states
use Rattle.step_runner.specs.declared.turns.item.Deed.TheVariants as deeds
use Rattle.step_runner.specs.declared.turns.item.Item.{Item}
use Rattle.step_runner.specs.TurnWithin.{start_item}

module _ (call : Call) (worker started : ℕ) where
  -- among these objects the call's wait group has this counter
  abbrev pub HasCounter : List ObjectState → ℕ → Type 0
  HasCounter objects counter = (g : GroupState) × (first : ℕ) × (slice_get objects call.object ≡ Some (states.WaitGroup g first)) × (g.counter ≡ counter)

  -- the group is asked to add 1, and answers this
  abbrev pub add_item : GroupReply → Item
  add_item reply = record { object = call.object; caller = worker; deed = deeds.Entered (events.WaitGroup (Add (pos 1))) (answered.WaitGroup reply) }

  module _ (old new : List ObjectState) (made : List Item) where
    -- the sum is the counter
    abbrev pub IsRaised : Type 0
    IsRaised = (counter : ℕ) × HasCounter old counter × HasCounter new (counter + 1) × (counter + 1 < 2 ^ 31)

    -- the sum may be no counter, and nothing changes
    abbrev pub IsFull : Type 0
    IsFull = (counter : ℕ) × HasCounter old counter × (2 ^ 31 ≤ counter + 1) × (new ≡ old)

    -- The turn completes the call: the group has added 1, and then the worker is started. Or the call is the misuse of the `add`, and nobody is started
    abbrev pub HasGone : Answer → Type 0
    HasGone answers.Still = ⊥
    HasGone answers.Unfinished = ⊥
    HasGone (answers.Completed reply) = (reply ≡ Returned) × IsRaised × (made ≡ add_item group_replies.Done ∷ start_item worker (length old) started ∷ [])
    HasGone (answers.Misused misuse) = IsFull × (made ≡ add_item (group_replies.Misused misuse) ∷ [])
