-- The items of a run by schedule in the words of a record. A spelling says nothing of places and fronts, so they are left out.
use Rattle.std.specs.Prelude.{ℕ, ◌+◌, false, List, [], ◌∷◌, ◌++◌, map, length}
use Rattle.std.specs.List.{range_with_len}
use Rattle.script_calls.specs.Outcome.{with_keys_renamed}
use Rattle.sync_types.specs.Renaming.{renamed_call}
use Rattle.script_calls.specs.declared.call.Operation.{Operation}
use Rattle.script_calls.specs.declared.call.Operation.TheVariants as operations
use Rattle.script_calls.specs.declared.call.Reply.{Reply}
use Rattle.script_calls.specs.declared.call.Reply.TheVariants as replies
use Rattle.sync_model.specs.declared.item.SharedCall.{SharedCall}
use Rattle.sync_model.specs.declared.item.SharedCall.TheVariants as calls
use Rattle.sync_model.specs.declared.item.SharedReply.{SharedReply}
use Rattle.sync_model.specs.declared.item.SharedReply.TheVariants as answers
use Rattle.sync_model.specs.declared.journal.Deed.TheVariants.{Event}
use Rattle.pool_core.specs.declared.pool_event.PoolEvent.{PoolEvent}
use Rattle.pool_core.specs.declared.pool_event.PoolEvent.TheVariants.{Sweep}
use Rattle.workload.specs.Keys.{keys_in, key_number}
use Rattle.workload.specs.Plan.{Plan}
use Rattle.run_record.specs.MapKind.{cursor_showing}
use Rattle.run_record.specs.Objects.{map_number, atomic_number, first_part, starts_number}
use Rattle.run_record.specs.PoolKind.{part_of}
use Rattle.run_record.specs.Record.{object_number, shared_in}
use Rattle.run_record.specs.declared.entered.ObjectEvent.{ObjectEvent}
use Rattle.run_record.specs.declared.entered.ObjectEvent.TheVariants as events
use Rattle.run_record.specs.declared.entered.ObjectReply.{ObjectReply}
use Rattle.run_record.specs.declared.made.Made.{Made}
use Rattle.run_record.specs.declared.made.Made.TheVariants.{Shared, Entered}
use Rattle.step_runner.specs.declared.turns.item.Deed.{Deed}
use Rattle.step_runner.specs.declared.turns.item.Deed.TheVariants as deeds
use Rattle.step_runner.specs.declared.turns.item.Item.{Item}

-- a reply in a record has the numbers of its keys
abbrev pub recorded_reply : Plan → Reply (List ℕ) → Reply ℕ
recorded_reply plan reply = with_keys_renamed (key_number (keys_in plan.scripts)) reply

module _ (plan : Plan) where
  -- what a placed call is in a record, of a worker that has made so many calls on maps and atomics before. A `range` is a cursor that shows its pairs in order
  abbrev pub shared_calls : ℕ → ℕ → Operation → Reply (List ℕ) → List (SharedCall × SharedReply)
  shared_calls before place (operations.Map call) (replies.Map reply) = (calls.Map (map_number plan.objects place) (renamed_call (key_number (keys_in plan.scripts)) call), answers.Map reply) ∷ []
  shared_calls before place operations.Range (replies.Pairs pairs) =
      cursor_showing (keys_in plan.scripts) (map_number plan.objects place) before (map (λ pair. (key_number (keys_in plan.scripts) pair.0, pair.1)) pairs)
  shared_calls before place (operations.Atomic call) (replies.Atomic reply) = (calls.Atomic (atomic_number plan.objects place) call, answers.Atomic reply) ∷ []
  shared_calls before place operation reply = []

  abbrev pub made_shared : SharedCall × SharedReply → Made
  made_shared x = Shared (record { call = x.0; reply = x.1; place = 0; entry = false; front = [] })

  -- an event of a caller on the object with a number
  abbrev pub made_on : ℕ → ℕ → ObjectEvent → ObjectReply → Made
  made_on object caller event answer = Entered object (record { caller = caller; deed = Event event answer; front = []; knew = 0; time = 0 })

  -- An event of a pool is one on the part that it is about, and a sweep one on each part. The pool answers it as the part does: `pool_core::part_laws::a_pool_is_its_parts`
  abbrev pub recorded_pool_event : ℕ → ℕ → PoolEvent ℕ → ObjectReply → List Made
  recorded_pool_event place caller Sweep answer = map (λ part. made_on (first_part plan place + part) caller (events.Pool Sweep) answer) (range_with_len 0 plan.workers)
  recorded_pool_event place caller event answer = made_on (first_part plan place + part_of caller event) caller (events.Pool event) answer ∷ []

  -- an event on Starts has the number of Starts, which stands behind all objects
  abbrev pub recorded_event : ℕ → ℕ → ObjectEvent → ObjectReply → List Made
  recorded_event place caller (events.Pool event) answer = recorded_pool_event place caller event answer
  recorded_event place caller (events.Starts event) answer = made_on (starts_number plan) caller (events.Starts event) answer ∷ []
  recorded_event place caller event answer = made_on (object_number place) caller event answer ∷ []

  abbrev pub recorded_deed : ℕ → ℕ → ℕ → Deed → List Made
  recorded_deed before place caller (deeds.Placed operation reply) = map made_shared (shared_calls before place operation reply)
  recorded_deed before place caller (deeds.Entered event answer) = recorded_event place caller event answer

  abbrev pub recorded_item : ℕ → Item → List Made
  recorded_item before item = recorded_deed before item.object item.caller item.deed

  -- the items of one worker, who has made so many calls on maps and atomics before
  abbrev pub recorded : ℕ → List Item → List Made
  recorded before [] = []
  recorded before (item ∷ items) = recorded_item before item ++ recorded (before + length (shared_in (recorded_item before item))) items
