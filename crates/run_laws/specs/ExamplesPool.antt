-- Worker 0 puts 5 into a pool `p` and gets an item. The pool's parts are objects 2 and 3.
use Rattle.std.specs.Prelude.{ℕ, [], ◌∷◌}
use Rattle.pool_core.specs.declared.pool_event.PoolEvent.TheVariants.{Put, LookOwn}
use Rattle.pool_core.specs.declared.pool_event.PoolReply.TheVariants.{Kept, Item}
use Rattle.script_calls.specs.declared.call.Operation.TheVariants as operations
use Rattle.script_calls.specs.declared.call.Reply.TheVariants as replies
use Rattle.script_calls.specs.declared.outcome.Outcome.{Outcome}
use Rattle.sync_types.specs.declared.pool_call.PoolCall.TheVariants as calls
use Rattle.sync_types.specs.declared.pool_call.PoolCallReply.TheVariants as answers
use Rattle.workload.specs.declared.object.ObjectKind.TheVariants.{Pool}
use Rattle.workload.specs.Plan.{Plan}
use Rattle.run_record.specs.declared.entered.ObjectEvent.TheVariants as event
use Rattle.run_record.specs.declared.entered.ObjectReply.TheVariants as reply
use Rattle.run_record.specs.declared.made.Made.TheVariants.{Entered}
use Rattle.run_record.specs.Record.{Record, ObjectEntry}
use Rattle.run_laws.specs.Examples.{declared, on, plan_of, returned, entry, record_of}

abbrev pub plan : Plan
plan = plan_of (declared 112 Pool ∷ []) (on 0 (operations.Pool (calls.Put 5)) ∷ on 0 (operations.Pool calls.Get) ∷ []) []

-- the get replies this item
abbrev pub outcome : ℕ → Outcome
outcome item = returned (replies.Pool answers.Done ∷ replies.Pool (answers.Put item) ∷ []) []

-- worker 0 puts 5 into its own part, and takes this item out of it
abbrev pub puts : ObjectEntry
puts = entry 0 (event.Pool (Put 5)) (reply.Pool Kept)

abbrev pub takes : ℕ → ObjectEntry
takes item = entry 0 (event.Pool LookOwn) (reply.Pool (Item item))

-- it gets 5, if this is the item, and else one that nobody put
abbrev pub got : ℕ → Record
got item = record_of ([] ∷ (puts ∷ takes item ∷ []) ∷ [] ∷ []) (Entered 2 puts ∷ Entered 2 (takes item) ∷ []) []
