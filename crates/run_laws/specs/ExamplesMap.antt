-- Worker 0 stores 5 at the key `k` of a map `m`, and worker 1 loads it.
use Rattle.std.specs.Prelude.{ℕ, true, false, List, [], ◌∷◌, Some}
use Rattle.script_calls.specs.declared.call.Operation.TheVariants as operations
use Rattle.script_calls.specs.declared.call.Reply.TheVariants as replies
use Rattle.script_calls.specs.declared.outcome.Outcome.{Outcome}
use Rattle.script_calls.specs.declared.outcome.Outcome.TheVariants as outcomes
use Rattle.sync_model.specs.declared.item.Item.{Item}
use Rattle.sync_model.specs.declared.item.SharedCall.TheVariants as shared
use Rattle.sync_model.specs.declared.item.SharedEntry.{SharedEntry}
use Rattle.sync_model.specs.declared.item.SharedReply.TheVariants as shared_replies
use Rattle.sync_types.specs.declared.end.End.TheVariants.{Pair}
use Rattle.sync_types.specs.declared.map_object.MapCall.TheVariants.{Load, Store}
use Rattle.sync_types.specs.declared.map_object.MapReply.TheVariants.{Done, Found}
use Rattle.workload.specs.declared.object.ObjectKind.TheVariants.{Map}
use Rattle.workload.specs.Plan.{Plan}
use Rattle.run_record.specs.declared.made.Made.TheVariants.{Shared}
use Rattle.run_record.specs.Record.{Record}
use Rattle.run_laws.specs.Examples.{declared, on, plan_of, none_known}

abbrev pub key : List ℕ
key = 107 ∷ []

abbrev pub plan : Plan
plan = plan_of (declared 109 Map ∷ []) (on 0 (operations.Map (Store key 5)) ∷ []) (on 0 (operations.Map (Load key)) ∷ [])

-- the load finds this value, and the map has 5 at the end; `k` is key 0
abbrev pub outcome : ℕ → Outcome
outcome value = outcomes.Done (record { replies = (replies.Map Done ∷ []) ∷ (replies.Map (Found (Some value)) ∷ []) ∷ []; ends = Pair 0 0 5 ∷ [] })

-- the store is the one entry of the history, and the load stands behind it
abbrev pub stores : Item
stores = record { call = shared.Map 0 (Store 0 5); reply = shared_replies.Map Done; place = 0; entry = true; front = none_known }

abbrev pub loads : ℕ → Item
loads value = record { call = shared.Map 0 (Load 0); reply = shared_replies.Map (Found (Some value)); place = 1; entry = false; front = none_known }

abbrev pub stored : SharedEntry
stored = record { caller = 0; call = shared.Map 0 (Store 0 5); reply = shared_replies.Map Done }

-- it finds 5, if this is the value, and else one that nobody stored
abbrev pub found : ℕ → Record
found value = record { history = stored ∷ []; journals = [] ∷ [] ∷ []; lists = (Shared stores ∷ []) ∷ (Shared (loads value) ∷ []) ∷ [] }
