-- A small workload, what a run of it comes to, and a record that explains that. One worker stores 5 in an int64 and loads it.
use Rattle.std.specs.Prelude.{ℕ, pos, true, false, [], ◌∷◌}
use Rattle.sync_types.specs.declared.atomic_object.AtomicCall.TheVariants as calls
use Rattle.sync_types.specs.declared.atomic_object.AtomicKind.TheVariants as types
use Rattle.sync_types.specs.declared.atomic_object.AtomicReply.TheVariants as answers
use Rattle.sync_types.specs.declared.atomic_object.Number.TheVariants.{Int64}
use Rattle.script_calls.specs.declared.call.Call.{Call}
use Rattle.script_calls.specs.declared.call.Operation.TheVariants as operations
use Rattle.script_calls.specs.declared.call.Reply.{Reply}
use Rattle.script_calls.specs.declared.call.Reply.TheVariants as replies
use Rattle.sync_model.specs.declared.item.Item.{Item}
use Rattle.sync_model.specs.declared.item.SharedCall.TheVariants as shared
use Rattle.sync_model.specs.declared.item.SharedEntry.{SharedEntry}
use Rattle.sync_model.specs.declared.item.SharedReply.TheVariants as shared_replies
use Rattle.sync_types.specs.declared.end.End.TheVariants as ends
use Rattle.script_calls.specs.declared.outcome.Outcome.{Outcome}
use Rattle.script_calls.specs.declared.outcome.Outcome.TheVariants as outcomes
use Rattle.workload.specs.declared.object.ObjectKind.TheVariants as kinds
use Rattle.workload.specs.Plan.{Plan}
use Rattle.run_record.specs.declared.made.Made.TheVariants.{Shared}
use Rattle.run_record.specs.Record.{Record}

abbrev pub store_call : Call
store_call = record { object = 0; operation = operations.Atomic (calls.Store (Int64 (pos 5))) }

abbrev pub load_call : Call
load_call = record { object = 0; operation = operations.Atomic calls.Load }

-- an int64 of name `a`, and one worker
abbrev pub plan : Plan
plan = record { workers = 1; objects = record { name = 97 ∷ []; kind = kinds.Atomic types.Int64 } ∷ []; dormant = false ∷ []; scripts = (store_call ∷ load_call ∷ []) ∷ []; schedule = [] }

-- a run of it comes to these replies, and leaves 5
abbrev pub replies_by : Reply ℕ → Reply ℕ → Outcome
replies_by first second = outcomes.Done (record { replies = (first ∷ second ∷ []) ∷ []; ends = ends.Number 0 (Int64 (pos 5)) ∷ [] })

abbrev pub done : Reply ℕ
done = replies.Atomic answers.Done

abbrev pub held : ℕ → Reply ℕ
held n = replies.Atomic (answers.Held (Int64 (pos n)))

-- the store is the one entry of the history, and the load stands behind it
abbrev pub store_item : Item
store_item = record { call = shared.Atomic 0 (calls.Store (Int64 (pos 5))); reply = shared_replies.Atomic answers.Done; place = 0; entry = true; front = 0 ∷ [] }

abbrev pub load_item : Item
load_item = record { call = shared.Atomic 0 calls.Load; reply = shared_replies.Atomic (answers.Held (Int64 (pos 5))); place = 1; entry = false; front = 1 ∷ [] }

abbrev pub entry : SharedEntry
entry = record { caller = 0; call = shared.Atomic 0 (calls.Store (Int64 (pos 5))); reply = shared_replies.Atomic answers.Done }

abbrev pub example : Record
example = record { history = entry ∷ []; journals = [] ∷ [] ∷ []; lists = (Shared store_item ∷ Shared load_item ∷ []) ∷ [] }
