-- A once `o` adds 3 to an int64 `a`, and both workers call it.
use Rattle.std.specs.Prelude.{ℕ, ℤ, pos, true, List, [], ◌∷◌}
use Rattle.script_calls.specs.declared.call.Operation.TheVariants as operations
use Rattle.script_calls.specs.declared.call.Reply.TheVariants as replies
use Rattle.script_calls.specs.declared.outcome.Outcome.{Outcome}
use Rattle.script_calls.specs.declared.outcome.Outcome.TheVariants as outcomes
use Rattle.sync_model.specs.declared.item.Item.{Item}
use Rattle.sync_model.specs.declared.item.SharedCall.{SharedCall}
use Rattle.sync_model.specs.declared.item.SharedCall.TheVariants as shared
use Rattle.sync_model.specs.declared.item.SharedEntry.{SharedEntry}
use Rattle.sync_model.specs.declared.item.SharedReply.{SharedReply}
use Rattle.sync_model.specs.declared.item.SharedReply.TheVariants as shared_replies
use Rattle.sync_model.specs.declared.journal.Deed.TheVariants.{Event}
use Rattle.sync_types.specs.declared.atomic_object.AtomicCall.TheVariants.{Add}
use Rattle.sync_types.specs.declared.atomic_object.AtomicKind.TheVariants as types
use Rattle.sync_types.specs.declared.atomic_object.AtomicReply.TheVariants.{Held}
use Rattle.sync_types.specs.declared.atomic_object.Number.TheVariants.{Int64}
use Rattle.sync_types.specs.declared.end.End.TheVariants.{Number}
use Rattle.sync_types.specs.declared.once_call.DoReply.TheVariants as do_replies
use Rattle.wait_cores.specs.declared.once.OnceEvent.TheVariants.{Begin, End}
use Rattle.wait_cores.specs.declared.once.OnceReply.TheVariants.{Run, Done, Ended}
use Rattle.workload.specs.declared.object.ObjectKind.TheVariants as kinds
use Rattle.workload.specs.Plan.{Plan}
use Rattle.run_record.specs.declared.entered.ObjectEvent.{ObjectEvent}
use Rattle.run_record.specs.declared.entered.ObjectEvent.TheVariants as event
use Rattle.run_record.specs.declared.entered.ObjectReply.{ObjectReply}
use Rattle.run_record.specs.declared.entered.ObjectReply.TheVariants as reply
use Rattle.run_record.specs.declared.made.Made.TheVariants.{Shared, Entered}
use Rattle.run_record.specs.Record.{Record, ObjectEntry}
use Rattle.run_laws.specs.Examples.{declared, on, plan_of, none_known}

abbrev pub plan : Plan
plan = plan_of (declared 97 (kinds.Atomic types.Int64) ∷ declared 111 (kinds.Once 0 (pos 3)) ∷ []) (on 1 operations.Once ∷ []) (on 1 operations.Once ∷ [])

-- worker 0 ran the function, worker 1 didn't, and 3 is left
abbrev pub outcome : Outcome
outcome = outcomes.Done (record { replies = (replies.Once (do_replies.Ran (pos 3)) ∷ []) ∷ (replies.Once do_replies.Done ∷ []) ∷ []; ends = Number 0 (Int64 (pos 3)) ∷ [] })

-- the call that adds 3, and what it is answered where it comes to this sum
abbrev pub adding : SharedCall
adding = shared.Atomic 0 (Add (Int64 (pos 3)))

abbrev pub comes_to : ℤ → SharedReply
comes_to sum = shared_replies.Atomic (Held (Int64 sum))

-- number n of the entries of the history is a worker's addition, which comes to a sum
abbrev pub adds : ℕ → ℤ → List ℕ → Item
adds n sum front = record { call = adding; reply = comes_to sum; place = n; entry = true; front = front }

abbrev pub added : ℕ → ℤ → SharedEntry
added worker sum = record { caller = worker; call = adding; reply = comes_to sum }

-- the addition of worker 0 is known
abbrev pub first_known : List ℕ
first_known = 1 ∷ 0 ∷ []

-- the additions of both are
abbrev pub both_known : List ℕ
both_known = 1 ∷ 1 ∷ []

-- an entry of the once's journal, with what its worker knew then
abbrev pub once_entry : ℕ → ObjectEvent → ObjectReply → List ℕ → ObjectEntry
once_entry worker e r front = record { caller = worker; deed = Event e r; front = front; knew = 0; time = 0 }

-- a worker is to run the function; it ends it, with a sum; it is told that somebody did
abbrev pub runs : ℕ → List ℕ → ObjectEntry
runs worker front = once_entry worker (event.Once Begin) (reply.Once Run) front

abbrev pub ends : ℕ → ℤ → List ℕ → ObjectEntry
ends worker sum front = once_entry worker (event.Once (End sum)) (reply.Once Ended) front

abbrev pub is_told : ObjectEntry
is_told = once_entry 1 (event.Once Begin) (reply.Once (Done (pos 3))) first_known

-- worker 0 runs the function, and worker 1 is told
abbrev pub ran_once : Record
ran_once = record {
  history = added 0 (pos 3) ∷ [];
  journals = [] ∷ [] ∷ (runs 0 none_known ∷ ends 0 (pos 3) first_known ∷ is_told ∷ []) ∷ [];
  lists = (Entered 2 (runs 0 none_known) ∷ Shared (adds 0 (pos 3) none_known) ∷ Entered 2 (ends 0 (pos 3) first_known) ∷ []) ∷ (Entered 2 is_told ∷ []) ∷ [];
}

-- worker 1 runs it, too, and 6 is left
abbrev pub ran_twice : Record
ran_twice = record {
  history = added 0 (pos 3) ∷ added 1 (pos 6) ∷ [];
  journals = [] ∷ [] ∷ (runs 0 none_known ∷ ends 0 (pos 3) first_known ∷ runs 1 first_known ∷ ends 1 (pos 6) both_known ∷ []) ∷ [];
  lists =
      (Entered 2 (runs 0 none_known) ∷ Shared (adds 0 (pos 3) none_known) ∷ Entered 2 (ends 0 (pos 3) first_known) ∷ [])
      ∷ (Entered 2 (runs 1 first_known) ∷ Shared (adds 1 (pos 6) first_known) ∷ Entered 2 (ends 1 (pos 6) both_known) ∷ []) ∷ [];
}
