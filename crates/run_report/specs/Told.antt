-- What a report tells of the outcome that it is of. Laws alone speak of it.
use Rattle.std.specs.Prelude.{◌≡◌, ℕ, ◌^◌, Bool, true, false, ◌&&◌, nat_lt, List, length, Option, Some, None, is_some, slice_get}
use Rattle.std.specs.List.{list_all}
use Rattle.script_calls.specs.Outcome.{left_by}
use Rattle.script_calls.specs.Runs.{made_of}
use Rattle.script_calls.specs.declared.call.Call.{Call}
use Rattle.script_calls.specs.declared.call.Reply.{Reply}
use Rattle.script_calls.specs.declared.call.Reply.TheVariants as replies
use Rattle.script_calls.specs.declared.call.VarReply.{VarReply}
use Rattle.script_calls.specs.declared.call.VarReply.TheVariants as var_replies
use Rattle.script_calls.specs.declared.outcome.Outcome.{Outcome}
use Rattle.sync_types.specs.SequentialAtomic.{is_of}
use Rattle.sync_types.specs.declared.atomic_object.AtomicKind.TheVariants.{Int64}
use Rattle.sync_types.specs.declared.atomic_object.AtomicReply.{AtomicReply}
use Rattle.sync_types.specs.declared.atomic_object.AtomicReply.TheVariants as atomic_replies
use Rattle.sync_types.specs.declared.atomic_object.Number.{Number}
use Rattle.sync_types.specs.declared.atomic_object.Number.TheVariants as numbers
use Rattle.sync_types.specs.declared.end.End.{End}
use Rattle.sync_types.specs.declared.end.End.TheVariants as ends
use Rattle.sync_types.specs.declared.map_object.MapReply.{MapReply}
use Rattle.sync_types.specs.declared.map_object.MapReply.TheVariants as map_replies
use Rattle.sync_types.specs.declared.once_call.DoReply.{DoReply}
use Rattle.sync_types.specs.declared.once_call.DoReply.TheVariants as once_replies
use Rattle.sync_types.specs.declared.pool_call.PoolCallReply.{PoolCallReply}
use Rattle.sync_types.specs.declared.pool_call.PoolCallReply.TheVariants as pool_replies
use Rattle.workload.specs.Keys.{keys_in}
use Rattle.workload.specs.Plan.{Plan}
use Rattle.workload.specs.declared.object.ObjectKind.{ObjectKind}
use Rattle.workload.specs.declared.object.ObjectKind.TheVariants as kinds
use Rattle.workload.specs.declared.object.ObjectLine.{ObjectLine}
use Rattle.workload.specs.Forms.{has_forms}
use Rattle.run_report.specs.ReportText.{outcome_ends, report_text}

-- a number of 64 bits without a sign
abbrev pub has_64_bits : ℕ → Bool
has_64_bits value = nat_lt value (2 ^ 64)

-- a number of an atomic's type, and in its range; other objects have none
abbrev pub is_number_of : ObjectKind → Number → Bool
is_number_of (kinds.Atomic type) number = is_of type number
is_number_of kind number = false

abbrev pub is_number_at : Option ObjectLine → Number → Bool
is_number_at None number = false
is_number_at (Some object) number = is_number_of object.kind number

-- a key's number is one of the workload's keys
abbrev pub is_key : Plan → ℕ → Bool
is_key plan key = nat_lt key (length (keys_in plan.scripts))

abbrev pub map_in_range : MapReply → Bool
map_in_range map_replies.Done = true
map_in_range (map_replies.Found None) = true
map_in_range (map_replies.Found (Some value)) = has_64_bits value
map_in_range (map_replies.Settled value loaded) = has_64_bits value
map_in_range (map_replies.Compared is_old) = true

abbrev pub atomic_in_range : Option ObjectLine → AtomicReply → Bool
atomic_in_range object atomic_replies.Done = true
atomic_in_range object (atomic_replies.Held number) = is_number_at object number
atomic_in_range object (atomic_replies.Compared is_old) = true

abbrev pub once_in_range : DoReply → Bool
once_in_range (once_replies.Ran sum) = is_of Int64 (numbers.Int64 sum)
once_in_range once_replies.Done = true

abbrev pub code_in_range : Option ℕ → Bool
code_in_range None = true
code_in_range (Some code) = has_64_bits code

abbrev pub pool_in_range : PoolCallReply → Bool
pool_in_range pool_replies.Done = true
pool_in_range (pool_replies.Put item) = has_64_bits item
pool_in_range pool_replies.New = true

abbrev pub var_in_range : VarReply → Bool
var_in_range var_replies.Done = true
var_in_range (var_replies.Held value) = has_64_bits value

-- the numbers of a reply are of the call's object, and its keys are the workload's
abbrev pub is_in_range : Plan → Call → Reply ℕ → Bool
is_in_range plan call (replies.Map reply) = map_in_range reply
is_in_range plan call (replies.Pairs pairs) = list_all (λ pair. is_key plan pair.0 && has_64_bits pair.1) pairs
is_in_range plan call (replies.Atomic reply) = atomic_in_range (slice_get plan.objects call.object) reply
is_in_range plan call (replies.Lock reply) = true
is_in_range plan call replies.Returned = true
is_in_range plan call (replies.Once reply) = once_in_range reply
is_in_range plan call (replies.OnceFunc code) = code_in_range code
is_in_range plan call (replies.OnceValue value) = has_64_bits value
is_in_range plan call (replies.Pool reply) = pool_in_range reply
is_in_range plan call (replies.Flown value shared) = is_of Int64 (numbers.Int64 value)
is_in_range plan call (replies.Var reply) = var_in_range reply

-- a value at the end is of an object that is there
abbrev pub is_end : Plan → End → Bool
is_end plan (ends.Number object number) = is_number_at (slice_get plan.objects object) number
is_end plan (ends.Pair object key value) = is_some (slice_get plan.objects object) && (is_key plan key && has_64_bits value)

-- What a run of a workload may come to: each worker has its list of replies, which are of the forms of the calls that it made and in
-- the ranges of their objects; and nothing stands at the end unless every script has ended.
pub record IsOutcomeOf (plan : Plan) (outcome : Outcome) : Type 0 where
  pub workers : length (left_by outcome).replies ≡ length plan.scripts
  pub forms : has_forms plan outcome ≡ true
  pub ranges : (worker number : ℕ) (script : List Call) (completed : List (Reply ℕ)) (call : Call) (reply : Reply ℕ)
      → slice_get plan.scripts worker ≡ Some script → slice_get (left_by outcome).replies worker ≡ Some completed → slice_get (made_of script completed) number ≡ Some call → slice_get completed number ≡ Some reply
      → is_in_range plan call reply ≡ true
  pub ends : list_all (is_end plan) (left_by outcome).ends ≡ true
  pub shown : (left_by outcome).ends ≡ outcome_ends outcome

-- two outcomes with one report left the same behind
abbrev pub ReportTellsWhatIsLeft : Plan → Type 0
ReportTellsWhatIsLeft plan = (one other : Outcome) → IsOutcomeOf plan one → IsOutcomeOf plan other → report_text plan one ≡ report_text plan other → left_by one ≡ left_by other
