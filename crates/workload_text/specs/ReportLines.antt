-- The lines of a report: that of a completed call, and that of a value that an object holds at the end.
use Rattle.std.specs.Prelude.{ℕ, ℤ, Bool, List, [], ◌∷◌, ◌++◌, map, codes, Option, Some, None, slice_get}
use Rattle.std.specs.Fmt.{decimal, signed_decimal}
use Rattle.script_calls.specs.declared.call.Call.{Call}
use Rattle.script_calls.specs.declared.call.Reply.{Reply}
use Rattle.script_calls.specs.declared.call.Reply.TheVariants as replies
use Rattle.script_calls.specs.declared.call.VarReply.{VarReply}
use Rattle.script_calls.specs.declared.call.VarReply.TheVariants as var_replies
use Rattle.sync_types.specs.declared.map_object.MapReply.{MapReply}
use Rattle.sync_types.specs.declared.map_object.MapReply.TheVariants as map_replies
use Rattle.sync_types.specs.declared.atomic_object.AtomicReply.{AtomicReply}
use Rattle.sync_types.specs.declared.atomic_object.AtomicReply.TheVariants as atomic_replies
use Rattle.sync_types.specs.declared.lock_call.LockReply.{LockReply}
use Rattle.sync_types.specs.declared.lock_call.LockReply.TheVariants as lock_replies
use Rattle.sync_types.specs.declared.once_call.DoReply.{DoReply}
use Rattle.sync_types.specs.declared.once_call.DoReply.TheVariants as once_replies
use Rattle.sync_types.specs.declared.pool_call.PoolCallReply.{PoolCallReply}
use Rattle.sync_types.specs.declared.pool_call.PoolCallReply.TheVariants as pool_replies
use Rattle.sync_types.specs.declared.atomic_object.Number.TheVariants as numbers
use Rattle.workload.specs.declared.object.ObjectLine.{ObjectLine}
use Rattle.workload.specs.Canonical.{behind_spaces, name_of, call_line}
use Rattle.workload.specs.Keys.{keys_in, key_name}
use Rattle.workload.specs.Plan.{Plan}
use Rattle.workload.specs.NumberWords.{number_word}
use Rattle.workload.specs.Words.{spelled}
use Rattle.sync_types.specs.declared.end.End.{End}
use Rattle.sync_types.specs.declared.end.End.TheVariants.{Number, Pair}

-- the words of a call, as a workload's text spells them
abbrev pub call_words : List ObjectLine → Call → List (List ℕ)
call_words objects call = spelled (call_line objects call)

-- as a number of a `bool`
abbrev pub truth_text : Bool → List ℕ
truth_text truth = number_word (numbers.Bool truth)

-- a reply of a map: nothing, the value that was there or is there now and whether one was there, or whether the value was the old one
abbrev pub map_reply_text : MapReply → List ℕ
map_reply_text map_replies.Done = codes "ok"
map_reply_text (map_replies.Found None) = codes "- false"
map_reply_text (map_replies.Found (Some value)) = decimal value ++ codes " true"
map_reply_text (map_replies.Settled value loaded) = decimal value ++ codes " " ++ truth_text loaded
map_reply_text (map_replies.Compared is_old) = truth_text is_old

-- a key that a `range` shows, by its number among these keys: `KEY=VALUE`
abbrev pub pair_text : List (List ℕ) → ℕ × ℕ → List ℕ
pair_text keys pair = key_name keys pair.0 ++ codes "=" ++ decimal pair.1

-- the keys that a `range` shows, with one space between two
abbrev pub pairs_text : List (List ℕ) → List (ℕ × ℕ) → List ℕ
pairs_text keys [] = codes "-"
pairs_text keys (pair ∷ pairs) = pair_text keys pair ++ behind_spaces (map (pair_text keys) pairs)

-- a reply of an atomic: nothing, a number, or whether it was the old one
abbrev pub atomic_reply_text : AtomicReply → List ℕ
atomic_reply_text atomic_replies.Done = codes "ok"
atomic_reply_text (atomic_replies.Held number) = number_word number
atomic_reply_text (atomic_replies.Compared is_old) = truth_text is_old

-- a reply of a lock or a semaphore: nothing, or whether a try had it
abbrev pub lock_reply_text : LockReply → List ℕ
lock_reply_text lock_replies.Done = codes "ok"
lock_reply_text (lock_replies.Tried is_taken) = truth_text is_taken

-- a reply of a once: the sum that its function made, or that the function was run before
abbrev pub once_reply_text : DoReply → List ℕ
once_reply_text (once_replies.Ran sum) = codes "ran " ++ signed_decimal sum
once_reply_text once_replies.Done = codes "done"

-- the code with which a once function failed, if it did
abbrev pub once_func_reply_text : Option ℕ → List ℕ
once_func_reply_text None = codes "ok"
once_func_reply_text (Some code) = codes "err " ++ decimal code

-- a reply of a pool: nothing, an item that was put, or a new one
abbrev pub pool_reply_text : PoolCallReply → List ℕ
pool_reply_text pool_replies.Done = codes "ok"
pool_reply_text (pool_replies.Put item) = decimal item ++ codes " put"
pool_reply_text pool_replies.New = codes "0 new"

-- a reply of a flight: its value, and whether more than one call received it
abbrev pub flown_reply_text : ℤ → Bool → List ℕ
flown_reply_text value shared = signed_decimal value ++ codes " " ++ truth_text shared

-- a reply of a plain variable: nothing, or the value that was read
abbrev pub var_reply_text : VarReply → List ℕ
var_reply_text var_replies.Done = codes "ok"
var_reply_text (var_replies.Held value) = decimal value

-- a reply, whose keys have their numbers among these
abbrev pub reply_text : List (List ℕ) → Reply ℕ → List ℕ
reply_text keys (replies.Map reply) = map_reply_text reply
reply_text keys (replies.Pairs pairs) = pairs_text keys pairs
reply_text keys (replies.Atomic reply) = atomic_reply_text reply
reply_text keys (replies.Lock reply) = lock_reply_text reply
reply_text keys replies.Returned = codes "ok"
reply_text keys (replies.Once reply) = once_reply_text reply
reply_text keys (replies.OnceFunc code) = once_func_reply_text code
reply_text keys (replies.OnceValue value) = decimal value
reply_text keys (replies.Pool reply) = pool_reply_text reply
reply_text keys (replies.Flown value shared) = flown_reply_text value shared
reply_text keys (replies.Var reply) = var_reply_text reply

-- the line of a completed call: `WORKER.INDEX CALL -> REPLY`
abbrev pub completed_line : Plan → ℕ → ℕ → Call → Reply ℕ → List ℕ
completed_line plan worker index call reply =
    decimal worker ++ codes "." ++ decimal index ++ behind_spaces (call_words plan.objects call) ++ codes " -> " ++ reply_text (keys_in plan.scripts) reply ++ codes "\n"

-- the line of an atomic at the end, `end NAME VALUE`, and of a key that is there in a map, `end NAME KEY VALUE`
abbrev pub end_line : Plan → End → List ℕ
end_line plan (Number object number) = codes "end" ++ behind_spaces (name_of (slice_get plan.objects object) ∷ number_word number ∷ []) ++ codes "\n"
end_line plan (Pair object key value) = codes "end" ++ behind_spaces (name_of (slice_get plan.objects object) ∷ key_name (keys_in plan.scripts) key ∷ decimal value ∷ []) ++ codes "\n"
