-- How a call on a map or an atomic is cut from a list: it is one placed call.
use Rattle.std.specs.Prelude.{ℕ, ℤ, Bool, true, false, ◌&&◌, ◌==◌, List, Option, Some, None}
use Rattle.script_calls.specs.declared.call.Reply.{Reply}
use Rattle.script_calls.specs.declared.call.Reply.TheVariants as replies
use Rattle.sync_model.specs.declared.item.SharedCall.{SharedCall}
use Rattle.sync_model.specs.declared.item.SharedCall.TheVariants as shared
use Rattle.sync_model.specs.declared.item.SharedReply.{SharedReply}
use Rattle.sync_model.specs.declared.item.SharedReply.TheVariants as answers
use Rattle.sync_types.specs.Renaming.{renamed_call}
use Rattle.sync_types.specs.SequentialAtomic.{is_same}
use Rattle.sync_types.specs.declared.atomic_object.AtomicCall.{AtomicCall}
use Rattle.sync_types.specs.declared.atomic_object.AtomicCall.TheVariants as atomic_calls
use Rattle.sync_types.specs.declared.atomic_object.AtomicReply.TheVariants as atomic_replies
use Rattle.sync_types.specs.declared.atomic_object.Number.{Number}
use Rattle.sync_types.specs.declared.atomic_object.Number.TheVariants as numbers
use Rattle.sync_types.specs.declared.map_object.MapCall.{MapCall}
use Rattle.sync_types.specs.declared.map_object.MapCall.TheVariants as map_calls
use Rattle.workload.specs.Keys.{key_number}
use Rattle.run_record.specs.Tests.{holds, compared}
use Rattle.run_cuts.specs.Cuts.{Cutter, place_cut, read_cut}

-- whether two calls of a map are one, by the numbers of their keys
abbrev pub same_map_call : MapCall ℕ → MapCall ℕ → Bool
same_map_call (map_calls.Load key_a) (map_calls.Load key_b) = key_a == key_b
same_map_call (map_calls.Store key_a value_a) (map_calls.Store key_b value_b) = key_a == key_b && value_a == value_b
same_map_call (map_calls.LoadOrStore key_a value_a) (map_calls.LoadOrStore key_b value_b) = key_a == key_b && value_a == value_b
same_map_call (map_calls.LoadAndDelete key_a) (map_calls.LoadAndDelete key_b) = key_a == key_b
same_map_call (map_calls.Delete key_a) (map_calls.Delete key_b) = key_a == key_b
same_map_call (map_calls.Swap key_a value_a) (map_calls.Swap key_b value_b) = key_a == key_b && value_a == value_b
same_map_call (map_calls.CompareAndSwap key_a old_a new_a) (map_calls.CompareAndSwap key_b old_b new_b) = key_a == key_b && (old_a == old_b && new_a == new_b)
same_map_call (map_calls.CompareAndDelete key_a old_a) (map_calls.CompareAndDelete key_b old_b) = key_a == key_b && old_a == old_b
same_map_call map_calls.Clear map_calls.Clear = true
same_map_call call other = false

-- whether two calls of an atomic are one
abbrev pub same_atomic_call : AtomicCall → AtomicCall → Bool
same_atomic_call atomic_calls.Load atomic_calls.Load = true
same_atomic_call (atomic_calls.Store value_a) (atomic_calls.Store value_b) = is_same value_a value_b
same_atomic_call (atomic_calls.Swap value_a) (atomic_calls.Swap value_b) = is_same value_a value_b
same_atomic_call (atomic_calls.Add operand_a) (atomic_calls.Add operand_b) = is_same operand_a operand_b
same_atomic_call (atomic_calls.And operand_a) (atomic_calls.And operand_b) = is_same operand_a operand_b
same_atomic_call (atomic_calls.Or operand_a) (atomic_calls.Or operand_b) = is_same operand_a operand_b
same_atomic_call (atomic_calls.CompareAndSwap old_a new_a) (atomic_calls.CompareAndSwap old_b new_b) = is_same old_a old_b && is_same new_a new_b
same_atomic_call call other = false

-- whether a placed call is this one of this map, or of this atomic
abbrev pub is_map_call : ℕ → MapCall ℕ → SharedCall → Bool
is_map_call m call (shared.Map map of) = map == m && same_map_call of call
is_map_call m call other = false

abbrev pub is_atomic_call : ℕ → AtomicCall → SharedCall → Bool
is_atomic_call a call (shared.Atomic atomic of) = atomic == a && same_atomic_call of call
is_atomic_call a call other = false

-- what it replies
abbrev pub map_read : SharedReply → Option (Reply ℕ)
map_read (answers.Map reply) = Some (replies.Map reply)
map_read other = None

abbrev pub atomic_read : SharedReply → Option (Reply ℕ)
atomic_read (answers.Atomic reply) = Some (replies.Atomic reply)
atomic_read other = None

-- the sum that an `add` to an int64 comes to
abbrev pub sum_read : SharedReply → Option ℤ
sum_read (answers.Atomic (atomic_replies.Held (numbers.Int64 sum))) = Some sum
sum_read other = None

abbrev pub map_cut : List (List ℕ) → ℕ → MapCall (List ℕ) → Cutter (Reply ℕ)
map_cut keys m call = place_cut (is_map_call m (renamed_call (key_number keys) call)) map_read

abbrev pub atomic_cut : ℕ → AtomicCall → Cutter (Reply ℕ)
atomic_cut a call = place_cut (is_atomic_call a call) atomic_read

abbrev pub adds_cut : ℕ → ℤ → Cutter ℤ
adds_cut a amount = place_cut (is_atomic_call a (atomic_calls.Add (numbers.Int64 amount))) sum_read

-- a test is a load, read as whether it found the value
abbrev pub tests_cut : ℕ → Number → Cutter Bool
tests_cut a value = read_cut (holds value) (atomic_cut a atomic_calls.Load)

-- an `ifeq` is one test
abbrev pub if_equal_cut : ℕ → Number → Cutter (Reply ℕ)
if_equal_cut a value = read_cut compared (tests_cut a value)
