-- What a call on a map or an atomic replied, read from its word.
use Rattle.std.specs.Prelude.{ℕ, ◌-◌, ◌^◌, ℤ, pos, negsuc, Bool, true, false, ◌&&◌, nat_lt, nat_le, cond, Option, Some, None}
use Rattle.std.specs.Option.{option_map}
use Rattle.sync_types.specs.declared.atomic_object.AtomicCall.{AtomicCall}
use Rattle.sync_types.specs.declared.atomic_object.AtomicCall.TheVariants as atomic_calls
use Rattle.sync_types.specs.declared.atomic_object.AtomicKind.{AtomicKind}
use Rattle.sync_types.specs.declared.atomic_object.AtomicKind.TheVariants as types
use Rattle.sync_types.specs.declared.atomic_object.AtomicReply.{AtomicReply}
use Rattle.sync_types.specs.declared.atomic_object.AtomicReply.TheVariants as atomic_replies
use Rattle.sync_types.specs.declared.atomic_object.Number.{Number}
use Rattle.sync_types.specs.declared.atomic_object.Number.TheVariants as numbers
use Rattle.sync_types.specs.declared.map_object.MapCall.{MapCall}
use Rattle.sync_types.specs.declared.map_object.MapCall.TheVariants as map_calls
use Rattle.sync_types.specs.declared.map_object.MapReply.{MapReply}
use Rattle.sync_types.specs.declared.map_object.MapReply.TheVariants as map_replies
use Rattle.sync_model.specs.declared.item.SharedCall.{SharedCall}
use Rattle.sync_model.specs.declared.item.SharedCall.TheVariants as calls
use Rattle.sync_model.specs.declared.item.SharedReply.{SharedReply}
use Rattle.sync_model.specs.declared.item.SharedReply.TheVariants as answers
use Rattle.record_text.specs.declared.item_line.PlacedReply.{PlacedReply}
use Rattle.record_text.specs.declared.item_line.PlacedReply.TheVariants as replies
use Rattle.record_text.specs.declared.item_line.Whole.{Whole}
use Rattle.record_text.specs.declared.item_line.Whole.TheVariants.{Natural, Below}

-- a number below 0 of at least -2^63
abbrev pub below_told : ℕ → Option ℤ
below_told n = cond (nat_lt 0 n && nat_le n (2 ^ 63)) (Some (negsuc (n - 1))) None

-- a number of 64 bits with a sign
abbrev pub int64_told : Whole → Option ℤ
int64_told (Natural n) = cond (nat_lt n (2 ^ 63)) (Some (pos n)) None
int64_told (Below n) = below_told n

-- and one of 32 bits
abbrev pub int32_told : Whole → Option ℤ
int32_told (Natural n) = cond (nat_lt n (2 ^ 31)) (Some (pos n)) None
int32_told (Below n) = cond (nat_lt 0 n && nat_le n (2 ^ 31)) (Some (negsuc (n - 1))) None

-- a number as it stands, of whatever type
abbrev pub any_number_told : Whole → Option Number
any_number_told (Natural n) = Some (numbers.Uint64 n)
any_number_told (Below n) = option_map numbers.Int64 (below_told n)

-- the number, or else another one
abbrev pub or_else : Option Number → Option Number → Option Number
or_else None other = other
or_else (Some number) other = Some number

-- an unsigned number of at most so much
abbrev pub natural_told : ℕ → Whole → Option ℕ
natural_told bound (Natural n) = cond (nat_lt n bound) (Some n) None
natural_told bound (Below n) = None

-- a number of this type; one that is out of its range as it stands
abbrev pub number_told : AtomicKind → Whole → Option Number
number_told types.Int32 word = or_else (option_map numbers.Int32 (int32_told word)) (any_number_told word)
number_told types.Int64 word = or_else (option_map numbers.Int64 (int64_told word)) (any_number_told word)
number_told types.Uint32 word = or_else (option_map numbers.Uint32 (natural_told (2 ^ 32) word)) (any_number_told word)
number_told types.Uint64 word = any_number_told word
number_told types.Bool word = any_number_told word

-- whether an atomic's call compares
abbrev pub compares : AtomicCall → Bool
compares (atomic_calls.CompareAndSwap old new) = true
compares call = false

-- the reply of an atomic of this type
abbrev pub atomic_reply_told : AtomicKind → AtomicCall → PlacedReply → Option AtomicReply
atomic_reply_told type call replies.Done = Some atomic_replies.Done
atomic_reply_told type call (replies.Truth truth) = Some (cond (compares call) (atomic_replies.Compared truth) (atomic_replies.Held (numbers.Bool truth)))
atomic_reply_told type call (replies.Number word) = option_map atomic_replies.Held (number_told type word)
atomic_reply_told type call replies.Absent = None
atomic_reply_told type call (replies.Valued value was_there) = None

-- whether a call of a map settles a key's value
abbrev pub settles : MapCall ℕ → Bool
settles (map_calls.LoadOrStore key value) = true
settles call = false

-- the reply of a map
abbrev pub map_reply_told : MapCall ℕ → PlacedReply → Option MapReply
map_reply_told call replies.Done = Some map_replies.Done
map_reply_told call replies.Absent = Some (map_replies.Found None)
map_reply_told call (replies.Valued value true) = Some (cond (settles call) (map_replies.Settled value true) (map_replies.Found (Some value)))
map_reply_told call (replies.Valued value false) = Some (map_replies.Settled value false)
map_reply_told call (replies.Truth truth) = Some (map_replies.Compared truth)
map_reply_told call (replies.Number word) = None

-- the reply of a call on a map, or on an atomic of this type
abbrev pub reply_told : AtomicKind → SharedCall → PlacedReply → Option SharedReply
reply_told type (calls.Map m call) reply = option_map answers.Map (map_reply_told call reply)
reply_told type (calls.Atomic a call) reply = option_map answers.Atomic (atomic_reply_told type call reply)
reply_told type (calls.Begin m) reply = None
reply_told type (calls.Next begin) reply = None
