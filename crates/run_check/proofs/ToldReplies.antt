-- What a call on a map or an atomic replied is read back from the word in which it is written.
use Rattle.std.proofs.Common.{◌≡◌, ℕ, ◌^◌, ◌<◌, Bool, true, false, nat_lt, cond, Option, Some, None, refl, sym, ap, ◌∙◌}
use Rattle.std.specs.Option.{option_map}
use Rattle.std.proofs.lemmas.Bool.{lt-ltb}
use Rattle.std.proofs.lemmas.Option.{same_Some}
use Rattle.sync_types.specs.declared.atomic_object.AtomicCall.{AtomicCall}
use Rattle.sync_types.specs.declared.atomic_object.AtomicKind.{AtomicKind}
use Rattle.sync_types.specs.declared.atomic_object.AtomicKind.TheVariants as types
use Rattle.sync_types.specs.declared.atomic_object.AtomicReply.{AtomicReply}
use Rattle.sync_types.specs.declared.atomic_object.AtomicReply.TheVariants as atomic_replies
use Rattle.sync_types.specs.declared.atomic_object.Number.{Number}
use Rattle.sync_types.specs.declared.atomic_object.Number.TheVariants as numbers
use Rattle.sync_types.specs.declared.map_object.MapCall.{MapCall}
use Rattle.sync_types.specs.declared.map_object.MapReply.{MapReply}
use Rattle.sync_types.specs.declared.map_object.MapReply.TheVariants as map_replies
use Rattle.sync_model.specs.declared.item.SharedCall.{SharedCall}
use Rattle.sync_model.specs.declared.item.SharedCall.TheVariants as calls
use Rattle.sync_model.specs.declared.item.SharedReply.{SharedReply}
use Rattle.sync_model.specs.declared.item.SharedReply.TheVariants as answers
use Rattle.record_text.specs.declared.item_line.PlacedReply.{PlacedReply}
use Rattle.record_text.specs.declared.item_line.Said.TheVariants as said
use Rattle.record_text.specs.declared.item_line.Whole.{Whole}
use Rattle.record_text.specs.declared.item_line.Whole.TheVariants.{Natural}
use Rattle.record_text.specs.Written.{atomic_reply, map_reply, number_reply, shared_said, whole_of}
use Rattle.run_check.specs.Replies.{any_number_told, atomic_reply_told, compares, int32_told, int64_told, map_reply_told, or_else, reply_told, settles}

-- the number is one of an atomic of this type; a truth is no answer to a comparison
abbrev pub NumberIs : AtomicKind → Bool → Number → Type 0
NumberIs types.Int32 comparing (numbers.Int32 z) = int32_told (whole_of z) ≡ Some z
NumberIs types.Int64 comparing (numbers.Int64 z) = int64_told (whole_of z) ≡ Some z
NumberIs types.Uint32 comparing (numbers.Uint32 n) = n < 2 ^ 32
NumberIs types.Uint64 comparing (numbers.Uint64 n) = Unit {0}
NumberIs types.Bool comparing (numbers.Bool truth) = comparing ≡ false
NumberIs type comparing number = ⊥

-- the reply is one of an atomic of this type to a call that compares, or doesn't
abbrev pub AtomicReplyIs : AtomicKind → Bool → AtomicReply → Type 0
AtomicReplyIs type comparing atomic_replies.Done = Unit {0}
AtomicReplyIs type comparing (atomic_replies.Held number) = NumberIs type comparing number
AtomicReplyIs type comparing (atomic_replies.Compared is_old) = comparing ≡ true

-- the reply is one of a map to a call that settles a key's value, or doesn't
abbrev pub MapReplyIs : Bool → MapReply → Type 0
MapReplyIs settling (map_replies.Found (Some value)) = settling ≡ false
MapReplyIs settling (map_replies.Settled value true) = settling ≡ true
MapReplyIs settling reply = Unit {0}

abbrev pub SharedReplyIs : AtomicKind → SharedCall → SharedReply → Type 0
SharedReplyIs type (calls.Map m call) (answers.Map reply) = MapReplyIs (settles call) reply
SharedReplyIs type (calls.Atomic a call) (answers.Atomic reply) = AtomicReplyIs type (compares call) reply
SharedReplyIs type call reply = ⊥

-- a word that is a number of the type
typed : {X : Type 0} (make : X → Number) (told : Option X) (word : Whole) (x : X) → told ≡ Some x → or_else (option_map make told) (any_number_told word) ≡ Some (make x)
typed make told word x is = ap (λ o. or_else (option_map make o) (any_number_told word)) is

number_back : (type : AtomicKind) (call : AtomicCall) (number : Number) → NumberIs type (compares call) number → atomic_reply_told type call (number_reply number) ≡ Some (atomic_replies.Held number)
number_back types.Int32 call (numbers.Int32 z) is = ap (option_map atomic_replies.Held) (typed numbers.Int32 (int32_told (whole_of z)) (whole_of z) z is)
number_back types.Int64 call (numbers.Int64 z) is = ap (option_map atomic_replies.Held) (typed numbers.Int64 (int64_told (whole_of z)) (whole_of z) z is)
number_back types.Uint32 call (numbers.Uint32 n) is = ap (option_map atomic_replies.Held) (typed numbers.Uint32 (cond (nat_lt n (2 ^ 32)) (Some n) None) (Natural n) n (ap (λ (b : Bool). cond b (Some n) None) (lt-ltb n (2 ^ 32) is)))
number_back types.Uint64 call (numbers.Uint64 n) is = refl
number_back types.Bool call (numbers.Bool truth) is = ap (λ (b : Bool). Some (cond b (atomic_replies.Compared truth) (atomic_replies.Held (numbers.Bool truth)))) is
number_back type call number is = absurd is

atomic_back : (type : AtomicKind) (call : AtomicCall) (reply : AtomicReply) → AtomicReplyIs type (compares call) reply → atomic_reply_told type call (atomic_reply reply) ≡ Some reply
atomic_back type call atomic_replies.Done is = refl
atomic_back type call (atomic_replies.Held number) is = number_back type call number is
atomic_back type call (atomic_replies.Compared is_old) is = ap (λ (b : Bool). Some (cond b (atomic_replies.Compared is_old) (atomic_replies.Held (numbers.Bool is_old)))) is

map_back : (call : MapCall ℕ) (reply : MapReply) → MapReplyIs (settles call) reply → map_reply_told call (map_reply reply) ≡ Some reply
map_back call map_replies.Done is = refl
map_back call (map_replies.Found None) is = refl
map_back call (map_replies.Found (Some value)) is = ap (λ (b : Bool). Some (cond b (map_replies.Settled value true) (map_replies.Found (Some value)))) is
map_back call (map_replies.Settled value true) is = ap (λ (b : Bool). Some (cond b (map_replies.Settled value true) (map_replies.Found (Some value)))) is
map_back call (map_replies.Settled value false) is = refl
map_back call (map_replies.Compared is_old) is = refl

same_reply : {X : Type 0} (told : PlacedReply → Option X) (place : ℕ) (own word : PlacedReply) (x : X) → Some (said.Call place own) ≡ Some (said.Call place word) → told own ≡ Some x → told word ≡ Some x
same_reply told place own word x says is =
    let one : said.Call place own ≡ said.Call place word = same_Some (said.Call place own) (said.Call place word) says in
    let same : own ≡ word = cc in
    sym (ap told same) ∙ is

-- a call's reply is read back
pub reply_back : (type : AtomicKind) (call : SharedCall) (reply : SharedReply) (place : ℕ) (word : PlacedReply) → SharedReplyIs type call reply → shared_said place call reply ≡ Some (said.Call place word) → reply_told type call word ≡ Some reply
reply_back type (calls.Map m call) (answers.Map reply) place word is says = ap (option_map answers.Map) (same_reply (map_reply_told call) place (map_reply reply) word reply says (map_back call reply is))
reply_back type (calls.Atomic a call) (answers.Atomic reply) place word is says = ap (option_map answers.Atomic) (same_reply (atomic_reply_told type call) place (atomic_reply reply) word reply says (atomic_back type call reply is))
reply_back type call reply place word is says = absurd is
