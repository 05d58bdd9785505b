-- What a call's reply is read as, of a line, is written in the line's words.
use Rattle.std.proofs.Common.{◌≡◌, ℕ, ◌+◌, ◌-◌, ◌^◌, ℤ, pos, negsuc, Bool, true, false, ◌&&◌, nat_lt, nat_le, cond, Option, Some, None, refl, sym, ap, ◌∙◌, arith}
use Rattle.std.specs.Option.{option_map}
use Rattle.std.proofs.lemmas.Bool.{false≢true, ltb-true}
use Rattle.std.proofs.lemmas.Option.{same_Some}
use Rattle.sync_types.specs.declared.atomic_object.AtomicCall.{AtomicCall}
use Rattle.sync_types.specs.declared.atomic_object.AtomicKind.{AtomicKind}
use Rattle.sync_types.specs.declared.atomic_object.AtomicKind.TheVariants as types
use Rattle.sync_types.specs.declared.atomic_object.AtomicReply.{AtomicReply}
use Rattle.sync_types.specs.declared.atomic_object.AtomicReply.TheVariants as atomic_replies
use Rattle.sync_types.specs.declared.atomic_object.Number.{Number}
use Rattle.sync_types.specs.declared.atomic_object.Number.TheVariants as numbers
use Rattle.sync_types.specs.declared.map_object.MapCall.{MapCall}
use Rattle.sync_types.specs.declared.map_object.MapReply.{MapReply}
use Rattle.sync_types.specs.declared.map_object.MapReply.TheVariants as map_replies
use Rattle.sync_model.specs.declared.item.SharedCall.{SharedCall}
use Rattle.sync_model.specs.declared.item.SharedCall.TheVariants as calls
use Rattle.sync_model.specs.declared.item.SharedReply.{SharedReply}
use Rattle.sync_model.specs.declared.item.SharedReply.TheVariants as answers
use Rattle.record_text.specs.declared.item_line.PlacedReply.{PlacedReply}
use Rattle.record_text.specs.declared.item_line.PlacedReply.TheVariants as replies
use Rattle.record_text.specs.declared.item_line.Said.TheVariants as said
use Rattle.record_text.specs.declared.item_line.Whole.{Whole}
use Rattle.record_text.specs.declared.item_line.Whole.TheVariants.{Natural, Below}
use Rattle.record_text.specs.Written.{atomic_reply, map_reply, number_reply, shared_said, whole_of}
use Rattle.run_check.specs.Replies.{any_number_told, atomic_reply_told, below_told, compares, int32_told, int64_told, map_reply_told, natural_told, number_told, or_else, reply_told, settles}
use Rattle.run_check.proofs.ToldLists.{mapped}

chosen : {X : Type 0} (b : Bool) (x y : X) → cond b (Some x) None ≡ Some y → (b ≡ true) × (x ≡ y)
chosen true x y is = (refl, same_Some x y is)
chosen false x y is = absurd cc

first_of : (a b : Bool) → (a && b) ≡ true → a ≡ true
first_of true b is = refl
first_of false b is = absurd (false≢true is)

-- ---- numbers

below_again : (bound n : ℕ) (z : ℤ) → cond (nat_lt 0 n && nat_le n bound) (Some (negsuc (n - 1))) None ≡ Some z → whole_of z ≡ Below n
below_again bound n z is =
    let (test, same) = chosen (nat_lt 0 n && nat_le n bound) (negsuc (n - 1)) z is in
    let some = ltb-true 0 n (first_of (nat_lt 0 n) (nat_le n bound) test) in
    let whole : (n - 1) + 1 ≡ n = omega (arith, some) in
    sym (ap whole_of same) ∙ ap Below whole

int64_again : (word : Whole) (z : ℤ) → int64_told word ≡ Some z → whole_of z ≡ word
int64_again (Natural n) z is = sym (ap whole_of (chosen (nat_lt n (2 ^ 63)) (pos n) z is).1)
int64_again (Below n) z is = below_again (2 ^ 63) n z is

pub int32_again : (word : Whole) (z : ℤ) → int32_told word ≡ Some z → whole_of z ≡ word
int32_again (Natural n) z is = sym (ap whole_of (chosen (nat_lt n (2 ^ 31)) (pos n) z is).1)
int32_again (Below n) z is = below_again (2 ^ 31) n z is

natural_again : (bound : ℕ) (word : Whole) (n : ℕ) → natural_told bound word ≡ Some n → Natural n ≡ word
natural_again bound (Natural m) n is = sym (ap Natural (chosen (nat_lt m bound) m n is).1)
natural_again bound (Below m) n is = absurd cc

any_again : (word : Whole) (number : Number) → any_number_told word ≡ Some number → number_reply number ≡ replies.Number word
any_again (Natural n) number is = sym (ap number_reply (same_Some (numbers.Uint64 n) number is))
any_again (Below n) number is =
    let (z, found, same) = mapped numbers.Int64 (below_told n) number is in
    sym (ap number_reply same) ∙ ap replies.Number (below_again (2 ^ 63) n z found)

or_again : (word : Whole) (found : Option Number) (number : Number) → ((n : Number) → found ≡ Some n → number_reply n ≡ replies.Number word) → or_else found (any_number_told word) ≡ Some number → number_reply number ≡ replies.Number word
or_again word None number each is = any_again word number is
or_again word (Some n) number each is = sym (ap number_reply (same_Some n number is)) ∙ each n refl

number_again : (kind : AtomicKind) (word : Whole) (number : Number) → number_told kind word ≡ Some number → number_reply number ≡ replies.Number word
number_again types.Int32 word number is = or_again word (option_map numbers.Int32 (int32_told word)) number (λ n found. let (z, there, same) = mapped numbers.Int32 (int32_told word) n found in sym (ap number_reply same) ∙ ap replies.Number (int32_again word z there)) is
number_again types.Int64 word number is = or_again word (option_map numbers.Int64 (int64_told word)) number (λ n found. let (z, there, same) = mapped numbers.Int64 (int64_told word) n found in sym (ap number_reply same) ∙ ap replies.Number (int64_again word z there)) is
number_again types.Uint32 word number is = or_again word (option_map numbers.Uint32 (natural_told (2 ^ 32) word)) number (λ n found. let (m, there, same) = mapped numbers.Uint32 (natural_told (2 ^ 32) word) n found in sym (ap number_reply same) ∙ ap replies.Number (natural_again (2 ^ 32) word m there)) is
number_again types.Uint64 word number is = any_again word number is
number_again types.Bool word number is = any_again word number is

-- ---- replies

atomic_again : (kind : AtomicKind) (call : AtomicCall) (word : PlacedReply) (reply : AtomicReply) → atomic_reply_told kind call word ≡ Some reply → atomic_reply reply ≡ word
atomic_again kind call replies.Done reply is = sym (ap atomic_reply (same_Some atomic_replies.Done reply is))
atomic_again kind call replies.Absent reply is = absurd cc
atomic_again kind call (replies.Valued value was_there) reply is = absurd cc
atomic_again kind call (replies.Truth truth) reply is = sym (ap atomic_reply (same_Some (cond (compares call) (atomic_replies.Compared truth) (atomic_replies.Held (numbers.Bool truth))) reply is)) ∙ by (compares call) where
  by : (b : Bool) → atomic_reply (cond b (atomic_replies.Compared truth) (atomic_replies.Held (numbers.Bool truth))) ≡ replies.Truth truth
  by true = refl
  by false = refl
atomic_again kind call (replies.Number word) reply is = let (number, found, same) = mapped atomic_replies.Held (number_told kind word) reply is in sym (ap atomic_reply same) ∙ number_again kind word number found

map_again : (call : MapCall ℕ) (word : PlacedReply) (reply : MapReply) → map_reply_told call word ≡ Some reply → map_reply reply ≡ word
map_again call replies.Done reply is = sym (ap map_reply (same_Some map_replies.Done reply is))
map_again call replies.Absent reply is = sym (ap map_reply (same_Some (map_replies.Found None) reply is))
map_again call (replies.Valued value true) reply is = sym (ap map_reply (same_Some (cond (settles call) (map_replies.Settled value true) (map_replies.Found (Some value))) reply is)) ∙ by (settles call) where
  by : (b : Bool) → map_reply (cond b (map_replies.Settled value true) (map_replies.Found (Some value))) ≡ replies.Valued value true
  by true = refl
  by false = refl
map_again call (replies.Valued value false) reply is = sym (ap map_reply (same_Some (map_replies.Settled value false) reply is))
map_again call (replies.Truth truth) reply is = sym (ap map_reply (same_Some (map_replies.Compared truth) reply is))
map_again call (replies.Number word) reply is = absurd cc

pub reply_again : (kind : AtomicKind) (call : SharedCall) (word : PlacedReply) (reply : SharedReply) (place : ℕ) → reply_told kind call word ≡ Some reply → shared_said place call reply ≡ Some (said.Call place word)
reply_again kind (calls.Map m call) word reply place is =
    let (r, found, same) = mapped answers.Map (map_reply_told call word) reply is in
    sym (ap (shared_said place (calls.Map m call)) same) ∙ ap (λ w. Some (said.Call place w)) (map_again call word r found)
reply_again kind (calls.Atomic a call) word reply place is =
    let (r, found, same) = mapped answers.Atomic (atomic_reply_told kind call word) reply is in
    sym (ap (shared_said place (calls.Atomic a call)) same) ∙ ap (λ w. Some (said.Call place w)) (atomic_again kind call word r found)
reply_again kind (calls.Begin m) word reply place is = absurd cc
reply_again kind (calls.Next begin) word reply place is = absurd cc
