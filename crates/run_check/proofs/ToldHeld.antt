-- An atomic holds a number of its type at each length of a history, and so replies one.
use Rattle.std.proofs.Common.{◌≡◌, ◌⊎◌, inl, inr, ℕ, zero, suc, ◌+◌, ◌-◌, ◌<◌, ◌^◌, ℤ, pos, negsuc, Bool, true, false, cond, nat_lt, List, [], ◌∷◌, map, length, take, get_or, Option, Some, None, slice_get, refl, sym, ap, ◌∙◌, subst, arith}
use Rattle.std.specs.Prelude.{◌&&◌, nat_le}
use Rattle.std.specs.Ordering.{nat_cmp}
use Rattle.std.specs.FinMap.{FinMap, get}
use Rattle.std.proofs.Math.ListN.{get_or-map}
use Rattle.std.proofs.lemmas.Bool.{and_from, cases_eq, le-leb, lt-ltb, ltb-true}
use Rattle.std.proofs.lemmas.List.{get_or-set_other, get_or-set_same, length-set}
use Rattle.sync_types.specs.declared.atomic_object.AtomicCall.{AtomicCall}
use Rattle.sync_types.specs.declared.atomic_object.AtomicCall.TheVariants as atomic_calls
use Rattle.sync_types.specs.declared.atomic_object.AtomicKind.{AtomicKind}
use Rattle.sync_types.specs.declared.atomic_object.AtomicKind.TheVariants as types
use Rattle.sync_types.specs.declared.atomic_object.AtomicReply.TheVariants.{Held}
use Rattle.sync_types.specs.declared.atomic_object.Number.{Number}
use Rattle.sync_types.specs.declared.atomic_object.Number.TheVariants as numbers
use Rattle.sync_types.specs.declared.map_object.MapCall.{MapCall}
use Rattle.sync_types.specs.declared.map_object.MapCall.TheVariants as map_calls
use Rattle.sync_types.specs.SequentialAtomic.{atomic_after, atomic_reply, is_atomic_call, is_of, is_signed, kind_of, sum, zero_of}
use Rattle.sync_types.specs.SequentialMap.{map_reply, settled}
use Rattle.sync_types.specs.declared.map_object.MapReply.TheVariants.{Found}
use Rattle.sync_model.specs.declared.item.SharedCall.{SharedCall}
use Rattle.sync_model.specs.declared.item.SharedCall.TheVariants as calls
use Rattle.sync_model.specs.declared.item.SharedEntry.{SharedEntry}
use Rattle.sync_model.specs.declared.item.SharedReply.{SharedReply}
use Rattle.sync_model.specs.declared.item.SharedReply.TheVariants as answers
use Rattle.sync_model.specs.SharedHistory.{Contents, IsReply, contents_after, map_at, number_at, shared_after}
use Rattle.shared_checks.specs.Placing.{IsOn}
use Rattle.record_text.specs.Written.{whole_of}
use Rattle.run_check.specs.Replies.{compares, int32_told, int64_told, settles}
use Rattle.run_check.proofs.ToldReplies.{AtomicReplyIs, MapReplyIs, NumberIs}

-- what is known of the one-thread atomic
pub record KeepsTypes : Type 0 where
  pub after : (kind : AtomicKind) (call : AtomicCall) (held : Number) → is_of kind held ≡ true → is_atomic_call kind call ≡ true → is_of kind (atomic_after call held) ≡ true
  pub reply : (kind : AtomicKind) (call : AtomicCall) (held number : Number) → is_of kind held ≡ true → is_atomic_call kind call ≡ true → atomic_reply call held ≡ Held number → is_of kind number ≡ true

-- the atomics of the start are there, and each holds a number of the type that it had
pub record HoldTypes (start contents : Contents) : Type 0 where
  pub count : length contents.numbers ≡ length start.numbers
  pub each : (a : ℕ) → a < length start.numbers → is_of (kind_of (number_at start a)) (number_at contents a) ≡ true

-- a call on a map or an atomic that is there is answered by what that contains, where each atomic holds a number of its type
pub record IsAnswered (start : Contents) (call : SharedCall) (reply : SharedReply) : Type 0 where
  pub contents : Contents
  pub holds : HoldTypes start contents
  pub on : IsOn start call
  pub is : IsReply call reply contents

-- ---- along a history

own_zero : (type : AtomicKind) → is_of (kind_of (zero_of type)) (zero_of type) ≡ true
own_zero types.Int32 = refl
own_zero types.Int64 = refl
own_zero types.Uint32 = refl
own_zero types.Uint64 = refl
own_zero types.Bool = refl

zeros : (list : List AtomicKind) (a : ℕ) → is_of (kind_of (get_or (map zero_of list) a (numbers.Bool false))) (get_or (map zero_of list) a (numbers.Bool false)) ≡ true
zeros list a = subst (λ (n : Number). is_of (kind_of n) n ≡ true) (sym (get_or-map zero_of list a types.Bool)) (own_zero (get_or list a types.Bool))

-- atomics that are 0, or false, hold numbers of their types
pub hold_zeros : (start : Contents) (list : List AtomicKind) → start.numbers ≡ map zero_of list → HoldTypes start start
hold_zeros start list are = record {
  count = refl;
  each = λ a inside. subst (λ (ns : List Number). is_of (kind_of (get_or ns a (numbers.Bool false))) (get_or ns a (numbers.Bool false)) ≡ true) (sym are) (zeros list a);
}

module _ (keeps : KeepsTypes) (start : Contents) where
  hold_after : (contents : Contents) (call : SharedCall) → IsOn start call → HoldTypes start contents → HoldTypes start (shared_after call contents)
  hold_after contents (calls.Map m call) on holds = record { count = holds.count; each = holds.each }
  hold_after contents (calls.Begin m) on holds = holds
  hold_after contents (calls.Next begin) on holds = holds
  hold_after contents (calls.Atomic b call) on holds = record { count = length-set contents.numbers b new ∙ holds.count; each = λ a inside. by a inside (cases_eq a b) } where
    new : Number
    new = atomic_after call (number_at contents b)

    by : (a : ℕ) → a < length start.numbers → (a ≡ b) ⊎ (a ≡ b → ⊥) → is_of (kind_of (number_at start a)) (number_at (shared_after (calls.Atomic b call) contents) a) ≡ true
    by a inside (inl same) =
        let there : b < length contents.numbers = subst (λ (n : ℕ). b < n) (sym holds.count) on.0 in
        subst (λ (k : ℕ). is_of (kind_of (number_at start k)) (number_at (shared_after (calls.Atomic b call) contents) k) ≡ true) (sym same)
        (ap (is_of (kind_of (number_at start b))) (get_or-set_same contents.numbers b new (numbers.Bool false) there) ∙ keeps.after (kind_of (number_at start b)) call (number_at contents b) (holds.each b on.0) on.1)
    by a inside (inr other) = ap (is_of (kind_of (number_at start a))) (get_or-set_other contents.numbers b a new (numbers.Bool false) other) ∙ holds.each a inside

  -- behind each of the first entries of a history whose calls are on what is there
  pub hold_at : (contents : Contents) (history : List SharedEntry) (n : ℕ) → ((k : ℕ) (entry : SharedEntry) → slice_get history k ≡ Some entry → IsOn start entry.call) → HoldTypes start contents → HoldTypes start (contents_after contents (take n history))
  hold_at contents history zero each holds = holds
  hold_at contents [] (suc n) each holds = holds
  hold_at contents (entry ∷ later) (suc n) each holds = hold_at (shared_after entry.call contents) later n (λ k x at. each (suc k) x at) (hold_after contents entry.call (each 0 entry refl) holds)

  -- a number that an atomic replies is of its type
  replied_type : (contents : Contents) (a : ℕ) (call : AtomicCall) (number : Number) → HoldTypes start contents → IsOn start (calls.Atomic a call) → atomic_reply call (number_at contents a) ≡ Held number → is_of (kind_of (number_at start a)) number ≡ true
  replied_type contents a call number holds on is = keeps.reply (kind_of (number_at start a)) call (number_at contents a) number (holds.each a on.0) on.1 is

-- ---- numbers

below_back : (n half : ℕ) → nat_lt n half ≡ true → cond (nat_lt 0 (n + 1) && nat_le (n + 1) half) (Some (negsuc (n + 1 - 1))) None ≡ Some (negsuc n)
below_back n half below =
    let some : nat_lt 0 (n + 1) ≡ true = lt-ltb 0 (n + 1) (omega arith) in
    let within : nat_le (n + 1) half ≡ true = le-leb (n + 1) half (omega (arith, ltb-true n half below)) in
    let number : n + 1 - 1 ≡ n = omega arith in
    ap (λ (b : Bool). cond b (Some (negsuc (n + 1 - 1))) None) (and_from (nat_lt 0 (n + 1)) (nat_le (n + 1) half) some within) ∙ ap (λ (k : ℕ). Some (negsuc k)) number

back_32 : (z : ℤ) → is_signed (2 ^ 31) z ≡ true → int32_told (whole_of z) ≡ Some z
back_32 (pos n) below = ap (λ (b : Bool). cond b (Some (pos n)) None) below
back_32 (negsuc n) below = below_back n (2 ^ 31) below

back_64 : (z : ℤ) → is_signed (2 ^ 63) z ≡ true → int64_told (whole_of z) ≡ Some z
back_64 (pos n) below = ap (λ (b : Bool). cond b (Some (pos n)) None) below
back_64 (negsuc n) below = below_back n (2 ^ 63) below

number_is : (type : AtomicKind) (number : Number) → is_of type number ≡ true → NumberIs type false number
number_is types.Int32 (numbers.Int32 z) is = back_32 z is
number_is types.Int64 (numbers.Int64 z) is = back_64 z is
number_is types.Uint32 (numbers.Uint32 n) is = ltb-true n (2 ^ 32) is
number_is types.Uint64 (numbers.Uint64 n) is = tt
number_is types.Bool (numbers.Bool truth) is = refl
number_is type number is = absurd cc

of_64 : (type : AtomicKind) (z : ℤ) → is_of type (numbers.Int64 z) ≡ true → int64_told (whole_of z) ≡ Some z
of_64 types.Int64 z is = back_64 z is
of_64 type z is = absurd cc

-- ---- replies

-- a reply of an atomic is one of its type, where each number in it is of that
pub atomic_is : (type : AtomicKind) (call : AtomicCall) (held : Number) → ((number : Number) → atomic_reply call held ≡ Held number → is_of type number ≡ true) → AtomicReplyIs type (compares call) (atomic_reply call held)
atomic_is type atomic_calls.Load held of = number_is type held (of held refl)
atomic_is type (atomic_calls.Store value) held of = tt
atomic_is type (atomic_calls.Swap value) held of = number_is type held (of held refl)
atomic_is type (atomic_calls.Add operand) held of = number_is type (sum held operand) (of (sum held operand) refl)
atomic_is type (atomic_calls.And operand) held of = number_is type held (of held refl)
atomic_is type (atomic_calls.Or operand) held of = number_is type held (of held refl)
atomic_is type (atomic_calls.CompareAndSwap old new) held of = refl

found_is : (found : Option ℕ) → MapReplyIs false (Found found)
found_is None = tt
found_is (Some value) = refl

settled_is : (found : Option ℕ) (value : ℕ) → MapReplyIs true (settled found value)
settled_is None value = tt
settled_is (Some there) value = refl

pub map_is : (call : MapCall ℕ) (m : FinMap nat_cmp ℕ) → MapReplyIs (settles call) (map_reply call m)
map_is (map_calls.Load key) m = found_is (get m key)
map_is (map_calls.Store key value) m = tt
map_is (map_calls.LoadOrStore key value) m = settled_is (get m key) value
map_is (map_calls.LoadAndDelete key) m = found_is (get m key)
map_is (map_calls.Delete key) m = tt
map_is (map_calls.Swap key value) m = found_is (get m key)
map_is (map_calls.CompareAndSwap key old new) m = tt
map_is (map_calls.CompareAndDelete key old) m = tt
map_is map_calls.Clear m = tt

module _ (keeps : KeepsTypes) (start : Contents) where
  -- so is an answer, where the type is that of the atomic
  pub answer_is : (type : AtomicKind) (a : ℕ) (call : AtomicCall) (reply : SharedReply) → kind_of (number_at start a) ≡ type → (answered : IsAnswered start (calls.Atomic a call) reply) → AtomicReplyIs type (compares call) (atomic_reply call (number_at answered.contents a))
  answer_is type a call reply same answered = atomic_is type call (number_at answered.contents a)
      (λ number is. subst (λ (t : AtomicKind). is_of t number ≡ true) same (replied_type keeps start answered.contents a call number answered.holds answered.on is))

  -- an `int64` that is replied has 64 bits
  pub replied_64 : (call : SharedCall) (reply : SharedReply) (z : ℤ) → IsAnswered start call reply → reply ≡ answers.Atomic (Held (numbers.Int64 z)) → int64_told (whole_of z) ≡ Some z
  replied_64 (calls.Map m call) reply z answered is = let same : answers.Map (map_reply call (map_at answered.contents m)) ≡ answers.Atomic (Held (numbers.Int64 z)) = sym answered.is ∙ is in absurd cc
  replied_64 (calls.Begin m) reply z answered is = let same : answers.Begun ≡ answers.Atomic (Held (numbers.Int64 z)) = sym answered.is ∙ is in absurd cc
  replied_64 (calls.Next begin) reply z answered is = let same : answers.Shown answered.is.0 ≡ answers.Atomic (Held (numbers.Int64 z)) = sym answered.is.1 ∙ is in absurd cc
  replied_64 (calls.Atomic a call) reply z answered is =
      let same : answers.Atomic (atomic_reply call (number_at answered.contents a)) ≡ answers.Atomic (Held (numbers.Int64 z)) = sym answered.is ∙ is in
      let number : atomic_reply call (number_at answered.contents a) ≡ Held (numbers.Int64 z) = cc in
      of_64 (kind_of (number_at start a)) z (replied_type keeps start answered.contents a call (numbers.Int64 z) answered.holds answered.on number)
