-- The text of a reply, by the form of its call's replies: no two replies of a form have one.
use Rattle.std.proofs.Common.{◌≡◌, ◌∙◌, ℕ, ◌^◌, ◌<◌, ◌≤◌, Bool, true, false, ◌&&◌, List, [], ◌∷◌, ◌++◌, map, length, Option, Some, None, refl, sym, ap, arith, ℤ, pos, negsuc}
use Rattle.std.specs.Prelude.{codes, slice_get}
use Rattle.std.specs.Fmt.{decimal, signed_decimal}
use Rattle.std.specs.List.{list_all}
use Rattle.std.proofs.lemmas.Bool.{and_parts, and_from, ltb-true, true≢false}
use Rattle.std.proofs.lemmas.Fmt.{decimal_injective, signed_decimal_injective}
use Rattle.std.proofs.lemmas.List.{append_assoc, append_cancel_left}
use lib.Signed.{mag}
use Rattle.script_calls.specs.declared.call.ComposedCall.{ComposedCall}
use Rattle.script_calls.specs.declared.call.ComposedCall.TheVariants.{IfEqual, WaitFor, Go}
use Rattle.script_calls.specs.declared.call.Operation.{Operation}
use Rattle.script_calls.specs.declared.call.Operation.TheVariants as operations
use Rattle.script_calls.specs.declared.call.Reply.{Reply}
use Rattle.script_calls.specs.declared.call.Reply.TheVariants as replies
use Rattle.script_calls.specs.declared.call.VarCall.{VarCall}
use Rattle.script_calls.specs.declared.call.VarCall.TheVariants as var_calls
use Rattle.script_calls.specs.declared.call.VarReply.{VarReply}
use Rattle.script_calls.specs.declared.call.VarReply.TheVariants as var_replies
use Rattle.script_calls.specs.Replies.{is_reply_to, var_form}
use Rattle.sync_types.specs.Replies.{map_form, is_map_done, is_found, is_settled, is_map_compared, atomic_form, is_atomic_done, is_held, is_atomic_compared, mutex_form, rw_mutex_form, sema_form, is_lock_done, is_tried, pool_form, is_pool_done, is_item}
use Rattle.sync_types.specs.SequentialAtomic.{is_of, is_signed}
use Rattle.sync_types.specs.declared.atomic_object.AtomicKind.{AtomicKind}
use Rattle.sync_types.specs.declared.atomic_object.AtomicKind.TheVariants as types
use Rattle.sync_types.specs.declared.atomic_object.AtomicCall.{AtomicCall}
use Rattle.sync_types.specs.declared.atomic_object.AtomicCall.TheVariants as atomic_calls
use Rattle.sync_types.specs.declared.atomic_object.AtomicReply.{AtomicReply}
use Rattle.sync_types.specs.declared.atomic_object.AtomicReply.TheVariants as atomic_replies
use Rattle.sync_types.specs.declared.atomic_object.Number.{Number}
use Rattle.sync_types.specs.declared.atomic_object.Number.TheVariants as numbers
use Rattle.sync_types.specs.declared.lock_call.LockReply.{LockReply}
use Rattle.sync_types.specs.declared.lock_call.LockReply.TheVariants as lock_replies
use Rattle.sync_types.specs.declared.lock_call.MutexCall.{MutexCall}
use Rattle.sync_types.specs.declared.lock_call.MutexCall.TheVariants as mutex_calls
use Rattle.sync_types.specs.declared.lock_call.RwMutexCall.{RwMutexCall}
use Rattle.sync_types.specs.declared.lock_call.RwMutexCall.TheVariants as rw_calls
use Rattle.sync_types.specs.declared.map_object.MapCall.{MapCall}
use Rattle.sync_types.specs.declared.map_object.MapCall.TheVariants as map_calls
use Rattle.sync_types.specs.declared.map_object.MapReply.{MapReply}
use Rattle.sync_types.specs.declared.map_object.MapReply.TheVariants as map_replies
use Rattle.sync_types.specs.declared.once_call.DoReply.{DoReply}
use Rattle.sync_types.specs.declared.once_call.DoReply.TheVariants as once_replies
use Rattle.sync_types.specs.declared.pool_call.PoolCall.{PoolCall}
use Rattle.sync_types.specs.declared.pool_call.PoolCall.TheVariants as pool_calls
use Rattle.sync_types.specs.declared.pool_call.PoolCallReply.{PoolCallReply}
use Rattle.sync_types.specs.declared.pool_call.PoolCallReply.TheVariants as pool_replies
use Rattle.sync_types.specs.declared.sema_call.SemaCall.{SemaCall}
use Rattle.sync_types.specs.declared.sema_call.SemaCall.TheVariants as sema_calls
use Rattle.workload.specs.Keys.{key_name, keys_in}
use Rattle.workload.specs.Plan.{Plan}
use Rattle.workload.specs.declared.object.ObjectKind.{ObjectKind}
use Rattle.workload.specs.declared.object.ObjectKind.TheVariants as kinds
use Rattle.workload.specs.declared.object.ObjectLine.{ObjectLine}
use Rattle.script_calls.specs.declared.call.Call.{Call}
use Rattle.sync_types.specs.Name.{is_name, is_name_byte}
use Rattle.workload.specs.Canonical.{behind_spaces}
use Rattle.workload.specs.NumberWords.{number_word}
use Rattle.workload_text.specs.ReportLines.{truth_text, map_reply_text, pair_text, pairs_text, atomic_reply_text, lock_reply_text, once_reply_text, once_func_reply_text, pool_reply_text, flown_reply_text, var_reply_text, reply_text}
use Rattle.run_report.specs.Told.{has_64_bits, map_in_range, once_in_range, atomic_in_range, code_in_range, pool_in_range, var_in_range, is_in_range, is_key, is_number_at, is_number_of}
use Rattle.run_report.proofs.TextCuts.{lacks, lacks_both, cut, IsNoDigit, decimal_lacks, signed_lacks, name_lacks, first_lacks, rest_lacks, words_apart, words_lack}

small : (n : ℕ) → has_64_bits n ≡ true → n < 2 ^ 64
small n e = ltb-true n (2 ^ 64) e

decimal_one : (m n : ℕ) → has_64_bits m ≡ true → has_64_bits n ≡ true → decimal m ≡ decimal n → m ≡ n
decimal_one m n hm hn e = decimal_injective m n (small m hm) (small n hn) e

pub no_feed : IsNoDigit 10
no_feed digit lo hi e = omega arith

pub no_space : IsNoDigit 32
no_space digit lo hi e = omega arith

pub number_lacks : (byte : ℕ) → IsNoDigit byte → (n : ℕ) → has_64_bits n ≡ true → lacks byte (decimal n) ≡ true
number_lacks byte none n h = decimal_lacks byte none n (small n h)

truth_apart : (a b : Bool) → truth_text a ≡ truth_text b → a ≡ b
truth_apart true true e = refl
truth_apart true false e = absurd cc
truth_apart false true e = absurd cc
truth_apart false false e = refl

pub truth_lacks : (byte : ℕ) → lacks byte (truth_text true) ≡ true → lacks byte (truth_text false) ≡ true → (a : Bool) → lacks byte (truth_text a) ≡ true
truth_lacks byte t f true = t
truth_lacks byte t f false = f

-- maps
found_apart : (a b : Option ℕ) → map_in_range (map_replies.Found a) ≡ true → map_in_range (map_replies.Found b) ≡ true → map_reply_text (map_replies.Found a) ≡ map_reply_text (map_replies.Found b) → a ≡ b
found_apart None None ha hb e = refl
found_apart None (Some n) ha hb e =
    let parts = cut 32 (codes "-") (decimal n) (codes "false") (codes "true") refl (number_lacks 32 no_space n hb) e in
    absurd (differ parts.1)
  where
    differ : codes "false" ≡ codes "true" → ⊥
    differ e = cc
found_apart (Some m) None ha hb e =
    let parts = cut 32 (decimal m) (codes "-") (codes "true") (codes "false") (number_lacks 32 no_space m ha) refl e in
    absurd (differ parts.1)
  where
    differ : codes "true" ≡ codes "false" → ⊥
    differ e = cc
found_apart (Some m) (Some n) ha hb e =
    let parts = cut 32 (decimal m) (decimal n) (codes "true") (codes "true") (number_lacks 32 no_space m ha) (number_lacks 32 no_space n hb) e in
    ap Some (decimal_one m n ha hb parts.0)

map_done : (a b : MapReply) → is_map_done a ≡ true → is_map_done b ≡ true → a ≡ b
map_done map_replies.Done map_replies.Done fa fb = refl
map_done map_replies.Done (map_replies.Found b) fa fb = absurd cc
map_done map_replies.Done (map_replies.Settled b l) fa fb = absurd cc
map_done map_replies.Done (map_replies.Compared b) fa fb = absurd cc
map_done (map_replies.Found a) b fa fb = absurd cc
map_done (map_replies.Settled a l) b fa fb = absurd cc
map_done (map_replies.Compared a) b fa fb = absurd cc

map_found : (a b : MapReply) → is_found a ≡ true → is_found b ≡ true → map_in_range a ≡ true → map_in_range b ≡ true → map_reply_text a ≡ map_reply_text b → a ≡ b
map_found (map_replies.Found a) (map_replies.Found b) fa fb ha hb e = ap (λ (o : Option ℕ). map_replies.Found o) (found_apart a b ha hb e)
map_found (map_replies.Found a) map_replies.Done fa fb ha hb e = absurd cc
map_found (map_replies.Found a) (map_replies.Settled b l) fa fb ha hb e = absurd cc
map_found (map_replies.Found a) (map_replies.Compared b) fa fb ha hb e = absurd cc
map_found map_replies.Done b fa fb ha hb e = absurd cc
map_found (map_replies.Settled a l) b fa fb ha hb e = absurd cc
map_found (map_replies.Compared a) b fa fb ha hb e = absurd cc

map_settled : (a b : MapReply) → is_settled a ≡ true → is_settled b ≡ true → map_in_range a ≡ true → map_in_range b ≡ true → map_reply_text a ≡ map_reply_text b → a ≡ b
map_settled (map_replies.Settled a l) (map_replies.Settled b m) fa fb ha hb e =
    let parts = cut 32 (decimal a) (decimal b) (truth_text l) (truth_text m) (number_lacks 32 no_space a ha) (number_lacks 32 no_space b hb) (sym (append_assoc (decimal a) (codes " ") (truth_text l)) ∙ e ∙ append_assoc (decimal b) (codes " ") (truth_text m)) in
    ap (λ (n : ℕ). map_replies.Settled n l) (decimal_one a b ha hb parts.0) ∙ ap (λ (t : Bool). map_replies.Settled b t) (truth_apart l m parts.1)
map_settled (map_replies.Settled a l) map_replies.Done fa fb ha hb e = absurd cc
map_settled (map_replies.Settled a l) (map_replies.Found b) fa fb ha hb e = absurd cc
map_settled (map_replies.Settled a l) (map_replies.Compared b) fa fb ha hb e = absurd cc
map_settled map_replies.Done b fa fb ha hb e = absurd cc
map_settled (map_replies.Found a) b fa fb ha hb e = absurd cc
map_settled (map_replies.Compared a) b fa fb ha hb e = absurd cc

map_compared : (a b : MapReply) → is_map_compared a ≡ true → is_map_compared b ≡ true → map_reply_text a ≡ map_reply_text b → a ≡ b
map_compared (map_replies.Compared a) (map_replies.Compared b) fa fb e = ap (λ (t : Bool). map_replies.Compared t) (truth_apart a b e)
map_compared (map_replies.Compared a) map_replies.Done fa fb e = absurd cc
map_compared (map_replies.Compared a) (map_replies.Found b) fa fb e = absurd cc
map_compared (map_replies.Compared a) (map_replies.Settled b l) fa fb e = absurd cc
map_compared map_replies.Done b fa fb e = absurd cc
map_compared (map_replies.Found a) b fa fb e = absurd cc
map_compared (map_replies.Settled a l) b fa fb e = absurd cc

map_apart : (call : MapCall (List ℕ)) (a b : MapReply) → map_form call a ≡ true → map_form call b ≡ true → map_in_range a ≡ true → map_in_range b ≡ true → map_reply_text a ≡ map_reply_text b → a ≡ b
map_apart (map_calls.Load key) a b fa fb ha hb e = map_found a b fa fb ha hb e
map_apart (map_calls.Store key value) a b fa fb ha hb e = map_done a b fa fb
map_apart (map_calls.LoadOrStore key value) a b fa fb ha hb e = map_settled a b fa fb ha hb e
map_apart (map_calls.LoadAndDelete key) a b fa fb ha hb e = map_found a b fa fb ha hb e
map_apart (map_calls.Delete key) a b fa fb ha hb e = map_done a b fa fb
map_apart (map_calls.Swap key value) a b fa fb ha hb e = map_found a b fa fb ha hb e
map_apart (map_calls.CompareAndSwap key old new) a b fa fb ha hb e = map_compared a b fa fb e
map_apart (map_calls.CompareAndDelete key old) a b fa fb ha hb e = map_compared a b fa fb e
map_apart map_calls.Clear a b fa fb ha hb e = map_done a b fa fb

pub map_lacks : (a : MapReply) → map_in_range a ≡ true → lacks 10 (map_reply_text a) ≡ true
map_lacks map_replies.Done h = refl
map_lacks (map_replies.Found None) h = refl
map_lacks (map_replies.Found (Some n)) h = lacks_both 10 (decimal n) (codes " true") (number_lacks 10 no_feed n h) refl
map_lacks (map_replies.Settled n l) h = lacks_both 10 (decimal n ++ codes " ") (truth_text l) (lacks_both 10 (decimal n) (codes " ") (number_lacks 10 no_feed n h) refl) (truth_lacks 10 refl refl l)
map_lacks (map_replies.Compared l) h = truth_lacks 10 refl refl l

-- numbers of atomics
signed_small : (bound : ℕ) (z : ℤ) → bound ≤ 2 ^ 63 → is_signed bound z ≡ true → mag z < 2 ^ 63
signed_small bound (pos n) le h = omega (arith, ltb-true n bound h)
signed_small bound (negsuc n) le h = omega (arith, ltb-true n bound h)

signed_one : (bound : ℕ) (y z : ℤ) → bound ≤ 2 ^ 63 → is_signed bound y ≡ true → is_signed bound z ≡ true → signed_decimal y ≡ signed_decimal z → y ≡ z
signed_one bound y z le hy hz e = signed_decimal_injective y z (signed_small bound y le hy) (signed_small bound z le hz) e

pub number_apart : (type : AtomicKind) (a b : Number) → is_of type a ≡ true → is_of type b ≡ true → number_word a ≡ number_word b → a ≡ b
number_apart types.Int32 (numbers.Int32 y) (numbers.Int32 z) ha hb e = ap (λ n. numbers.Int32 n) (signed_one (2 ^ 31) y z (omega arith) ha hb e)
number_apart types.Int32 (numbers.Int32 y) (numbers.Int64 z) ha hb e = absurd cc
number_apart types.Int32 (numbers.Int32 y) (numbers.Uint32 z) ha hb e = absurd cc
number_apart types.Int32 (numbers.Int32 y) (numbers.Uint64 z) ha hb e = absurd cc
number_apart types.Int32 (numbers.Int32 y) (numbers.Bool z) ha hb e = absurd cc
number_apart types.Int32 (numbers.Int64 y) b ha hb e = absurd cc
number_apart types.Int32 (numbers.Uint32 y) b ha hb e = absurd cc
number_apart types.Int32 (numbers.Uint64 y) b ha hb e = absurd cc
number_apart types.Int32 (numbers.Bool y) b ha hb e = absurd cc
number_apart types.Int64 (numbers.Int64 y) (numbers.Int64 z) ha hb e = ap (λ n. numbers.Int64 n) (signed_one (2 ^ 63) y z (omega arith) ha hb e)
number_apart types.Int64 (numbers.Int64 y) (numbers.Int32 z) ha hb e = absurd cc
number_apart types.Int64 (numbers.Int64 y) (numbers.Uint32 z) ha hb e = absurd cc
number_apart types.Int64 (numbers.Int64 y) (numbers.Uint64 z) ha hb e = absurd cc
number_apart types.Int64 (numbers.Int64 y) (numbers.Bool z) ha hb e = absurd cc
number_apart types.Int64 (numbers.Int32 y) b ha hb e = absurd cc
number_apart types.Int64 (numbers.Uint32 y) b ha hb e = absurd cc
number_apart types.Int64 (numbers.Uint64 y) b ha hb e = absurd cc
number_apart types.Int64 (numbers.Bool y) b ha hb e = absurd cc
number_apart types.Uint32 (numbers.Uint32 m) (numbers.Uint32 n) ha hb e = ap (λ n. numbers.Uint32 n) (decimal_injective m n (omega (arith, ltb-true m (2 ^ 32) ha)) (omega (arith, ltb-true n (2 ^ 32) hb)) e)
number_apart types.Uint32 (numbers.Uint32 y) (numbers.Int32 z) ha hb e = absurd cc
number_apart types.Uint32 (numbers.Uint32 y) (numbers.Int64 z) ha hb e = absurd cc
number_apart types.Uint32 (numbers.Uint32 y) (numbers.Uint64 z) ha hb e = absurd cc
number_apart types.Uint32 (numbers.Uint32 y) (numbers.Bool z) ha hb e = absurd cc
number_apart types.Uint32 (numbers.Int32 y) b ha hb e = absurd cc
number_apart types.Uint32 (numbers.Int64 y) b ha hb e = absurd cc
number_apart types.Uint32 (numbers.Uint64 y) b ha hb e = absurd cc
number_apart types.Uint32 (numbers.Bool y) b ha hb e = absurd cc
number_apart types.Uint64 (numbers.Uint64 m) (numbers.Uint64 n) ha hb e = ap (λ n. numbers.Uint64 n) (decimal_injective m n (ltb-true m (2 ^ 64) ha) (ltb-true n (2 ^ 64) hb) e)
number_apart types.Uint64 (numbers.Uint64 y) (numbers.Int32 z) ha hb e = absurd cc
number_apart types.Uint64 (numbers.Uint64 y) (numbers.Int64 z) ha hb e = absurd cc
number_apart types.Uint64 (numbers.Uint64 y) (numbers.Uint32 z) ha hb e = absurd cc
number_apart types.Uint64 (numbers.Uint64 y) (numbers.Bool z) ha hb e = absurd cc
number_apart types.Uint64 (numbers.Int32 y) b ha hb e = absurd cc
number_apart types.Uint64 (numbers.Int64 y) b ha hb e = absurd cc
number_apart types.Uint64 (numbers.Uint32 y) b ha hb e = absurd cc
number_apart types.Uint64 (numbers.Bool y) b ha hb e = absurd cc
number_apart types.Bool (numbers.Bool m) (numbers.Bool n) ha hb e = ap (λ n. numbers.Bool n) (truth_apart m n e)
number_apart types.Bool (numbers.Bool y) (numbers.Int32 z) ha hb e = absurd cc
number_apart types.Bool (numbers.Bool y) (numbers.Int64 z) ha hb e = absurd cc
number_apart types.Bool (numbers.Bool y) (numbers.Uint32 z) ha hb e = absurd cc
number_apart types.Bool (numbers.Bool y) (numbers.Uint64 z) ha hb e = absurd cc
number_apart types.Bool (numbers.Int32 y) b ha hb e = absurd cc
number_apart types.Bool (numbers.Int64 y) b ha hb e = absurd cc
number_apart types.Bool (numbers.Uint32 y) b ha hb e = absurd cc
number_apart types.Bool (numbers.Uint64 y) b ha hb e = absurd cc

no_minus_feed : ◌≡◌ {A = ℕ} 45 10 → ⊥
no_minus_feed e = omega arith

-- whatever its type, the word of a number has no byte that is no digit, minus or letter
pub number_word_lacks : (byte : ℕ) → IsNoDigit byte → (45 ≡ byte → ⊥) → ((a : Bool) → lacks byte (truth_text a) ≡ true) → (type : AtomicKind) (a : Number) → is_of type a ≡ true → lacks byte (number_word a) ≡ true
number_word_lacks byte none minus truth types.Int32 (numbers.Int32 z) h = signed_lacks byte none minus z (signed_small (2 ^ 31) z (omega arith) h)
number_word_lacks byte none minus truth types.Int64 (numbers.Int64 z) h = signed_lacks byte none minus z (signed_small (2 ^ 63) z (omega arith) h)
number_word_lacks byte none minus truth types.Uint32 (numbers.Uint32 n) h = decimal_lacks byte none n (omega (arith, ltb-true n (2 ^ 32) h))
number_word_lacks byte none minus truth types.Uint64 (numbers.Uint64 n) h = decimal_lacks byte none n (ltb-true n (2 ^ 64) h)
number_word_lacks byte none minus truth types.Bool (numbers.Bool b) h = truth b
number_word_lacks byte none minus truth type a h = absurd cc

-- atomics, whose numbers are of one type
abbrev in_type : AtomicKind → AtomicReply → Bool
in_type type atomic_replies.Done = true
in_type type (atomic_replies.Held number) = is_of type number
in_type type (atomic_replies.Compared is_old) = true

atomic_done : (a b : AtomicReply) → is_atomic_done a ≡ true → is_atomic_done b ≡ true → a ≡ b
atomic_done atomic_replies.Done atomic_replies.Done fa fb = refl
atomic_done atomic_replies.Done (atomic_replies.Held b) fa fb = absurd cc
atomic_done atomic_replies.Done (atomic_replies.Compared b) fa fb = absurd cc
atomic_done (atomic_replies.Held a) b fa fb = absurd cc
atomic_done (atomic_replies.Compared a) b fa fb = absurd cc

atomic_held : (type : AtomicKind) (a b : AtomicReply) → is_held a ≡ true → is_held b ≡ true → in_type type a ≡ true → in_type type b ≡ true → atomic_reply_text a ≡ atomic_reply_text b → a ≡ b
atomic_held type (atomic_replies.Held a) (atomic_replies.Held b) fa fb ha hb e = ap (λ (n : Number). atomic_replies.Held n) (number_apart type a b ha hb e)
atomic_held type (atomic_replies.Held a) atomic_replies.Done fa fb ha hb e = absurd cc
atomic_held type (atomic_replies.Held a) (atomic_replies.Compared b) fa fb ha hb e = absurd cc
atomic_held type atomic_replies.Done b fa fb ha hb e = absurd cc
atomic_held type (atomic_replies.Compared a) b fa fb ha hb e = absurd cc

atomic_compared : (a b : AtomicReply) → is_atomic_compared a ≡ true → is_atomic_compared b ≡ true → atomic_reply_text a ≡ atomic_reply_text b → a ≡ b
atomic_compared (atomic_replies.Compared a) (atomic_replies.Compared b) fa fb e = ap (λ (t : Bool). atomic_replies.Compared t) (truth_apart a b e)
atomic_compared (atomic_replies.Compared a) atomic_replies.Done fa fb e = absurd cc
atomic_compared (atomic_replies.Compared a) (atomic_replies.Held b) fa fb e = absurd cc
atomic_compared atomic_replies.Done b fa fb e = absurd cc
atomic_compared (atomic_replies.Held a) b fa fb e = absurd cc

atomic_apart : (type : AtomicKind) (call : AtomicCall) (a b : AtomicReply) → atomic_form call a ≡ true → atomic_form call b ≡ true → in_type type a ≡ true → in_type type b ≡ true → atomic_reply_text a ≡ atomic_reply_text b → a ≡ b
atomic_apart type atomic_calls.Load a b fa fb ha hb e = atomic_held type a b fa fb ha hb e
atomic_apart type (atomic_calls.Store value) a b fa fb ha hb e = atomic_done a b fa fb
atomic_apart type (atomic_calls.Swap value) a b fa fb ha hb e = atomic_held type a b fa fb ha hb e
atomic_apart type (atomic_calls.Add operand) a b fa fb ha hb e = atomic_held type a b fa fb ha hb e
atomic_apart type (atomic_calls.And operand) a b fa fb ha hb e = atomic_held type a b fa fb ha hb e
atomic_apart type (atomic_calls.Or operand) a b fa fb ha hb e = atomic_held type a b fa fb ha hb e
atomic_apart type (atomic_calls.CompareAndSwap old new) a b fa fb ha hb e = atomic_compared a b fa fb e

-- a call that is made of others and answers as an atomic does answers whether a number was found
composed_said : (call : ComposedCall) (a : AtomicReply) → is_reply_to {K = ℕ} (operations.Composed call) (replies.Atomic a) ≡ true → is_atomic_compared a ≡ true
composed_said (IfEqual value passes) (atomic_replies.Compared a) fa = refl
composed_said (IfEqual value passes) a fa = absurd cc
composed_said (WaitFor atomic value tries) (atomic_replies.Compared a) fa = refl
composed_said (WaitFor atomic value tries) a fa = absurd cc
composed_said (Go worker) a fa = absurd cc

composed_apart : (call : ComposedCall) (a b : AtomicReply) → is_reply_to {K = ℕ} (operations.Composed call) (replies.Atomic a) ≡ true → is_reply_to {K = ℕ} (operations.Composed call) (replies.Atomic b) ≡ true
    → atomic_reply_text a ≡ atomic_reply_text b → a ≡ b
composed_apart call a b fa fb e = atomic_compared a b (composed_said call a fa) (composed_said call b fb) e

-- the numbers of an object are of one type
abbrev IsTyped : Option ObjectLine → AtomicKind → Type 0
IsTyped object type = (n : Number) → is_number_at object n ≡ true → is_of type n ≡ true

pub type_at : (object : Option ObjectLine) → (type : AtomicKind) × IsTyped object type
type_at None = (types.Bool, λ n h. absurd (no_number h))
  where
    no_number : false ≡ true → ⊥
    no_number h = cc
type_at (Some object) = by_kind object.kind
  where
    none : false ≡ true → ⊥
    none h = cc

    by_kind : (kind : ObjectKind) → (type : AtomicKind) × ((n : Number) → is_number_of kind n ≡ true → is_of type n ≡ true)
    by_kind (kinds.Atomic type) = (type, λ n h. h)
    by_kind kind = (types.Bool, λ n h. absurd (none h))

-- the number of an object that is no atomic is in no range, and so it answers none
atomic_at_apart : (object : Option ObjectLine) (call : AtomicCall) (a b : AtomicReply) → atomic_form call a ≡ true → atomic_form call b ≡ true → atomic_in_range object a ≡ true → atomic_in_range object b ≡ true → atomic_reply_text a ≡ atomic_reply_text b → a ≡ b
atomic_at_apart object call a b fa fb ha hb e = by_type (type_at object)
  where
    typed : (object : Option ObjectLine) (type : AtomicKind) (a : AtomicReply) → IsTyped object type → atomic_in_range object a ≡ true → in_type type a ≡ true
    typed object type atomic_replies.Done is h = refl
    typed object type (atomic_replies.Held n) is h = is n h
    typed object type (atomic_replies.Compared b) is h = refl

    by_type : (type : AtomicKind) × IsTyped object type → a ≡ b
    by_type (type, is) = atomic_apart type call a b fa fb (typed object type a is ha) (typed object type b is hb) e

pub atomic_lacks : (object : Option ObjectLine) (a : AtomicReply) → atomic_in_range object a ≡ true → lacks 10 (atomic_reply_text a) ≡ true
atomic_lacks object atomic_replies.Done h = refl
atomic_lacks object (atomic_replies.Held n) h =
    let typed = type_at object in
    number_word_lacks 10 no_feed no_minus_feed (truth_lacks 10 refl refl) typed.0 n (typed.1 n h)
atomic_lacks object (atomic_replies.Compared b) h = truth_lacks 10 refl refl b

-- locks
lock_done : (a b : LockReply) → is_lock_done a ≡ true → is_lock_done b ≡ true → a ≡ b
lock_done lock_replies.Done lock_replies.Done fa fb = refl
lock_done lock_replies.Done (lock_replies.Tried b) fa fb = absurd cc
lock_done (lock_replies.Tried a) b fa fb = absurd cc

lock_tried : (a b : LockReply) → is_tried a ≡ true → is_tried b ≡ true → lock_reply_text a ≡ lock_reply_text b → a ≡ b
lock_tried (lock_replies.Tried a) (lock_replies.Tried b) fa fb e = ap (λ (t : Bool). lock_replies.Tried t) (truth_apart a b e)
lock_tried (lock_replies.Tried a) lock_replies.Done fa fb e = absurd cc
lock_tried lock_replies.Done b fa fb e = absurd cc

mutex_apart : (call : MutexCall) (a b : LockReply) → mutex_form call a ≡ true → mutex_form call b ≡ true → lock_reply_text a ≡ lock_reply_text b → a ≡ b
mutex_apart mutex_calls.Lock a b fa fb e = lock_done a b fa fb
mutex_apart mutex_calls.Unlock a b fa fb e = lock_done a b fa fb
mutex_apart mutex_calls.TryLock a b fa fb e = lock_tried a b fa fb e

rw_mutex_apart : (call : RwMutexCall) (a b : LockReply) → rw_mutex_form call a ≡ true → rw_mutex_form call b ≡ true → lock_reply_text a ≡ lock_reply_text b → a ≡ b
rw_mutex_apart rw_calls.Lock a b fa fb e = lock_done a b fa fb
rw_mutex_apart rw_calls.Unlock a b fa fb e = lock_done a b fa fb
rw_mutex_apart rw_calls.TryLock a b fa fb e = lock_tried a b fa fb e
rw_mutex_apart rw_calls.RLock a b fa fb e = lock_done a b fa fb
rw_mutex_apart rw_calls.RUnlock a b fa fb e = lock_done a b fa fb
rw_mutex_apart rw_calls.TryRLock a b fa fb e = lock_tried a b fa fb e

sema_apart : (call : SemaCall) (a b : LockReply) → sema_form call a ≡ true → sema_form call b ≡ true → lock_reply_text a ≡ lock_reply_text b → a ≡ b
sema_apart (sema_calls.Acquire weight) a b fa fb e = lock_done a b fa fb
sema_apart (sema_calls.TryAcquire weight) a b fa fb e = lock_tried a b fa fb e
sema_apart (sema_calls.Release weight) a b fa fb e = lock_done a b fa fb

lock_lacks : (a : LockReply) → lacks 10 (lock_reply_text a) ≡ true
lock_lacks lock_replies.Done = refl
lock_lacks (lock_replies.Tried t) = truth_lacks 10 refl refl t

-- onces
once_small : (z : ℤ) → once_in_range (once_replies.Ran z) ≡ true → mag z < 2 ^ 63
once_small z h = signed_small (2 ^ 63) z (omega arith) h

once_apart : (a b : DoReply) → once_in_range a ≡ true → once_in_range b ≡ true → once_reply_text a ≡ once_reply_text b → a ≡ b
once_apart (once_replies.Ran y) (once_replies.Ran z) ha hb e =
    ap (λ (n : ℤ). once_replies.Ran n) (signed_decimal_injective y z (once_small y ha) (once_small z hb) (append_cancel_left (codes "ran ") (signed_decimal y) (signed_decimal z) e))
once_apart (once_replies.Ran y) once_replies.Done ha hb e = absurd (differ (signed_decimal y) e)
  where
    differ : (t : List ℕ) → codes "ran " ++ t ≡ codes "done" → ⊥
    differ t e = cc
once_apart once_replies.Done (once_replies.Ran z) ha hb e = absurd (differ (signed_decimal z) e)
  where
    differ : (t : List ℕ) → codes "done" ≡ codes "ran " ++ t → ⊥
    differ t e = cc
once_apart once_replies.Done once_replies.Done ha hb e = refl

once_lacks : (a : DoReply) → once_in_range a ≡ true → lacks 10 (once_reply_text a) ≡ true
once_lacks (once_replies.Ran z) h = lacks_both 10 (codes "ran ") (signed_decimal z) refl (signed_lacks 10 no_feed no_minus_feed z (once_small z h))
once_lacks once_replies.Done h = refl

func_apart : (a b : Option ℕ) → code_in_range a ≡ true → code_in_range b ≡ true → once_func_reply_text a ≡ once_func_reply_text b → a ≡ b
func_apart None None ha hb e = refl
func_apart None (Some n) ha hb e = absurd (differ (decimal n) e)
  where
    differ : (t : List ℕ) → codes "ok" ≡ codes "err " ++ t → ⊥
    differ t e = cc
func_apart (Some m) None ha hb e = absurd (differ (decimal m) e)
  where
    differ : (t : List ℕ) → codes "err " ++ t ≡ codes "ok" → ⊥
    differ t e = cc
func_apart (Some m) (Some n) ha hb e = ap Some (decimal_one m n ha hb (append_cancel_left (codes "err ") (decimal m) (decimal n) e))

func_lacks : (a : Option ℕ) → code_in_range a ≡ true → lacks 10 (once_func_reply_text a) ≡ true
func_lacks None h = refl
func_lacks (Some n) h = lacks_both 10 (codes "err ") (decimal n) refl (number_lacks 10 no_feed n h)

-- pools
pool_done : (a b : PoolCallReply) → is_pool_done a ≡ true → is_pool_done b ≡ true → a ≡ b
pool_done pool_replies.Done pool_replies.Done fa fb = refl
pool_done pool_replies.Done (pool_replies.Put b) fa fb = absurd cc
pool_done pool_replies.Done pool_replies.New fa fb = absurd cc
pool_done (pool_replies.Put a) b fa fb = absurd cc
pool_done pool_replies.New b fa fb = absurd cc

put_new : codes "put" ≡ codes "new" → ⊥
put_new e = true≢false (sym (ap (lacks 112) e))

new_put : codes "new" ≡ codes "put" → ⊥
new_put e = true≢false (sym (ap (lacks 110) e))

pool_item : (a b : PoolCallReply) → is_item a ≡ true → is_item b ≡ true → pool_in_range a ≡ true → pool_in_range b ≡ true → pool_reply_text a ≡ pool_reply_text b → a ≡ b
pool_item (pool_replies.Put m) (pool_replies.Put n) fa fb ha hb e =
    ap (λ (i : ℕ). pool_replies.Put i) (decimal_one m n ha hb (cut 32 (decimal m) (decimal n) (codes "put") (codes "put") (number_lacks 32 no_space m ha) (number_lacks 32 no_space n hb) e).0)
pool_item (pool_replies.Put m) pool_replies.New fa fb ha hb e = absurd (put_new (cut 32 (decimal m) (codes "0") (codes "put") (codes "new") (number_lacks 32 no_space m ha) refl e).1)
pool_item pool_replies.New (pool_replies.Put n) fa fb ha hb e = absurd (new_put (cut 32 (codes "0") (decimal n) (codes "new") (codes "put") refl (number_lacks 32 no_space n hb) e).1)
pool_item pool_replies.New pool_replies.New fa fb ha hb e = refl
pool_item (pool_replies.Put m) pool_replies.Done fa fb ha hb e = absurd cc
pool_item pool_replies.New pool_replies.Done fa fb ha hb e = absurd cc
pool_item pool_replies.Done b fa fb ha hb e = absurd cc

pool_apart : (call : PoolCall) (a b : PoolCallReply) → pool_form call a ≡ true → pool_form call b ≡ true → pool_in_range a ≡ true → pool_in_range b ≡ true → pool_reply_text a ≡ pool_reply_text b → a ≡ b
pool_apart (pool_calls.Put item) a b fa fb ha hb e = pool_done a b fa fb
pool_apart pool_calls.Get a b fa fb ha hb e = pool_item a b fa fb ha hb e
pool_apart pool_calls.Sweep a b fa fb ha hb e = pool_done a b fa fb

pool_lacks : (a : PoolCallReply) → pool_in_range a ≡ true → lacks 10 (pool_reply_text a) ≡ true
pool_lacks pool_replies.Done h = refl
pool_lacks (pool_replies.Put n) h = lacks_both 10 (decimal n) (codes " put") (number_lacks 10 no_feed n h) refl
pool_lacks pool_replies.New h = refl

-- flights
no_minus_space : ◌≡◌ {A = ℕ} 45 32 → ⊥
no_minus_space e = omega arith

flown_apart : (y z : ℤ) (s t : Bool) → once_in_range (once_replies.Ran y) ≡ true → once_in_range (once_replies.Ran z) ≡ true → flown_reply_text y s ≡ flown_reply_text z t → ◌≡◌ {A = Reply ℕ} (replies.Flown y s) (replies.Flown z t)
flown_apart y z s t hy hz e =
    let parts = cut 32 (signed_decimal y) (signed_decimal z) (truth_text s) (truth_text t) (signed_lacks 32 no_space no_minus_space y (once_small y hy)) (signed_lacks 32 no_space no_minus_space z (once_small z hz))
    (sym (append_assoc (signed_decimal y) (codes " ") (truth_text s)) ∙ e ∙ append_assoc (signed_decimal z) (codes " ") (truth_text t)) in
    ap (λ (n : ℤ). replies.Flown n s) (signed_decimal_injective y z (once_small y hy) (once_small z hz) parts.0) ∙ ap (λ (b : Bool). replies.Flown z b) (truth_apart s t parts.1)

flown_lacks : (z : ℤ) (s : Bool) → once_in_range (once_replies.Ran z) ≡ true → lacks 10 (flown_reply_text z s) ≡ true
flown_lacks z s h =
    lacks_both 10 (signed_decimal z ++ codes " ") (truth_text s) (lacks_both 10 (signed_decimal z) (codes " ") (signed_lacks 10 no_feed no_minus_feed z (once_small z h)) refl) (truth_lacks 10 refl refl s)

var_apart : (call : VarCall) (a b : VarReply) → var_form call a ≡ true → var_form call b ≡ true → var_in_range a ≡ true → var_in_range b ≡ true → var_reply_text a ≡ var_reply_text b → a ≡ b
var_apart var_calls.Read (var_replies.Held m) (var_replies.Held n) fa fb ha hb e = ap (λ (v : ℕ). var_replies.Held v) (decimal_one m n ha hb e)
var_apart (var_calls.Write v) var_replies.Done var_replies.Done fa fb ha hb e = refl
var_apart call a b fa fb ha hb e = absurd cc

var_lacks : (a : VarReply) → var_in_range a ≡ true → lacks 10 (var_reply_text a) ≡ true
var_lacks var_replies.Done h = refl
var_lacks (var_replies.Held n) h = number_lacks 10 no_feed n h

first_text : {x y : List ℕ} {xs ys : List (List ℕ)} → x ∷ xs ≡ y ∷ ys → x ≡ y
first_text e = cc

later_texts : {x y : List ℕ} {xs ys : List (List ℕ)} → x ∷ xs ≡ y ∷ ys → xs ≡ ys
later_texts e = cc

head_is : (first : ℕ) (rest : List ℕ) → codes "-" ≡ first ∷ rest → first ≡ 45
head_is first rest e = cc

-- what a workload's keys have to be: names, each at one place
pub record AreKeys (keys : List (List ℕ)) : Type 0 where
  pub names : (key : ℕ) → key < length keys → is_name (key_name keys key) ≡ true
  pub apart : (key other : ℕ) → key < length keys → other < length keys → key_name keys key ≡ key_name keys other → key ≡ other

-- ranges
module _ (plan : Plan) (are : AreKeys (keys_in plan.scripts)) where
  abbrev keys : List (List ℕ)
  keys = keys_in plan.scripts

  abbrev is_pair : ℕ × ℕ → Bool
  is_pair pair = is_key plan pair.0 && has_64_bits pair.1

  key_small : (key : ℕ) → is_key plan key ≡ true → key < length keys
  key_small key h = ltb-true key (length keys) h

  pair_parts : (pair : ℕ × ℕ) → is_pair pair ≡ true → (is_key plan pair.0 ≡ true) × (has_64_bits pair.1 ≡ true)
  pair_parts pair h = and_parts (is_key plan pair.0) (has_64_bits pair.1) h

  pair_lacks : (byte : ℕ) → IsNoDigit byte → is_name_byte byte ≡ false → lacks byte (codes "=") ≡ true → (pair : ℕ × ℕ) → is_pair pair ≡ true → lacks byte (pair_text keys pair) ≡ true
  pair_lacks byte none no_name equals pair h =
      let parts = pair_parts pair h in
      lacks_both byte (key_name keys pair.0 ++ codes "=") (decimal pair.1)
      (lacks_both byte (key_name keys pair.0) (codes "=") (name_lacks byte no_name (key_name keys pair.0) (are.names pair.0 (key_small pair.0 parts.0))) equals)
      (number_lacks byte none pair.1 parts.1)

  pair_apart : (a b : ℕ × ℕ) → is_pair a ≡ true → is_pair b ≡ true → pair_text keys a ≡ pair_text keys b → a ≡ b
  pair_apart (k, v) (l, w) ha hb e =
      let a_parts = pair_parts (k, v) ha in
      let b_parts = pair_parts (l, w) hb in
      let parts = cut 61 (key_name keys k) (key_name keys l) (decimal v) (decimal w) (name_lacks 61 refl (key_name keys k) (are.names k (key_small k a_parts.0))) (name_lacks 61 refl (key_name keys l) (are.names l (key_small l b_parts.0)))
      (sym (append_assoc (key_name keys k) (codes "=") (decimal v)) ∙ e ∙ append_assoc (key_name keys l) (codes "=") (decimal w)) in
      ap (λ (n : ℕ). (n, v)) (are.apart k l (key_small k a_parts.0) (key_small l b_parts.0) parts.0) ∙ ap (λ (n : ℕ). (l, n)) (decimal_one v w a_parts.1 b_parts.1 parts.1)

  pairs_lack : (byte : ℕ) → IsNoDigit byte → is_name_byte byte ≡ false → lacks byte (codes "=") ≡ true → (pairs : List (ℕ × ℕ)) → list_all is_pair pairs ≡ true → list_all (lacks byte) (map (pair_text keys) pairs) ≡ true
  pairs_lack byte none no_name equals [] h = refl
  pairs_lack byte none no_name equals (pair ∷ pairs) h =
      let parts = and_parts (is_pair pair) (list_all is_pair pairs) h in
      and_from (lacks byte (pair_text keys pair)) (list_all (lacks byte) (map (pair_text keys) pairs)) (pair_lacks byte none no_name equals pair parts.0) (pairs_lack byte none no_name equals pairs parts.1)

  texts_apart : (a b : List (ℕ × ℕ)) → list_all is_pair a ≡ true → list_all is_pair b ≡ true → map (pair_text keys) a ≡ map (pair_text keys) b → a ≡ b
  texts_apart [] [] ha hb e = refl
  texts_apart [] (y ∷ b) ha hb e = absurd cc
  texts_apart (x ∷ a) [] ha hb e = absurd cc
  texts_apart (x ∷ a) (y ∷ b) ha hb e =
      let a_parts = and_parts (is_pair x) (list_all is_pair a) ha in
      let b_parts = and_parts (is_pair y) (list_all is_pair b) hb in
      ap (λ (p : ℕ × ℕ). p ∷ a) (pair_apart x y a_parts.0 b_parts.0 (first_text e)) ∙ ap (λ (ps : List (ℕ × ℕ)). y ∷ ps) (texts_apart a b a_parts.1 b_parts.1 (later_texts e))

  -- a name begins with a letter, and so a pair's text is no dash
  no_dash : (pair : ℕ × ℕ) (rest : List ℕ) → is_pair pair ≡ true → codes "-" ≡ pair_text keys pair ++ rest → ⊥
  no_dash pair rest h e = at (key_name keys pair.0) (are.names pair.0 (key_small pair.0 (pair_parts pair h).0)) e
    where
      at : (name : List ℕ) → is_name name ≡ true → codes "-" ≡ ((name ++ codes "=") ++ decimal pair.1) ++ rest → ⊥
      at [] named e = absurd cc
      at (first ∷ name) named e = first_lacks 45 first name (name_lacks 45 refl (first ∷ name) named) (head_is first (((name ++ codes "=") ++ decimal pair.1) ++ rest) e)

  pairs_apart : (a b : List (ℕ × ℕ)) → list_all is_pair a ≡ true → list_all is_pair b ≡ true → pairs_text keys a ≡ pairs_text keys b → a ≡ b
  pairs_apart [] [] ha hb e = refl
  pairs_apart [] (y ∷ b) ha hb e = absurd (no_dash y (behind_spaces (map (pair_text keys) b)) (and_parts (is_pair y) (list_all is_pair b) hb).0 e)
  pairs_apart (x ∷ a) [] ha hb e = absurd (no_dash x (behind_spaces (map (pair_text keys) a)) (and_parts (is_pair x) (list_all is_pair a) ha).0 (sym e))
  pairs_apart (x ∷ a) (y ∷ b) ha hb e =
      texts_apart (x ∷ a) (y ∷ b) ha hb (words_apart (map (pair_text keys) (x ∷ a)) (map (pair_text keys) (y ∷ b)) (pairs_lack 32 no_space refl refl (x ∷ a) ha) (pairs_lack 32 no_space refl refl (y ∷ b) hb) (ap (λ (t : List ℕ). 32 ∷ t) e))

  pairs_feed : (a : List (ℕ × ℕ)) → list_all is_pair a ≡ true → lacks 10 (pairs_text keys a) ≡ true
  pairs_feed [] h = refl
  pairs_feed (x ∷ a) h = rest_lacks 10 32 (pairs_text keys (x ∷ a)) (words_lack 10 (map (pair_text keys) (x ∷ a)) refl (pairs_lack 10 no_feed refl refl (x ∷ a) h))

  -- a reply's text has no line feed
  pub reply_lacks : (call : Call) (a : Reply ℕ) → is_in_range plan call a ≡ true → lacks 10 (reply_text keys a) ≡ true
  reply_lacks call (replies.Map a) h = map_lacks a h
  reply_lacks call (replies.Pairs a) h = pairs_feed a h
  reply_lacks call (replies.Atomic a) h = atomic_lacks (slice_get plan.objects call.object) a h
  reply_lacks call (replies.Lock a) h = lock_lacks a
  reply_lacks call replies.Returned h = refl
  reply_lacks call (replies.Once a) h = once_lacks a h
  reply_lacks call (replies.OnceFunc a) h = func_lacks a h
  reply_lacks call (replies.OnceValue a) h = number_lacks 10 no_feed a h
  reply_lacks call (replies.Pool a) h = pool_lacks a h
  reply_lacks call (replies.Flown z s) h = flown_lacks z s h
  reply_lacks call (replies.Var a) h = var_lacks a h

  -- and no two replies to one call have one text
  pub reply_apart : (call : Call) (a b : Reply ℕ) → is_reply_to call.operation a ≡ true → is_reply_to call.operation b ≡ true → is_in_range plan call a ≡ true → is_in_range plan call b ≡ true → reply_text keys a ≡ reply_text keys b → a ≡ b
  reply_apart call (replies.Map a) b fa fb ha hb e = by_operation call.operation a b fa fb ha hb e
    where
      by_operation : (o : Operation) (a : MapReply) (b : Reply ℕ) → is_reply_to {K = ℕ} o (replies.Map a) ≡ true → is_reply_to {K = ℕ} o b ≡ true → map_in_range a ≡ true → is_in_range plan call b ≡ true → map_reply_text a ≡ reply_text keys b → replies.Map a ≡ b
      by_operation (operations.Map of) a (replies.Map b) fa fb ha hb e = ap (λ (r : MapReply). replies.Map r) (map_apart of a b fa fb ha hb e)
      by_operation (operations.Composed (Go worker)) a b fa fb ha hb e = absurd cc
      by_operation o a b fa fb ha hb e = absurd cc
  reply_apart call (replies.Pairs a) b fa fb ha hb e = by_operation call.operation a b fa fb ha hb e
    where
      by_operation : (o : Operation) (a : List (ℕ × ℕ)) (b : Reply ℕ) → is_reply_to {K = ℕ} o (replies.Pairs a) ≡ true → is_reply_to {K = ℕ} o b ≡ true → list_all is_pair a ≡ true → is_in_range plan call b ≡ true → pairs_text keys a ≡ reply_text keys b → replies.Pairs a ≡ b
      by_operation operations.Range a (replies.Pairs b) fa fb ha hb e = ap (λ (r : List (ℕ × ℕ)). replies.Pairs r) (pairs_apart a b ha hb e)
      by_operation (operations.Composed (Go worker)) a b fa fb ha hb e = absurd cc
      by_operation o a b fa fb ha hb e = absurd cc
  reply_apart call (replies.Atomic a) b fa fb ha hb e = by_operation call.operation a b fa fb ha hb e
    where
      by_operation : (o : Operation) (a : AtomicReply) (b : Reply ℕ) → is_reply_to {K = ℕ} o (replies.Atomic a) ≡ true → is_reply_to {K = ℕ} o b ≡ true → atomic_in_range (slice_get plan.objects call.object) a ≡ true → is_in_range plan call b ≡ true → atomic_reply_text a ≡ reply_text keys b → replies.Atomic a ≡ b
      by_operation (operations.Atomic of) a (replies.Atomic b) fa fb ha hb e = ap (λ (r : AtomicReply). replies.Atomic r) (atomic_at_apart (slice_get plan.objects call.object) of a b fa fb ha hb e)
      by_operation (operations.Composed (Go worker)) a b fa fb ha hb e = absurd cc
      by_operation (operations.Composed of) a (replies.Atomic b) fa fb ha hb e = ap (λ (r : AtomicReply). replies.Atomic r) (composed_apart of a b fa fb e)
      by_operation o a b fa fb ha hb e = absurd cc
  reply_apart call (replies.Lock a) b fa fb ha hb e = by_operation call.operation a b fa fb hb e
    where
      by_operation : (o : Operation) (a : LockReply) (b : Reply ℕ) → is_reply_to {K = ℕ} o (replies.Lock a) ≡ true → is_reply_to {K = ℕ} o b ≡ true → is_in_range plan call b ≡ true → lock_reply_text a ≡ reply_text keys b → replies.Lock a ≡ b
      by_operation (operations.Mutex of) a (replies.Lock b) fa fb hb e = ap (λ (r : LockReply). replies.Lock r) (mutex_apart of a b fa fb e)
      by_operation (operations.RwMutex of) a (replies.Lock b) fa fb hb e = ap (λ (r : LockReply). replies.Lock r) (rw_mutex_apart of a b fa fb e)
      by_operation (operations.Sema of) a (replies.Lock b) fa fb hb e = ap (λ (r : LockReply). replies.Lock r) (sema_apart of a b fa fb e)
      by_operation (operations.Composed (Go worker)) a b fa fb hb e = absurd cc
      by_operation o a b fa fb hb e = absurd cc
  reply_apart call replies.Returned b fa fb ha hb e = by_operation call.operation b fa fb
    where
      by_operation : (o : Operation) (b : Reply ℕ) → is_reply_to {K = ℕ} o replies.Returned ≡ true → is_reply_to {K = ℕ} o b ≡ true → replies.Returned ≡ b
      by_operation (operations.Cond of) replies.Returned fa fb = refl
      by_operation (operations.WaitGroup of) replies.Returned fa fb = refl
      by_operation (operations.Composed (Go worker)) replies.Returned fa fb = refl
      by_operation o b fa fb = absurd cc
  reply_apart call (replies.Once a) b fa fb ha hb e = by_operation call.operation a b fa fb ha hb e
    where
      by_operation : (o : Operation) (a : DoReply) (b : Reply ℕ) → is_reply_to {K = ℕ} o (replies.Once a) ≡ true → is_reply_to {K = ℕ} o b ≡ true → once_in_range a ≡ true → is_in_range plan call b ≡ true → once_reply_text a ≡ reply_text keys b → replies.Once a ≡ b
      by_operation operations.Once a (replies.Once b) fa fb ha hb e = ap (λ (r : DoReply). replies.Once r) (once_apart a b ha hb e)
      by_operation (operations.Composed (Go worker)) a b fa fb ha hb e = absurd cc
      by_operation o a b fa fb ha hb e = absurd cc
  reply_apart call (replies.OnceFunc a) b fa fb ha hb e = by_operation call.operation a b fa fb ha hb e
    where
      by_operation : (o : Operation) (a : Option ℕ) (b : Reply ℕ) → is_reply_to {K = ℕ} o (replies.OnceFunc a) ≡ true → is_reply_to {K = ℕ} o b ≡ true → code_in_range a ≡ true → is_in_range plan call b ≡ true → once_func_reply_text a ≡ reply_text keys b → replies.OnceFunc a ≡ b
      by_operation operations.OnceFunc a (replies.OnceFunc b) fa fb ha hb e = ap (λ (r : Option ℕ). replies.OnceFunc r) (func_apart a b ha hb e)
      by_operation (operations.Composed (Go worker)) a b fa fb ha hb e = absurd cc
      by_operation o a b fa fb ha hb e = absurd cc
  reply_apart call (replies.OnceValue a) b fa fb ha hb e = by_operation call.operation a b fa fb ha hb e
    where
      by_operation : (o : Operation) (a : ℕ) (b : Reply ℕ) → is_reply_to {K = ℕ} o (replies.OnceValue a) ≡ true → is_reply_to {K = ℕ} o b ≡ true → has_64_bits a ≡ true → is_in_range plan call b ≡ true → decimal a ≡ reply_text keys b → replies.OnceValue a ≡ b
      by_operation operations.OnceValue a (replies.OnceValue b) fa fb ha hb e = ap (λ (r : ℕ). replies.OnceValue r) (decimal_one a b ha hb e)
      by_operation (operations.Composed (Go worker)) a b fa fb ha hb e = absurd cc
      by_operation o a b fa fb ha hb e = absurd cc
  reply_apart call (replies.Pool a) b fa fb ha hb e = by_operation call.operation a b fa fb ha hb e
    where
      by_operation : (o : Operation) (a : PoolCallReply) (b : Reply ℕ) → is_reply_to {K = ℕ} o (replies.Pool a) ≡ true → is_reply_to {K = ℕ} o b ≡ true → pool_in_range a ≡ true → is_in_range plan call b ≡ true → pool_reply_text a ≡ reply_text keys b → replies.Pool a ≡ b
      by_operation (operations.Pool of) a (replies.Pool b) fa fb ha hb e = ap (λ (r : PoolCallReply). replies.Pool r) (pool_apart of a b fa fb ha hb e)
      by_operation (operations.Composed (Go worker)) a b fa fb ha hb e = absurd cc
      by_operation o a b fa fb ha hb e = absurd cc
  reply_apart call (replies.Flown z s) b fa fb ha hb e = by_operation call.operation b fa fb hb e
    where
      by_operation : (o : Operation) (b : Reply ℕ) → is_reply_to {K = ℕ} o (replies.Flown z s) ≡ true → is_reply_to {K = ℕ} o b ≡ true → is_in_range plan call b ≡ true → flown_reply_text z s ≡ reply_text keys b → replies.Flown z s ≡ b
      by_operation (operations.Fly key) (replies.Flown y t) fa fb hb e = flown_apart z y s t ha hb e
      by_operation (operations.Composed (Go worker)) b fa fb hb e = absurd cc
      by_operation o b fa fb hb e = absurd cc
  reply_apart call (replies.Var a) b fa fb ha hb e = by_operation call.operation a b fa fb ha hb e
    where
      by_operation : (o : Operation) (a : VarReply) (b : Reply ℕ) → is_reply_to {K = ℕ} o (replies.Var a) ≡ true → is_reply_to {K = ℕ} o b ≡ true → var_in_range a ≡ true → is_in_range plan call b ≡ true → var_reply_text a ≡ reply_text keys b → replies.Var a ≡ b
      by_operation (operations.Var of) a (replies.Var b) fa fb ha hb e = ap (λ (r : VarReply). replies.Var r) (var_apart of a b fa fb ha hb e)
      by_operation (operations.Composed (Go worker)) a b fa fb ha hb e = absurd cc
      by_operation o a b fa fb ha hb e = absurd cc
