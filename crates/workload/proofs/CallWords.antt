-- The call that words spell: what is read back from the spelling of a call.
use Rattle.std.proofs.Common.{◌≡◌, ℕ, ◌^◌, ◌<◌, ◌≤◌, ◌-◌, ℤ, pos, negsuc, zero, suc, true, false, cond, ◌&&◌, ◌||◌, eqb, List, [], ◌∷◌, Option, Some, None, refl, sym, ap, subst, ◌∙◌, arith}
use Rattle.std.specs.Prelude.{nat_le, nat_lt, codes}
use Rattle.std.specs.List.{list_all}
use Rattle.std.specs.Str.{bytes_eq}
use Rattle.std.specs.Fmt.{decimal, signed_decimal}
use Rattle.std.proofs.lemmas.Bool.{eqb-true, leb-true, le-leb, ltb-true, lt-ltb}
use Rattle.std.proofs.lemmas.Slice.Eq.{bytes_eq-Decides}
use Rattle.sync_types.specs.Name.{is_name}
use Rattle.sync_types.specs.declared.map_object.MapCall.{MapCall}
use Rattle.sync_types.specs.declared.map_object.MapCall.TheVariants as map_calls
use Rattle.sync_types.specs.declared.wait_call.WaitGroupCall.{WaitGroupCall}
use Rattle.sync_types.specs.declared.wait_call.WaitGroupCall.TheVariants as group_calls
use Rattle.sync_types.specs.declared.pool_call.PoolCall.{PoolCall}
use Rattle.sync_types.specs.declared.pool_call.PoolCall.TheVariants as pool_calls
use Rattle.sync_types.specs.declared.sema_call.SemaCall.{SemaCall}
use Rattle.sync_types.specs.declared.sema_call.SemaCall.TheVariants as sema_calls
use Rattle.script_calls.specs.declared.call.VarCall.{VarCall}
use Rattle.script_calls.specs.declared.call.VarCall.TheVariants as var_calls
use Rattle.sync_types.specs.declared.atomic_object.AtomicKind.{AtomicKind}
use Rattle.sync_types.specs.declared.atomic_object.AtomicKind.TheVariants as types
use Rattle.sync_types.specs.declared.atomic_object.Number.{Number}
use Rattle.sync_types.specs.declared.atomic_object.Number.TheVariants as numbers
use Rattle.sync_types.specs.declared.atomic_object.AtomicCall.{AtomicCall}
use Rattle.sync_types.specs.declared.atomic_object.AtomicCall.TheVariants as atomic_calls
use Rattle.sync_types.specs.SequentialAtomic.{has_bits, is_signed, is_of, is_atomic_call}
use Rattle.script_calls.specs.declared.call.ComposedCall.{ComposedCall}
use Rattle.script_calls.specs.declared.call.ComposedCall.TheVariants.{IfEqual, WaitFor, Go}
use Rattle.workload.specs.declared.keyword.Verb.{Verb}
use Rattle.workload.specs.declared.keyword.Verb.TheVariants as verbs
use Rattle.workload.specs.declared.limits.TheConstants.{MAX_AMOUNT, MAX_PASSES, MAX_SIZE, MAX_TRIES}
use Rattle.sync_types.specs.declared.value.TheConstants.{MAX_VALUE}
use Rattle.script_calls.specs.declared.call.Operation.TheVariants as operations
use Rattle.workload.specs.declared.object.ObjectWord.TheVariants as words
use Rattle.workload.specs.Plan.{is_amount, has_operation}
use Rattle.workload.specs.NumberWords.{is_amount_word, is_passes, is_passes_word, is_tries, is_tries_word, is_weight, is_weight_word, number_word, number_of, is_number, is_number_to, is_signed_word, is_number_between, is_number_word}
use Rattle.workload.specs.CallWords.{map_verb, map_operands, atomic_verb, atomic_operands, group_verb, group_operands, pool_verb, pool_operands, sema_verb, sema_weight, var_verb, var_operands, composed_verb, composed_operands}
use Rattle.workload.specs.Draft.{is_map_call, is_group_call, is_pool_call, is_var_call, is_composed_call, is_value}
use Rattle.workload.proofs.Passing.{both, pair}
use Rattle.workload.proofs.Numbers.{decimal-number_of, number_of-decimal, is_number-decimal}

-- ---- calls of a map

-- the call of a map of this word with these operands
abbrev pub map_call_at : Verb → List (List ℕ) → Option (MapCall (List ℕ))
map_call_at verbs.Load (k ∷ []) = Some (map_calls.Load k)
map_call_at verbs.Store (k ∷ v ∷ []) = Some (map_calls.Store k (number_of v))
map_call_at verbs.LoadOrStore (k ∷ v ∷ []) = Some (map_calls.LoadOrStore k (number_of v))
map_call_at verbs.LoadAndDelete (k ∷ []) = Some (map_calls.LoadAndDelete k)
map_call_at verbs.Delete (k ∷ []) = Some (map_calls.Delete k)
map_call_at verbs.Swap (k ∷ v ∷ []) = Some (map_calls.Swap k (number_of v))
map_call_at verbs.CompareAndSwap (k ∷ v ∷ w ∷ []) = Some (map_calls.CompareAndSwap k (number_of v) (number_of w))
map_call_at verbs.CompareAndDelete (k ∷ v ∷ []) = Some (map_calls.CompareAndDelete k (number_of v))
map_call_at verbs.Clear [] = Some map_calls.Clear
map_call_at verb words = None

value_back : (n : ℕ) → is_value n ≡ true → number_of (decimal n) ≡ n
value_back n h = number_of-decimal n (omega (arith, leb-true n MAX_VALUE h))

-- the values behind a key are in range
one_value : (k : List ℕ) (v : ℕ) → (list_all is_name (k ∷ []) && list_all is_value (v ∷ [])) ≡ true → is_value v ≡ true
one_value k v h = (both (is_value v) true (both (list_all is_name (k ∷ [])) (list_all is_value (v ∷ [])) h).1).0

pub map_call_spelled : (c : MapCall (List ℕ)) → is_map_call c ≡ true → map_call_at (map_verb c) (map_operands c) ≡ Some c
map_call_spelled (map_calls.Load k) h = refl
map_call_spelled (map_calls.Store k v) h = ap (λ (n : ℕ). Some (map_calls.Store k n)) (value_back v (one_value k v h))
map_call_spelled (map_calls.LoadOrStore k v) h = ap (λ (n : ℕ). Some (map_calls.LoadOrStore k n)) (value_back v (one_value k v h))
map_call_spelled (map_calls.LoadAndDelete k) h = refl
map_call_spelled (map_calls.Delete k) h = refl
map_call_spelled (map_calls.Swap k v) h = ap (λ (n : ℕ). Some (map_calls.Swap k n)) (value_back v (one_value k v h))
map_call_spelled (map_calls.CompareAndSwap k v w) h =
    let values = (both (list_all is_name (k ∷ [])) (list_all is_value (v ∷ w ∷ [])) h).1 in
    let first = both (is_value v) (list_all is_value (w ∷ [])) values in
    let second = both (is_value w) true first.1 in
    ap (λ (n : ℕ). Some (map_calls.CompareAndSwap k n (number_of (decimal w)))) (value_back v first.0) ∙ ap (λ (n : ℕ). Some (map_calls.CompareAndSwap k v n)) (value_back w second.0)
map_call_spelled (map_calls.CompareAndDelete k v) h = ap (λ (n : ℕ). Some (map_calls.CompareAndDelete k n)) (value_back v (one_value k v h))
map_call_spelled map_calls.Clear h = refl

-- ---- numbers of atomics

abbrev pub below_zero : ℕ → ℤ
below_zero zero = pos 0
below_zero (suc n) = negsuc n

-- the signed number that a word is
abbrev pub signed_of : List ℕ → ℤ
signed_of [] = pos 0
signed_of (byte ∷ bytes) = cond (eqb byte 45) (below_zero (number_of bytes)) (pos (number_of (byte ∷ bytes)))

-- the number of an atomic of this type that a word is
abbrev pub number_read : AtomicKind → List ℕ → Number
number_read types.Int32 word = numbers.Int32 (signed_of word)
number_read types.Int64 word = numbers.Int64 (signed_of word)
number_read types.Uint32 word = numbers.Uint32 (number_of word)
number_read types.Uint64 word = numbers.Uint64 (number_of word)
number_read types.Bool word = numbers.Bool (bytes_eq word (codes "true"))

no_digit : (byte : ℕ) (bytes : List ℕ) → byte ≡ 45 → is_number (byte ∷ bytes) ≡ true → ⊥
no_digit byte bytes e number =
    let at : is_number (45 ∷ bytes) ≡ true = subst (λ (x : ℕ). is_number (x ∷ bytes) ≡ true) e number in
    absurd cc

-- a word of digits has no sign
no_sign : (word : List ℕ) → is_number word ≡ true → signed_of word ≡ pos (number_of word)
no_sign [] number = absurd cc
no_sign (byte ∷ bytes) number =
    elim (eqb byte 45) as (λ b. eqb byte 45 ≡ b → cond b (below_zero (number_of bytes)) (pos (number_of (byte ∷ bytes))) ≡ pos (number_of (byte ∷ bytes))) [
      | true ↦ λ sign. absurd (no_digit byte bytes (eqb-true byte 45 sign) number)
      | false ↦ λ other. refl
    ] refl

signed_spelled : (z : ℤ) → is_signed (2 ^ 63) z ≡ true → signed_of (signed_decimal z) ≡ z
signed_spelled (pos n) h =
    let small : n < 2 ^ 64 = omega (arith, ltb-true n (2 ^ 63) h) in
    no_sign (decimal n) (is_number-decimal n small) ∙ ap (λ (m : ℕ). pos m) (number_of-decimal n small)
signed_spelled (negsuc n) h =
    let small : suc n < 2 ^ 64 = omega (arith, ltb-true n (2 ^ 63) h) in
    ap below_zero (number_of-decimal (suc n) small)

pub narrow : (z : ℤ) → is_signed (2 ^ 31) z ≡ true → is_signed (2 ^ 63) z ≡ true
narrow (pos n) h = lt-ltb n (2 ^ 63) (omega (arith, ltb-true n (2 ^ 31) h))
narrow (negsuc n) h = lt-ltb n (2 ^ 63) (omega (arith, ltb-true n (2 ^ 31) h))

pub number_spelled : (kind : AtomicKind) (x : Number) → is_of kind x ≡ true → number_read kind (number_word x) ≡ x
number_spelled types.Int32 (numbers.Int32 z) h = ap (λ (y : ℤ). numbers.Int32 y) (signed_spelled z (narrow z h))
number_spelled types.Int64 (numbers.Int64 z) h = ap (λ (y : ℤ). numbers.Int64 y) (signed_spelled z h)
number_spelled types.Uint32 (numbers.Uint32 n) h = ap (λ (m : ℕ). numbers.Uint32 m) (number_of-decimal n (omega (arith, ltb-true n (2 ^ 32) h)))
number_spelled types.Uint64 (numbers.Uint64 n) h = ap (λ (m : ℕ). numbers.Uint64 m) (number_of-decimal n (ltb-true n (2 ^ 64) h))
number_spelled types.Bool (numbers.Bool true) h = refl
number_spelled types.Bool (numbers.Bool false) h = refl
number_spelled kind x h = absurd cc

signed_said : (bound : ℕ) (word : List ℕ) → 0 < bound → bound ≤ 2 ^ 63 → is_signed_word bound word ≡ true → (is_signed bound (signed_of word) ≡ true) × (signed_decimal (signed_of word) ≡ word)
signed_said bound [] some fits h = absurd cc
signed_said bound (byte ∷ bytes) some fits h =
    elim (eqb byte 45) as (λ b. eqb byte 45 ≡ b → cond b (is_number_to bound bytes && nat_lt 0 (number_of bytes)) (is_number_to (bound - 1) (byte ∷ bytes)) ≡ true → (is_signed bound (cond b (below_zero (number_of bytes)) (pos (number_of (byte ∷ bytes)))) ≡ true) × (signed_decimal (cond b (below_zero (number_of bytes)) (pos (number_of (byte ∷ bytes)))) ≡ byte ∷ bytes)) [
      | true ↦ λ sign e.
          let parts = both (is_number_to bound bytes) (nat_lt 0 (number_of bytes)) e in
          let value = both (is_number bytes) (nat_le (number_of bytes) bound) parts.0 in
          let most = leb-true (number_of bytes) bound value.1 in
          let digits = decimal-number_of bytes value.0 (omega arith) in
          let below = negative_said bound bytes (number_of bytes) digits (ltb-true 0 (number_of bytes) parts.1) most in
          (below.0, below.1 ∙ ap (λ (x : ℕ). x ∷ bytes) (sym (eqb-true byte 45 sign)))
      | false ↦ λ other e.
          let value = both (is_number (byte ∷ bytes)) (nat_le (number_of (byte ∷ bytes)) (bound - 1)) e in
          let most = leb-true (number_of (byte ∷ bytes)) (bound - 1) value.1 in
          (lt-ltb (number_of (byte ∷ bytes)) bound (omega arith), decimal-number_of (byte ∷ bytes) value.0 (omega arith))
    ] refl h
  where
    negative_said : (bound : ℕ) (bytes : List ℕ) (n : ℕ) → decimal n ≡ bytes → 0 < n → n ≤ bound → (is_signed bound (below_zero n) ≡ true) × (signed_decimal (below_zero n) ≡ 45 ∷ bytes)
    negative_said bound bytes zero digits some most = absurd (omega arith)
    negative_said bound bytes (suc n) digits some most = (lt-ltb n bound (omega arith), ap (λ (ws : List ℕ). 45 ∷ ws) digits)

truth_said : (word : List ℕ) → (bytes_eq word (codes "true") || bytes_eq word (codes "false")) ≡ true → number_word (numbers.Bool (bytes_eq word (codes "true"))) ≡ word
truth_said word h =
    elim (bytes_eq word (codes "true")) as (λ b. bytes_eq word (codes "true") ≡ b → (b || bytes_eq word (codes "false")) ≡ true → number_word (numbers.Bool b) ≡ word) [
      | true ↦ λ t e. sym ((bytes_eq-Decides word (codes "true")).0 t)
      | false ↦ λ f e. sym ((bytes_eq-Decides word (codes "false")).0 e)
    ] refl h

unsigned_said : (most : ℕ) (word : List ℕ) → most < 2 ^ 64 → is_number_to most word ≡ true → (number_of word ≤ most) × (decimal (number_of word) ≡ word)
unsigned_said most word fits h =
    let value = both (is_number word) (nat_le (number_of word) most) h in
    let less = leb-true (number_of word) most value.1 in
    (less, decimal-number_of word value.0 (omega arith))

-- a word that is a number of this type
pub number_said : (kind : AtomicKind) (word : List ℕ) → is_number_word kind word ≡ true → (is_of kind (number_read kind word) ≡ true) × (number_word (number_read kind word) ≡ word)
number_said types.Int32 word h = signed_said (2 ^ 31) word (omega arith) (omega arith) h
number_said types.Int64 word h = signed_said (2 ^ 63) word (omega arith) (omega arith) h
number_said types.Uint32 word h =
    let said = unsigned_said (2 ^ 32 - 1) word (omega arith) h in
    (lt-ltb (number_of word) (2 ^ 32) (omega (arith, said.0)), said.1)
number_said types.Uint64 word h =
    let said = unsigned_said (2 ^ 64 - 1) word (omega arith) h in
    (lt-ltb (number_of word) (2 ^ 64) (omega (arith, said.0)), said.1)
number_said types.Bool word h = (refl, truth_said word h)

unsigned_passes : (most n : ℕ) → n ≤ most → n < 2 ^ 64 → is_number_to most (decimal n) ≡ true
unsigned_passes most n le small = rw (is_number-decimal n small, number_of-decimal n small) (le-leb n most le)

-- a word of digits, which has no sign, is at most what it may be
digits_between : (least most : ℕ) (word : List ℕ) → is_number_to most word ≡ true → is_number_between least most word ≡ true
digits_between least most [] h = absurd cc
digits_between least most (byte ∷ bytes) h =
    elim (eqb byte 45) as (λ b. eqb byte 45 ≡ b → cond b (is_number_to least bytes && nat_lt 0 (number_of bytes)) (is_number_to most (byte ∷ bytes)) ≡ true) [
      | true ↦ λ sign. absurd (no_digit byte bytes (eqb-true byte 45 sign) (both (is_number (byte ∷ bytes)) (nat_le (number_of (byte ∷ bytes)) most) h).0)
      | false ↦ λ other. h
    ] refl

signed_passes : (bound : ℕ) (z : ℤ) → bound ≤ 2 ^ 63 → is_signed bound z ≡ true → is_signed_word bound (signed_decimal z) ≡ true
signed_passes bound (pos n) fits h =
    let less = ltb-true n bound h in
    digits_between bound (bound - 1) (decimal n) (unsigned_passes (bound - 1) n (omega arith) (omega arith))
signed_passes bound (negsuc n) fits h =
    let less = ltb-true n bound h in
    pair (is_number_to bound (decimal (suc n))) (nat_lt 0 (number_of (decimal (suc n)))) (unsigned_passes bound (suc n) (omega arith) (omega arith)) (ap (λ (m : ℕ). nat_lt 0 m) (number_of-decimal (suc n) (omega arith)) ∙ lt-ltb 0 (suc n) (omega arith))

-- a number is spelled as one of its type
pub number_passes : (kind : AtomicKind) (x : Number) → is_of kind x ≡ true → is_number_word kind (number_word x) ≡ true
number_passes types.Int32 (numbers.Int32 z) h = signed_passes (2 ^ 31) z (omega arith) h
number_passes types.Int64 (numbers.Int64 z) h = signed_passes (2 ^ 63) z (omega arith) h
number_passes types.Uint32 (numbers.Uint32 n) h = let less = ltb-true n (2 ^ 32) h in unsigned_passes (2 ^ 32 - 1) n (omega arith) (omega arith)
number_passes types.Uint64 (numbers.Uint64 n) h = let less = ltb-true n (2 ^ 64) h in unsigned_passes (2 ^ 64 - 1) n (omega arith) (omega arith)
number_passes types.Bool (numbers.Bool true) h = refl
number_passes types.Bool (numbers.Bool false) h = refl
number_passes kind x h = absurd cc

-- ---- calls of an atomic

-- the call of an atomic of this word with these operands
abbrev pub atomic_call_at : AtomicKind → Verb → List (List ℕ) → Option AtomicCall
atomic_call_at kind verbs.Load [] = Some atomic_calls.Load
atomic_call_at kind verbs.Store (v ∷ []) = Some (atomic_calls.Store (number_read kind v))
atomic_call_at kind verbs.Swap (v ∷ []) = Some (atomic_calls.Swap (number_read kind v))
atomic_call_at kind verbs.Add (v ∷ []) = Some (atomic_calls.Add (number_read kind v))
atomic_call_at kind verbs.And (v ∷ []) = Some (atomic_calls.And (number_read kind v))
atomic_call_at kind verbs.Or (v ∷ []) = Some (atomic_calls.Or (number_read kind v))
atomic_call_at kind verbs.CompareAndSwap (v ∷ w ∷ []) = Some (atomic_calls.CompareAndSwap (number_read kind v) (number_read kind w))
atomic_call_at kind verb words = None

pub atomic_call_spelled : (kind : AtomicKind) (c : AtomicCall) → is_atomic_call kind c ≡ true → atomic_call_at kind (atomic_verb c) (atomic_operands c) ≡ Some c
atomic_call_spelled kind atomic_calls.Load h = refl
atomic_call_spelled kind (atomic_calls.Store v) h = ap (λ (x : Number). Some (atomic_calls.Store x)) (number_spelled kind v h)
atomic_call_spelled kind (atomic_calls.Swap v) h = ap (λ (x : Number). Some (atomic_calls.Swap x)) (number_spelled kind v h)
atomic_call_spelled kind (atomic_calls.Add v) h = ap (λ (x : Number). Some (atomic_calls.Add x)) (number_spelled kind v (both (has_bits kind) (is_of kind v) h).1)
atomic_call_spelled kind (atomic_calls.And v) h = ap (λ (x : Number). Some (atomic_calls.And x)) (number_spelled kind v (both (has_bits kind) (is_of kind v) h).1)
atomic_call_spelled kind (atomic_calls.Or v) h = ap (λ (x : Number). Some (atomic_calls.Or x)) (number_spelled kind v (both (has_bits kind) (is_of kind v) h).1)
atomic_call_spelled kind (atomic_calls.CompareAndSwap v w) h =
    let numbers = both (is_of kind v) (is_of kind w) h in
    ap (λ (x : Number). Some (atomic_calls.CompareAndSwap x (number_read kind (number_word w)))) (number_spelled kind v numbers.0) ∙ ap (λ (x : Number). Some (atomic_calls.CompareAndSwap v x)) (number_spelled kind w numbers.1)

-- ---- amounts

pub amount_small : (z : ℤ) → is_amount z ≡ true → is_signed (2 ^ 63) z ≡ true
amount_small (pos n) h = lt-ltb n (2 ^ 63) (omega (arith, leb-true n MAX_AMOUNT h))
amount_small (negsuc n) h = lt-ltb n (2 ^ 63) (omega (arith, ltb-true n MAX_AMOUNT h))

pub amount_spelled : (z : ℤ) → is_amount z ≡ true → signed_of (signed_decimal z) ≡ z
amount_spelled z h = signed_spelled z (amount_small z h)

signed_is_amount : (z : ℤ) → is_signed MAX_AMOUNT z ≡ true → is_amount z ≡ true
signed_is_amount (pos n) h = le-leb n MAX_AMOUNT (omega (arith, ltb-true n MAX_AMOUNT h))
signed_is_amount (negsuc n) h = h

-- a word that is an amount
pub amount_said : (word : List ℕ) → is_amount_word word ≡ true → (is_amount (signed_of word) ≡ true) × (signed_decimal (signed_of word) ≡ word)
amount_said [] h = absurd cc
amount_said (byte ∷ bytes) h =
    elim (eqb byte 45) as (λ b. eqb byte 45 ≡ b → cond b (is_number_to MAX_AMOUNT bytes && nat_lt 0 (number_of bytes)) (is_number_to MAX_AMOUNT (byte ∷ bytes)) ≡ true → (is_amount (signed_of (byte ∷ bytes)) ≡ true) × (signed_decimal (signed_of (byte ∷ bytes)) ≡ byte ∷ bytes)) [
      | true ↦ λ sign e.
          let word : is_signed_word MAX_AMOUNT (byte ∷ bytes) ≡ true = rw sign e in
          let said = signed_said MAX_AMOUNT (byte ∷ bytes) (omega arith) (omega arith) word in
          (signed_is_amount (signed_of (byte ∷ bytes)) said.0, said.1)
      | false ↦ λ other e.
          let value = both (is_number (byte ∷ bytes)) (nat_le (number_of (byte ∷ bytes)) MAX_AMOUNT) e in
          let most = leb-true (number_of (byte ∷ bytes)) MAX_AMOUNT value.1 in
          let plain = no_sign (byte ∷ bytes) value.0 in
          (ap is_amount plain ∙ value.1, ap signed_decimal plain ∙ decimal-number_of (byte ∷ bytes) value.0 (omega arith))
    ] refl h

-- an amount is spelled as one
pub amount_passes : (z : ℤ) → is_amount z ≡ true → is_amount_word (signed_decimal z) ≡ true
amount_passes (pos n) h =
    let most = leb-true n MAX_AMOUNT h in
    digits_between MAX_AMOUNT MAX_AMOUNT (decimal n) (unsigned_passes MAX_AMOUNT n most (omega arith))
amount_passes (negsuc n) h = signed_passes MAX_AMOUNT (negsuc n) (omega arith) h

-- ---- calls of wait groups, pools and semaphores

-- the call of a wait group of this word with these operands
abbrev pub group_call_at : Verb → List (List ℕ) → Option WaitGroupCall
group_call_at verbs.Add (v ∷ []) = Some (group_calls.Add (signed_of v))
group_call_at verbs.Done [] = Some group_calls.Done
group_call_at verbs.Wait [] = Some group_calls.Wait
group_call_at verb words = None

pub group_call_spelled : (c : WaitGroupCall) → is_group_call c ≡ true → group_call_at (group_verb c) (group_operands c) ≡ Some c
group_call_spelled (group_calls.Add z) h = ap (λ (y : ℤ). Some (group_calls.Add y)) (amount_spelled z h)
group_call_spelled group_calls.Done h = refl
group_call_spelled group_calls.Wait h = refl

-- the call of a pool of this word with these operands
abbrev pub pool_call_at : Verb → List (List ℕ) → Option PoolCall
pool_call_at verbs.Put (v ∷ []) = Some (pool_calls.Put (number_of v))
pool_call_at verbs.Get [] = Some pool_calls.Get
pool_call_at verbs.Sweep [] = Some pool_calls.Sweep
pool_call_at verb words = None

pub pool_call_spelled : (c : PoolCall) → is_pool_call c ≡ true → pool_call_at (pool_verb c) (pool_operands c) ≡ Some c
pool_call_spelled (pool_calls.Put v) h = ap (λ (n : ℕ). Some (pool_calls.Put n)) (value_back v h)
pool_call_spelled pool_calls.Get h = refl
pool_call_spelled pool_calls.Sweep h = refl

-- a weight that a semaphore of this size may have is spelled as one
pub weight_pass : (most n : ℕ) → is_weight most n ≡ true → n < 2 ^ 64 → is_weight_word most (decimal n) ≡ true
weight_pass most n h small = rw (is_number-decimal n small, number_of-decimal n small) h

-- a word that is one
pub weight_said : (most : ℕ) (word : List ℕ) → most ≤ MAX_SIZE → is_weight_word most word ≡ true → (is_weight most (number_of word) ≡ true) × (decimal (number_of word) ≡ word)
weight_said most word fits h =
    let parts = both (is_number word) (is_weight most (number_of word)) h in
    let least = leb-true (number_of word) most (both (nat_lt 0 (number_of word)) (nat_le (number_of word) most) parts.1).1 in
    (parts.1, decimal-number_of word parts.0 (omega arith))

-- no weight is long
pub weight_small : (n : ℕ) → is_weight MAX_SIZE n ≡ true → n < 2 ^ 64
weight_small n h = omega (arith, leb-true n MAX_SIZE (both (nat_lt 0 n) (nat_le n MAX_SIZE) h).1)

-- the call of a semaphore of this word with these operands
abbrev pub sema_call_at : Verb → List (List ℕ) → Option SemaCall
sema_call_at verbs.Acquire (w ∷ []) = Some (sema_calls.Acquire (number_of w))
sema_call_at verbs.TryAcquire (w ∷ []) = Some (sema_calls.TryAcquire (number_of w))
sema_call_at verbs.Release (w ∷ []) = Some (sema_calls.Release (number_of w))
sema_call_at verb words = None

pub sema_call_spelled : (c : SemaCall) → is_weight MAX_SIZE (sema_weight c) ≡ true → sema_call_at (sema_verb c) (decimal (sema_weight c) ∷ []) ≡ Some c
sema_call_spelled (sema_calls.Acquire w) h = ap (λ (n : ℕ). Some (sema_calls.Acquire n)) (number_of-decimal w (weight_small w h))
sema_call_spelled (sema_calls.TryAcquire w) h = ap (λ (n : ℕ). Some (sema_calls.TryAcquire n)) (number_of-decimal w (weight_small w h))
sema_call_spelled (sema_calls.Release w) h = ap (λ (n : ℕ). Some (sema_calls.Release n)) (number_of-decimal w (weight_small w h))

-- the call of a plain variable of this word with these operands
abbrev pub var_call_at : Verb → List (List ℕ) → Option VarCall
var_call_at verbs.Read [] = Some var_calls.Read
var_call_at verbs.Write (v ∷ []) = Some (var_calls.Write (number_of v))
var_call_at verb words = None

pub var_call_spelled : (c : VarCall) → is_var_call c ≡ true → var_call_at (var_verb c) (var_operands c) ≡ Some c
var_call_spelled var_calls.Read h = refl
var_call_spelled (var_calls.Write v) h = ap (λ (n : ℕ). Some (var_calls.Write n)) (value_back v h)

-- ---- calls that are made of others

-- a number of calls that may be passed over is spelled as one
pub passes_pass : (n : ℕ) → is_passes n ≡ true → is_passes_word (decimal n) ≡ true
passes_pass n h =
    let most = leb-true n MAX_PASSES (both (nat_lt 0 n) (nat_le n MAX_PASSES) h).1 in
    let small : n < 2 ^ 64 = omega arith in
    rw (is_number-decimal n small, number_of-decimal n small) h

-- a word that is one
pub passes_said : (word : List ℕ) → is_passes_word word ≡ true → (is_passes (number_of word) ≡ true) × (decimal (number_of word) ≡ word)
passes_said word h =
    let parts = both (is_number word) (is_passes (number_of word)) h in
    let most = leb-true (number_of word) MAX_PASSES (both (nat_lt 0 (number_of word)) (nat_le (number_of word) MAX_PASSES) parts.1).1 in
    (parts.1, decimal-number_of word parts.0 (omega arith))

-- the same of a number of waits
pub tries_pass : (n : ℕ) → is_tries n ≡ true → is_tries_word (decimal n) ≡ true
tries_pass n h =
    let most = leb-true n MAX_TRIES (both (nat_lt 0 n) (nat_le n MAX_TRIES) h).1 in
    let small : n < 2 ^ 64 = omega arith in
    rw (is_number-decimal n small, number_of-decimal n small) h

pub tries_back : (n : ℕ) → is_tries n ≡ true → number_of (decimal n) ≡ n
tries_back n h = number_of-decimal n (omega (arith, leb-true n MAX_TRIES (both (nat_lt 0 n) (nat_le n MAX_TRIES) h).1))

pub tries_said : (word : List ℕ) → is_tries_word word ≡ true → (is_tries (number_of word) ≡ true) × (decimal (number_of word) ≡ word)
tries_said word h =
    let parts = both (is_number word) (is_tries (number_of word)) h in
    let most = leb-true (number_of word) MAX_TRIES (both (nat_lt 0 (number_of word)) (nat_le (number_of word) MAX_TRIES) parts.1).1 in
    (parts.1, decimal-number_of word parts.0 (omega arith))

-- the call of this word with these operands, on an atomic of this type
abbrev pub composed_call_at : AtomicKind → Verb → List (List ℕ) → Option ComposedCall
composed_call_at kind verbs.IfEqual (v ∷ n ∷ []) = Some (IfEqual (number_read kind v) (number_of n))
composed_call_at kind verb others = None

pub composed_call_spelled : (kind : AtomicKind) (c : ComposedCall) → has_operation (words.Atomic kind) (operations.Composed c) ≡ true → is_composed_call c ≡ true → composed_call_at kind (composed_verb c) (composed_operands c) ≡ Some c
composed_call_spelled kind (IfEqual v n) on h =
    let most = leb-true n MAX_PASSES (both (nat_lt 0 n) (nat_le n MAX_PASSES) h).1 in
    ap (λ (x : Number). Some (IfEqual x (number_of (decimal n)))) (number_spelled kind v on) ∙ ap (λ (m : ℕ). Some (IfEqual v m)) (number_of-decimal n (omega arith))
composed_call_spelled kind (WaitFor a v n) on h = absurd cc
composed_call_spelled kind (Go w) on h = absurd cc
