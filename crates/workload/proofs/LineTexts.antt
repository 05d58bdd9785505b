-- The text of a line, and the words that it is cut into again.
use Rattle.std.proofs.Common.{◌≡◌, ℕ, suc, ◌+◌, ◌*◌, ◌^◌, ◌<◌, ◌≤◌, Bool, true, false, eqb, ◌&&◌, not, List, [], ◌∷◌, ◌++◌, map, length, ℤ, pos, negsuc, Option, Some, None, refl, ap, ◌∙◌, arith}
use Rattle.std.specs.Prelude.{nat_lt, nat_le, codes}
use Rattle.std.specs.List.{filter, list_all, slice_split, onto_first, join_with_byte}
use Rattle.std.specs.Str.{all_ascii_digits}
use Rattle.std.specs.Fmt.{decimal, signed_decimal}
use Rattle.std.specs.Option.{option_to_list}
use Rattle.std.proofs.lemmas.Bool.{eqb-true, leb-true, le-leb, ltb-true}
use Rattle.std.proofs.lemmas.Bool.Decides.{nat_tests}
use Rattle.std.proofs.lemmas.List.{length-append}
use Rattle.std.proofs.lemmas.Fmt.{digits_decimal, decimal_nonempty, length-decimal-le}
use Rattle.std.proofs.lemmas.List.Splits.{slice_split-cons_yes, slice_split-cons_no}
use Rattle.sync_types.specs.Name.{is_name, is_letter, is_name_byte}
use Rattle.sync_types.specs.declared.atomic_object.AtomicKind.{AtomicKind}
use Rattle.sync_types.specs.declared.atomic_object.AtomicKind.TheVariants as types
use Rattle.sync_types.specs.declared.atomic_object.Number.{Number}
use Rattle.sync_types.specs.declared.atomic_object.Number.TheVariants as numbers
use Rattle.sync_types.specs.declared.atomic_object.AtomicCall.{AtomicCall}
use Rattle.sync_types.specs.declared.atomic_object.AtomicCall.TheVariants as atomic_calls
use Rattle.sync_types.specs.SequentialMap.{map_key}
use Rattle.sync_types.specs.SequentialAtomic.{has_bits, is_signed, is_of, is_atomic_call}
use Rattle.sync_types.specs.declared.wait_call.WaitGroupCall.{WaitGroupCall}
use Rattle.sync_types.specs.declared.wait_call.WaitGroupCall.TheVariants as group_calls
use Rattle.sync_types.specs.declared.pool_call.PoolCall.{PoolCall}
use Rattle.sync_types.specs.declared.pool_call.PoolCall.TheVariants as pool_calls
use Rattle.script_calls.specs.declared.call.VarCall.{VarCall}
use Rattle.script_calls.specs.declared.call.VarCall.TheVariants as var_calls
use Rattle.script_calls.specs.declared.call.Call.{Call}
use Rattle.script_calls.specs.declared.call.ComposedCall.{ComposedCall}
use Rattle.script_calls.specs.declared.call.ComposedCall.TheVariants.{IfEqual, WaitFor, Go}
use Rattle.script_calls.specs.declared.call.Operation.{Operation}
use Rattle.script_calls.specs.declared.call.Operation.TheVariants as operations
use Rattle.sync_types.specs.declared.map_object.MapCall.{MapCall}
use Rattle.sync_types.specs.declared.map_object.MapCall.TheVariants as map_calls
use Rattle.workload.specs.declared.keyword.Verb.{Verb}
use Rattle.workload.specs.declared.keyword.Verb.TheVariants as verbs
use Rattle.workload.specs.declared.limits.TheConstants.{MAX_AMOUNT, MAX_CODE, MAX_LINE, MAX_PASSES, MAX_SIZE, MAX_TRIES, MAX_WORKERS}
use Rattle.sync_types.specs.declared.value.TheConstants.{MAX_VALUE}
use Rattle.workload.specs.declared.object.ObjectKind.{ObjectKind}
use Rattle.workload.specs.declared.object.ObjectKind.TheVariants as kinds
use Rattle.workload.specs.declared.object.ObjectLine.{ObjectLine}
use Rattle.workload.specs.declared.object.ObjectWord.{ObjectWord}
use Rattle.workload.specs.declared.object.ObjectWord.TheVariants as words
use Rattle.workload.specs.declared.line.Line.{Line}
use Rattle.workload.specs.declared.line.Line.TheVariants as lines
use Rattle.workload.specs.declared.turn.Turn.{Turn}
use Rattle.workload.specs.declared.turn.Turn.TheVariants as turns
use Rattle.workload.specs.KeywordWords.{object_word, verb_word}
use Rattle.workload.specs.NumberWords.{number_word, is_tries, is_weight}
use Rattle.workload.specs.CallWords.{group_operands, pool_operands, sema_weight, var_operands, composed_operands, verb_of, operands_of, map_values, map_operands, atomic_operands}
use Rattle.workload.specs.Words.{spelled, first_spelled, kind_parameters, turn_word}
use Rattle.workload.specs.Plan.{word_of, is_amount, has_call, has_among}
use Rattle.workload.specs.declared.object.Declared.{Declared}
use Rattle.workload.proofs.CallWords.{narrow, amount_small}
use Rattle.workload.proofs.Awaits.{held}
use Rattle.workload.specs.Draft.{Draft, declared, may_follow, names_object, names_second, is_call, is_operation, is_map_call, is_group_call, is_pool_call, is_var_call, is_composed_call, is_kind, is_reference, names_reference, is_value, is_item}
use Rattle.workload.proofs.Follows.{object_follows, dormant_follows, schedule_follows, call_follows}
use Rattle.workload.proofs.Numbers.{numerals}
use Rattle.workload.specs.Lines.{lines_of, words_of, is_clean, is_printable, is_filled}
use Rattle.workload.proofs.Passing.{both, pair, all_append, all_mono}

-- a byte of a word: printable, and no space
abbrev pub is_word_byte : ℕ → Bool
is_word_byte byte = nat_le 33 byte && nat_le byte 126

-- a word has bytes, and all of them are such
abbrev pub is_word : List ℕ → Bool
is_word word = is_filled word && list_all is_word_byte word

abbrev space : ℕ → Bool
space byte = eqb byte 32

no_space : (byte : ℕ) → is_word_byte byte ≡ true → space byte ≡ false
no_space byte h =
    let low = leb-true 33 byte (both (nat_le 33 byte) (nat_le byte 126) h).0 in
    elim (eqb byte 32) as (λ b. eqb byte 32 ≡ b → b ≡ false) [
      | true ↦ λ t. absurd (omega (arith, eqb-true byte 32 t))
      | false ↦ λ f. refl
    ] refl

-- a word of a text, and the rest of it behind a space
split_word : (word rest : List ℕ) → list_all is_word_byte word ≡ true → slice_split space (word ++ 32 ∷ rest) ≡ word ∷ slice_split space rest
split_word [] rest h = slice_split-cons_yes space 32 rest refl
split_word (byte ∷ word) rest h =
    let parts = both (is_word_byte byte) (list_all is_word_byte word) h in
    slice_split-cons_no space byte (word ++ 32 ∷ rest) (no_space byte parts.0) ∙ ap (onto_first byte) (split_word word rest parts.1)

split_last : (word : List ℕ) → list_all is_word_byte word ≡ true → slice_split space word ≡ word ∷ []
split_last [] h = refl
split_last (byte ∷ word) h =
    let parts = both (is_word_byte byte) (list_all is_word_byte word) h in
    slice_split-cons_no space byte word (no_space byte parts.0) ∙ ap (onto_first byte) (split_last word parts.1)

split_joined : (word : List ℕ) (words : List (List ℕ)) → list_all is_word (word ∷ words) ≡ true → slice_split space (join_with_byte 32 (word ∷ words)) ≡ word ∷ words
split_joined word [] h = split_last word (both (is_filled word) (list_all is_word_byte word) (both (is_word word) true h).0).1
split_joined word (next ∷ words) h =
    let parts = both (is_word word) (list_all is_word (next ∷ words)) h in
    split_word word (join_with_byte 32 (next ∷ words)) (both (is_filled word) (list_all is_word_byte word) parts.0).1
    ∙ ap (λ (ws : List (List ℕ)). word ∷ ws) (split_joined next words parts.1)

all_filled : (words : List (List ℕ)) → list_all is_word words ≡ true → filter is_filled words ≡ words
all_filled [] h = refl
all_filled (word ∷ words) h =
    let parts = both (is_word word) (list_all is_word words) h in
    let filled = (both (is_filled word) (list_all is_word_byte word) parts.0).0 in
    rw filled (ap (λ (ws : List (List ℕ)). word ∷ ws) (all_filled words parts.1))

-- words joined by spaces are cut into these words
pub words_of-join : (word : List ℕ) (words : List (List ℕ)) → list_all is_word (word ∷ words) ≡ true → words_of (join_with_byte 32 (word ∷ words)) ≡ word ∷ words
words_of-join word words h = ap (filter is_filled) (split_joined word words h) ∙ all_filled (word ∷ words) h

printable : (byte : ℕ) → is_word_byte byte ≡ true → is_printable byte ≡ true
printable byte h =
    let parts = both (nat_le 33 byte) (nat_le byte 126) h in
    pair (nat_le 32 byte) (nat_le byte 126) (le-leb 32 byte (omega (arith, leb-true 33 byte parts.0))) parts.1

-- and hold no other bytes
pub is_clean-join : (words : List (List ℕ)) → list_all is_word words ≡ true → is_clean (join_with_byte 32 words) ≡ true
is_clean-join [] h = refl
is_clean-join (word ∷ []) h = all_mono is_word_byte is_printable printable word (both (is_filled word) (list_all is_word_byte word) (both (is_word word) true h).0).1
is_clean-join (word ∷ next ∷ words) h =
    let parts = both (is_word word) (list_all is_word (next ∷ words)) h in
    all_append is_printable word (32 ∷ join_with_byte 32 (next ∷ words))
    (all_mono is_word_byte is_printable printable word (both (is_filled word) (list_all is_word_byte word) parts.0).1)
    (is_clean-join (next ∷ words) parts.1)

no_feed : (byte : ℕ) → is_printable byte ≡ true → eqb byte 10 ≡ false
no_feed byte h =
    let low = leb-true 32 byte (both (nat_le 32 byte) (nat_le byte 126) h).0 in
    elim (eqb byte 10) as (λ b. eqb byte 10 ≡ b → b ≡ false) [
      | true ↦ λ t. absurd (omega (arith, eqb-true byte 10 t))
      | false ↦ λ f. refl
    ] refl

-- a clean line and its line feed are the first line of a text
pub lines_of-line : (line rest : List ℕ) → is_clean line ≡ true → lines_of (line ++ 10 ∷ rest) ≡ line ∷ lines_of rest
lines_of-line [] rest h = refl
lines_of-line (byte ∷ line) rest h =
    let parts = both (is_printable byte) (list_all is_printable line) h in
    rw (no_feed byte parts.0) (ap (onto_first byte) (lines_of-line line rest parts.1))

-- ---- which words a text has

-- what words take on a line, each behind a space
abbrev widths : List (List ℕ) → ℕ
widths [] = 0
widths (word ∷ words) = suc (length word) + widths words

filled : (word : List ℕ) → 0 < length word → is_filled word ≡ true
filled word h =
    elim (eqb (length word) 0) as (λ b. eqb (length word) 0 ≡ b → not b ≡ true) [
      | true ↦ λ t. absurd (omega (arith, eqb-true (length word) 0 t))
      | false ↦ λ f. refl
    ] refl

letter_is : (byte : ℕ) → is_letter byte ≡ true → is_word_byte byte ≡ true
letter_is byte h =
    let parts = both (nat_le 97 byte) (nat_le byte 122) h in
    let low = leb-true 97 byte parts.0 in
    let high = leb-true byte 122 parts.1 in
    pair (nat_le 33 byte) (nat_le byte 126) (le-leb 33 byte (omega arith)) (le-leb byte 126 (omega arith))

name_byte_is : (byte : ℕ) → is_name_byte byte ≡ true → is_word_byte byte ≡ true
name_byte_is byte h = grind (arith, nat_tests)

pub name_is_word : (name : List ℕ) → is_name name ≡ true → (is_word name ≡ true) × (length name ≤ 32)
name_is_word [] h = absurd cc
name_is_word (first ∷ rest) h =
    let parts = both (nat_le (length (first ∷ rest)) 32 && is_letter first) (list_all is_name_byte rest) h in
    let front = both (nat_le (length (first ∷ rest)) 32) (is_letter first) parts.0 in
    (pair (is_filled (first ∷ rest)) (list_all is_word_byte (first ∷ rest)) (filled (first ∷ rest) (omega arith)) (pair (is_word_byte first) (list_all is_word_byte rest) (letter_is first front.1) (all_mono is_name_byte is_word_byte name_byte_is rest parts.1)), leb-true _ _ front.0)

digits_are : (ds : List ℕ) → all_ascii_digits ds ≡ true → list_all is_word_byte ds ≡ true
digits_are [] h = refl
digits_are (d ∷ ds) h =
    let parts = both (nat_le 48 d && nat_le d 57) (all_ascii_digits ds) h in
    let range = both (nat_le 48 d) (nat_le d 57) parts.0 in
    let low = leb-true 48 d range.0 in
    let high = leb-true d 57 range.1 in
    pair (is_word_byte d) (list_all is_word_byte ds) (pair (nat_le 33 d) (nat_le d 126) (le-leb 33 d (omega arith)) (le-leb d 126 (omega arith))) (digits_are ds parts.1)

pub decimal_is_word : (n : ℕ) → n < 2 ^ 64 → (is_word (decimal n) ≡ true) × (length (decimal n) ≤ 20)
decimal_is_word n small = (
  pair (is_filled (decimal n)) (list_all is_word_byte (decimal n)) (filled (decimal n) (decimal_nonempty n small)) (digits_are (decimal n) (digits_decimal numerals n small)),
  length-decimal-le 20 n (omega arith) (omega arith) small,
)

-- words that fit a line
pub record FitsLine (words : List (List ℕ)) : Type 0 where
  pub all : list_all is_word words ≡ true
  pub short : length (join_with_byte 32 words) ≤ MAX_LINE

length-join : (word : List ℕ) (words : List (List ℕ)) → length (join_with_byte 32 (word ∷ words)) ≡ length word + widths words
length-join word [] = omega arith
length-join word (next ∷ words) = omega (arith, length-append word (32 ∷ join_with_byte 32 (next ∷ words)), length-join next words)

turn_is_word : (workers : ℕ) (t : Turn) → workers ≤ MAX_WORKERS → is_item workers t ≡ true → (is_word (turn_word t) ≡ true) × (length (turn_word t) ≤ 20)
turn_is_word workers (turns.Worker i) few h = decimal_is_word i (omega (arith, ltb-true i workers h))
turn_is_word workers (turns.Moment m) few h =
    let small = leb-true m MAX_VALUE h in
    let digits = decimal_is_word m (omega arith) in (
      pair (is_filled (64 ∷ decimal m)) (list_all is_word_byte (64 ∷ decimal m)) (filled (64 ∷ decimal m) (omega arith)) (both (is_filled (decimal m)) (list_all is_word_byte (decimal m)) digits.0).1,
      omega (arith, length-decimal-le 19 m (omega arith) (omega arith) (omega arith)),
    )

turn_words : (workers : ℕ) (ts : List Turn) → workers ≤ MAX_WORKERS → list_all (is_item workers) ts ≡ true → (list_all is_word (map turn_word ts) ≡ true) × (widths (map turn_word ts) ≤ 21 * length ts)
turn_words workers [] few h = (refl, omega arith)
turn_words workers (t ∷ ts) few h =
    let parts = both (is_item workers t) (list_all (is_item workers) ts) h in
    let first = turn_is_word workers t few parts.0 in
    let others = turn_words workers ts few parts.1 in
    (pair (is_word (turn_word t)) (list_all is_word (map turn_word ts)) first.0 others.0, omega (arith, first.1, others.1))

values_fit : (vs : List ℕ) → list_all is_value vs ≡ true → (list_all is_word (map decimal vs) ≡ true) × (widths (map decimal vs) ≤ 21 * length vs)
values_fit [] h = (refl, omega arith)
values_fit (v ∷ vs) h =
    let parts = both (is_value v) (list_all is_value vs) h in
    let first = decimal_is_word v (omega (arith, leb-true v MAX_VALUE parts.0)) in
    let others = values_fit vs parts.1 in
    (pair (is_word (decimal v)) (list_all is_word (map decimal vs)) first.0 others.0, omega (arith, first.1, others.1))

two_values : (c : MapCall (List ℕ)) → length (map_values c) ≤ 2
two_values (map_calls.Load k) = omega arith
two_values (map_calls.Store k v) = omega arith
two_values (map_calls.LoadOrStore k v) = omega arith
two_values (map_calls.LoadAndDelete k) = omega arith
two_values (map_calls.Delete k) = omega arith
two_values (map_calls.Swap k v) = omega arith
two_values (map_calls.CompareAndSwap k v w) = omega arith
two_values (map_calls.CompareAndDelete k v) = omega arith
two_values map_calls.Clear = omega arith

keyed_fit : (key : Option (List ℕ)) (vs : List ℕ) → list_all is_name (option_to_list key) ≡ true → list_all is_value vs ≡ true → length vs ≤ 2
    → (list_all is_word (option_to_list key ++ map decimal vs) ≡ true) × (widths (option_to_list key ++ map decimal vs) ≤ 80)
keyed_fit None vs named h few =
    let values = values_fit vs h in
    (values.0, omega (arith, values.1))
keyed_fit (Some k) vs named h few =
    let key = name_is_word k (both (is_name k) true named).0 in
    let values = values_fit vs h in
    (pair (is_word k) (list_all is_word (map decimal vs)) key.0 values.0, omega (arith, key.1, values.1))

map_operands_fit : (c : MapCall (List ℕ)) → is_map_call c ≡ true → (list_all is_word (map_operands c) ≡ true) × (widths (map_operands c) ≤ 80)
map_operands_fit c h =
    let parts = both (list_all is_name (option_to_list (map_key c))) (list_all is_value (map_values c)) h in
    keyed_fit (map_key c) (map_values c) parts.0 parts.1 (two_values c)

signed_is_word : (z : ℤ) → is_signed (2 ^ 63) z ≡ true → (is_word (signed_decimal z) ≡ true) × (length (signed_decimal z) ≤ 20)
signed_is_word (pos n) h = decimal_is_word n (omega (arith, ltb-true n (2 ^ 63) h))
signed_is_word (negsuc n) h =
    let small = ltb-true n (2 ^ 63) h in
    let digits = decimal_is_word (suc n) (omega arith) in (
      pair (is_filled (45 ∷ decimal (suc n))) (list_all is_word_byte (45 ∷ decimal (suc n))) (filled (45 ∷ decimal (suc n)) (omega arith)) (both (is_filled (decimal (suc n))) (list_all is_word_byte (decimal (suc n))) digits.0).1,
      omega (arith, length-decimal-le 19 (suc n) (omega arith) (omega arith) (omega arith)),
    )

number_is_word : (k : AtomicKind) (x : Number) → is_of k x ≡ true → (is_word (number_word x) ≡ true) × (length (number_word x) ≤ 20)
number_is_word types.Int32 (numbers.Int32 z) h = signed_is_word z (narrow z h)
number_is_word types.Int64 (numbers.Int64 z) h = signed_is_word z h
number_is_word types.Uint32 (numbers.Uint32 n) h = decimal_is_word n (omega (arith, ltb-true n (2 ^ 32) h))
number_is_word types.Uint64 (numbers.Uint64 n) h = decimal_is_word n (ltb-true n (2 ^ 64) h)
number_is_word types.Bool (numbers.Bool true) h = (refl, omega arith)
number_is_word types.Bool (numbers.Bool false) h = (refl, omega arith)
number_is_word k x h = absurd cc

one_number : (k : AtomicKind) (x : Number) → is_of k x ≡ true → (list_all is_word (number_word x ∷ []) ≡ true) × (widths (number_word x ∷ []) ≤ 80)
one_number k x h =
    let word = number_is_word k x h in
    (pair (is_word (number_word x)) true word.0 refl, omega (arith, word.1))

atomic_operands_fit : (k : AtomicKind) (c : AtomicCall) → is_atomic_call k c ≡ true → (list_all is_word (atomic_operands c) ≡ true) × (widths (atomic_operands c) ≤ 80)
atomic_operands_fit k atomic_calls.Load h = (refl, omega arith)
atomic_operands_fit k (atomic_calls.Store v) h = one_number k v h
atomic_operands_fit k (atomic_calls.Swap v) h = one_number k v h
atomic_operands_fit k (atomic_calls.Add v) h = one_number k v (both (has_bits k) (is_of k v) h).1
atomic_operands_fit k (atomic_calls.And v) h = one_number k v (both (has_bits k) (is_of k v) h).1
atomic_operands_fit k (atomic_calls.Or v) h = one_number k v (both (has_bits k) (is_of k v) h).1
atomic_operands_fit k (atomic_calls.CompareAndSwap v w) h =
    let both_are = both (is_of k v) (is_of k w) h in
    let first = number_is_word k v both_are.0 in
    let second = number_is_word k w both_are.1 in
    (pair (is_word (number_word v)) (list_all is_word (number_word w ∷ [])) first.0 (pair (is_word (number_word w)) true second.0 refl), omega (arith, first.1, second.1))

one_decimal : (n most : ℕ) → nat_le n most ≡ true → most < 2 ^ 64 → (list_all is_word (decimal n ∷ []) ≡ true) × (widths (decimal n ∷ []) ≤ 21)
one_decimal n most h small =
    let word = decimal_is_word n (omega (arith, leb-true n most h)) in
    (pair (is_word (decimal n)) true word.0 refl, omega (arith, word.1))

one_amount : (z : ℤ) → is_amount z ≡ true → (list_all is_word (signed_decimal z ∷ []) ≡ true) × (widths (signed_decimal z ∷ []) ≤ 21)
one_amount z h =
    let word = signed_is_word z (amount_small z h) in
    (pair (is_word (signed_decimal z)) true word.0 refl, omega (arith, word.1))

group_operands_fit : (c : WaitGroupCall) → is_group_call c ≡ true → (list_all is_word (group_operands c) ≡ true) × (widths (group_operands c) ≤ 80)
group_operands_fit (group_calls.Add z) h = let one = one_amount z h in (one.0, omega (arith, one.1))
group_operands_fit group_calls.Done h = (refl, omega arith)
group_operands_fit group_calls.Wait h = (refl, omega arith)

pool_operands_fit : (c : PoolCall) → is_pool_call c ≡ true → (list_all is_word (pool_operands c) ≡ true) × (widths (pool_operands c) ≤ 80)
pool_operands_fit (pool_calls.Put v) h = let one = one_decimal v MAX_VALUE h (omega arith) in (one.0, omega (arith, one.1))
pool_operands_fit pool_calls.Get h = (refl, omega arith)
pool_operands_fit pool_calls.Sweep h = (refl, omega arith)

var_operands_fit : (c : VarCall) → is_var_call c ≡ true → (list_all is_word (var_operands c) ≡ true) × (widths (var_operands c) ≤ 80)
var_operands_fit var_calls.Read h = (refl, omega arith)
var_operands_fit (var_calls.Write v) h = let one = one_decimal v MAX_VALUE h (omega arith) in (one.0, omega (arith, one.1))

composed_operands_fit : (k : AtomicKind) (c : ComposedCall) → has_call (kinds.Atomic k) (operations.Composed c) ≡ true → is_composed_call c ≡ true → (list_all is_word (composed_operands c) ≡ true) × (widths (composed_operands c) ≤ 80)
composed_operands_fit k (IfEqual v n) on h =
    let first = number_is_word k v on in
    let second = one_decimal n MAX_PASSES (both (nat_lt 0 n) (nat_le n MAX_PASSES) h).1 (omega arith) in
    (pair (is_word (number_word v)) (list_all is_word (decimal n ∷ [])) first.0 second.0, omega (arith, first.1, second.1))
composed_operands_fit k (WaitFor a v n) on h = absurd cc
composed_operands_fit k (Go w) on h = absurd cc

wait_operands_fit : (k : AtomicKind) (v : Number) (n : ℕ) → is_of k v ≡ true → is_tries n ≡ true → (list_all is_word (number_word v ∷ decimal n ∷ []) ≡ true) × (widths (number_word v ∷ decimal n ∷ []) ≤ 80)
wait_operands_fit k v n on h =
    let first = number_is_word k v on in
    let second = one_decimal n MAX_TRIES (both (nat_lt 0 n) (nat_le n MAX_TRIES) h).1 (omega arith) in
    (pair (is_word (number_word v)) (list_all is_word (decimal n ∷ [])) first.0 second.0, omega (arith, first.1, second.1))

one_weight : (n : ℕ) → is_weight MAX_SIZE n ≡ true → (list_all is_word (decimal n ∷ []) ≡ true) × (widths (decimal n ∷ []) ≤ 21)
one_weight n h = one_decimal n MAX_SIZE (both (nat_lt 0 n) (nat_le n MAX_SIZE) h).1 (omega arith)

one_key : (k : List ℕ) → is_name k ≡ true → (list_all is_word (k ∷ []) ≡ true) × (widths (k ∷ []) ≤ 80)
one_key k h =
    let word = name_is_word k h in
    (pair (is_word k) true word.0 refl, omega (arith, word.1))

parameters_fit : (k : ObjectKind) → is_kind k ≡ true → (list_all is_word (kind_parameters k) ≡ true) × (widths (kind_parameters k) ≤ 21)
parameters_fit (kinds.WaitGroup n) h = one_decimal n MAX_AMOUNT h (omega arith)
parameters_fit (kinds.Once a z) h = one_amount z h
parameters_fit (kinds.Sema n) h = one_weight n h
parameters_fit (kinds.Flight a z) h = one_amount z h
parameters_fit (kinds.OnceFunc n) h = one_decimal n MAX_CODE h (omega arith)
parameters_fit (kinds.OnceValue n) h = one_decimal n MAX_VALUE h (omega arith)
parameters_fit k h = (refl, omega arith)

-- what stands behind an object's name: the name of what it refers to, and numbers
references_fit : (d : Draft) (k : ObjectKind) (r : Option (List ℕ)) → names_reference d k r ≡ true → is_kind k ≡ true → (list_all is_word (option_to_list r ++ kind_parameters k) ≡ true) × (widths (option_to_list r ++ kind_parameters k) ≤ 80)
references_fit d k None named h =
    let numbers = parameters_fit k h in
    (numbers.0, omega (arith, numbers.1))
references_fit d k (Some name) named h =
    let numbers = parameters_fit k h in
    let first = name_is_word name (both (is_name name) (is_reference k (declared d name)) named).0 in
    (pair (is_word name) (list_all is_word (kind_parameters k)) first.0 numbers.0, omega (arith, first.1, numbers.1))

alone_fit : (kind : ObjectKind) (o : Operation) → has_call kind o ≡ true → is_operation o ≡ true → (list_all is_word (operands_of o) ≡ true) × (widths (operands_of o) ≤ 80)
alone_fit kind (operations.Map c) on h = map_operands_fit c h
alone_fit kind operations.Range on h = (refl, omega arith)
alone_fit (kinds.Atomic k) (operations.Atomic c) on h = atomic_operands_fit k c on
alone_fit kind (operations.Mutex c) on h = (refl, omega arith)
alone_fit kind (operations.RwMutex c) on h = (refl, omega arith)
alone_fit kind (operations.Cond c) on h = (refl, omega arith)
alone_fit kind (operations.WaitGroup c) on h = group_operands_fit c h
alone_fit kind operations.Once on h = (refl, omega arith)
alone_fit kind operations.OnceFunc on h = (refl, omega arith)
alone_fit kind operations.OnceValue on h = (refl, omega arith)
alone_fit kind (operations.Pool c) on h = pool_operands_fit c h
alone_fit kind (operations.Sema c) on h = let one = one_weight (sema_weight c) h in (one.0, omega (arith, one.1))
alone_fit kind (operations.Fly k) on h = one_key k h
alone_fit kind (operations.Var c) on h = var_operands_fit c h
alone_fit (kinds.Atomic k) (operations.Composed c) on h = composed_operands_fit k c on h
alone_fit kind (operations.Atomic c) on h = absurd cc
alone_fit kind (operations.Composed c) on h = absurd cc

operands_fit : (objects : List ObjectLine) (kind : ObjectKind) (o : Operation) → has_among objects kind o ≡ true → is_operation o ≡ true → (list_all is_word (operands_of o) ≡ true) × (widths (operands_of o) ≤ 80)
operands_fit objects (kinds.Cond m) (operations.Composed (WaitFor a v n)) on h =
    let atomic = held objects a v on in
    wait_operands_fit atomic.2 v n atomic.4 h
operands_fit objects (kinds.WaitGroup n) (operations.Composed (Go w)) on h =
    let word = decimal_is_word w (omega (arith, ltb-true w MAX_WORKERS h)) in
    (pair (is_word (decimal w)) true word.0 refl, omega (arith, word.1))
operands_fit objects kind o on h = alone_fit kind o on h

-- what stands behind the name of a call's object: a second name, and operands
behind_fit : (d : Draft) (o : Operation) (second : Option (List ℕ)) → names_second d o second ≡ true → (list_all is_word (operands_of o) ≡ true) × (widths (operands_of o) ≤ 80)
    → (list_all is_word (option_to_list second ++ operands_of o) ≡ true) × (widths (option_to_list second ++ operands_of o) ≤ 113)
behind_fit d o None named operands = (operands.0, omega (arith, operands.1))
behind_fit d o (Some name) named operands =
    let first = name_is_word name (both (is_name name) _ named).0 in
    (pair (is_word name) (list_all is_word (operands_of o)) first.0 operands.0, omega (arith, first.1, operands.1))

verb_fits : (v : Verb) → (is_word (verb_word v) ≡ true) × (length (verb_word v) ≤ 20)
verb_fits verbs.Load = (refl, omega arith)
verb_fits verbs.Store = (refl, omega arith)
verb_fits verbs.LoadOrStore = (refl, omega arith)
verb_fits verbs.LoadAndDelete = (refl, omega arith)
verb_fits verbs.Delete = (refl, omega arith)
verb_fits verbs.Swap = (refl, omega arith)
verb_fits verbs.CompareAndSwap = (refl, omega arith)
verb_fits verbs.CompareAndDelete = (refl, omega arith)
verb_fits verbs.Clear = (refl, omega arith)
verb_fits verbs.Range = (refl, omega arith)
verb_fits verbs.Add = (refl, omega arith)
verb_fits verbs.And = (refl, omega arith)
verb_fits verbs.Or = (refl, omega arith)
verb_fits verbs.Lock = (refl, omega arith)
verb_fits verbs.Unlock = (refl, omega arith)
verb_fits verbs.TryLock = (refl, omega arith)
verb_fits verbs.RLock = (refl, omega arith)
verb_fits verbs.RUnlock = (refl, omega arith)
verb_fits verbs.TryRLock = (refl, omega arith)
verb_fits verbs.Wait = (refl, omega arith)
verb_fits verbs.Signal = (refl, omega arith)
verb_fits verbs.Broadcast = (refl, omega arith)
verb_fits verbs.Done = (refl, omega arith)
verb_fits verbs.Do = (refl, omega arith)
verb_fits verbs.Call = (refl, omega arith)
verb_fits verbs.Value = (refl, omega arith)
verb_fits verbs.Put = (refl, omega arith)
verb_fits verbs.Get = (refl, omega arith)
verb_fits verbs.Sweep = (refl, omega arith)
verb_fits verbs.IfEqual = (refl, omega arith)
verb_fits verbs.WaitFor = (refl, omega arith)
verb_fits verbs.Go = (refl, omega arith)
verb_fits verbs.Acquire = (refl, omega arith)
verb_fits verbs.TryAcquire = (refl, omega arith)
verb_fits verbs.Release = (refl, omega arith)
verb_fits verbs.Fly = (refl, omega arith)
verb_fits verbs.Read = (refl, omega arith)
verb_fits verbs.Write = (refl, omega arith)

call_fits : (d : Draft) (o : Option Declared) (name : List ℕ) (second : Option (List ℕ)) (c : Call) → names_object d.plan.objects o c ≡ true → names_second d c.operation second ≡ true → is_name name ≡ true → is_call c ≡ true
    → FitsLine (verb_word (verb_of c.operation) ∷ name ∷ option_to_list second ++ operands_of c.operation)
call_fits d None name second c on behind named h = absurd cc
call_fits d (Some found) name second c on behind named h =
    let words = option_to_list second ++ operands_of c.operation in
    let first = verb_fits (verb_of c.operation) in
    let front = name_is_word name named in
    let others = behind_fit d c.operation second behind (operands_fit d.plan.objects found.kind c.operation (both (eqb found.place c.object) (has_among d.plan.objects found.kind c.operation) on).1 h) in
    record {
      all = pair (is_word (verb_word (verb_of c.operation))) (list_all is_word (name ∷ words)) first.0 (pair (is_word name) (list_all is_word words) front.0 others.0);
      short = omega (arith, length-join (verb_word (verb_of c.operation)) (name ∷ words), first.1, front.1, others.1);
    }

object_word_fits : (w : ObjectWord) → (is_word (object_word w) ≡ true) × (length (object_word w) ≤ 20)
object_word_fits words.Map = (refl, omega arith)
object_word_fits (words.Atomic types.Int32) = (refl, omega arith)
object_word_fits (words.Atomic types.Int64) = (refl, omega arith)
object_word_fits (words.Atomic types.Uint32) = (refl, omega arith)
object_word_fits (words.Atomic types.Uint64) = (refl, omega arith)
object_word_fits (words.Atomic types.Bool) = (refl, omega arith)
object_word_fits words.Mutex = (refl, omega arith)
object_word_fits words.RwMutex = (refl, omega arith)
object_word_fits words.Cond = (refl, omega arith)
object_word_fits words.WaitGroup = (refl, omega arith)
object_word_fits words.Once = (refl, omega arith)
object_word_fits words.OnceFunc = (refl, omega arith)
object_word_fits words.OnceValue = (refl, omega arith)
object_word_fits words.Pool = (refl, omega arith)
object_word_fits words.Sema = (refl, omega arith)
object_word_fits words.Flight = (refl, omega arith)
object_word_fits words.Var = (refl, omega arith)

-- a schedule line of at most eight items, and any other line
abbrev pub IsNarrow : Line → Type 0
IsNarrow (lines.Object o r) = Unit {0}
IsNarrow (lines.Dormant w) = Unit {0}
IsNarrow (lines.Worker w) = Unit {0}
IsNarrow (lines.Schedule ts) = length ts ≤ 8
IsNarrow (lines.Call n r c) = Unit {0}

-- a line that may follow fits
pub line_fits : (d : Draft) (l : Line) → d.plan.workers ≤ MAX_WORKERS → may_follow d l ≡ true → IsNarrow l → FitsLine (spelled l)
line_fits d (lines.Object o r) few f narrow =
    let h = object_follows d o r f in
    let word = object_word (word_of o.kind) in
    let rest = option_to_list r ++ kind_parameters o.kind in
    let first = object_word_fits (word_of o.kind) in
    let second = name_is_word o.name h.name in
    let others = references_fit d o.kind r h.reference h.kind in
    record {
      all = pair (is_word word) (list_all is_word (o.name ∷ rest)) first.0 (pair (is_word o.name) (list_all is_word rest) second.0 others.0);
      short = omega (arith, length-join word (o.name ∷ rest), first.1, second.1, others.1);
    }
line_fits d (lines.Dormant w) few f narrow =
    let second = decimal_is_word w (omega (arith, ltb-true w d.plan.workers (dormant_follows d w f).worker_is)) in
    record {
      all = pair true (list_all is_word (decimal w ∷ [])) refl (pair (is_word (decimal w)) true second.0 refl);
      short = omega (arith, length-join (codes "dormant") (decimal w ∷ []), second.1);
    }
line_fits d (lines.Worker w) few f narrow =
    let second = decimal_is_word w (omega (arith, ltb-true w d.plan.workers f)) in
    record {
      all = pair true (list_all is_word (decimal w ∷ [])) refl (pair (is_word (decimal w)) true second.0 refl);
      short = omega (arith, length-join (codes "worker") (decimal w ∷ []), second.1);
    }
line_fits d (lines.Schedule ts) few f narrow =
    let items = turn_words d.plan.workers ts few (schedule_follows d ts f).items in
    record {
      all = pair true (list_all is_word (map turn_word ts)) refl items.0;
      short = omega (arith, length-join (codes "schedule") (map turn_word ts), items.1, narrow);
    }
line_fits d (lines.Call n r c) few f narrow =
    let h = call_follows d n r c f in
    call_fits d (declared d n) n r c h.on h.second h.name h.call

-- the first line fits
pub filled_pair : (workers : ℕ) → workers < 2 ^ 64 → FitsLine (first_spelled workers)
filled_pair workers small =
    let second = decimal_is_word workers small in
    record {
      all = pair true (list_all is_word (decimal workers ∷ [])) refl (pair (is_word (decimal workers)) true second.0 refl);
      short = omega (arith, length-join (codes "workers") (decimal workers ∷ []), second.1);
    }
