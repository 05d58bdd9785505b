-- Each text is read or refused.
use Rattle.std.proofs.Common.{◌≡◌, ℕ, ℤ, ◌+◌, ◌-◌, ◌≤◌, max, Bool, true, false, cond, eqb, ◌&&◌, not, List, [], ◌∷◌, ◌++◌, map, length, Option, Some, None, refl, sym, ap, subst, ◌∙◌, arith, inl, inr, ◌⊎◌}
use Rattle.std.specs.Prelude.{nat_lt, nat_le, is_some, slice_get, codes, count_by, MatchOption}
use Rattle.std.specs.List.{list_all, flat_map, AllByRecursion}
use Rattle.std.specs.Fmt.{decimal, signed_decimal}
use Rattle.std.specs.Option.{option_to_list, option_map_or}
use Rattle.std.specs.Str.{bytes_eq}
use Rattle.std.proofs.lemmas.Bool.{eqb-true, eq-eqb, ltb-true, leb-true, le-leb, lt-ltb, cases_lt}
use Rattle.std.proofs.lemmas.Slice.Eq.{bytes_eq-Decides}
use Rattle.std.proofs.lemmas.List.{length-map}
use Rattle.sync_types.specs.Name.{is_name}
use Rattle.script_calls.specs.declared.call.Call.{Call}
use Rattle.script_calls.specs.declared.call.ComposedCall.TheVariants.{IfEqual, WaitFor, Go}
use Rattle.script_calls.specs.declared.call.Operation.{Operation}
use Rattle.script_calls.specs.declared.call.Operation.TheVariants as operations
use Rattle.script_calls.specs.Starts.{start_count}
use Rattle.sync_types.specs.declared.map_object.MapCall.TheVariants as map_calls
use Rattle.sync_types.specs.declared.atomic_object.AtomicKind.{AtomicKind}
use Rattle.sync_types.specs.declared.atomic_object.AtomicKind.TheVariants as types
use Rattle.sync_types.specs.declared.atomic_object.Number.{Number}
use Rattle.sync_types.specs.declared.atomic_object.AtomicCall.TheVariants as atomic_calls
use Rattle.sync_types.specs.declared.wait_call.CondCall.TheVariants as cond_calls
use Rattle.sync_types.specs.declared.wait_call.WaitGroupCall.TheVariants as group_calls
use Rattle.sync_types.specs.declared.pool_call.PoolCall.TheVariants as pool_calls
use Rattle.sync_types.specs.declared.sema_call.SemaCall.TheVariants as sema_calls
use Rattle.sync_types.specs.declared.lock_call.MutexCall.TheVariants as mutex_calls
use Rattle.sync_types.specs.declared.lock_call.RwMutexCall.TheVariants as rw_mutex_calls
use Rattle.sync_types.specs.SequentialAtomic.{has_bits, is_of}
use Rattle.script_calls.specs.declared.call.VarCall.TheVariants as var_calls
use Rattle.workload.specs.declared.keyword.Dialect.{Dialect}
use Rattle.workload.specs.declared.keyword.Keyword.{Keyword}
use Rattle.workload.specs.declared.keyword.Keyword.TheVariants as keywords
use Rattle.workload.specs.declared.keyword.Verb.{Verb}
use Rattle.workload.specs.declared.keyword.Verb.TheVariants as verbs
use Rattle.workload.specs.declared.keyword.Operand.{Operand}
use Rattle.workload.specs.declared.keyword.Operand.TheVariants as operands
use Rattle.workload.specs.declared.limits.TheConstants.{MAX_ACCESSES, MAX_AMOUNT, MAX_CODE, MAX_RANGES, MAX_SIZE, MAX_TURNS, MAX_WORKERS, MAX_INPUT}
use Rattle.sync_types.specs.declared.value.TheConstants.{MAX_VALUE}
use Rattle.workload.specs.declared.object.Declared.{Declared}
use Rattle.workload.specs.declared.object.ObjectKind.{ObjectKind}
use Rattle.workload.specs.declared.object.ObjectKind.TheVariants as kinds
use Rattle.workload.specs.declared.object.ObjectLine.{ObjectLine}
use Rattle.workload.specs.declared.object.ObjectWord.{ObjectWord}
use Rattle.workload.specs.declared.object.ObjectWord.TheVariants as object_words
use Rattle.workload.specs.declared.keyword.Parameter.TheVariants as parameters
use Rattle.workload.specs.declared.line.Line.{Line}
use Rattle.workload.specs.declared.line.Line.TheVariants as lines
use Rattle.workload.specs.declared.reason.Reason.{Reason}
use Rattle.workload.specs.declared.reason.Reason.TheVariants.{NoWorkersLine, LineTooLong, BadByte, WrongNumberOfWords, BadName, NameTaken, BadNumber, CallOutsideWorker, LimitReached, InputTooLong, NotDormant}
use Rattle.workload.specs.declared.turn.Turn.{Turn}
use Rattle.workload.specs.declared.turn.Turn.TheVariants as turns
use Rattle.workload.specs.Plan.{Plan, is_dormant, word_of, reference_of, is_target, is_amount, has_call, has_among}
use Rattle.workload.specs.Lines.{lines_of, words_of, is_short, is_clean, is_significant}
use Rattle.workload.specs.KeywordWords.{keyword_word, keyword_at, verb_word}
use Rattle.workload.specs.Dialect.{knows, keyword_in}
use Rattle.workload.specs.NumberWords.{number_word, is_number, is_number_to, is_amount_word, is_passes, is_weight, is_weight_word, number_of}
use Rattle.workload.specs.CallWords.{verb_of, operands_of}
use Rattle.workload.specs.Words.{spelled, keyword_of, kind_parameters, turn_word}
use Rattle.workload.specs.Draft.{Draft, started, with_line, declared, may_follow, names_object, names_reference, is_kind, is_operation, is_value, is_item, is_range, operation_keys, names_second, may_start, tries_of, count_of, limit_of, range_count, is_access, access_count}
use Rattle.workload.specs.Checks.{Check, first_failing, form_words, parameter_words, keys_among, map_form, bits_form, atomic_form, mutex_form, rw_mutex_form, cond_form, group_form, pool_form, sema_form, flight_form, var_form, parameters_of, parameters_checks, reference_checks, is_mutex, is_int64, is_atomic, awaited_number, wait_for_words, call_form, operand_checks, tries_among, ranges_in, accesses_in, limit_checks, form_checks, object_checks, worker_checks, start_checks, item_checks, line_checks, first_checks, word_checks, reason_of}
use Rattle.workload.specs.Reads.{Continues, IsRead, ReadsOn, ReadsIn, FirstFault, IsRefusedIn}
use Rattle.workload.proofs.Passing.{both, pair, all_append}
use Rattle.workload.proofs.Follows.{object_follows}
use Rattle.workload.proofs.GoCalls.{all_get}
use Rattle.workload.proofs.Keywords.{keyword_from, same_keyword, known_at}
use Rattle.workload.proofs.CallWords.{number_read, number_said, signed_of, amount_said, passes_said, tries_said, weight_said}
use Rattle.workload.proofs.CallForms.{alone_form, plain_form, call_passes, ranges_of, accesses_of}
use Rattle.workload.proofs.Started.{alone_start, start_from}
use Rattle.workload.proofs.Awaits.{alone_second}
use Rattle.workload.proofs.DraftLemmas.{found_at}
use Rattle.workload.proofs.FirstFailing.{PassesWith, form_passes}
use Rattle.workload.proofs.Numbers.{decimal-number_of}
use Rattle.workload.proofs.Refuted.{something}

-- ---- checks that all pass

-- each of them does
pub all_pass : (checks : List Check) → first_failing checks ≡ None → AllByRecursion (λ (check : Check). check.0 ≡ true) checks
all_pass [] h = tt
all_pass (x ∷ xs) h =
    elim x.0 as (λ b. cond b (first_failing xs) (Some x.1) ≡ None → (b ≡ true) × AllByRecursion (λ (check : Check). check.0 ≡ true) xs) [
      | true ↦ λ e. (refl, all_pass xs e)
      | false ↦ λ e. absurd cc
    ] h

pub both_pass : (xs ys : List Check) → first_failing (xs ++ ys) ≡ None → (first_failing xs ≡ None) × (first_failing ys ≡ None)
both_pass [] ys h = (refl, h)
both_pass (x ∷ xs) ys h =
    elim x.0 as (λ b. cond b (first_failing (xs ++ ys)) (Some x.1) ≡ None → (cond b (first_failing xs) (Some x.1) ≡ None) × (first_failing ys ≡ None)) [
      | true ↦ λ e. both_pass xs ys e
      | false ↦ λ e. absurd cc
    ] h

-- ---- words

number_words : (word : List ℕ) → is_number word ≡ true → number_of word ≤ MAX_VALUE → decimal (number_of word) ≡ word
number_words word is small = decimal-number_of word is (omega arith)

not_both_ways : {X : Type 0} {b : Bool} → b ≡ true → b ≡ false → X
not_both_ways t f = absurd cc

-- ---- drafts

-- a draft of at most 32 workers, whose objects have their numbers in range
record IsFit (d : Draft) : Type 0 where
  workers : d.plan.workers ≤ MAX_WORKERS
  objects : list_all (λ object. is_kind object.kind) d.plan.objects ≡ true

abbrev AreFit : Option Draft → Type 0
AreFit draft = MatchOption draft (Unit {0}) IsFit

one_fits : (d : Draft) (l : Line) → IsFit d → may_follow d l ≡ true → IsFit (with_line d l)
one_fits d (lines.Object o to) h f = record {
  workers = h.workers;
  objects = all_append (λ (x : ObjectLine). is_kind x.kind) d.plan.objects (o ∷ []) h.objects (pair (is_kind o.kind) true (object_follows d o to f).kind refl);
}
one_fits d (lines.Dormant w) h f = record { workers = h.workers; objects = h.objects }
one_fits d (lines.Worker w) h f = record { workers = h.workers; objects = h.objects }
one_fits d (lines.Schedule ts) h f = record { workers = h.workers; objects = h.objects }
one_fits d (lines.Call n r c) h f = record { workers = h.workers; objects = h.objects }

said_fits : (dialect : Dialect) (before : Option Draft) (words : List (List ℕ)) (after : Option Draft) → AreFit before → Continues dialect before words after → AreFit after
said_fits dialect None words after fits h = subst AreFit (sym h.4) (record { workers = h.2; objects = refl })
said_fits dialect (Some d) words after fits h = subst AreFit (sym h.3) (one_fits d h.0 fits h.1)

read_fits : (dialect : Dialect) (before : Option Draft) (line : List ℕ) (after : Option Draft) → AreFit before → IsRead dialect before line after → AreFit after
read_fits dialect before line after fits h =
    elim (is_significant (words_of line)) as (λ b. is_significant (words_of line) ≡ b → AreFit after) [
      | true ↦ λ t. said_fits dialect before (words_of line) after fits (h.continues t)
      | false ↦ λ f. subst AreFit (sym (h.silent f)) fits
    ] refl

-- what a name finds has its numbers in range
found_fits : (d : Draft) (name : List ℕ) (found : Declared) → IsFit d → declared d name ≡ Some found → is_kind found.kind ≡ true
found_fits d name found h is =
    let there = found_at 0 name d.plan.objects found is in
    subst (λ (k : ObjectKind). is_kind k ≡ true) there.3 (all_get (λ (x : ObjectLine). is_kind x.kind) d.plan.objects (found.place - 0) there.0 h.objects there.2)

-- ---- lines

-- a line that the words say, with what it may follow
abbrev Said : Draft → List (List ℕ) → Type 0
Said d words = (l : Line) × (may_follow d l ≡ true) × (words ≡ spelled l)

said_as : (d : Draft) (word : List ℕ) (k : Keyword) (words : List (List ℕ)) → keyword_at word ≡ Some k → Said d (keyword_word k ∷ words) → Said d (word ∷ words)
said_as d word k words is said = (said.0, said.1, ap (λ (w : List ℕ). w ∷ words) (keyword_from word k is) ∙ said.2)

worker_words : (workers : ℕ) (word : List ℕ) → workers ≤ MAX_WORKERS → first_failing (worker_checks workers word) ≡ None → (nat_lt (number_of word) workers ≡ true) × (decimal (number_of word) ≡ word)
worker_words workers word few h =
    let all = all_pass (worker_checks workers word) h in
    (all.1.0, number_words word all.0 (omega (arith, ltb-true (number_of word) workers all.1.0)))

worker_said : (d : Draft) (words : List (List ℕ)) → d.plan.workers ≤ MAX_WORKERS → first_failing (line_checks d (Some keywords.Worker) words) ≡ None → Said d (keyword_word keywords.Worker ∷ words)
worker_said d [] few h = absurd cc
worker_said d (word ∷ []) few h =
    let number = worker_words d.plan.workers word few h in
    (lines.Worker (number_of word), number.0, ap (λ (w : List ℕ). codes "worker" ∷ w ∷ []) (sym number.1))
worker_said d (word ∷ other ∷ words) few h = absurd cc

dormant_said : (d : Draft) (words : List (List ℕ)) → d.plan.workers ≤ MAX_WORKERS → first_failing (line_checks d (Some keywords.Dormant) words) ≡ None → Said d (keyword_word keywords.Dormant ∷ words)
dormant_said d [] few h = absurd cc
dormant_said d (word ∷ []) few h =
    let new = not (is_dormant d.plan (number_of word)) in
    let parts = both_pass (worker_checks d.plan.workers word) ((new, NameTaken) ∷ []) h in
    let number = worker_words d.plan.workers word few parts.0 in
    let waits = (all_pass ((new, NameTaken) ∷ []) parts.1).0 in
    (lines.Dormant (number_of word), pair (nat_lt (number_of word) d.plan.workers) new number.0 waits, ap (λ (w : List ℕ). codes "dormant" ∷ w ∷ []) (sym number.1))
dormant_said d (word ∷ other ∷ words) few h = absurd cc

item_said : (workers : ℕ) (word : List ℕ) → workers ≤ MAX_WORKERS → first_failing (item_checks workers word) ≡ None → (t : Turn) × (is_item workers t ≡ true) × (word ≡ turn_word t)
item_said workers [] few h = absurd cc
item_said workers (byte ∷ bytes) few h =
    elim (eqb byte 64) as (λ b. eqb byte 64 ≡ b → first_failing (cond b ((is_number_to MAX_VALUE bytes, BadNumber) ∷ []) (worker_checks workers (byte ∷ bytes))) ≡ None → (t : Turn) × (is_item workers t ≡ true) × (byte ∷ bytes ≡ turn_word t)) [
      | true ↦ λ at e.
          let parts = both (is_number bytes) (nat_le (number_of bytes) MAX_VALUE) (all_pass ((is_number_to MAX_VALUE bytes, BadNumber) ∷ []) e).0 in
          let word = number_words bytes parts.0 (leb-true (number_of bytes) MAX_VALUE parts.1) in
          (turns.Moment (number_of bytes), parts.1, ap (λ (b : ℕ). b ∷ bytes) (eqb-true byte 64 at) ∙ ap (λ (w : List ℕ). 64 ∷ w) (sym word))
      | false ↦ λ other e.
          let number = worker_words workers (byte ∷ bytes) few e in
          (turns.Worker (number_of (byte ∷ bytes)), number.0, sym number.1)
    ] refl h

items_said : (workers : ℕ) (words : List (List ℕ)) → workers ≤ MAX_WORKERS → first_failing (flat_map (item_checks workers) words) ≡ None → (ts : List Turn) × (list_all (is_item workers) ts ≡ true) × (words ≡ map turn_word ts)
items_said workers [] few h = ([], refl, refl)
items_said workers (word ∷ words) few h =
    let parts = both_pass (item_checks workers word) (flat_map (item_checks workers) words) h in
    let first = item_said workers word few parts.0 in
    let others = items_said workers words few parts.1 in (
      first.0 ∷ others.0,
      pair (is_item workers first.0) (list_all (is_item workers) others.0) first.1 others.1,
      ap (λ (w : List ℕ). w ∷ words) first.2 ∙ ap (λ (ws : List (List ℕ)). turn_word first.0 ∷ ws) others.2,
    )

schedule_said : (d : Draft) (words : List (List ℕ)) → d.plan.workers ≤ MAX_WORKERS → first_failing (line_checks d (Some keywords.Schedule) words) ≡ None → Said d (keyword_word keywords.Schedule ∷ words)
schedule_said d words few h =
    let some_words = nat_lt 0 (length words) in
    let limit : List Check = (nat_le (length d.plan.schedule + length words) MAX_TURNS, LimitReached) ∷ [] in
    let one = both_pass ((some_words, WrongNumberOfWords) ∷ []) (flat_map (item_checks d.plan.workers) words ++ limit) h in
    let two = both_pass (flat_map (item_checks d.plan.workers) words) limit one.1 in
    let items = items_said d.plan.workers words few two.0 in
    let first = (all_pass ((some_words, WrongNumberOfWords) ∷ []) one.0).0 in
    let room = (all_pass limit two.1).0 in
    let many : length words ≡ length items.0 = ap length items.2 ∙ length-map items.0 turn_word in (
      lines.Schedule items.0,
      pair (nat_lt 0 (length items.0)) (list_all (is_item d.plan.workers) items.0 && nat_le (length d.plan.schedule + length items.0) MAX_TURNS) (ap (λ (n : ℕ). nat_lt 0 n) (sym many) ∙ first)
          (pair (list_all (is_item d.plan.workers) items.0) (nat_le (length d.plan.schedule + length items.0) MAX_TURNS) items.1 (ap (λ (n : ℕ). nat_le (length d.plan.schedule + n) MAX_TURNS) (sym many) ∙ room)),
      ap (λ (ws : List (List ℕ)). codes "schedule" ∷ ws) items.2,
    )

-- ---- objects

-- what the words behind an object's name say
abbrev KindSaid : Draft → ObjectWord → List (List ℕ) → Type 0
KindSaid d word words = (k : ObjectKind) × (r : Option (List ℕ)) × (word_of k ≡ word) × (names_reference d k r ≡ true) × (is_kind k ≡ true) × (words ≡ option_to_list r ++ kind_parameters k)

no_words_said : (words : List (List ℕ)) → first_failing ((eqb (length words) 0, WrongNumberOfWords) ∷ []) ≡ None → words ≡ []
no_words_said [] h = refl
no_words_said (word ∷ words) h = absurd (omega (arith, eqb-true (length (word ∷ words)) 0 (all_pass ((eqb (length (word ∷ words)) 0, WrongNumberOfWords) ∷ []) h).0))

-- a number alone
bounded_said : (d : Draft) (most : ℕ) (words : List (List ℕ)) → most ≤ MAX_VALUE → first_failing ((eqb (length words) 1, WrongNumberOfWords) ∷ parameters_checks d (parameters.Number most ∷ []) words) ≡ None
    → (n : ℕ) × (nat_le n most ≡ true) × (words ≡ decimal n ∷ [])
bounded_said d most [] small h = absurd cc
bounded_said d most (word ∷ []) small h =
    let all = all_pass ((true, WrongNumberOfWords) ∷ (is_number_to most word, BadNumber) ∷ []) h in
    let parts = both (is_number word) (nat_le (number_of word) most) all.1.0 in
    let least = leb-true (number_of word) most parts.1 in
    (number_of word, parts.1, ap (λ (w : List ℕ). w ∷ []) (sym (number_words word parts.0 (omega arith))))
bounded_said d most (word ∷ other ∷ words) small h = absurd (omega (arith, eqb-true (length (word ∷ other ∷ words)) 1 (all_pass ((eqb (length (word ∷ other ∷ words)) 1, WrongNumberOfWords) ∷ parameters_checks d (parameters.Number most ∷ []) (word ∷ other ∷ words)) h).0))

-- a size alone
size_said : (d : Draft) (words : List (List ℕ)) → first_failing ((eqb (length words) 1, WrongNumberOfWords) ∷ parameters_checks d (parameters.Size ∷ []) words) ≡ None
    → (n : ℕ) × (is_weight MAX_SIZE n ≡ true) × (words ≡ decimal n ∷ [])
size_said d [] h = absurd cc
size_said d (word ∷ []) h =
    let all = all_pass ((true, WrongNumberOfWords) ∷ (is_weight_word MAX_SIZE word, BadNumber) ∷ []) h in
    let said = weight_said MAX_SIZE word (omega arith) all.1.0 in
    (number_of word, said.0, ap (λ (w : List ℕ). w ∷ []) (sym said.1))
size_said d (word ∷ other ∷ words) h = absurd (omega (arith, eqb-true (length (word ∷ other ∷ words)) 1 (all_pass ((eqb (length (word ∷ other ∷ words)) 1, WrongNumberOfWords) ∷ parameters_checks d (parameters.Size ∷ []) (word ∷ other ∷ words)) h).0))

-- the name of an object whose kind passes a test
reference_said : (d : Draft) (test : ObjectKind → Bool) (name : List ℕ) → first_failing (reference_checks d test name) ≡ None → (found : Declared) × (is_name name ≡ true) × (declared d name ≡ Some found) × (test found.kind ≡ true)
reference_said d test name h =
    let all = all_pass (reference_checks d test name) h in
    at (declared d name) refl all.0 all.1.1.0
  where
    at : (o : Option Declared) → declared d name ≡ o → is_name name ≡ true → option_map_or (λ found. test found.kind) o false ≡ true → (found : Declared) × (is_name name ≡ true) × (declared d name ≡ Some found) × (test found.kind ≡ true)
    at None is named h = absurd cc
    at (Some found) is named h = (found, named, is, h)

mutex_target : (k : ObjectKind) (place : ℕ) → is_mutex k ≡ true → is_target (kinds.Cond place) k ≡ true
mutex_target kinds.Mutex place h = refl
mutex_target k place h = absurd cc

int64_target : (k : ObjectKind) (place : ℕ) (z : ℤ) → is_int64 k ≡ true → (is_target (kinds.Once place z) k ≡ true) × (is_target (kinds.Flight place z) k ≡ true)
int64_target (kinds.Atomic types.Int64) place z h = (refl, refl)
int64_target k place z h = absurd cc

-- a name that is declared so is that of what an object refers to
names_it : (d : Draft) (k : ObjectKind) (name : List ℕ) (found : Declared) → reference_of k ≡ Some found.place → is_name name ≡ true → declared d name ≡ Some found → is_target k found.kind ≡ true → names_reference d k (Some name) ≡ true
names_it d k name found to named is target = rw (named, is, to) (pair (eqb found.place found.place) (is_target k found.kind) (eq-eqb found.place found.place refl) target)

cond_said : (d : Draft) (words : List (List ℕ)) → first_failing (parameter_words d object_words.Cond words) ≡ None → KindSaid d object_words.Cond words
cond_said d [] h = absurd cc
cond_said d (name ∷ []) h =
    let to = reference_said d is_mutex name (both_pass (reference_checks d is_mutex name) [] h).0 in
    let place = to.0.place in
    let named = names_it d (kinds.Cond place) name to.0 refl to.1 to.2 (mutex_target to.0.kind place to.3) in
    (kinds.Cond place, Some name, refl, named, refl, refl)
cond_said d (name ∷ other ∷ words) h = absurd (omega (arith, eqb-true (length (name ∷ other ∷ words)) 1 (all_pass (parameter_words d object_words.Cond (name ∷ other ∷ words)) h).0))

-- what a once and a group of flights add, and to which int64
record AddsTo (d : Draft) (words : List (List ℕ)) : Type 0 where
  name : List ℕ
  found : Declared
  amount : ℤ
  named : is_name name ≡ true
  is : declared d name ≡ Some found
  int64 : is_int64 found.kind ≡ true
  fits : is_amount amount ≡ true
  said : words ≡ name ∷ signed_decimal amount ∷ []

adds_to : (d : Draft) (words : List (List ℕ)) → first_failing ((eqb (length words) 2, WrongNumberOfWords) ∷ parameters_checks d (parameters.Int64 ∷ parameters.Amount ∷ []) words) ≡ None → AddsTo d words
adds_to d [] h = absurd cc
adds_to d (name ∷ []) h = absurd cc
adds_to d (name ∷ amount ∷ []) h =
    let amounts : List Check = (is_amount_word amount, BadNumber) ∷ [] in
    let parts = both_pass (reference_checks d is_int64 name) amounts h in
    let to = reference_said d is_int64 name parts.0 in
    let spelled = amount_said amount (all_pass amounts parts.1).0 in
    record { name = name; found = to.0; amount = signed_of amount; named = to.1; is = to.2; int64 = to.3; fits = spelled.0; said = ap (λ (w : List ℕ). name ∷ w ∷ []) (sym spelled.1) }
adds_to d (name ∷ amount ∷ other ∷ words) h = absurd (omega (arith, eqb-true (length (name ∷ amount ∷ other ∷ words)) 2 (all_pass ((eqb (length (name ∷ amount ∷ other ∷ words)) 2, WrongNumberOfWords) ∷ parameters_checks d (parameters.Int64 ∷ parameters.Amount ∷ []) (name ∷ amount ∷ other ∷ words)) h).0))

once_said : (d : Draft) (words : List (List ℕ)) → first_failing (parameter_words d object_words.Once words) ≡ None → KindSaid d object_words.Once words
once_said d words h =
    let to = adds_to d words h in
    let kind = kinds.Once to.found.place to.amount in
    (kind, Some to.name, refl, names_it d kind to.name to.found refl to.named to.is (int64_target to.found.kind to.found.place to.amount to.int64).0, to.fits, to.said)

flight_said : (d : Draft) (words : List (List ℕ)) → first_failing (parameter_words d object_words.Flight words) ≡ None → KindSaid d object_words.Flight words
flight_said d words h =
    let to = adds_to d words h in
    let kind = kinds.Flight to.found.place to.amount in
    (kind, Some to.name, refl, names_it d kind to.name to.found refl to.named to.is (int64_target to.found.kind to.found.place to.amount to.int64).1, to.fits, to.said)

parameters_said : (d : Draft) (word : ObjectWord) (ws : List (List ℕ)) → first_failing (parameter_words d word ws) ≡ None → KindSaid d word ws
parameters_said d object_words.Map ws h = (kinds.Map, None, refl, refl, refl, no_words_said ws h)
parameters_said d (object_words.Atomic k) ws h = (kinds.Atomic k, None, refl, refl, refl, no_words_said ws h)
parameters_said d object_words.Mutex ws h = (kinds.Mutex, None, refl, refl, refl, no_words_said ws h)
parameters_said d object_words.RwMutex ws h = (kinds.RwMutex, None, refl, refl, refl, no_words_said ws h)
parameters_said d object_words.Cond ws h = cond_said d ws h
parameters_said d object_words.WaitGroup ws h = let n = bounded_said d MAX_AMOUNT ws (omega arith) h in (kinds.WaitGroup n.0, None, refl, refl, n.1, n.2)
parameters_said d object_words.Once ws h = once_said d ws h
parameters_said d object_words.OnceFunc ws h = let n = bounded_said d MAX_CODE ws (omega arith) h in (kinds.OnceFunc n.0, None, refl, refl, n.1, n.2)
parameters_said d object_words.OnceValue ws h = let n = bounded_said d MAX_VALUE ws (omega arith) h in (kinds.OnceValue n.0, None, refl, refl, n.1, n.2)
parameters_said d object_words.Pool ws h = (kinds.Pool, None, refl, refl, refl, no_words_said ws h)
parameters_said d object_words.Sema ws h = let n = size_said d ws h in (kinds.Sema n.0, None, refl, refl, n.1, n.2)
parameters_said d object_words.Flight ws h = flight_said d ws h
parameters_said d object_words.Var ws h = (kinds.Var, None, refl, refl, refl, no_words_said ws h)

-- a check that passes before others that do
pass_on : (b : Bool) (reason : Reason) (others : List Check) → b ≡ true → first_failing others ≡ None → first_failing ((b, reason) ∷ others) ≡ None
pass_on b reason others is h = rw is h

-- an object line with parts that pass may follow
object_may : (d : Draft) (o : ObjectLine) (r : Option (List ℕ)) → is_name o.name ≡ true → not (is_some (declared d o.name)) ≡ true → names_reference d o.kind r ≡ true → is_kind o.kind ≡ true
    → nat_lt (count_of (word_of o.kind) d.plan.objects) (limit_of (word_of o.kind)) ≡ true → may_follow d (lines.Object o r) ≡ true
object_may d o r named new to fits room = rw (named, new, to, fits, room) refl

object_said : (d : Draft) (word : ObjectWord) (ws : List (List ℕ)) → first_failing (line_checks d (Some (keywords.Object word)) ws) ≡ None → Said d (keyword_word (keywords.Object word) ∷ ws)
object_said d word [] h = absurd cc
object_said d word (name ∷ ws) h =
    let count = eqb (length ws) (length (parameters_of word)) in
    let new = not (is_some (declared d name)) in
    let front : List Check = (count, WrongNumberOfWords) ∷ (is_name name, BadName) ∷ (new, NameTaken) ∷ [] in
    let others = parameters_checks d (parameters_of word) ws in
    let limit : List Check = (nat_lt (count_of word d.plan.objects) (limit_of word), LimitReached) ∷ [] in
    let one = both_pass front (others ++ limit) h in
    let two = both_pass others limit one.1 in
    let first = all_pass front one.0 in
    let form = pass_on count WrongNumberOfWords others first.0 two.0 in
    let said = parameters_said d word ws form in
    let k = said.0 in
    let r = said.1 in
    let room = subst (λ (w : ObjectWord). nat_lt (count_of w d.plan.objects) (limit_of w) ≡ true) (sym said.2) (all_pass limit two.1).0 in (
      lines.Object (record { name = name; kind = k }) r,
      object_may d (record { name = name; kind = k }) r first.1.0 first.1.1.0 said.3 said.4 room,
      ap (λ (w : ObjectWord). keyword_word (keywords.Object w) ∷ name ∷ ws) (sym said.2) ∙ ap (λ (x : List (List ℕ)). keyword_word (keywords.Object (word_of k)) ∷ name ∷ x) said.5,
    )

-- ---- calls

abbrev CallSaid : Draft → List ℕ → Verb → List (List ℕ) → Type 0
CallSaid d name verb words = (second : Option (List ℕ)) × (c : Call) × (verb_of c.operation ≡ verb) × (option_to_list second ++ operands_of c.operation ≡ words) × (may_follow d (lines.Call name second c) ≡ true)

-- ---- the operands that words spell

none_said : (d : Draft) (words : List (List ℕ)) → first_failing (form_words d (Some []) words) ≡ None → words ≡ []
none_said d [] h = refl
none_said d (word ∷ words) h = absurd (omega (arith, eqb-true (length (word ∷ words)) 0 (all_pass (form_words d (Some []) (word ∷ words)) h).0))

key_said : (d : Draft) (words : List (List ℕ)) → first_failing (form_words d (Some (operands.Key ∷ [])) words) ≡ None → (k : List ℕ) × (is_name k ≡ true) × (words ≡ k ∷ [])
key_said d [] h = absurd cc
key_said d (k ∷ []) h =
    let all = all_pass (form_words d (Some (operands.Key ∷ [])) (k ∷ [])) h in
    (k, all.1.0, refl)
key_said d (k ∷ other ∷ words) h = absurd (omega (arith, eqb-true (length (k ∷ other ∷ words)) 1 (all_pass (form_words d (Some (operands.Key ∷ [])) (k ∷ other ∷ words)) h).0))

value_said : (word : List ℕ) → is_number_to MAX_VALUE word ≡ true → (is_value (number_of word) ≡ true) × (word ≡ decimal (number_of word))
value_said word h =
    let parts = both (is_number word) (nat_le (number_of word) MAX_VALUE) h in
    (parts.1, sym (number_words word parts.0 (leb-true (number_of word) MAX_VALUE parts.1)))

pair_said : (d : Draft) (words : List (List ℕ)) → first_failing (form_words d (Some (operands.Key ∷ operands.Value ∷ [])) words) ≡ None → (k : List ℕ) × (v : ℕ) × (is_name k ≡ true) × (is_value v ≡ true) × (words ≡ k ∷ decimal v ∷ [])
pair_said d [] h = absurd cc
pair_said d (k ∷ []) h = absurd cc
pair_said d (k ∷ v ∷ []) h =
    let all = all_pass (form_words d (Some (operands.Key ∷ operands.Value ∷ [])) (k ∷ v ∷ [])) h in
    let value = value_said v all.1.1.0 in
    (k, number_of v, all.1.0, value.0, ap (λ (w : List ℕ). k ∷ w ∷ []) value.1)
pair_said d (k ∷ v ∷ other ∷ words) h = absurd (omega (arith, eqb-true (length (k ∷ v ∷ other ∷ words)) 2 (all_pass (form_words d (Some (operands.Key ∷ operands.Value ∷ [])) (k ∷ v ∷ other ∷ words)) h).0))

exchange_said : (d : Draft) (words : List (List ℕ)) → first_failing (form_words d (Some (operands.Key ∷ operands.Value ∷ operands.Value ∷ [])) words) ≡ None
    → (k : List ℕ) × (v : ℕ) × (w : ℕ) × (is_name k ≡ true) × (is_value v ≡ true) × (is_value w ≡ true) × (words ≡ k ∷ decimal v ∷ decimal w ∷ [])
exchange_said d [] h = absurd cc
exchange_said d (k ∷ []) h = absurd cc
exchange_said d (k ∷ v ∷ []) h = absurd cc
exchange_said d (k ∷ v ∷ w ∷ []) h =
    let all = all_pass (form_words d (Some (operands.Key ∷ operands.Value ∷ operands.Value ∷ [])) (k ∷ v ∷ w ∷ [])) h in
    let first = value_said v all.1.1.0 in
    let second = value_said w all.1.1.1.0 in
    (k, number_of v, number_of w, all.1.0, first.0, second.0, ap (λ (x : List ℕ). k ∷ x ∷ w ∷ []) first.1 ∙ ap (λ (x : List ℕ). k ∷ decimal (number_of v) ∷ x ∷ []) second.1)
exchange_said d (k ∷ v ∷ w ∷ other ∷ words) h = absurd (omega (arith, eqb-true (length (k ∷ v ∷ w ∷ other ∷ words)) 3 (all_pass (form_words d (Some (operands.Key ∷ operands.Value ∷ operands.Value ∷ [])) (k ∷ v ∷ w ∷ other ∷ words)) h).0))

number_alone_said : (d : Draft) (kind : AtomicKind) (words : List (List ℕ)) → first_failing (form_words d (Some (operands.Number kind ∷ [])) words) ≡ None → (x : Number) × (is_of kind x ≡ true) × (words ≡ number_word x ∷ [])
number_alone_said d kind [] h = absurd cc
number_alone_said d kind (w ∷ []) h =
    let all = all_pass (form_words d (Some (operands.Number kind ∷ [])) (w ∷ [])) h in
    let said = number_said kind w all.1.0 in
    (number_read kind w, said.0, ap (λ (x : List ℕ). x ∷ []) (sym said.1))
number_alone_said d kind (w ∷ other ∷ words) h = absurd (omega (arith, eqb-true (length (w ∷ other ∷ words)) 1 (all_pass (form_words d (Some (operands.Number kind ∷ [])) (w ∷ other ∷ words)) h).0))

numbers_said : (d : Draft) (kind : AtomicKind) (words : List (List ℕ)) → first_failing (form_words d (Some (operands.Number kind ∷ operands.Number kind ∷ [])) words) ≡ None
    → (x : Number) × (y : Number) × (is_of kind x ≡ true) × (is_of kind y ≡ true) × (words ≡ number_word x ∷ number_word y ∷ [])
numbers_said d kind [] h = absurd cc
numbers_said d kind (v ∷ []) h = absurd cc
numbers_said d kind (v ∷ w ∷ []) h =
    let all = all_pass (form_words d (Some (operands.Number kind ∷ operands.Number kind ∷ [])) (v ∷ w ∷ [])) h in
    let first = number_said kind v all.1.0 in
    let second = number_said kind w all.1.1.0 in
    (number_read kind v, number_read kind w, first.0, second.0, ap (λ (x : List ℕ). x ∷ w ∷ []) (sym first.1) ∙ ap (λ (x : List ℕ). number_word (number_read kind v) ∷ x ∷ []) (sym second.1))
numbers_said d kind (v ∷ w ∷ other ∷ words) h = absurd (omega (arith, eqb-true (length (v ∷ w ∷ other ∷ words)) 2 (all_pass (form_words d (Some (operands.Number kind ∷ operands.Number kind ∷ [])) (v ∷ w ∷ other ∷ words)) h).0))

test_said : (d : Draft) (kind : AtomicKind) (words : List (List ℕ)) → first_failing (form_words d (Some (operands.Number kind ∷ operands.Passes ∷ [])) words) ≡ None
    → (x : Number) × (n : ℕ) × (is_of kind x ≡ true) × (is_passes n ≡ true) × (words ≡ number_word x ∷ decimal n ∷ [])
test_said d kind [] h = absurd cc
test_said d kind (v ∷ []) h = absurd cc
test_said d kind (v ∷ w ∷ []) h =
    let all = all_pass (form_words d (Some (operands.Number kind ∷ operands.Passes ∷ [])) (v ∷ w ∷ [])) h in
    let first = number_said kind v all.1.0 in
    let second = passes_said w all.1.1.0 in
    (number_read kind v, number_of w, first.0, second.0, ap (λ (x : List ℕ). x ∷ w ∷ []) (sym first.1) ∙ ap (λ (x : List ℕ). number_word (number_read kind v) ∷ x ∷ []) (sym second.1))
test_said d kind (v ∷ w ∷ other ∷ words) h = absurd (omega (arith, eqb-true (length (v ∷ w ∷ other ∷ words)) 2 (all_pass (form_words d (Some (operands.Number kind ∷ operands.Passes ∷ [])) (v ∷ w ∷ other ∷ words)) h).0))

bits_said : (d : Draft) (kind : AtomicKind) (words : List (List ℕ)) → first_failing (form_words d (bits_form kind) words) ≡ None → (x : Number) × ((has_bits kind && is_of kind x) ≡ true) × (words ≡ number_word x ∷ [])
bits_said d types.Int32 words h = number_alone_said d types.Int32 words h
bits_said d types.Int64 words h = number_alone_said d types.Int64 words h
bits_said d types.Uint32 words h = number_alone_said d types.Uint32 words h
bits_said d types.Uint64 words h = number_alone_said d types.Uint64 words h
bits_said d types.Bool words h = absurd cc

-- ---- the call that words spell

abbrev Spelled : ObjectKind → Verb → List (List ℕ) → Type 0
Spelled kind verb words = (o : Operation) × (verb_of o ≡ verb) × (operands_of o ≡ words) × (has_call kind o ≡ true) × (is_operation o ≡ true)

keyed : (k : List ℕ) → is_name k ≡ true → (list_all is_name (k ∷ []) && true) ≡ true
keyed k h = rw h refl

paired : (k : List ℕ) (v : ℕ) → is_name k ≡ true → is_value v ≡ true → (list_all is_name (k ∷ []) && list_all is_value (v ∷ [])) ≡ true
paired k v h i = rw (h, i) refl

map_spelled : (d : Draft) (verb : Verb) (words : List (List ℕ)) → first_failing (form_words d (map_form verb) words) ≡ None → Spelled kinds.Map verb words
map_spelled d verbs.Load words h = let said = key_said d words h in (operations.Map (map_calls.Load said.0), refl, sym said.2, refl, keyed said.0 said.1)
map_spelled d verbs.LoadAndDelete words h = let said = key_said d words h in (operations.Map (map_calls.LoadAndDelete said.0), refl, sym said.2, refl, keyed said.0 said.1)
map_spelled d verbs.Delete words h = let said = key_said d words h in (operations.Map (map_calls.Delete said.0), refl, sym said.2, refl, keyed said.0 said.1)
map_spelled d verbs.Store words h = let said = pair_said d words h in (operations.Map (map_calls.Store said.0 said.1), refl, sym said.4, refl, paired said.0 said.1 said.2 said.3)
map_spelled d verbs.LoadOrStore words h = let said = pair_said d words h in (operations.Map (map_calls.LoadOrStore said.0 said.1), refl, sym said.4, refl, paired said.0 said.1 said.2 said.3)
map_spelled d verbs.Swap words h = let said = pair_said d words h in (operations.Map (map_calls.Swap said.0 said.1), refl, sym said.4, refl, paired said.0 said.1 said.2 said.3)
map_spelled d verbs.CompareAndDelete words h = let said = pair_said d words h in (operations.Map (map_calls.CompareAndDelete said.0 said.1), refl, sym said.4, refl, paired said.0 said.1 said.2 said.3)
map_spelled d verbs.CompareAndSwap words h = let said = exchange_said d words h in (operations.Map (map_calls.CompareAndSwap said.0 said.1 said.2), refl, sym said.6, refl, rw (said.3, said.4, said.5) refl)
map_spelled d verbs.Clear words h = (operations.Map map_calls.Clear, refl, sym (none_said d words h), refl, refl)
map_spelled d verbs.Range words h = (operations.Range, refl, sym (none_said d words h), refl, refl)
map_spelled d verb words h = something h

atomic_spelled : (d : Draft) (kind : AtomicKind) (verb : Verb) (words : List (List ℕ)) → first_failing (form_words d (atomic_form kind verb) words) ≡ None → Spelled (kinds.Atomic kind) verb words
atomic_spelled d kind verbs.Load words h = (operations.Atomic atomic_calls.Load, refl, sym (none_said d words h), refl, refl)
atomic_spelled d kind verbs.Store words h = let said = number_alone_said d kind words h in (operations.Atomic (atomic_calls.Store said.0), refl, sym said.2, said.1, refl)
atomic_spelled d kind verbs.Swap words h = let said = number_alone_said d kind words h in (operations.Atomic (atomic_calls.Swap said.0), refl, sym said.2, said.1, refl)
atomic_spelled d kind verbs.Add words h = let said = bits_said d kind words h in (operations.Atomic (atomic_calls.Add said.0), refl, sym said.2, said.1, refl)
atomic_spelled d kind verbs.And words h = let said = bits_said d kind words h in (operations.Atomic (atomic_calls.And said.0), refl, sym said.2, said.1, refl)
atomic_spelled d kind verbs.Or words h = let said = bits_said d kind words h in (operations.Atomic (atomic_calls.Or said.0), refl, sym said.2, said.1, refl)
atomic_spelled d kind verbs.CompareAndSwap words h = let said = numbers_said d kind words h in (operations.Atomic (atomic_calls.CompareAndSwap said.0 said.1), refl, sym said.4, pair (is_of kind said.0) (is_of kind said.1) said.2 said.3, refl)
atomic_spelled d kind verbs.IfEqual words h = let said = test_said d kind words h in (operations.Composed (IfEqual said.0 said.1), refl, sym said.4, said.2, said.3)
atomic_spelled d kind verb words h = something h

mutex_spelled : (d : Draft) (verb : Verb) (words : List (List ℕ)) → first_failing (form_words d (mutex_form verb) words) ≡ None → Spelled kinds.Mutex verb words
mutex_spelled d verbs.Lock words h = (operations.Mutex mutex_calls.Lock, refl, sym (none_said d words h), refl, refl)
mutex_spelled d verbs.Unlock words h = (operations.Mutex mutex_calls.Unlock, refl, sym (none_said d words h), refl, refl)
mutex_spelled d verbs.TryLock words h = (operations.Mutex mutex_calls.TryLock, refl, sym (none_said d words h), refl, refl)
mutex_spelled d verb words h = something h

rw_mutex_spelled : (d : Draft) (verb : Verb) (words : List (List ℕ)) → first_failing (form_words d (rw_mutex_form verb) words) ≡ None → Spelled kinds.RwMutex verb words
rw_mutex_spelled d verbs.Lock words h = (operations.RwMutex rw_mutex_calls.Lock, refl, sym (none_said d words h), refl, refl)
rw_mutex_spelled d verbs.Unlock words h = (operations.RwMutex rw_mutex_calls.Unlock, refl, sym (none_said d words h), refl, refl)
rw_mutex_spelled d verbs.TryLock words h = (operations.RwMutex rw_mutex_calls.TryLock, refl, sym (none_said d words h), refl, refl)
rw_mutex_spelled d verbs.RLock words h = (operations.RwMutex rw_mutex_calls.RLock, refl, sym (none_said d words h), refl, refl)
rw_mutex_spelled d verbs.RUnlock words h = (operations.RwMutex rw_mutex_calls.RUnlock, refl, sym (none_said d words h), refl, refl)
rw_mutex_spelled d verbs.TryRLock words h = (operations.RwMutex rw_mutex_calls.TryRLock, refl, sym (none_said d words h), refl, refl)
rw_mutex_spelled d verb words h = something h

cond_spelled : (d : Draft) (m : ℕ) (verb : Verb) (words : List (List ℕ)) → first_failing (form_words d (cond_form verb) words) ≡ None → Spelled (kinds.Cond m) verb words
cond_spelled d m verbs.Wait words h = (operations.Cond cond_calls.Wait, refl, sym (none_said d words h), refl, refl)
cond_spelled d m verbs.Signal words h = (operations.Cond cond_calls.Signal, refl, sym (none_said d words h), refl, refl)
cond_spelled d m verbs.Broadcast words h = (operations.Cond cond_calls.Broadcast, refl, sym (none_said d words h), refl, refl)
cond_spelled d m verb words h = something h

amount_alone_said : (d : Draft) (words : List (List ℕ)) → first_failing (form_words d (Some (operands.Amount ∷ [])) words) ≡ None → (z : ℤ) × (is_amount z ≡ true) × (words ≡ signed_decimal z ∷ [])
amount_alone_said d [] h = absurd cc
amount_alone_said d (w ∷ []) h =
    let all = all_pass (form_words d (Some (operands.Amount ∷ [])) (w ∷ [])) h in
    let said = amount_said w all.1.0 in
    (signed_of w, said.0, ap (λ (x : List ℕ). x ∷ []) (sym said.1))
amount_alone_said d (w ∷ other ∷ words) h = absurd (omega (arith, eqb-true (length (w ∷ other ∷ words)) 1 (all_pass (form_words d (Some (operands.Amount ∷ [])) (w ∷ other ∷ words)) h).0))

group_spelled : (d : Draft) (n : ℕ) (verb : Verb) (words : List (List ℕ)) → first_failing (form_words d (group_form verb) words) ≡ None → Spelled (kinds.WaitGroup n) verb words
group_spelled d n verbs.Add words h = let said = amount_alone_said d words h in (operations.WaitGroup (group_calls.Add said.0), refl, sym said.2, refl, said.1)
group_spelled d n verbs.Done words h = (operations.WaitGroup group_calls.Done, refl, sym (none_said d words h), refl, refl)
group_spelled d n verbs.Wait words h = (operations.WaitGroup group_calls.Wait, refl, sym (none_said d words h), refl, refl)
group_spelled d n verb words h = something h

item_alone_said : (d : Draft) (words : List (List ℕ)) → first_failing (form_words d (Some (operands.Value ∷ [])) words) ≡ None → (v : ℕ) × (is_value v ≡ true) × (words ≡ decimal v ∷ [])
item_alone_said d [] h = absurd cc
item_alone_said d (w ∷ []) h =
    let all = all_pass (form_words d (Some (operands.Value ∷ [])) (w ∷ [])) h in
    let said = value_said w all.1.0 in
    (number_of w, said.0, ap (λ (x : List ℕ). x ∷ []) said.1)
item_alone_said d (w ∷ other ∷ words) h = absurd (omega (arith, eqb-true (length (w ∷ other ∷ words)) 1 (all_pass (form_words d (Some (operands.Value ∷ [])) (w ∷ other ∷ words)) h).0))

pool_spelled : (d : Draft) (verb : Verb) (words : List (List ℕ)) → first_failing (form_words d (pool_form verb) words) ≡ None → Spelled kinds.Pool verb words
pool_spelled d verbs.Put words h = let said = item_alone_said d words h in (operations.Pool (pool_calls.Put said.0), refl, sym said.2, refl, said.1)
pool_spelled d verbs.Get words h = (operations.Pool pool_calls.Get, refl, sym (none_said d words h), refl, refl)
pool_spelled d verbs.Sweep words h = (operations.Pool pool_calls.Sweep, refl, sym (none_said d words h), refl, refl)
pool_spelled d verb words h = something h

weight_alone_said : (d : Draft) (most : ℕ) (words : List (List ℕ)) → most ≤ MAX_SIZE → first_failing (form_words d (Some (operands.Weight most ∷ [])) words) ≡ None → (n : ℕ) × (is_weight most n ≡ true) × (words ≡ decimal n ∷ [])
weight_alone_said d most [] fits h = absurd cc
weight_alone_said d most (w ∷ []) fits h =
    let all = all_pass (form_words d (Some (operands.Weight most ∷ [])) (w ∷ [])) h in
    let said = weight_said most w fits all.1.0 in
    (number_of w, said.0, ap (λ (x : List ℕ). x ∷ []) (sym said.1))
weight_alone_said d most (w ∷ other ∷ words) fits h = absurd (omega (arith, eqb-true (length (w ∷ other ∷ words)) 1 (all_pass (form_words d (Some (operands.Weight most ∷ [])) (w ∷ other ∷ words)) h).0))

-- a weight of a semaphore is no more than the greatest size
weight_fits : (size n : ℕ) → size ≤ MAX_SIZE → is_weight size n ≡ true → is_weight MAX_SIZE n ≡ true
weight_fits size n fits h =
    let parts = both (nat_lt 0 n) (nat_le n size) h in
    pair (nat_lt 0 n) (nat_le n MAX_SIZE) parts.0 (le-leb n MAX_SIZE (omega (arith, fits, leb-true n size parts.1)))

sema_spelled : (d : Draft) (size : ℕ) (verb : Verb) (words : List (List ℕ)) → size ≤ MAX_SIZE → first_failing (form_words d (sema_form size verb) words) ≡ None → Spelled (kinds.Sema size) verb words
sema_spelled d size verbs.Acquire words fits h = let said = weight_alone_said d size words fits h in (operations.Sema (sema_calls.Acquire said.0), refl, sym said.2, said.1, weight_fits size said.0 fits said.1)
sema_spelled d size verbs.TryAcquire words fits h = let said = weight_alone_said d size words fits h in (operations.Sema (sema_calls.TryAcquire said.0), refl, sym said.2, said.1, weight_fits size said.0 fits said.1)
sema_spelled d size verbs.Release words fits h = let said = weight_alone_said d size words fits h in (operations.Sema (sema_calls.Release said.0), refl, sym said.2, said.1, weight_fits size said.0 fits said.1)
sema_spelled d size verb words fits h = something h

flight_spelled : (d : Draft) (a : ℕ) (z : ℤ) (verb : Verb) (words : List (List ℕ)) → first_failing (form_words d (flight_form verb) words) ≡ None → Spelled (kinds.Flight a z) verb words
flight_spelled d a z verbs.Fly words h = let said = key_said d words h in (operations.Fly said.0, refl, sym said.2, refl, said.1)
flight_spelled d a z verb words h = something h

var_spelled : (d : Draft) (verb : Verb) (words : List (List ℕ)) → first_failing (form_words d (var_form verb) words) ≡ None → Spelled kinds.Var verb words
var_spelled d verbs.Read words h = (operations.Var var_calls.Read, refl, sym (none_said d words h), refl, refl)
var_spelled d verbs.Write words h = let said = item_alone_said d words h in (operations.Var (var_calls.Write said.0), refl, sym said.2, refl, said.1)
var_spelled d verb words h = something h

spelled_on : (d : Draft) (kind : ObjectKind) (verb : Verb) (words : List (List ℕ)) → is_kind kind ≡ true → first_failing (form_words d (alone_form verb kind) words) ≡ None → Spelled kind verb words
spelled_on d kinds.Map verb words fits h = map_spelled d verb words h
spelled_on d (kinds.Atomic kind) verb words fits h = atomic_spelled d kind verb words h
spelled_on d kinds.Mutex verb words fits h = mutex_spelled d verb words h
spelled_on d kinds.RwMutex verb words fits h = rw_mutex_spelled d verb words h
spelled_on d (kinds.Cond m) verb words fits h = cond_spelled d m verb words h
spelled_on d (kinds.WaitGroup n) verb words fits h = group_spelled d n verb words h
spelled_on d (kinds.Once a z) verbs.Do words fits h = (operations.Once, refl, sym (none_said d words h), refl, refl)
spelled_on d (kinds.OnceFunc n) verbs.Call words fits h = (operations.OnceFunc, refl, sym (none_said d words h), refl, refl)
spelled_on d (kinds.OnceValue n) verbs.Value words fits h = (operations.OnceValue, refl, sym (none_said d words h), refl, refl)
spelled_on d kinds.Pool verb words fits h = pool_spelled d verb words h
spelled_on d (kinds.Sema n) verb words fits h = sema_spelled d n verb words (leb-true n MAX_SIZE (both (nat_lt 0 n) (nat_le n MAX_SIZE) fits).1) h
spelled_on d (kinds.Flight a z) verb words fits h = flight_spelled d a z verb words h
spelled_on d kinds.Var verb words fits h = var_spelled d verb words h
spelled_on d kind verb words fits h = something h

-- the call with its second name, if it has one
abbrev SpelledAmong : Draft → ObjectKind → Verb → List (List ℕ) → Type 0
SpelledAmong d kind verb words =
    (second : Option (List ℕ)) × (o : Operation) × (verb_of o ≡ verb) × (option_to_list second ++ operands_of o ≡ words) × (has_among d.plan.objects kind o ≡ true) × (names_second d o second ≡ true) × (may_start d o ≡ true) × (is_operation o ≡ true)

-- a call that an object has alone, it has among any
alone_among : (objects : List ObjectLine) (kind : ObjectKind) (o : Operation) → has_call kind o ≡ true → has_among objects kind o ≡ true
alone_among objects (kinds.Cond m) (operations.Composed (WaitFor a v n)) h = absurd cc
alone_among objects (kinds.WaitGroup n) (operations.Composed (Go w)) h = absurd cc
alone_among objects kind o h = h

alone_spelled : (d : Draft) (kind : ObjectKind) (verb : Verb) (words : List (List ℕ)) → is_kind kind ≡ true → first_failing (form_words d (alone_form verb kind) words) ≡ None → SpelledAmong d kind verb words
alone_spelled d kind verb words fits h =
    let said = spelled_on d kind verb words fits h in
    let second : names_second d said.0 None ≡ true = rw (alone_second kind said.0 said.3).0 refl in
    (None, said.0, said.1, said.2, alone_among d.plan.objects kind said.0 said.3, second, alone_start d kind said.0 said.3, said.4)

-- a kind of an atomic
atomic_kind : (kind : ObjectKind) → is_atomic kind ≡ true → (k : AtomicKind) × (kind ≡ kinds.Atomic k)
atomic_kind (kinds.Atomic k) h = (k, refl)
atomic_kind kind h = absurd cc

-- a `waitfor` of the atomic that a name finds, and of a number of its type
wait_among : (d : Draft) (m : ℕ) (a : List ℕ) (found : Declared) (k : AtomicKind) (v : Number) (n : ℕ) → declared d a ≡ Some found → found.kind ≡ kinds.Atomic k → is_of k v ≡ true → has_among d.plan.objects (kinds.Cond m) (operations.Composed (WaitFor found.place v n)) ≡ true
wait_among d m a found k v n is kind fits =
    let there = found_at 0 a d.plan.objects found is in
    let here : found.place - 0 ≡ found.place = omega arith in
    let object : slice_get d.plan.objects found.place ≡ Some there.0 = ap (slice_get d.plan.objects) (sym here) ∙ there.2 in
    rw (object, there.3, kind) fits

wait_named : (d : Draft) (a : List ℕ) (found : Declared) (v : Number) (n : ℕ) → is_name a ≡ true → declared d a ≡ Some found → names_second d (operations.Composed (WaitFor found.place v n)) (Some a) ≡ true
wait_named d a found v n named is = rw (named, is) (eq-eqb found.place found.place refl)

wait_spelled : (d : Draft) (m : ℕ) (words : List (List ℕ)) → first_failing (form_words d (Some (wait_for_words d words)) words) ≡ None → SpelledAmong d (kinds.Cond m) verbs.WaitFor words
wait_spelled d m [] h = absurd cc
wait_spelled d m (a ∷ []) h = absurd cc
wait_spelled d m (a ∷ v ∷ []) h = absurd cc
wait_spelled d m (a ∷ v ∷ w ∷ []) h =
    let rest = λ (o : Option Declared). operand_checks d (option_map_or (λ object. awaited_number object.kind) o operands.Value ∷ operands.Tries ∷ []) (v ∷ w ∷ []) in
    let parts = both_pass (reference_checks d is_atomic a) (rest (declared d a)) h in
    let to = reference_said d is_atomic a parts.0 in
    let atomic = atomic_kind to.0.kind to.3 in
    let k = atomic.0 in
    let found : declared d a ≡ Some (record { place = to.0.place; kind = kinds.Atomic k }) = to.2 ∙ ap (λ (x : ObjectKind). Some (record { place = to.0.place; kind = x })) atomic.1 in
    let all = all_pass (operand_checks d (operands.Number k ∷ operands.Tries ∷ []) (v ∷ w ∷ [])) (subst (λ (o : Option Declared). first_failing (rest o) ≡ None) found parts.1) in
    let value = number_said k v all.0 in
    let tries = tries_said w all.1.0 in
    let place = to.0.place in (
      Some a,
      operations.Composed (WaitFor place (number_read k v) (number_of w)),
      refl,
      ap (λ (x : List ℕ). a ∷ x ∷ decimal (number_of w) ∷ []) value.1 ∙ ap (λ (x : List ℕ). a ∷ v ∷ x ∷ []) tries.1,
      wait_among d m a to.0 k (number_read k v) (number_of w) to.2 atomic.1 value.0,
      wait_named d a to.0 (number_read k v) (number_of w) to.1 to.2,
      refl,
      tries.0,
    )
wait_spelled d m (a ∷ v ∷ w ∷ other ∷ words) h = absurd (omega (arith, eqb-true (length (a ∷ v ∷ w ∷ other ∷ words)) 3 (all_pass (form_words d (Some (wait_for_words d (a ∷ v ∷ w ∷ other ∷ words))) (a ∷ v ∷ w ∷ other ∷ words)) h).0))

-- a `go` of a worker that may be started
go_spelled : (d : Draft) (n : ℕ) (words : List (List ℕ)) → d.plan.workers ≤ MAX_WORKERS → first_failing (form_words d (Some (operands.Worker ∷ [])) words) ≡ None → SpelledAmong d (kinds.WaitGroup n) verbs.Go words
go_spelled d n [] few h = absurd cc
go_spelled d n (word ∷ []) few h =
    let parts = both_pass (start_checks d word) [] h in
    let behind : List Check = (is_dormant d.plan (number_of word), NotDormant) ∷ (eqb (start_count (number_of word) d.plan.scripts) 0, NameTaken) ∷ [] in
    let checks = both_pass (worker_checks d.plan.workers word) behind parts.0 in
    let number = worker_words d.plan.workers word few checks.0 in
    let others = all_pass behind checks.1 in
    let may = start_from d (number_of word) (record { inside = number.0; waits = others.0; new = eqb-true (start_count (number_of word) d.plan.scripts) 0 others.1.0 }) in
    (None, operations.Composed (Go (number_of word)), refl, ap (λ (w : List ℕ). w ∷ []) number.1, refl, refl, may, lt-ltb (number_of word) MAX_WORKERS (omega (arith, ltb-true (number_of word) d.plan.workers number.0)))
go_spelled d n (word ∷ other ∷ words) few h = absurd (omega (arith, eqb-true (length (word ∷ other ∷ words)) 1 (all_pass (form_words d (Some (operands.Worker ∷ [])) (word ∷ other ∷ words)) h).0))

spelled_among : (d : Draft) (kind : ObjectKind) (verb : Verb) (words : List (List ℕ)) → d.plan.workers ≤ MAX_WORKERS → is_kind kind ≡ true → first_failing (form_words d (call_form d verb kind words) words) ≡ None → SpelledAmong d kind verb words
spelled_among d (kinds.Cond m) verbs.WaitFor words few fits h = wait_spelled d m words h
spelled_among d (kinds.WaitGroup n) verbs.Go words few fits h = go_spelled d n words few h
spelled_among d kind verb words few fits h =
    alone_spelled d kind verb words fits (subst (λ (f : Option (List Operand)). first_failing (form_words d f words) ≡ None) (plain_form d verb kind words (λ v w. cc) (λ v w. cc)) h)

-- the checks of the operands alone
operands_pass : (d : Draft) (verb : Verb) (form : Option (List Operand)) (words : List (List ℕ)) → first_failing (form_checks d verb form words) ≡ None → first_failing (form_words d form words) ≡ None
operands_pass d verb form words h = (both_pass (form_words d form words) (limit_checks d (keys_among form words) (ranges_in verb) (tries_among form words) (accesses_in verb)) h).0

kind_said : (d : Draft) (name : List ℕ) (place : ℕ) (kind : ObjectKind) → declared d name ≡ Some (record { place = place; kind = kind }) → IsFit d → is_some d.current ≡ true → is_name name ≡ true → (verb : Verb) (words : List (List ℕ))
    → first_failing (form_checks d verb (call_form d verb kind words) words) ≡ None → CallSaid d name verb words
kind_said d name place kind at fits current named verb words h =
    let form = call_form d verb kind words in
    let said = spelled_among d kind verb words fits.workers (found_fits d name (record { place = place; kind = kind }) fits at) (operands_pass d verb form words h) in
    let o = said.1 in
    let c : Call = record { object = place; operation = o } in
    let keys = operation_keys o in
    let tries = tries_of o in
    let passes : PassesWith d form words keys tries =
    subst (λ (ws : List (List ℕ)). PassesWith d (call_form d verb kind ws) ws keys tries) said.3
    (subst (λ (v : Verb). PassesWith d (call_form d v kind (option_to_list said.0 ++ operands_of o)) (option_to_list said.0 ++ operands_of o) keys tries) said.2 (call_passes d kind said.0 o said.4 said.5 said.6 said.7)) in
    let limits = all_pass (limit_checks d keys (ranges_in verb) tries (accesses_in verb)) (sym (form_passes d verb form words keys tries passes) ∙ h) in
    let on : names_object d.plan.objects (declared d name) c ≡ true = rw at (pair (eqb place place) (has_among d.plan.objects kind o) (eq-eqb place place refl) said.4) in
    let many : ranges_in verb ≡ count_by is_range (c ∷ []) = ap ranges_in (sym said.2) ∙ sym (ranges_of o) in
    let ranges : nat_le (range_count d.plan.scripts + count_by is_range (c ∷ [])) MAX_RANGES ≡ true = ap (λ (n : ℕ). nat_le (range_count d.plan.scripts + n) MAX_RANGES) (sym many) ∙ limits.1.1.0 in
    let plain : accesses_in verb ≡ count_by is_access (c ∷ []) = ap accesses_in (sym said.2) ∙ sym (accesses_of o) in
    let accesses : nat_le (access_count d.plan.scripts + count_by is_access (c ∷ [])) MAX_ACCESSES ≡ true = ap (λ (n : ℕ). nat_le (access_count d.plan.scripts + n) MAX_ACCESSES) (sym plain) ∙ limits.1.1.1.1.0 in
    (said.0, c, said.2, said.3, rw (current, named, on, said.5, said.7, said.6, limits.0, limits.1.0, ranges, limits.1.1.1.0, accesses) refl)

call_said : (d : Draft) (verb : Verb) (words : List (List ℕ)) → IsFit d → first_failing (line_checks d (Some (keywords.Call verb)) words) ≡ None → Said d (keyword_word (keywords.Call verb) ∷ words)
call_said d verb [] fits h = absurd (no_words d.current h)
  where
    no_words : (current : Option ℕ) → first_failing ((is_some current, CallOutsideWorker) ∷ (false, WrongNumberOfWords) ∷ []) ≡ None → ⊥
    no_words None h = cc
    no_words (Some w) h = cc
call_said d verb (name ∷ words) fits h =
    let one = both_pass ((is_some d.current, CallOutsideWorker) ∷ (is_name name, BadName) ∷ []) (object_checks d (declared d name) verb words) h in
    let front = all_pass ((is_some d.current, CallOutsideWorker) ∷ (is_name name, BadName) ∷ []) one.0 in
    found_said (declared d name) refl front.0 front.1.0 one.1
  where
    found_said : (o : Option Declared) → declared d name ≡ o → is_some d.current ≡ true → is_name name ≡ true → first_failing (object_checks d o verb words) ≡ None → Said d (keyword_word (keywords.Call verb) ∷ name ∷ words)
    found_said None is current named h = absurd cc
    found_said (Some found) is current named h =
        let said = kind_said d name found.place found.kind is fits current named verb words h in
        (lines.Call name said.0 said.1, said.4, ap (λ (v : Verb). verb_word v ∷ name ∷ words) (sym said.2) ∙ ap (λ (ws : List (List ℕ)). verb_word (verb_of said.1.operation) ∷ name ∷ ws) (sym said.3))

line_said : (d : Draft) (word : List ℕ) (k : Option Keyword) (words : List (List ℕ)) → IsFit d → keyword_at word ≡ k → first_failing (line_checks d k words) ≡ None → Said d (word ∷ words)
line_said d word None words fits is h = absurd cc
line_said d word (Some keywords.Workers) words fits is h = absurd cc
line_said d word (Some (keywords.Object kind)) words fits is h = said_as d word (keywords.Object kind) words is (object_said d kind words h)
line_said d word (Some keywords.Dormant) words fits is h = said_as d word keywords.Dormant words is (dormant_said d words fits.workers h)
line_said d word (Some keywords.Worker) words fits is h = said_as d word keywords.Worker words is (worker_said d words fits.workers h)
line_said d word (Some keywords.Schedule) words fits is h = said_as d word keywords.Schedule words is (schedule_said d words fits.workers h)
line_said d word (Some (keywords.Call verb)) words fits is h = said_as d word (keywords.Call verb) words is (call_said d verb words fits h)

first_said : (dialect : Dialect) (word : List ℕ) (words : List (List ℕ)) → first_failing (first_checks word words) ≡ None → (after : Option Draft) × Continues dialect None (word ∷ words) after
first_said dialect word [] h = absurd (no_words (bytes_eq word (codes "workers")) h)
  where
    no_words : (b : Bool) → first_failing ((b, NoWorkersLine) ∷ (false, WrongNumberOfWords) ∷ []) ≡ None → ⊥
    no_words true h = cc
    no_words false h = cc
first_said dialect word (number ∷ []) h =
    let all = all_pass (first_checks word (number ∷ [])) h in
    let parts = both (is_number_to MAX_WORKERS number) (nat_lt 0 (number_of number)) all.1.0 in
    let value = both (is_number number) (nat_le (number_of number) MAX_WORKERS) parts.0 in
    let few = leb-true (number_of number) MAX_WORKERS value.1 in
    let digits = number_words number value.0 (omega arith) in (
      Some (started (number_of number)),
      (
        number_of number,
        ltb-true 0 (number_of number) parts.1,
        few,
        ap (λ (w : List ℕ). w ∷ number ∷ []) ((bytes_eq-Decides word (codes "workers")).0 all.0) ∙ ap (λ (w : List ℕ). codes "workers" ∷ w ∷ []) (sym digits),
        refl,
      ),
    )
first_said dialect word (number ∷ other ∷ words) h = absurd (too_many (bytes_eq word (codes "workers")) h)
  where
    too_many : (b : Bool) → first_failing ((b, NoWorkersLine) ∷ (false, WrongNumberOfWords) ∷ []) ≡ None → ⊥
    too_many true h = cc
    too_many false h = cc

words_said : (dialect : Dialect) (before : Option Draft) (words : List (List ℕ)) → AreFit before → is_significant words ≡ true → first_failing (word_checks dialect before words) ≡ None → (after : Option Draft) × Continues dialect before words after
words_said dialect before [] fits says h = absurd cc
words_said dialect None (word ∷ words) fits says h = first_said dialect word words h
words_said dialect (Some d) (word ∷ words) fits says h = at (keyword_in dialect word) refl h
  where
    heads : (x y : List ℕ) (xs ys : List (List ℕ)) → x ∷ xs ≡ y ∷ ys → x ≡ y
    heads x y xs ys e = cc

    at : (k : Option Keyword) → keyword_in dialect word ≡ k → first_failing (line_checks d k words) ≡ None → (after : Option Draft) × Continues dialect (Some d) (word ∷ words) after
    at None is h = absurd cc
    at (Some k) is h =
        let known = known_at dialect word k is in
        let said = line_said d word (Some k) words fits known.0 h in
        let same = same_keyword (keyword_of said.0) k (sym (heads word _ words _ said.2) ∙ keyword_from word k known.0) in
        (Some (with_line d said.0), (said.0, said.1, said.2, refl, ap (knows dialect) same ∙ known.1))

-- a line that passes all its checks is read
line_reads : (dialect : Dialect) (before : Option Draft) (line : List ℕ) → AreFit before → reason_of dialect before line ≡ None → (after : Option Draft) × IsRead dialect before line after
line_reads dialect before line fits h =
    let front : List Check = (is_short line, LineTooLong) ∷ (is_clean line, BadByte) ∷ [] in
    let one = both_pass front (cond (is_significant (words_of line)) (word_checks dialect before (words_of line)) []) h in
    let good = all_pass front one.0 in
    elim (is_significant (words_of line)) as (λ b. is_significant (words_of line) ≡ b → first_failing (cond b (word_checks dialect before (words_of line)) []) ≡ None → (after : Option Draft) × IsRead dialect before line after) [
      | true ↦ λ t e.
          let said = words_said dialect before (words_of line) fits t e in
          (said.0, record { short = good.0; clean = good.1.0; silent = λ f. not_both_ways t f; continues = λ _. said.1 })
      | false ↦ λ f e. (before, record { short = good.0; clean = good.1.0; silent = λ _. refl; continues = λ t. not_both_ways t f })
    ] refl one.1

abbrev IsReadOrRefused : Dialect → List (List ℕ) → Option Draft → ℕ → Type 0
IsReadOrRefused dialect lines before next = ((plan : Plan) × ReadsOn dialect lines before plan) ⊎ ((line : ℕ) × (reason : Reason) × FirstFault dialect lines before next line reason)

lines_end : (dialect : Dialect) (lines : List (List ℕ)) (before : Option Draft) (next : ℕ) → AreFit before → IsReadOrRefused dialect lines before next
lines_end dialect [] None next fits = inr (max 1 (next - 1), NoWorkersLine, (refl, refl))
lines_end dialect [] (Some d) next fits = inl (d.plan, refl)
lines_end dialect (line ∷ lines) before next fits =
    elim (reason_of dialect before line) as (λ r. reason_of dialect before line ≡ r → IsReadOrRefused dialect (line ∷ lines) before next) [
      | Some reason ↦ λ is. inr (next, reason, inl (refl, is))
      | None ↦ λ is.
          let read = line_reads dialect before line fits is in
          elim (lines_end dialect lines read.0 (next + 1) (read_fits dialect before line read.0 fits read.1)) [
            | inl rest ↦ inl (rest.0, (read.0, read.1, rest.1))
            | inr fault ↦ inr (fault.0, fault.1, inr (read.0, read.1, fault.2))
          ]
    ] refl

pub each_text : (dialect : Dialect) (bytes : List ℕ) → ((plan : Plan) × ReadsIn dialect bytes plan) ⊎ ((line : ℕ) × (reason : Reason) × IsRefusedIn dialect bytes line reason)
each_text dialect bytes =
    elim (cases_lt MAX_INPUT (length bytes)) [
      | inl long ↦ inr (0, InputTooLong, inl (long, refl, refl))
      | inr fits ↦ elim (lines_end dialect (lines_of bytes) None 1 tt) [
        | inl read ↦ inl (read.0, record { fits = fits; lines = read.1 })
        | inr fault ↦ inr (fault.0, fault.1, inr (fits, fault.2))
      ]
    ]
