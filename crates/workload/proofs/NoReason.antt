-- A line that is read has no reason to be refused.
use Rattle.std.proofs.Common.{◌≡◌, ℕ, ℤ, ◌++◌, ◌+◌, ◌^◌, ◌<◌, ◌≤◌, Bool, true, false, cond, eqb, not, List, [], ◌∷◌, map, length, Option, Some, None, refl, sym, ap, subst, ◌∙◌, arith, ⊎_elim}
use Rattle.std.specs.Prelude.{nat_lt, nat_le}
use Rattle.std.specs.List.{list_all, flat_map}
use Rattle.std.specs.Fmt.{decimal, signed_decimal}
use Rattle.std.specs.Option.{option_to_list}
use Rattle.std.proofs.lemmas.Bool.{eqb-true, ltb-true, leb-true, lt-ltb, le-leb}
use Rattle.std.proofs.lemmas.List.{length-map}
use Rattle.script_calls.specs.declared.call.Call.{Call}
use Rattle.sync_types.specs.declared.atomic_object.AtomicKind.TheVariants as types
use Rattle.workload.specs.declared.keyword.Dialect.{Dialect}
use Rattle.workload.specs.declared.keyword.Keyword.{Keyword}
use Rattle.workload.specs.declared.keyword.Keyword.TheVariants as keywords
use Rattle.workload.specs.declared.limits.TheConstants.{MAX_ACCESSES, MAX_AMOUNT, MAX_CODE, MAX_RANGES, MAX_SIZE, MAX_TURNS, MAX_WORKERS}
use Rattle.sync_types.specs.declared.value.TheConstants.{MAX_VALUE}
use Rattle.workload.specs.declared.object.Declared.{Declared}
use Rattle.workload.specs.declared.object.ObjectKind.{ObjectKind}
use Rattle.workload.specs.declared.object.ObjectKind.TheVariants as kinds
use Rattle.workload.specs.declared.object.ObjectWord.{ObjectWord}
use Rattle.workload.specs.declared.object.ObjectWord.TheVariants as words
use Rattle.workload.specs.declared.line.Line.{Line}
use Rattle.workload.specs.declared.line.Line.TheVariants as lines
use Rattle.workload.specs.declared.reason.Reason.{Reason}
use Rattle.workload.specs.declared.reason.Reason.TheVariants.{BadNumber, NameTaken, LimitReached}
use Rattle.workload.specs.declared.turn.Turn.{Turn}
use Rattle.workload.specs.declared.turn.Turn.TheVariants as turns
use Rattle.workload.specs.Plan.{Plan, is_dormant, word_of, reference_of, is_target, has_among}
use Rattle.workload.specs.Lines.{lines_of, words_of, is_significant}
use Rattle.workload.specs.NumberWords.{is_number, is_number_to, is_amount_word, number_of}
use Rattle.workload.specs.CallWords.{verb_of, operands_of}
use Rattle.workload.specs.Words.{keyword_of, arguments_of, kind_parameters, turn_word}
use Rattle.workload.specs.Draft.{Draft, count_of, limit_of, is_kind, names_reference, declared, may_follow, names_object, is_item, keys_of, range_count, tries_of, access_count}
use Rattle.workload.specs.Checks.{Check, first_failing, call_form, form_checks, parameters_of, parameters_checks, reference_checks, is_mutex, is_int64, ranges_in, accesses_in, worker_checks, item_checks, line_checks, word_checks, reason_of}
use Rattle.workload.specs.Reads.{Continues, IsRead, ReadsOn, ReadsIn, FirstFault, IsRefusedIn}
use Rattle.workload.proofs.Passing.{both}
use Rattle.workload.proofs.Follows.{object_follows, dormant_follows, schedule_follows, CallFollows, call_follows}
use Rattle.workload.proofs.Numbers.{is_number-decimal, number_of-decimal}
use Rattle.workload.proofs.FirstFailing.{passes_first, form_passes}
use Rattle.workload.proofs.CallWords.{amount_passes, weight_pass, weight_small}
use Rattle.workload.proofs.References.{Refers, some_reference, no_reference}
use Rattle.workload.proofs.CallForms.{value_passes, call_passes, ranges_of, accesses_of}
use Rattle.workload.proofs.Keywords.{keyword_in-keyword_word}
use Rattle.workload.proofs.OneReading.{IsSmall, read_small, same_read, some_is}

worker_passes : (workers i : ℕ) → workers ≤ MAX_WORKERS → nat_lt i workers ≡ true → first_failing (worker_checks workers (decimal i)) ≡ None
worker_passes workers i few lt =
    let small : i < 2 ^ 64 = omega (arith, ltb-true i workers lt) in
    rw (is_number-decimal i small, number_of-decimal i small, lt) refl

-- a word of digits doesn't begin with `@`, so it is checked as a worker's number
item_is_worker : (workers : ℕ) (word : List ℕ) → is_number word ≡ true → item_checks workers word ≡ worker_checks workers word
item_is_worker workers [] number = absurd cc
item_is_worker workers (byte ∷ bytes) number =
    elim (eqb byte 64) as (λ b. eqb byte 64 ≡ b → cond b ((is_number_to MAX_VALUE bytes, BadNumber) ∷ []) (worker_checks workers (byte ∷ bytes)) ≡ worker_checks workers (byte ∷ bytes)) [
      | true ↦ λ at. absurd (no_at byte bytes (eqb-true byte 64 at) number)
      | false ↦ λ other. refl
    ] refl
  where
    no_at : (byte : ℕ) (bytes : List ℕ) → byte ≡ 64 → is_number (byte ∷ bytes) ≡ true → ⊥
    no_at byte bytes e number =
        let at : is_number (64 ∷ bytes) ≡ true = subst (λ (x : ℕ). is_number (x ∷ bytes) ≡ true) e number in
        absurd cc

item_passes : (workers : ℕ) (t : Turn) → workers ≤ MAX_WORKERS → is_item workers t ≡ true → first_failing (item_checks workers (turn_word t)) ≡ None
item_passes workers (turns.Worker i) few p =
    ap first_failing (item_is_worker workers (decimal i) (is_number-decimal i (omega (arith, ltb-true i workers p)))) ∙ worker_passes workers i few p
item_passes workers (turns.Moment m) few p = rw (value_passes m p) refl

items_all_pass : (workers : ℕ) (ts : List Turn) → workers ≤ MAX_WORKERS → list_all (is_item workers) ts ≡ true → first_failing (flat_map (item_checks workers) (map turn_word ts)) ≡ None
items_all_pass workers [] few p = refl
items_all_pass workers (t ∷ ts) few p =
    let parts = both (is_item workers t) (list_all (is_item workers) ts) p in
    passes_first (item_checks workers (turn_word t)) (flat_map (item_checks workers) (map turn_word ts)) (item_passes workers t few parts.0) ∙ items_all_pass workers ts few parts.1

form_of_call : (d : Draft) (found : Declared) (n : List ℕ) (r : Option (List ℕ)) (c : Call) → has_among d.plan.objects found.kind c.operation ≡ true → CallFollows d n r c
    → first_failing (form_checks d (verb_of c.operation) (call_form d (verb_of c.operation) found.kind (option_to_list r ++ operands_of c.operation)) (option_to_list r ++ operands_of c.operation)) ≡ None
form_of_call d found n r c on h =
    let verb = verb_of c.operation in
    let words = option_to_list r ++ operands_of c.operation in
    let few : nat_le (range_count d.plan.scripts + ranges_in verb) MAX_RANGES ≡ true = ap (λ (n : ℕ). nat_le (range_count d.plan.scripts + n) MAX_RANGES) (sym (ranges_of c.operation)) ∙ h.ranges in
    let plain : nat_le (access_count d.plan.scripts + accesses_in verb) MAX_ACCESSES ≡ true = ap (λ (n : ℕ). nat_le (access_count d.plan.scripts + n) MAX_ACCESSES) (sym (accesses_of c.operation)) ∙ h.accesses in
    form_passes d verb (call_form d verb found.kind words) words (keys_of c) (tries_of c.operation) (call_passes d found.kind r c.operation on h.second h.start h.call) ∙ rw (h.room, h.keys, few, h.tries, plain) refl

object_passes : (d : Draft) (o : Option Declared) (n : List ℕ) (r : Option (List ℕ)) (c : Call) → declared d n ≡ o → names_object d.plan.objects o c ≡ true → CallFollows d n r c
    → first_failing (line_checks d (Some (keywords.Call (verb_of c.operation))) (n ∷ option_to_list r ++ operands_of c.operation)) ≡ None
object_passes d None n r c is on h = absurd cc
object_passes d (Some found) n r c is on h =
    let has = (both (eqb found.place c.object) (has_among d.plan.objects found.kind c.operation) on).1 in
    rw (h.current, h.name, is) (form_of_call d found n r c has h)

-- what the words behind an object's name need
abbrev Fits : Draft → ObjectWord → List (List ℕ) → Type 0
Fits d word words = (eqb (length words) (length (parameters_of word)) ≡ true) × (first_failing (parameters_checks d (parameters_of word) words) ≡ None)

plain_fits : (d : Draft) (k : ObjectKind) (r : Option (List ℕ)) → reference_of k ≡ None → names_reference d k r ≡ true → Fits d (word_of k) (kind_parameters k) → Fits d (word_of k) (option_to_list r ++ kind_parameters k)
plain_fits d k r none named h = subst (λ (x : Option (List ℕ)). Fits d (word_of k) (option_to_list x ++ kind_parameters k)) (sym (no_reference d k r none named)) h

number_fits : (n most : ℕ) → nat_le n most ≡ true → most < 2 ^ 64 → is_number_to most (decimal n) ≡ true
number_fits n most h small =
    let fits : n < 2 ^ 64 = omega (arith, leb-true n most h) in
    rw (is_number-decimal n fits, number_of-decimal n fits, h) refl

-- a name that an object refers to passes its checks
reference_passes : (d : Draft) (k : ObjectKind) (place : ℕ) (r : Option (List ℕ)) (test : ObjectKind → Bool) (h : Refers d k place r) → test h.found.kind ≡ true → first_failing (reference_checks d test h.name) ≡ None
reference_passes d k place r test h passes = rw (h.named, h.found_is, passes) refl

mutex_is : (k : ObjectKind) (place : ℕ) → is_target (kinds.Cond place) k ≡ true → is_mutex k ≡ true
mutex_is kinds.Mutex place h = refl
mutex_is k place h = absurd cc

int64_is : (k : ObjectKind) (place : ℕ) (z : ℤ) → is_target (kinds.Once place z) k ≡ true → is_int64 k ≡ true
int64_is (kinds.Atomic types.Int64) place z h = refl
int64_is k place z h = absurd cc

int64_flown : (k : ObjectKind) (place : ℕ) (z : ℤ) → is_target (kinds.Flight place z) k ≡ true → is_int64 k ≡ true
int64_flown (kinds.Atomic types.Int64) place z h = refl
int64_flown k place z h = absurd cc

parameters_pass : (d : Draft) (k : ObjectKind) (r : Option (List ℕ)) → names_reference d k r ≡ true → is_kind k ≡ true → Fits d (word_of k) (option_to_list r ++ kind_parameters k)
parameters_pass d (kinds.Cond place) r named h =
    let to = some_reference d (kinds.Cond place) place r refl named in
    let passes = reference_passes d (kinds.Cond place) place r is_mutex to (mutex_is to.found.kind place to.target) in
    subst (λ (x : Option (List ℕ)). Fits d words.Cond (option_to_list x ++ [])) (sym to.is) (refl, passes_first (reference_checks d is_mutex to.name) [] passes)
parameters_pass d (kinds.Once place z) r named h =
    let to = some_reference d (kinds.Once place z) place r refl named in
    let passes = reference_passes d (kinds.Once place z) place r is_int64 to (int64_is to.found.kind place z to.target) in
    subst (λ (x : Option (List ℕ)). Fits d words.Once (option_to_list x ++ signed_decimal z ∷ [])) (sym to.is) (
      refl,
      passes_first (reference_checks d is_int64 to.name) ((is_amount_word (signed_decimal z), BadNumber) ∷ []) passes ∙ rw (amount_passes z h) refl,
    )
parameters_pass d (kinds.Flight place z) r named h =
    let to = some_reference d (kinds.Flight place z) place r refl named in
    let passes = reference_passes d (kinds.Flight place z) place r is_int64 to (int64_flown to.found.kind place z to.target) in
    subst (λ (x : Option (List ℕ)). Fits d words.Flight (option_to_list x ++ signed_decimal z ∷ [])) (sym to.is) (
      refl,
      passes_first (reference_checks d is_int64 to.name) ((is_amount_word (signed_decimal z), BadNumber) ∷ []) passes ∙ rw (amount_passes z h) refl,
    )
parameters_pass d (kinds.WaitGroup n) r named h = plain_fits d (kinds.WaitGroup n) r refl named (refl, rw (number_fits n MAX_AMOUNT h (omega arith)) refl)
parameters_pass d (kinds.OnceFunc n) r named h = plain_fits d (kinds.OnceFunc n) r refl named (refl, rw (number_fits n MAX_CODE h (omega arith)) refl)
parameters_pass d (kinds.OnceValue n) r named h = plain_fits d (kinds.OnceValue n) r refl named (refl, rw (number_fits n MAX_VALUE h (omega arith)) refl)
parameters_pass d kinds.Map r named h = plain_fits d kinds.Map r refl named (refl, refl)
parameters_pass d (kinds.Atomic k) r named h = plain_fits d (kinds.Atomic k) r refl named (refl, refl)
parameters_pass d kinds.Mutex r named h = plain_fits d kinds.Mutex r refl named (refl, refl)
parameters_pass d kinds.RwMutex r named h = plain_fits d kinds.RwMutex r refl named (refl, refl)
parameters_pass d kinds.Pool r named h = plain_fits d kinds.Pool r refl named (refl, refl)
parameters_pass d (kinds.Sema n) r named h = plain_fits d (kinds.Sema n) r refl named (refl, rw (weight_pass MAX_SIZE n h (weight_small n h)) refl)
parameters_pass d kinds.Var r named h = plain_fits d kinds.Var r refl named (refl, refl)

line_passes : (d : Draft) (l : Line) → d.plan.workers ≤ MAX_WORKERS → may_follow d l ≡ true → first_failing (line_checks d (Some (keyword_of l)) (arguments_of l)) ≡ None
line_passes d (lines.Object o r) few f =
    let h = object_follows d o r f in
    let word = word_of o.kind in
    let words = option_to_list r ++ kind_parameters o.kind in
    let passes = parameters_pass d o.kind r h.reference h.kind in
    rw (passes.0, h.name, h.new) (passes_first (parameters_checks d (parameters_of word) words) ((nat_lt (count_of word d.plan.objects) (limit_of word), LimitReached) ∷ []) passes.1 ∙ rw h.room refl)
line_passes d (lines.Dormant i) few f =
    let h = dormant_follows d i f in
    let small : i < 2 ^ 64 = omega (arith, ltb-true i d.plan.workers h.worker_is) in
    let new : is_dormant d.plan (number_of (decimal i)) ≡ false = ap (is_dormant d.plan) (number_of-decimal i small) ∙ h.new in
    passes_first (worker_checks d.plan.workers (decimal i)) ((not (is_dormant d.plan (number_of (decimal i))), NameTaken) ∷ []) (worker_passes d.plan.workers i few h.worker_is) ∙ rw new refl
line_passes d (lines.Worker i) few f = worker_passes d.plan.workers i few f
line_passes d (lines.Schedule ts) few f =
    let h = schedule_follows d ts f in
    let some : nat_lt 0 (length (map turn_word ts)) ≡ true = rw (length-map ts turn_word) h.some in
    let limit : List Check = (nat_le (length d.plan.schedule + length (map turn_word ts)) MAX_TURNS, LimitReached) ∷ [] in
    rw some (passes_first (flat_map (item_checks d.plan.workers) (map turn_word ts)) limit (items_all_pass d.plan.workers ts few h.items))
    ∙ ap (λ (b : Bool). cond b None (Some LimitReached)) (ap (λ (n : ℕ). nat_le (length d.plan.schedule + n) MAX_TURNS) (length-map ts turn_word) ∙ h.room)
line_passes d (lines.Call n r c) few f =
    let h = call_follows d n r c f in
    object_passes d (declared d n) n r c refl h.on h

words_pass : (dialect : Dialect) (before : Option Draft) (words : List (List ℕ)) (after : Option Draft) → IsSmall before → Continues dialect before words after → first_failing (word_checks dialect before words) ≡ None
words_pass dialect None words after small h =
    let small_number : h.0 < 2 ^ 64 = omega (arith, h.2) in
    let positive = lt-ltb 0 h.0 h.1 in
    let few = le-leb h.0 MAX_WORKERS h.2 in
    ap (λ (ws : List (List ℕ)). first_failing (word_checks dialect None ws)) h.3
    ∙ rw (is_number-decimal h.0 small_number, number_of-decimal h.0 small_number, few, positive) refl
words_pass dialect (Some d) words after small h =
    ap (λ (ws : List (List ℕ)). first_failing (word_checks dialect (Some d) ws)) h.2
    ∙ ap (λ (k : Option Keyword). first_failing (line_checks d k (arguments_of h.0))) (keyword_in-keyword_word dialect (keyword_of h.0) h.4)
    ∙ line_passes d h.0 small h.1

-- a line that is read passes all its checks
pub read_passes : (dialect : Dialect) (before : Option Draft) (line : List ℕ) (after : Option Draft) → IsSmall before → IsRead dialect before line after → reason_of dialect before line ≡ None
read_passes dialect before line after small h =
    rw (h.short, h.clean)
    (elim (is_significant (words_of line)) as (λ b. is_significant (words_of line) ≡ b → first_failing (cond b (word_checks dialect before (words_of line)) []) ≡ None) [
      | true ↦ λ t. words_pass dialect before (words_of line) after small (h.continues t)
      | false ↦ λ f. refl
    ] refl)

none_some : (reason : Reason) → None ≡ Some reason → ⊥
none_some reason e = cc

not_both : (dialect : Dialect) (lines : List (List ℕ)) (before : Option Draft) (next line : ℕ) (reason : Reason) (plan : Plan) → IsSmall before → ReadsOn dialect lines before plan → FirstFault dialect lines before next line reason → ⊥
not_both dialect [] None next line reason plan small h k = h
not_both dialect [] (Some d) next line reason plan small h k = k
not_both dialect (text ∷ texts) before next line reason plan small h k =
    ⊎_elim
    (λ here. let passes = sym (read_passes dialect before text h.0 small h.1) ∙ here.1 in absurd (none_some reason passes))
    (λ on.
    let same = same_read dialect before text h.0 on.0 small h.1 on.1 in
    not_both dialect texts h.0 (next + 1) line reason plan (read_small dialect before text h.0 small h.1) h.2 (subst (λ (d : Option Draft). FirstFault dialect texts d (next + 1) line reason) (sym same) on.2))
    k

pub read_or_refused : (dialect : Dialect) (bytes : List ℕ) (plan : Plan) (line : ℕ) (reason : Reason) → ReadsIn dialect bytes plan → IsRefusedIn dialect bytes line reason → ⊥
read_or_refused dialect bytes plan line reason h k =
    ⊎_elim
    (λ long. omega (arith, h.fits, long.0))
    (λ fault. not_both dialect (lines_of bytes) None 1 line reason plan tt h.lines fault.1)
    k

one_fault : (dialect : Dialect) (lines : List (List ℕ)) (before : Option Draft) (next line other : ℕ) (reason why : Reason) → IsSmall before → FirstFault dialect lines before next line reason → FirstFault dialect lines before next other why → (line ≡ other) × (reason ≡ why)
one_fault dialect [] None next line other reason why small h k = (h.0 ∙ sym k.0, h.1 ∙ sym k.1)
one_fault dialect [] (Some d) next line other reason why small h k = absurd h
one_fault dialect (text ∷ texts) before next line other reason why small h k =
    ⊎_elim
    (λ here. ⊎_elim
    (λ there. (here.0 ∙ sym there.0, some_is reason why (sym here.1 ∙ there.1)))
    (λ on. absurd (none_some reason (sym (read_passes dialect before text on.0 small on.1) ∙ here.1)))
    k)
    (λ on. ⊎_elim
    (λ there. absurd (none_some why (sym (read_passes dialect before text on.0 small on.1) ∙ there.1)))
    (λ also.
    let same = same_read dialect before text on.0 also.0 small on.1 also.1 in
    one_fault dialect texts on.0 (next + 1) line other reason why (read_small dialect before text on.0 small on.1) on.2 (subst (λ (d : Option Draft). FirstFault dialect texts d (next + 1) other why) (sym same) also.2))
    k)
    h

pub one_refusal : (dialect : Dialect) (bytes : List ℕ) (line other : ℕ) (reason why : Reason) → IsRefusedIn dialect bytes line reason → IsRefusedIn dialect bytes other why → (line ≡ other) × (reason ≡ why)
one_refusal dialect bytes line other reason why h k =
    ⊎_elim
    (λ long. ⊎_elim
    (λ also. (long.1 ∙ sym also.1, long.2 ∙ sym also.2))
    (λ fault. absurd (omega (arith, long.0, fault.0)))
    k)
    (λ fault. ⊎_elim
    (λ long. absurd (omega (arith, long.0, fault.0)))
    (λ also. one_fault dialect (lines_of bytes) None 1 line other reason why tt fault.1 also.1)
    k)
    h
