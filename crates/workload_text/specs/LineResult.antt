-- What the reading of a line, or of a word of it, answers.
use Rattle.std.specs.Prelude.{◌≡◌, Bool, ◌++◌, ◌<◌, ◌≤◌, map, ℕ, true, List, [], ◌∷◌, Option, Some, None, Result, MatchResult}
use Rattle.std.specs.Option.{option_to_list}
use Rattle.sync_types.specs.Name.{is_name}
use Rattle.std.specs.List.{list_all, flat_map}
use Rattle.script_calls.specs.declared.call.Operation.{Operation}
use Rattle.sync_types.specs.declared.atomic_object.AtomicKind.{AtomicKind}
use Rattle.workload.specs.declared.fault.LineFault.{LineFault}
use Rattle.workload.specs.declared.fault.LineFault.TheVariants as faults
use Rattle.workload.specs.declared.keyword.Dialect.{Dialect}
use Rattle.workload.specs.declared.keyword.Keyword.{Keyword}
use Rattle.workload.specs.declared.keyword.Operand.{Operand}
use Rattle.workload.specs.declared.keyword.Operand.TheVariants as operands
use Rattle.workload.specs.declared.keyword.Verb.{Verb}
use Rattle.workload.specs.declared.keyword.Verb.TheVariants as verbs
use Rattle.workload.specs.declared.object.ObjectKind.{ObjectKind}
use Rattle.workload.specs.declared.object.ObjectKind.TheVariants as kinds
use Rattle.workload.specs.declared.object.ObjectWord.{ObjectWord}
use Rattle.workload.specs.declared.turn.Turn.{Turn}
use Rattle.workload.specs.declared.limits.TheConstants.{MAX_WORKERS}
use Rattle.workload.specs.declared.line.Line.{Line}
use Rattle.workload.specs.Dialect.{knows, keyword_in}
use Rattle.workload.specs.CallWords.{verb_of, operands_of}
use Rattle.workload.specs.Words.{spelled, first_spelled, keyword_of, arguments_of, kind_parameters, turn_word}
use Rattle.workload.specs.Plan.{word_of, has_operation, has_call, has_among}
use Rattle.workload.specs.Lines.{is_short, is_clean, words_of, is_significant}
use Rattle.workload.specs.Draft.{Draft, started, declared, may_follow, names_reference, names_second, may_start, is_kind, is_operation, is_item}
use Rattle.workload.specs.Checks.{Check, first_failing, line_checks, form_of, sema_form, form_words, call_form, wait_for_words, is_atomic, parameter_words, reference_checks, item_checks, first_checks, checks_of}

-- the fault is the first check that fails, unless memory ran out
abbrev pub IsFault : List Check → LineFault → Type 0
IsFault checks faults.Memory = Unit {0}
IsFault checks (faults.Refused reason) = first_failing checks ≡ Some reason

-- a line of this keyword with these arguments that may follow, or the first check that fails
abbrev pub IsLineOf : Draft → Keyword → List (List ℕ) → Result Line LineFault → Type 0
IsLineOf draft keyword arguments result =
    MatchResult result
    (λ line. (may_follow draft line ≡ true) × (keyword_of line ≡ keyword) × (arguments_of line ≡ arguments))
    (IsFault (line_checks draft (Some keyword) arguments))

-- the line that the words spell in a text of this dialect and that may follow, or the first check that fails
abbrev pub IsLine : Dialect → Draft → List ℕ → List (List ℕ) → Result Line LineFault → Type 0
IsLine dialect draft word arguments result =
    MatchResult result
    (λ line. (may_follow draft line ≡ true) × (word ∷ arguments ≡ spelled line) × (knows dialect (keyword_of line) ≡ true))
    (IsFault (line_checks draft (keyword_in dialect word) arguments))

-- a draft that declares nothing. By it operands are checked that name no object, for which any draft does
abbrev pub blank : Draft
blank = started 0

-- words of this form, which are these keys and then numbers spelled so, or the first check of them that fails
abbrev pub IsOperands : {X : Type 0} → (X → Type 0) → List Operand → List (List ℕ) → Result X LineFault → Type 0
IsOperands Is form words result = MatchResult result (λ x. Is x × (first_failing (form_words blank (Some form) words) ≡ None)) (IsFault (form_words blank (Some form) words))

-- an operation of this verb with these operands, in range, that objects of this word have
abbrev pub IsCallOf : ObjectWord → Verb → List (List ℕ) → Operation → Type 0
IsCallOf word verb words operation =
    (verb_of operation ≡ verb) × (operands_of operation ≡ words) × (is_operation operation ≡ true) × (has_operation word operation ≡ true)

-- such an operation, or the first check that fails
abbrev pub IsCall : ObjectWord → Verb → List (List ℕ) → Result Operation LineFault → Type 0
IsCall word verb words result = MatchResult result (IsCallOf word verb words) (IsFault (form_words blank (form_of verb word) words))

-- the operands of a call on an object of this kind, where such objects have the call: of any call but a `waitfor` and a `go`, which name an object and a worker
abbrev pub kind_form : Verb → ObjectKind → Option (List Operand)
kind_form verb (kinds.Sema size) = sema_form size verb
kind_form verb kind = form_of verb (word_of kind)

-- an operation of this verb with these operands, in range, that an object of this kind has, whatever other objects there are
abbrev pub IsCallOfKind : ObjectKind → Verb → List (List ℕ) → Operation → Type 0
IsCallOfKind kind verb words operation =
    (verb_of operation ≡ verb) × (operands_of operation ≡ words) × (is_operation operation ≡ true) × (has_call kind operation ≡ true)

-- such an operation, or the first check that fails
abbrev pub IsCallBy : ObjectKind → Verb → List (List ℕ) → Result Operation LineFault → Type 0
IsCallBy kind verb words result = MatchResult result (IsCallOfKind kind verb words) (IsFault (form_words blank (kind_form verb kind) words))

-- An operation of this verb that an object of this kind has in the draft, with the name of a second object, if it has one, and these words behind the name of the first. A worker that it starts may be started
abbrev pub IsCallIn : Draft → ObjectKind → Verb → List (List ℕ) → Option (List ℕ) × Operation → Type 0
IsCallIn d kind verb words said =
    (verb_of said.1 ≡ verb) × (option_to_list said.0 ++ operands_of said.1 ≡ words) × (is_operation said.1 ≡ true) × (names_second d said.1 said.0 ≡ true) × (may_start d said.1 ≡ true) × (has_among d.plan.objects kind said.1 ≡ true)

-- such an operation, or the first check that fails
abbrev pub IsCallOn : Draft → ObjectKind → Verb → List (List ℕ) → Result (Option (List ℕ) × Operation) LineFault → Type 0
IsCallOn d kind verb words result = MatchResult result (IsCallIn d kind verb words) (IsFault (form_words d (call_form d verb kind words) words))

-- the name of an atomic, and a `waitfor` of it
abbrev pub IsWait : Draft → List (List ℕ) → Result (List ℕ × Operation) LineFault → Type 0
IsWait d words result =
    MatchResult result
    (λ said. (mutex : ℕ) → IsCallIn d (kinds.Cond mutex) verbs.WaitFor words (Some said.0, said.1))
    (IsFault (form_words d (Some (wait_for_words d words)) words))

-- a `go` of a worker that may be started
abbrev pub IsStart : Draft → List (List ℕ) → Result Operation LineFault → Type 0
IsStart d words result =
    MatchResult result
    (λ operation. (start : ℕ) → IsCallIn d (kinds.WaitGroup start) verbs.Go words (None, operation))
    (IsFault (form_words d (Some (operands.Worker ∷ [])) words))

-- the name and the place of an object of this kind that is declared, or the first check that fails
abbrev pub IsReferenceTo : Draft → ObjectKind → (ObjectKind → Bool) → List ℕ → Result (List ℕ × ℕ) LineFault → Type 0
IsReferenceTo d kind test word result =
    MatchResult result
    (λ found. (found.0 ≡ word) × (is_name word ≡ true) × (declared d word ≡ Some (record { place = found.1; kind = kind })))
    (IsFault (reference_checks d test word))

-- the name, the place and the type of an atomic that is declared, or the first check that fails
abbrev pub IsAtomicOf : Draft → List ℕ → Result (List ℕ × ℕ × AtomicKind) LineFault → Type 0
IsAtomicOf d word result =
    MatchResult result
    (λ found. (found.0 ≡ word) × (is_name word ≡ true) × (declared d word ≡ Some (record { place = found.1; kind = kinds.Atomic found.2 })))
    (IsFault (reference_checks d is_atomic word))

-- what these words say behind an object's name, with the name of the object to which it refers, or the first check that fails
abbrev pub IsKindOf : Draft → ObjectWord → List (List ℕ) → Result (ObjectKind × Option (List ℕ)) LineFault → Type 0
IsKindOf d word words result =
    MatchResult result
    (λ said. (word_of said.0 ≡ word) × (option_to_list said.1 ++ kind_parameters said.0 ≡ words) × (is_kind said.0 ≡ true) × (names_reference d said.0 said.1 ≡ true) × (first_failing (parameter_words d word words) ≡ None))
    (IsFault (parameter_words d word words))

-- the items of a schedule, or the first check that fails
abbrev pub IsTurns : ℕ → List (List ℕ) → Result (List Turn) LineFault → Type 0
IsTurns workers words result =
    MatchResult result
    (λ turns. (map turn_word turns ≡ words) × (list_all (is_item workers) turns ≡ true) × (first_failing (flat_map (item_checks workers) words) ≡ None))
    (IsFault (flat_map (item_checks workers) words))

-- the number of workers, or the first check that fails
abbrev pub IsWorkers : List ℕ → List (List ℕ) → Result ℕ LineFault → Type 0
IsWorkers word arguments result =
    MatchResult result
    (λ workers. (0 < workers) × (workers ≤ MAX_WORKERS) × (word ∷ arguments ≡ first_spelled workers))
    (IsFault (first_checks word arguments))

-- a line without a fault of its own, and whether it is significant
abbrev pub IsSound : List ℕ → Bool → Type 0
IsSound line significant = (is_short line ≡ true) × (is_clean line ≡ true) × (is_significant (words_of line) ≡ significant)

-- a line that is refused whatever stands before it
abbrev pub IsUnsound : List ℕ → LineFault → Type 0
IsUnsound line fault = (dialect : Dialect) (before : Option Draft) → IsFault (checks_of dialect before line) fault
