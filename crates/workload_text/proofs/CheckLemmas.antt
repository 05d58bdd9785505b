-- The checks of a line, one after the other.
use Rattle.std.proofs.Common.{◌≡◌, ℕ, Bool, eqb, subst, true, false, cond, ◌+◌, List, [], ◌∷◌, ◌++◌, map, length, get_or, arith, Option, Some, None, refl, sym, ap, ◌∙◌}
use Rattle.std.specs.List.{flat_map}
use Rattle.std.specs.Prelude.{is_some, nat_lt, nat_le}
use Rattle.workload.specs.declared.limits.TheConstants.{MAX_TURNS}
use Rattle.workload.specs.declared.keyword.Keyword.TheVariants as keywords
use Rattle.workload.specs.declared.reason.Reason.TheVariants.{LimitReached, WrongNumberOfWords}
use Rattle.sync_types.specs.Name.{is_name}
use Rattle.workload.specs.declared.fault.LineFault.{LineFault}
use Rattle.workload.specs.declared.fault.LineFault.TheVariants as faults
use Rattle.workload.specs.declared.keyword.Verb.{Verb}
use Rattle.workload.specs.declared.object.Declared.{Declared}
use Rattle.workload.specs.declared.object.ObjectWord.{ObjectWord}
use Rattle.workload.specs.declared.reason.Reason.{Reason}
use Rattle.workload.specs.declared.turn.Turn.{Turn}
use Rattle.workload.specs.Words.{turn_word}
use Rattle.workload.specs.Draft.{Draft, declared, count_of, limit_of}
use Rattle.workload.specs.Checks.{Check, first_failing, form_words, parameter_words, declaration_checks, parameters_of, parameters_checks, call_form, call_checks, line_checks, item_checks}
use Rattle.workload_text.specs.LineResult.{IsFault}

-- the first of some checks that fails is the first of these and others behind them
abbrev pub FailsFirst : Type 0
FailsFirst = (xs ys : List Check) (reason : Reason) → first_failing xs ≡ Some reason → first_failing (xs ++ ys) ≡ Some reason

-- checks that all pass leave it to those behind them
abbrev pub PassesFirst : Type 0
PassesFirst = (xs ys : List Check) → first_failing xs ≡ None → first_failing (xs ++ ys) ≡ first_failing ys

-- a fault of one check is one of all, where those before it pass
pub behind_one : FailsFirst → (a b : Check) (rest : List Check) (f : LineFault) → a.0 ≡ true → IsFault (b ∷ []) f → IsFault (a ∷ b ∷ rest) f
behind_one fails a b rest faults.Memory passes h = tt
behind_one fails a b rest (faults.Refused r) passes h = rw passes (fails (b ∷ []) rest r h)

pub behind_two : FailsFirst → (a b c : Check) (rest : List Check) (f : LineFault) → a.0 ≡ true → b.0 ≡ true → IsFault (c ∷ []) f → IsFault (a ∷ b ∷ c ∷ rest) f
behind_two fails a b c rest faults.Memory first second h = tt
behind_two fails a b c rest (faults.Refused r) first second h = rw (first, second) (fails (c ∷ []) rest r h)

-- a fault in the operands is one of the line
pub call_fails : FailsFirst → (d : Draft) (verb : Verb) (name : List ℕ) (words : List (List ℕ)) (found : Declared) (f : LineFault) → is_some d.current ≡ true → is_name name ≡ true → declared d name ≡ Some found
    → IsFault (form_words d (call_form d verb found.kind words) words) f → IsFault (call_checks d verb (name ∷ words)) f
call_fails fails d verb name words found faults.Memory current named is h = tt
call_fails fails d verb name words found (faults.Refused r) current named is h =
    rw (current, named, is) (fails (form_words d (call_form d verb found.kind words) words) _ r h)

-- a fault in the items is one of the line
pub turns_fail : FailsFirst → (d : Draft) (words : List (List ℕ)) (f : LineFault) → nat_lt 0 (length words) ≡ true → IsFault (flat_map (item_checks d.plan.workers) words) f → IsFault (line_checks d (Some keywords.Schedule) words) f
turns_fail fails d words faults.Memory some h = tt
turns_fail fails d words (faults.Refused r) some h = rw some (fails (flat_map (item_checks d.plan.workers) words) _ r h)

-- items that pass leave the limit
pub turns_pass : PassesFirst → (d : Draft) (words : List (List ℕ)) → nat_lt 0 (length words) ≡ true → first_failing (flat_map (item_checks d.plan.workers) words) ≡ None
    → first_failing (line_checks d (Some keywords.Schedule) words) ≡ cond (nat_le (length d.plan.schedule + length words) MAX_TURNS) None (Some LimitReached)
turns_pass passes d words some h = rw some (passes (flat_map (item_checks d.plan.workers) words) ((nat_le (length d.plan.schedule + length words) MAX_TURNS, LimitReached) ∷ []) h)

-- the items one after the other
pub items_fault : FailsFirst → (workers : ℕ) (word : List ℕ) (words : List (List ℕ)) (all : List (List ℕ)) (f : LineFault) → first_failing (flat_map (item_checks workers) (word ∷ words)) ≡ first_failing (flat_map (item_checks workers) all)
    → IsFault (item_checks workers word) f → IsFault (flat_map (item_checks workers) all) f
items_fault fails workers word words all faults.Memory same h = tt
items_fault fails workers word words all (faults.Refused r) same h = sym same ∙ fails (item_checks workers word) (flat_map (item_checks workers) words) r h

-- one more item is spelled by its word
pub turns_more : (turns : List Turn) (turn : Turn) (word : List ℕ) (rest all : List (List ℕ)) → turn_word turn ≡ word → map turn_word turns ++ (word ∷ rest) ≡ all → map turn_word (turns ++ turn ∷ []) ++ rest ≡ all
turns_more [] turn word rest all is h = ap (λ (w : List ℕ). w ∷ rest) is ∙ h
turns_more (t ∷ turns) turn word rest all is h =
    ap (λ (ws : List (List ℕ)). turn_word t ∷ ws) (turns_more turns turn word rest (map turn_word turns ++ (word ∷ rest)) is refl) ∙ h

-- a list of two items, and of three
pub two_items : {X : Type 0} (xs : List X) (d : X) → length xs ≡ 2 → xs ≡ get_or xs 0 d ∷ get_or xs 1 d ∷ []
two_items [] d e = absurd (omega arith)
two_items (x ∷ []) d e = absurd (omega arith)
two_items (x ∷ y ∷ []) d e = refl
two_items (x ∷ y ∷ z ∷ xs) d e = absurd (omega arith)

pub three_items : {X : Type 0} (xs : List X) (d : X) → length xs ≡ 3 → xs ≡ get_or xs 0 d ∷ get_or xs 1 d ∷ get_or xs 2 d ∷ []
three_items [] d e = absurd (omega arith)
three_items {X = X} (x ∷ xs) d e = ap (λ (ys : List X). x ∷ ys) (two_items xs d (omega arith))

-- a list of one item
pub one_item : {X : Type 0} (xs : List X) (d : X) → length xs ≡ 1 → xs ≡ get_or xs 0 d ∷ []
one_item [] d e = absurd (omega arith)
one_item (x ∷ []) d e = refl
one_item (x ∷ y ∷ xs) d e = absurd (omega arith)

-- ---- the line of an object

behind_first : (b : Bool) (why : Reason) (checks : List Check) (o : Option Reason) → b ≡ true → first_failing ((b, why) ∷ checks) ≡ o → first_failing checks ≡ o
behind_first b why checks o passes h = subst (λ (x : Bool). cond x (first_failing checks) (Some why) ≡ o) passes h

front_passes : (d : Draft) (word : ObjectWord) (name : List ℕ) (words : List (List ℕ)) (o : Option Reason) → eqb (length words) (length (parameters_of word)) ≡ true → is_name name ≡ true → is_some (declared d name) ≡ false
    → first_failing (parameters_checks d (parameters_of word) words ++ (nat_lt (count_of word d.plan.objects) (limit_of word), LimitReached) ∷ []) ≡ o → first_failing (declaration_checks d word (name ∷ words)) ≡ o
front_passes d word name words o count named new h = rw (count, named, new) h

-- a fault in the words behind the name is one of the line
pub object_fails : FailsFirst → (d : Draft) (word : ObjectWord) (name : List ℕ) (words : List (List ℕ)) (f : LineFault) → eqb (length words) (length (parameters_of word)) ≡ true → is_name name ≡ true → is_some (declared d name) ≡ false
    → IsFault (parameter_words d word words) f → IsFault (declaration_checks d word (name ∷ words)) f
object_fails fails d word name words faults.Memory count named new h = tt
object_fails fails d word name words (faults.Refused r) count named new h =
    let checks = parameters_checks d (parameters_of word) words in
    let first = behind_first (eqb (length words) (length (parameters_of word))) WrongNumberOfWords checks (Some r) count h in
    front_passes d word name words (Some r) count named new (fails checks ((nat_lt (count_of word d.plan.objects) (limit_of word), LimitReached) ∷ []) r first)

-- words that pass leave the limit
pub object_full : PassesFirst → (d : Draft) (word : ObjectWord) (name : List ℕ) (words : List (List ℕ)) → eqb (length words) (length (parameters_of word)) ≡ true → is_name name ≡ true → is_some (declared d name) ≡ false
    → first_failing (parameter_words d word words) ≡ None → nat_lt (count_of word d.plan.objects) (limit_of word) ≡ false → first_failing (declaration_checks d word (name ∷ words)) ≡ Some LimitReached
object_full passes d word name words count named new h full =
    let checks = parameters_checks d (parameters_of word) words in
    let limit : List Check = (nat_lt (count_of word d.plan.objects) (limit_of word), LimitReached) ∷ [] in
    let first = behind_first (eqb (length words) (length (parameters_of word))) WrongNumberOfWords checks None count h in
    front_passes d word name words (Some LimitReached) count named new (passes checks limit first ∙ ap (λ (b : Bool). cond b None (Some LimitReached)) full)
