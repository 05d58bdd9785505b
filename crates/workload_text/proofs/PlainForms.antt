-- The checks of operands that name no object and no worker: they are the same by any draft.
use Rattle.std.proofs.Common.{◌≡◌, ℕ, Bool, true, false, eqb, List, [], ◌∷◌, length, Option, Some, None, refl, sym, ap, subst, ◌∙◌}
use Rattle.sync_types.specs.declared.atomic_object.AtomicKind.{AtomicKind}
use Rattle.sync_types.specs.declared.atomic_object.AtomicKind.TheVariants as types
use Rattle.workload.specs.declared.fault.LineFault.{LineFault}
use Rattle.workload.specs.declared.keyword.Operand.{Operand}
use Rattle.workload.specs.declared.keyword.Operand.TheVariants as operands
use Rattle.workload.specs.declared.keyword.Verb.{Verb}
use Rattle.workload.specs.declared.keyword.Verb.TheVariants as verbs
use Rattle.workload.specs.declared.object.ObjectKind.{ObjectKind}
use Rattle.workload.specs.declared.object.ObjectKind.TheVariants as kinds
use Rattle.workload.specs.declared.object.ObjectWord.{ObjectWord}
use Rattle.workload.specs.declared.object.ObjectWord.TheVariants as words
use Rattle.workload.specs.declared.reason.Reason.TheVariants.{WrongNumberOfWords}
use Rattle.workload.specs.Draft.{Draft}
use Rattle.workload.specs.Checks.{Check, operand_check, operand_checks, form_words, form_of, call_form, map_form, atomic_form, bits_form, mutex_form, rw_mutex_form, cond_form, group_form, once_form, once_func_form, once_value_form, pool_form, sema_form, flight_form, var_form}
use Rattle.workload.specs.Plan.{word_of}
use Rattle.workload_text.specs.LineResult.{IsFault, blank, kind_form}

-- whether no operand names an object or a worker
abbrev is_plain : List Operand → Bool
is_plain [] = true
is_plain (operands.Atomic ∷ forms) = false
is_plain (operands.Worker ∷ forms) = false
is_plain (form ∷ forms) = is_plain forms

abbrev is_plain_form : Option (List Operand) → Bool
is_plain_form None = true
is_plain_form (Some forms) = is_plain forms

same_checks : (d e : Draft) (forms : List Operand) (ws : List (List ℕ)) → is_plain forms ≡ true → operand_checks d forms ws ≡ operand_checks e forms ws
same_checks d e [] ws h = refl
same_checks d e (form ∷ forms) [] h = refl
same_checks d e (operands.Atomic ∷ forms) (word ∷ ws) h = absurd cc
same_checks d e (operands.Worker ∷ forms) (word ∷ ws) h = absurd cc
same_checks d e (form ∷ forms) (word ∷ ws) h = ap (λ (checks : List Check). operand_check form word ∷ checks) (same_checks d e forms ws h)

same_words : (d e : Draft) (form : Option (List Operand)) (ws : List (List ℕ)) → is_plain_form form ≡ true → form_words d form ws ≡ form_words e form ws
same_words d e None ws h = refl
same_words d e (Some forms) ws h = ap (λ (checks : List Check). (eqb (length ws) (length forms), WrongNumberOfWords) ∷ checks) (same_checks d e forms ws h)

plain_bits : (kind : AtomicKind) → is_plain_form (bits_form kind) ≡ true
plain_bits types.Bool = refl
plain_bits kind = refl

plain_atomic : (kind : AtomicKind) (verb : Verb) → is_plain_form (atomic_form kind verb) ≡ true
plain_atomic kind verbs.Add = plain_bits kind
plain_atomic kind verbs.And = plain_bits kind
plain_atomic kind verbs.Or = plain_bits kind
plain_atomic kind verb = refl

plain_map : (verb : Verb) → is_plain_form (map_form verb) ≡ true
plain_map verbs.Load = refl
plain_map verb = refl

plain_mutex : (verb : Verb) → is_plain_form (mutex_form verb) ≡ true
plain_mutex verbs.Lock = refl
plain_mutex verb = refl

plain_rw_mutex : (verb : Verb) → is_plain_form (rw_mutex_form verb) ≡ true
plain_rw_mutex verbs.Lock = refl
plain_rw_mutex verb = refl

plain_cond : (verb : Verb) → is_plain_form (cond_form verb) ≡ true
plain_cond verbs.Wait = refl
plain_cond verb = refl

plain_group : (verb : Verb) → is_plain_form (group_form verb) ≡ true
plain_group verbs.Add = refl
plain_group verb = refl

plain_once : (verb : Verb) → (is_plain_form (once_form verb) ≡ true) × (is_plain_form (once_func_form verb) ≡ true) × (is_plain_form (once_value_form verb) ≡ true)
plain_once verbs.Do = (refl, refl, refl)
plain_once verb = (refl, refl, refl)

plain_pool : (verb : Verb) → is_plain_form (pool_form verb) ≡ true
plain_pool verbs.Put = refl
plain_pool verb = refl

plain_sema : (size : ℕ) (verb : Verb) → is_plain_form (sema_form size verb) ≡ true
plain_sema size verbs.Acquire = refl
plain_sema size verb = refl

plain_flight : (verb : Verb) → is_plain_form (flight_form verb) ≡ true
plain_flight verbs.Fly = refl
plain_flight verb = refl

plain_var : (verb : Verb) → is_plain_form (var_form verb) ≡ true
plain_var verbs.Read = refl
plain_var verb = refl

plain_form : (verb : Verb) (word : ObjectWord) → is_plain_form (form_of verb word) ≡ true
plain_form verb words.Map = plain_map verb
plain_form verb (words.Atomic kind) = plain_atomic kind verb
plain_form verb words.Mutex = plain_mutex verb
plain_form verb words.RwMutex = plain_rw_mutex verb
plain_form verb words.Cond = plain_cond verb
plain_form verb words.WaitGroup = plain_group verb
plain_form verb words.Once = (plain_once verb).0
plain_form verb words.OnceFunc = (plain_once verb).1
plain_form verb words.OnceValue = (plain_once verb).2
plain_form verb words.Pool = plain_pool verb
plain_form verb words.Sema = refl
plain_form verb words.Flight = plain_flight verb
plain_form verb words.Var = plain_var verb

plain_kind : (verb : Verb) (kind : ObjectKind) → is_plain_form (kind_form verb kind) ≡ true
plain_kind verb (kinds.Sema size) = plain_sema size verb
plain_kind verb kind = plain_form verb (word_of kind)

-- the form of a call is that of its object's calls but where it is a `waitfor` or a `go`
call_form_is : (d : Draft) (verb : Verb) (kind : ObjectKind) (ws : List (List ℕ)) → ((verb ≡ verbs.WaitFor) → ⊥) → ((verb ≡ verbs.Go) → ⊥) → call_form d verb kind ws ≡ kind_form verb kind
call_form_is d verbs.WaitFor kind ws no_wait no_go = absurd (no_wait refl)
call_form_is d verbs.Go kind ws no_wait no_go = absurd (no_go refl)
call_form_is d verb (kinds.Sema size) ws no_wait no_go = refl
call_form_is d verb kind ws no_wait no_go = refl

-- so a fault of the words by no draft is one by any
pub plain_fails : (d : Draft) (verb : Verb) (kind : ObjectKind) (ws : List (List ℕ)) (f : LineFault) → ((verb ≡ verbs.WaitFor) → ⊥) → ((verb ≡ verbs.Go) → ⊥) → IsFault (form_words blank (kind_form verb kind) ws) f → IsFault (form_words d (call_form d verb kind ws) ws) f
plain_fails d verb kind ws f no_wait no_go h =
    subst (λ (checks : List Check). IsFault checks f)
    (same_words blank d (kind_form verb kind) ws (plain_kind verb kind) ∙ ap (λ (form : Option (List Operand)). form_words d form ws) (sym (call_form_is d verb kind ws no_wait no_go))) h
