-- The words of a `waitfor` behind its cond's name.
use Rattle.std.proofs.Common.{◌≡◌, ℕ, true, List, [], ◌∷◌, Some, refl}
use Rattle.std.specs.Prelude.{slice_get}
use Rattle.std.specs.Fmt.{decimal}
use Rattle.std.proofs.lemmas.Bool.{eq-eqb}
use Rattle.sync_types.specs.Name.{is_name}
use Rattle.sync_types.specs.SequentialAtomic.{is_of}
use Rattle.sync_types.specs.declared.atomic_object.AtomicKind.{AtomicKind}
use Rattle.sync_types.specs.declared.atomic_object.Number.{Number}
use Rattle.script_calls.specs.declared.call.ComposedCall.TheVariants.{WaitFor}
use Rattle.script_calls.specs.declared.call.Operation.TheVariants as operations
use Rattle.workload.specs.declared.fault.LineFault.{LineFault}
use Rattle.workload.specs.declared.fault.LineFault.TheVariants as faults
use Rattle.workload.specs.declared.keyword.Operand.TheVariants as operands
use Rattle.workload.specs.declared.keyword.Verb.TheVariants as verbs
use Rattle.workload.specs.declared.object.Declared.{Declared}
use Rattle.workload.specs.declared.object.ObjectKind.TheVariants as kinds
use Rattle.workload.specs.declared.object.ObjectLine.{ObjectLine}
use Rattle.workload.specs.NumberWords.{number_word, is_number_word, is_tries}
use Rattle.workload.specs.Draft.{Draft, declared}
use Rattle.workload.specs.Checks.{form_words, wait_for_words, operand_check}
use Rattle.workload_text.specs.LineResult.{IsFault, IsCallIn}
use Rattle.workload_text.proofs.CheckLemmas.{FailsFirst}

-- a name that is declared finds its object
abbrev pub FindsObjects : Type 0
FindsObjects = (d : Draft) (name : List ℕ) (found : Declared) → declared d name ≡ Some found → (object : ObjectLine) × (slice_get d.plan.objects found.place ≡ Some object) × (object.kind ≡ found.kind)

-- the call that the words say
pub wait_said : FindsObjects → (d : Draft) (name : List ℕ) (atomic : ℕ) (kind : AtomicKind) (value : Number) (tries : ℕ) (words : List (List ℕ)) → is_name name ≡ true → declared d name ≡ Some (record { place = atomic; kind = kinds.Atomic kind }) → is_of kind value ≡ true → is_tries tries ≡ true
    → name ∷ number_word value ∷ decimal tries ∷ [] ≡ words → (mutex : ℕ) → IsCallIn d (kinds.Cond mutex) verbs.WaitFor words (Some name, operations.Composed (WaitFor atomic value tries))
wait_said finds d name atomic kind value tries words named found fits few are mutex =
    let there = finds d name (record { place = atomic; kind = kinds.Atomic kind }) found in
    (refl, are, few, rw (named, found) (eq-eqb atomic atomic refl), refl, rw (there.1, there.2) fits)

-- a fault of the value
pub value_fails : FailsFirst → (d : Draft) (name value tries : List ℕ) (atomic : ℕ) (kind : AtomicKind) (f : LineFault) → is_name name ≡ true → declared d name ≡ Some (record { place = atomic; kind = kinds.Atomic kind })
    → IsFault (operand_check (operands.Number kind) value ∷ []) f → IsFault (form_words d (Some (wait_for_words d (name ∷ value ∷ tries ∷ []))) (name ∷ value ∷ tries ∷ [])) f
value_fails fails d name value tries atomic kind faults.Memory named found h = tt
value_fails fails d name value tries atomic kind (faults.Refused r) named found h = rw (found, named) (fails (operand_check (operands.Number kind) value ∷ []) (operand_check operands.Tries tries ∷ []) r h)

-- and one of the number of waits
pub tries_fail : (d : Draft) (name value tries : List ℕ) (atomic : ℕ) (kind : AtomicKind) (f : LineFault) → is_name name ≡ true → declared d name ≡ Some (record { place = atomic; kind = kinds.Atomic kind }) → is_number_word kind value ≡ true
    → IsFault (operand_check operands.Tries tries ∷ []) f → IsFault (form_words d (Some (wait_for_words d (name ∷ value ∷ tries ∷ []))) (name ∷ value ∷ tries ∷ [])) f
tries_fail d name value tries atomic kind faults.Memory named found passes h = tt
tries_fail d name value tries atomic kind (faults.Refused r) named found passes h = rw (found, named, passes) h
