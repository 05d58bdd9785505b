-- The tests of an atomic in a record: `ifeq` is one load, read as whether it found the value, and `waitfor` is loads and waits on a cond by turns.
use Rattle.std.specs.Prelude.{ℕ, zero, suc, Bool, true, false}
use Rattle.script_calls.specs.declared.call.Reply.{Reply}
use Rattle.script_calls.specs.declared.call.Reply.TheVariants as replies
use Rattle.sync_types.specs.declared.atomic_object.AtomicCall.TheVariants.{Load}
use Rattle.sync_types.specs.declared.atomic_object.AtomicReply.TheVariants.{Held, Compared}
use Rattle.sync_types.specs.declared.atomic_object.Number.{Number}
use Rattle.sync_types.specs.SequentialAtomic.{is_same}
use Rattle.run_record.specs.AtomicKind.{atomic_call}
use Rattle.run_record.specs.CondKind.{wait_part}
use Rattle.run_record.specs.Parts.{Part, and_then, read_as, returns}

-- whether a load found the number; any other reply: false
abbrev pub holds : Number → Reply ℕ → Bool
holds value (replies.Atomic (Held number)) = is_same number value
holds value reply = false

-- a test of an atomic: a load, read as whether it found the number
abbrev pub tests : ℕ → Number → Part Bool
tests a value = read_as (holds value) (atomic_call a Load)

-- how a call answers whether it did
abbrev pub compared : Bool → Reply ℕ
compared met = replies.Atomic (Compared met)

-- an `ifeq` is one test
abbrev pub if_equal_call : ℕ → Number → Part (Reply ℕ)
if_equal_call a value = read_as compared (tests a value)

-- what comes behind a test: nothing, where it found the number
abbrev pub unless_met : Part Bool → Bool → Part Bool
unless_met next true = returns true
unless_met next false = next

-- A test, and then, as long as it didn't find the number and so many waits may still be made, a wait on the cond and a test. Its outcome is that of the last test
abbrev pub waits_for : (cond mutex a : ℕ) → Number → ℕ → Part Bool
waits_for cond mutex a value zero = tests a value
waits_for cond mutex a value (suc tries) = and_then (tests a value) (unless_met (and_then (wait_part cond mutex) (λ waited. waits_for cond mutex a value tries)))

-- a `waitfor` answers whether the last test found the number
abbrev pub wait_for_call : (cond mutex a : ℕ) → Number → ℕ → Part (Reply ℕ)
wait_for_call cond mutex a value tries = read_as compared (waits_for cond mutex a value tries)
