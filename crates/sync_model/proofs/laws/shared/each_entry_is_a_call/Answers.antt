use Rattle.std.proofs.Common.{true, false, refl}
use Rattle.sync_model.specs.declared.item.SharedCall.TheVariants.{Map, Atomic}
use Rattle.sync_types.specs.declared.map_object.MapCall.TheVariants as maps
use Rattle.sync_types.specs.declared.atomic_object.AtomicCall.TheVariants as atomics
use Rattle.sync_model.proofs.SharedEntries.{call_of, entry_at, entry_once, entry_by_call}
use Rattle.sync_model.proofs.laws.shared.each_entry_is_a_call.Goals as goal

pub returns-clause-call : goal.returns-clause-call
returns-clause-call c = λ start history calls n entry lawful. call_of start history calls lawful n entry

pub returns-clause-entry : goal.returns-clause-entry
returns-clause-entry c = λ start history calls c j x lawful. entry_at start history calls lawful c j x

pub returns-clause-once : goal.returns-clause-once
returns-clause-once c = λ start history calls c d i j x y lawful. entry_once start history calls lawful c d i j x y

pub returns-clause-store : goal.returns-clause-store
returns-clause-store c = λ start history calls c j m key value x lawful. entry_by_call start history calls lawful c j x (Map m (maps.Store key value)) true (λ contents. refl)

pub returns-clause-store_of_atomic : goal.returns-clause-store_of_atomic
returns-clause-store_of_atomic c = λ start history calls c j a value x lawful. entry_by_call start history calls lawful c j x (Atomic a (atomics.Store value)) true (λ contents. refl)

pub returns-clause-load : goal.returns-clause-load
returns-clause-load c = λ start history calls c j m key x lawful. entry_by_call start history calls lawful c j x (Map m (maps.Load key)) false (λ contents. refl)

pub returns-clause-load_of_atomic : goal.returns-clause-load_of_atomic
returns-clause-load_of_atomic c = λ start history calls c j a x lawful. entry_by_call start history calls lawful c j x (Atomic a atomics.Load) false (λ contents. refl)
