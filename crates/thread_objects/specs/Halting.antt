-- What halting enters in an object's journal.
use Rattle.std.specs.Prelude.{◌≡◌, List}
use Rattle.sync_types.specs.declared.misuse.Misuse.{Misuse}
use Rattle.sync_model.specs.Front.{Front}
use Rattle.run_record.specs.Record.{ObjectEntry}
use Rattle.thread_objects.specs.HaltOne.{Halts}
use Rattle.thread_objects.specs.declared.object.AnyObject.{AnyObject}
use Rattle.thread_objects.specs.declared.object.AnyObject.TheVariants as objects

-- maps and atomics can't be halted, and halting one is no event
abbrev pub AreHalted : {N H : Type 0} → AnyObject N H → Misuse → (from to : Front) → List ObjectEntry → List ObjectEntry → Type 0
AreHalted objects.Shared misuse from to old new = (new ≡ old) × (to ≡ from)
AreHalted object misuse from to old new = Halts misuse from to old new
