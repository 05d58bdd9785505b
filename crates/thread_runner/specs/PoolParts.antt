-- The parts of a pool among the objects of a run.
use Rattle.std.specs.Prelude.{ℕ, ◌+◌, ◌<◌, List}
use Rattle.workload.specs.declared.object.ObjectWord.TheVariants as words
use Rattle.thread_objects.specs.declared.object.AnyObject.{AnyObject}
use Rattle.thread_objects.specs.Desks.{IsObjectAt}
use Rattle.thread_objects.specs.Kinds.{HasWord}

-- the objects from this number on are parts of a pool, so many
abbrev pub ArePartsAt : {N H : Type 0} → List (AnyObject N H) → (first parts : ℕ) → Type 0
ArePartsAt objects first parts = (part : ℕ) → part < parts → IsObjectAt (HasWord words.Pool) objects (first + part)
