-- Of which kind an object is.
use Rattle.std.specs.Prelude.{◌≡◌, Some}
use Rattle.workload.specs.declared.object.ObjectKind.{ObjectKind}
use Rattle.workload.specs.declared.object.ObjectKind.TheVariants as kinds
use Rattle.workload.specs.declared.object.ObjectWord.{ObjectWord}
use Rattle.workload.specs.Plan.{word_of}
use Rattle.thread_objects.specs.declared.object.AnyObject.{AnyObject}
use Rattle.thread_objects.specs.declared.object.AnyObject.TheVariants as objects
use Rattle.thread_objects.specs.ByKind.{of_object}

module _ {N H : Type 0} where
  abbrev pub IsStop : AnyObject N H → Type 0
  IsStop object = of_object (record { shared = ⊥; stop = λ o. Unit {0}; each = λ kind o. ⊥ }) object

  abbrev pub IsStarts : AnyObject N H → Type 0
  IsStarts (objects.Starts o) = Unit {0}
  IsStarts object = ⊥

  -- it is of the kind that lines with this word declare, or a part of such a pool
  abbrev pub HasWord : ObjectWord → AnyObject N H → Type 0
  HasWord word object = of_object (record { shared = ⊥; stop = λ o. ⊥; each = λ kind o. kind.word ≡ Some word }) object

  -- it is of the kind that was declared. Maps and atomics are shared as one, which isn't here, and of a pool there are only the parts
  abbrev pub IsOfKind : ObjectKind → AnyObject N H → Type 0
  IsOfKind kinds.Map object = Unit {0}
  IsOfKind (kinds.Atomic type) object = Unit {0}
  IsOfKind kinds.Pool object = Unit {0}
  IsOfKind kinds.Var object = Unit {0}
  IsOfKind kind object = HasWord (word_of kind) object
