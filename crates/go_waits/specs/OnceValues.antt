-- What contracts see of a stored function that is called once.
use Rattle.go_waits.specs.declared.once.Once.{Once}
use Rattle.go_waits.specs.declared.once_value.OnceValue.{OnceValue}
use Rattle.go_waits.specs.declared.stored.Stored.{Stored}

-- the function that was stored there, whether it was taken out or not
abbrev pub stored_in : {F : Type 0} → Stored F → F
stored_in stored = stored.slot.value

module _ {T F N H : Type 0} where
  -- the once that keeps its result, whose callers are its own
  abbrev pub once_of : OnceValue T F N H → Once T N H
  once_of value = value.once

  -- the function
  abbrev pub function_of : OnceValue T F N H → F
  function_of value = stored_in value.function
