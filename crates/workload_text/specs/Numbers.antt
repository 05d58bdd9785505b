-- The numbers of a call.
use Rattle.std.specs.Prelude.{List, [], ◌∷◌}
use Rattle.sync_types.specs.declared.atomic_object.Number.{Number}
use Rattle.workload_text.specs.declared.operands.Numbers.{Numbers}
use Rattle.workload_text.specs.declared.operands.Numbers.TheVariants.{Empty, One, Two}

-- the numbers that there are, in order
abbrev pub numbers_in : Numbers → List Number
numbers_in Empty = []
numbers_in (One number) = number ∷ []
numbers_in (Two old new) = old ∷ new ∷ []
