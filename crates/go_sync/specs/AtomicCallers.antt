-- What one call of an atomic's caller did.
use Rattle.std.specs.Prelude.{◌≡◌}
use Rattle.sync_types.specs.declared.atomic_object.AtomicCall.{AtomicCall}
use Rattle.sync_types.specs.declared.atomic_object.AtomicReply.{AtomicReply}
use Rattle.go_atomic.specs.declared.value.AtomicValue.{Ghosts}
use Rattle.go_atomic.specs.Typed.{MakesCall}
use Rattle.go_sync.specs.declared.atomic.AtomicCaller.{AtomicCaller}

-- the caller made this call on its atomic, at which it still is, and was answered so
abbrev pub Makes : {V : Type 0} {value : Ghosts V} → AtomicCall → AtomicReply → AtomicCaller V value → AtomicCaller V value → Type 0
Makes call reply old new = (new.atomic ≡ old.atomic) × MakesCall old.atomic.table.now old.atomic.number call reply old.caller.note new.caller.note
