-- That a pass is one of a pool is a fact with one proof at most, so that a struct may keep it in a ghost field.
use Rattle.std.specs.Prelude.{ℕ, true, [], ◌∷◌, Option}
use mathlib.Core.HLevel.{×_prop, Unit-prop}
use denote.Struct.Props.{props}
use Rattle.sync_types.specs.declared.misuse.Misuse.{Misuse}
use Rattle.sync_model.specs.declared.journal.Deed.{Deed}
use Rattle.sync_model.specs.declared.journal.Deed.TheVariants.{Event, Refused, Halt}
use Rattle.sync_model.specs.Journal.{Right, Follows, state_next, halt_next}
use Rattle.pool_core.specs.declared.pool_event.PoolEvent.{PoolEvent}
use Rattle.pool_core.specs.declared.pool_event.PoolReply.{PoolReply}
use Rattle.pool_core.specs.PartMachine.{PartState, part_next}
use Rattle.go_pool.specs.Parts.{PartJournal}

right_prop : (s : PartState ℕ) (h : Option Misuse) (c : ℕ) (d : Deed (PoolEvent ℕ) (PoolReply ℕ)) → IsProp (Right part_next true s h c d)
right_prop s h c (Event e r) = Prim.hlevel props
right_prop s h c (Refused e m) = Prim.hlevel props
right_prop s h c (Halt m) = Prim.hlevel props

pub follows_prop : (s : PartState ℕ) (h : Option Misuse) (xs : PartJournal) → IsProp (Follows part_next true s h xs)
follows_prop s h [] = Unit-prop
follows_prop s h (x ∷ xs) = ×_prop (right_prop s h x.caller x.deed) (follows_prop (state_next part_next s x.caller x.deed) (halt_next h x.deed) xs)
