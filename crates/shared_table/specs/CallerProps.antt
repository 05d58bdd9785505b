-- That a caller is one of a table is a fact with one proof at most, so that a struct may keep it in a ghost field.
use Rattle.std.specs.Prelude.{ℕ, List, Option, Some, None}
use mathlib.Core.HLevel.{Unit-prop}
use denote.Struct.Props.{props}
use Rattle.sync_model.specs.declared.caller.Caller.{Caller}
use Rattle.sync_model.specs.Note.{Holding, IsCounted}
use Rattle.sync_model.specs.Shared.{IsCallerAt}
use Rattle.shared_table.specs.declared.note.SharedNote.{SharedNote}
use Rattle.shared_table.specs.declared.table.SharedTable.{SharedTable}
use Rattle.shared_table.specs.Notes.{own_by, IsNoteOf}

pub counted_prop : (own : Option Holding) (front : List ℕ) → IsProp (IsCounted own front)
counted_prop None front = Unit-prop
counted_prop (Some holding) front = Prim.hlevel props

pub caller_prop : (table : SharedTable) (caller : Caller SharedNote) → IsProp (IsCallerAt IsNoteOf own_by table caller)
caller_prop table caller = Prim.hlevel (counted_prop, props)
