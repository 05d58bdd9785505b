-- Which objects a misuse halts in a run with threads, and in which order; and the halts in a list.
use Rattle.std.specs.Prelude.{◌≡◌, ℕ, ◌+◌, ◌<◌, cond, List, [], ◌∷◌, ◌++◌, map}
use Rattle.std.specs.List.{range_with_len, flat_map}
use Rattle.sync_model.specs.declared.journal.Deed.{Deed}
use Rattle.sync_model.specs.declared.journal.Deed.TheVariants.{Event, Refused, Halt}
use Rattle.sync_types.specs.declared.misuse.Misuse.{Misuse}
use Rattle.workload.specs.declared.object.ObjectKind.{ObjectKind}
use Rattle.workload.specs.declared.object.ObjectKind.TheVariants as kinds
use Rattle.workload.specs.declared.object.ObjectLine.{ObjectLine}
use Rattle.workload.specs.Plan.{Plan, has_dormant}
use Rattle.run_record.specs.Objects.{first_part, starts_number}
use Rattle.run_record.specs.Record.{ObjectEntry, stop, object_number}
use Rattle.run_record.specs.declared.entered.ObjectEvent.{ObjectEvent}
use Rattle.run_record.specs.declared.entered.ObjectReply.{ObjectReply}
use Rattle.run_record.specs.declared.made.Made.{Made}
use Rattle.run_record.specs.declared.made.Made.TheVariants.{Shared, Entered}

-- the numbers of what is halted for the object declared at a place: a pool's parts, from 0 up, nothing for a map, an atomic or a plain variable, and any other object itself
abbrev pub halted_at : Plan → ℕ → ObjectKind → List ℕ
halted_at plan place kinds.Map = []
halted_at plan place (kinds.Atomic type) = []
halted_at plan place kinds.Var = []
halted_at plan place kinds.Pool = range_with_len (first_part plan place) plan.workers
halted_at plan place kind = object_number place ∷ []

-- the same for these objects, one after the other, where the first of them is declared at this place
abbrev pub halted_from : Plan → ℕ → List ObjectLine → List ℕ
halted_from plan place [] = []
halted_from plan place (line ∷ lines) = halted_at plan place line.kind ++ halted_from plan (place + 1) lines

-- Starts, where there is one
abbrev pub halted_starts : Plan → List ℕ
halted_starts plan = cond (has_dormant plan) (starts_number plan ∷ []) []

-- Stop, Starts, and then these first objects of the workload, in order of declaration
abbrev pub halted_with_stop : Plan → List ObjectLine → List ℕ
halted_with_stop plan lines = stop ∷ (halted_starts plan ++ halted_from plan 0 lines)

-- Stop, Starts, and then all objects of the workload
abbrev pub halted_numbers : Plan → List ℕ
halted_numbers plan = halted_with_stop plan plan.objects

-- the objects on which a worker made entries, one after the other
abbrev pub entered_on : List Made → List ℕ
entered_on [] = []
entered_on (Shared x ∷ items) = entered_on items
entered_on (Entered object entry ∷ items) = object ∷ entered_on items

-- the number is that of the object declared at a place, or of a part of the pool there. What is done on a map, an atomic or a plain variable stands in no journal, so these have none
abbrev pub IsNumberAt : Plan → ℕ → ObjectKind → ℕ → Type 0
IsNumberAt plan place kinds.Map number = ⊥
IsNumberAt plan place (kinds.Atomic type) number = ⊥
IsNumberAt plan place kinds.Var number = ⊥
IsNumberAt plan place kinds.Pool number = (part : ℕ) × (part < plan.workers) × (number ≡ first_part plan place + part)
IsNumberAt plan place kind number = number ≡ object_number place

-- the misuse by which a deed halts its object, if it does
abbrev pub halt_by : Deed ObjectEvent ObjectReply → List Misuse
halt_by (Event e r) = []
halt_by (Refused e misuse) = []
halt_by (Halt misuse) = misuse ∷ []

-- the misuses by which these entries halt an object
abbrev pub halts_in : List ObjectEntry → List Misuse
halts_in entries = flat_map (λ entry. halt_by entry.deed) entries

-- the halts in a worker's list, each with the number of its object
abbrev pub halts_made : List Made → List (ℕ × Misuse)
halts_made [] = []
halts_made (Shared x ∷ items) = halts_made items
halts_made (Entered object entry ∷ items) = map (λ misuse. (object, misuse)) (halt_by entry.deed) ++ halts_made items
