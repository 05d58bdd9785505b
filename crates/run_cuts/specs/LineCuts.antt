-- How a worker's list is cut into what it makes before its script, the calls of a run of its script, and what it makes behind it, told by a function.
use Rattle.std.specs.Prelude.{ℕ, zero, suc, ◌+◌, Bool, true, false, cond, List, [], ◌∷◌, length, Option, Some, None, Ok, Err}
use Rattle.std.specs.List.{list_all}
use Rattle.sync_types.specs.declared.misuse.Misuse.{Misuse}
use Rattle.sync_types.specs.declared.misuse.Misuse.TheVariants.{UnlockOfUnlockedMutex, RUnlockOfUnlockedRwMutex, UnlockOfUnlockedRwMutex, NegativeWaitGroupCounter, WaitGroupReused, SemaphoreOverReleased}
use Rattle.script_calls.specs.declared.call.Call.{Call}
use Rattle.script_calls.specs.declared.call.Reply.{Reply}
use Rattle.script_calls.specs.Runs.{passed_over}
use Rattle.sync_model.specs.declared.answer.Answer.TheVariants.{Done, Halted}
use Rattle.sync_model.specs.declared.journal.Deed.{Deed}
use Rattle.sync_model.specs.declared.journal.Deed.TheVariants.{Event, Refused, Halt}
use Rattle.run_record.specs.declared.entered.ObjectEvent.{ObjectEvent}
use Rattle.run_record.specs.declared.entered.ObjectReply.{ObjectReply}
use Rattle.run_record.specs.declared.made.Made.{Made}
use Rattle.run_record.specs.declared.made.Made.TheVariants.{Shared, Entered}
use Rattle.run_record.specs.Lines.{Line, SpeltCall, LineEnd, whole as at_end, misused, halted, unfinished, stayed, Stay, never, stopped, waits}
use Rattle.run_record.specs.Record.{shared_in}
use Rattle.run_cuts.specs.Cuts.{Beginning, whole, within, wrong, Cutter}

abbrev pub same_misuse : Misuse → Misuse → Bool
same_misuse UnlockOfUnlockedMutex UnlockOfUnlockedMutex = true
same_misuse RUnlockOfUnlockedRwMutex RUnlockOfUnlockedRwMutex = true
same_misuse UnlockOfUnlockedRwMutex UnlockOfUnlockedRwMutex = true
same_misuse NegativeWaitGroupCounter NegativeWaitGroupCounter = true
same_misuse WaitGroupReused WaitGroupReused = true
same_misuse SemaphoreOverReleased SemaphoreOverReleased = true
same_misuse misuse other = false

abbrev pub halts_by : Misuse → Deed ObjectEvent ObjectReply → Bool
halts_by misuse (Halt other) = same_misuse other misuse
halts_by misuse (Event event reply) = false
halts_by misuse (Refused event other) = false

-- the worker halts an object by this misuse
abbrev pub is_halt : Misuse → Made → Bool
is_halt misuse (Shared x) = false
is_halt misuse (Entered object entry) = halts_by misuse entry.deed

-- one more completed call before a line
abbrev pub with_spelt : SpeltCall → Option Line → Option Line
with_spelt spelt None = None
with_spelt spelt (Some line) = Some (record { first = line.first; spelt = spelt ∷ line.spelt; last = line.last; halts = line.halts; rest = line.rest; ending = line.ending })

-- the line, of a worker that made this before its script
abbrev pub with_first : List Made → Option Line → Option Line
with_first first None = None
with_first first (Some line) = Some (record { first = first; spelt = line.spelt; last = line.last; halts = line.halts; rest = line.rest; ending = line.ending })

-- a line that ends in its first call, or in what is behind the script where none is left, and these halts behind it
abbrev pub ends_in_call : List Call → List Made → List Made → LineEnd → Line
ends_in_call script last halts ending = record { first = []; spelt = []; last = last; halts = halts; rest = script; ending = ending }

-- the line of a worker that didn't come to its script
abbrev pub stays_before : List Call → List Made → Stay → Line
stays_before script first stay = record { first = first; spelt = []; last = []; halts = []; rest = script; ending = stayed stay }

abbrev pub if_none_is_left : List Made → Line → Option Line
if_none_is_left [] line = Some line
if_none_is_left (item ∷ list) line = None

-- the line, by what the list begins with, where this is left of the script; it goes on where that came to its outcome
abbrev pub by_part : {O : Type 0} → List Call → List Made → Beginning O → (List Made → O → List Made → Option Line) → Option Line
by_part script list (whole items (Done (Ok outcome)) rest) on = on items outcome rest
by_part script list (whole items (Done (Err misuse)) rest) on = cond (list_all (is_halt misuse) rest) (Some (ends_in_call script items rest (misused misuse))) None
by_part script list (whole items (Halted misuse) rest) on = if_none_is_left rest (ends_in_call script items [] (halted misuse))
by_part script list within on = Some (ends_in_call script list [] unfinished)
by_part script list wrong on = None

module _ (closes : Cutter (Unit {0})) (cut : ℕ → Call → Cutter (Reply ℕ)) where
  -- the line that a run of a script, with what is behind it, and a list make, of a worker that has made so many calls on maps and atomics before, and passes so many of the script's first calls over
  abbrev pub cut_from : ℕ → ℕ → List Call → List Made → Option Line
  cut_from before passes [] list = by_part [] list (closes list) (λ items ended rest. if_none_is_left rest (ends_in_call [] items [] at_end))
  cut_from before (suc passes) (call ∷ script) list = cut_from before passes script list
  cut_from before zero (call ∷ script) list =
      by_part (call ∷ script) list (cut before call list) (λ items reply rest. with_spelt (record { call = call; items = items; reply = reply }) (cut_from (before + length (shared_in items)) (passed_over call reply) script rest))

-- the line, by what the list begins with before this script. A worker that came to the script goes on; what one makes before it is no misuse
abbrev pub by_opening : List Call → List Made → Beginning Bool → (List Made → Option Line) → Option Line
by_opening script list (whole items (Done (Ok true)) rest) on = with_first items (on rest)
by_opening script list (whole items (Done (Ok false)) rest) on = if_none_is_left rest (stays_before script items never)
by_opening script list (whole items (Done (Err misuse)) rest) on = None
by_opening script list (whole items (Halted misuse) rest) on = if_none_is_left rest (stays_before script items (stopped misuse))
by_opening script list within on = Some (stays_before script list waits)
by_opening script list wrong on = None

-- the line that a list and a script make, where none of the script's first calls is passed over; no line, where the list is none of a run of the script. `opens` and `closes` tell how what stands before the script and behind it is cut from a list, and `cut` how a call is
abbrev pub line_cut : Cutter Bool → Cutter (Unit {0}) → (ℕ → Call → Cutter (Reply ℕ)) → ℕ → List Call → List Made → Option Line
line_cut opens closes cut before script list = by_opening script list (opens list) (λ rest. cut_from closes cut before 0 script rest)
