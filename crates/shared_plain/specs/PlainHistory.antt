-- The shared history that a journal of maps and atomics is, and each caller's own calls in it. An entry of the journal that wasn't answered is no shared call.
use Rattle.std.specs.Prelude.{ℕ, ◌+◌, ◌==◌, cond, List, [], ◌∷◌, ◌++◌, length, map, take, Option, Some, None}
use Rattle.std.specs.List.{range_with_len}
use Rattle.sync_model.specs.declared.journal.Deed.{Deed}
use Rattle.sync_model.specs.declared.journal.Deed.TheVariants as deeds
use Rattle.sync_model.specs.declared.journal.Entry.{Entry}
use Rattle.sync_model.specs.declared.item.SharedCall.{SharedCall}
use Rattle.sync_model.specs.declared.item.SharedEntry.{SharedEntry}
use Rattle.sync_model.specs.declared.item.Item.{Item}
use Rattle.shared_plain.specs.declared.event.Event.{Event}
use Rattle.shared_plain.specs.declared.event.Answered.{Answered}
use Rattle.shared_plain.specs.PlainMachine.{call_of}

-- an entry of the journal
abbrev pub Step : Type 0
Step = Entry Event (Option Answered)

-- the shared call that a deed is, with its answer, if it was answered
abbrev pub call_in : Deed Event (Option Answered) → Option (SharedCall × Answered)
call_in (deeds.Event event None) = None
call_in (deeds.Event event (Some answered)) = Some (call_of event, answered)
call_in (deeds.Refused event misuse) = None
call_in (deeds.Halt misuse) = None

-- a call stands before later entries of the history, where it is an entry itself
abbrev pub entered : ℕ → Option (SharedCall × Answered) → List SharedEntry → List SharedEntry
entered c None later = later
entered c (Some made) later = cond made.1.entry (record { caller = c; call = made.0; reply = made.1.reply } ∷ later) later

-- the entries of the shared history
abbrev pub history_of : List Step → List SharedEntry
history_of [] = []
history_of (x ∷ xs) = entered x.caller (call_in x.deed) (history_of xs)

-- whether it is a shared call of this caller
abbrev pub counts : ℕ → ℕ → Option (SharedCall × Answered) → ℕ
counts c caller None = 0
counts c caller (Some made) = cond (caller == c) 1 0

-- how many shared calls a caller made
abbrev pub calls_counted : ℕ → List Step → ℕ
calls_counted c [] = 0
calls_counted c (x ∷ xs) = counts c x.caller (call_in x.deed) + calls_counted c xs

-- for each of so many callers, the number of its shared calls
abbrev pub front_of : ℕ → List Step → List ℕ
front_of callers journal = map (λ c. calls_counted c journal) (range_with_len 0 callers)

-- a caller's call that stands behind these entries, of which it had seen so many. Its place is the number of entries of the shared history before it
abbrev pub item_at : ℕ → List Step → ℕ → SharedCall × Answered → Item
item_at callers before knew made = record { call = made.0; reply = made.1.reply; place = length (history_of before); entry = made.1.entry; front = front_of callers (take knew before) }

-- a call stands before later ones of its caller's list
abbrev pub listed : ℕ → ℕ → List Step → Step → Option (SharedCall × Answered) → List Item → List Item
listed callers c before x None later = later
listed callers c before x (Some made) later = cond (x.caller == c) (item_at callers before x.knew made ∷ later) later

-- one caller's shared calls in a journal that goes on behind these entries
abbrev pub items_from : ℕ → ℕ → List Step → List Step → List Item
items_from callers c before [] = []
items_from callers c before (x ∷ xs) = listed callers c before x (call_in x.deed) (items_from callers c (before ++ x ∷ []) xs)

-- one caller's shared calls
abbrev pub items_by : ℕ → ℕ → List Step → List Item
items_by callers c journal = items_from callers c [] journal

-- the number of a call, where it is an entry, stands before those of later entries
abbrev pub numbered : ℕ → Option (SharedCall × Answered) → List ℕ → List ℕ
numbered time None later = later
numbered time (Some made) later = cond made.1.entry (time ∷ later) later

-- the numbers of the shared history's entries
abbrev pub entry_times_of : List Step → List ℕ
entry_times_of [] = []
entry_times_of (x ∷ xs) = numbered x.time (call_in x.deed) (entry_times_of xs)

-- the number of a call stands before those of later ones of its caller
abbrev pub timed : ℕ → Step → Option (SharedCall × Answered) → List ℕ → List ℕ
timed c x None later = later
timed c x (Some made) later = cond (x.caller == c) (x.time ∷ later) later

-- the numbers of one caller's shared calls
abbrev pub times_by : ℕ → List Step → List ℕ
times_by c [] = []
times_by c (x ∷ xs) = timed c x (call_in x.deed) (times_by c xs)
