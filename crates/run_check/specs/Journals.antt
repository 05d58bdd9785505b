-- The journals of a run, by the entries in the workers' lists.
use Rattle.std.specs.Prelude.{◌≡◌, ℕ, ◌≤◌, List, [], map, length, Some, slice_get, get_or}
use Rattle.run_record.specs.Record.{ObjectEntry}
use Rattle.object_checks.specs.declared.journals.item.JournalItem.{JournalItem}
use Rattle.object_checks.specs.JournalItems.{items_of, items_on, numbered}
use Rattle.record_clauses.specs.Account.{Account, Claim}
use Rattle.record_clauses.specs.Clauses.{HasJournals}
use Rattle.record_clauses.specs.Lists.{numbered_in}

-- the entries are those of the claim: each worker's on each object, in order and with their numbers
abbrev pub AreEntries : Claim → List (List JournalItem) → Type 0
AreEntries claim entries = (worker object : ℕ) → map (numbered worker) (items_on entries object worker) ≡ numbered_in object (get_or claim.lists worker [])

-- each front counts the calls of 64 workers at most
abbrev pub HaveSmallFronts : List (List JournalItem) → Type 0
HaveSmallFronts entries = (worker i : ℕ) (item : JournalItem) → slice_get (items_of entries worker) i ≡ Some item → length item.front ≤ 64

-- each account of which `machine` holds has these journals
abbrev pub AreJournalsOf : Claim → List (List ObjectEntry) → Type 0
AreJournalsOf claim journals = (account : Account) → HasJournals claim account → account.journals ≡ journals
