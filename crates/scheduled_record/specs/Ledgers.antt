-- What is kept of a run while its items are told, and how it stands for the account of the run's record.
use Rattle.std.specs.Prelude.{◌≡◌, ℕ, ◌+◌, Bool, true, false, cond, List, [], ◌++◌, length, set, IfSome, Option, Some, slice_get}
use Rattle.std.specs.List.{list_all}
use Rattle.std.specs.Option.{option_map, option_map_or, option_to_list}
use Rattle.sync_model.specs.declared.journal.Deed.{Deed}
use Rattle.workload.specs.Plan.{Plan, is_dormant}
use Rattle.run_record.specs.declared.entered.ObjectEvent.{ObjectEvent}
use Rattle.run_record.specs.declared.entered.ObjectReply.{ObjectReply}
use Rattle.run_record.specs.declared.made.Made.{Made}
use Rattle.run_record.specs.Objects.{contents_of, object_count}
use Rattle.record_text.specs.declared.item_line.ItemLine.{ItemLine}
use Rattle.record_text.specs.declared.item_line.Said.{Said}
use Rattle.record_text.specs.LawfulItems.{has_numbers}
use Rattle.record_text.specs.Numbers.{has_64_bits}
use Rattle.record_text.specs.Written.{entry_said}
use Rattle.kept_record.specs.Acts.{AreAnswered}
use Rattle.kept_record.specs.Keeping.{Act, Account, entries_on, known_by, released_at, counted, learnt, given, account_of}
use Rattle.scheduled_record.specs.declared.ledger.Ledger.{Ledger}
use Rattle.scheduled_record.specs.declared.ledger.JournalState.{JournalState}
use Rattle.scheduled_record.specs.declared.ledger.WorkerState.{WorkerState}
use Rattle.scheduled_record.specs.RunActs.{acts_by, waits_still}
use Rattle.scheduled_record.specs.ToldItems.{ToldAct, acts_in, told_as, lines_told, is_in_64_bits, have_64_bit_fronts}

-- ---- a ledger of what was made

abbrev pub IsWorkerKept : Plan → List Act → ℕ → WorkerState → Type 0
IsWorkerKept plan acts worker x = (x.front ≡ known_by worker (account_of plan acts)) × (x.waits ≡ waits_still plan acts worker)

abbrev pub IsJournalKept : Account → ℕ → JournalState → Type 0
IsJournalKept kept object x = (x.entries ≡ length (entries_on object kept.acts)) × (x.released ≡ released_at object kept)

-- the ledger is what is kept of these acts, and the numbers of their fronts have 64 bits
pub record IsKept (plan : Plan) (told : List ToldAct) (l : Ledger) : Type 0 where
  pub workers : length l.workers.items ≡ plan.workers
  pub journals : length l.journals.items ≡ object_count plan
  pub worker : (w : ℕ) (x : WorkerState) → slice_get l.workers.items w ≡ Some x → IsWorkerKept plan (acts_in told) w x
  pub journal : (o : ℕ) (x : JournalState) → slice_get l.journals.items o ≡ Some x → IsJournalKept (account_of plan (acts_in told)) o x
  pub history : l.history ≡ length (account_of plan (acts_in told)).history
  pub maps : l.maps.items ≡ (account_of plan (acts_in told)).contents.maps
  pub lines : l.lines.items ≡ lines_told plan told
  pub fronts : have_64_bit_fronts plan told ≡ true

-- it has a place for each worker and for each object, none waits to be started but who the workload says, and the numbers of its lines have 64 bits
pub record IsLedgerOf (plan : Plan) (l : Ledger) : Type 0 where
  pub workers : length l.workers.items ≡ plan.workers
  pub journals : length l.journals.items ≡ object_count plan
  pub dormant : (w : ℕ) (x : WorkerState) → slice_get l.workers.items w ≡ Some x → x.waits ≡ true → is_dormant plan w ≡ true
  pub numbers : list_all is_in_64_bits l.lines.items ≡ true

-- each call among the acts is answered as the one-thread objects answer it where it is made
abbrev pub AreRight : Plan → List ToldAct → Type 0
AreRight plan told = AreAnswered (contents_of plan) (acts_in told)

-- where the old ledger is that of some acts, the new one is that of these too
pub record Adds (plan : Plan) (more : List ToldAct → List ToldAct) (old new : Ledger) : Type 0 where
  pub stays : IsLedgerOf plan old → IsLedgerOf plan new
  pub kept : (told : List ToldAct) → IsKept plan told old → AreRight plan (more told) → IsKept plan (more told) new

-- some acts, and behind them what a worker makes, which is of this call
abbrev pub adding : Option ℕ → (worker : ℕ) → List Made → List ToldAct → List ToldAct
adding index worker made told = told ++ told_as index (acts_by worker made)

-- ---- one item

-- what a worker knows
abbrev pub known_in : Ledger → ℕ → List ℕ
known_in l worker = option_map_or (λ (x : WorkerState). x.front) (slice_get l.workers.items worker) []

-- whether it waits still to be started
abbrev pub waits_in : Ledger → ℕ → Bool
waits_in l worker = option_map_or (λ (x : WorkerState). x.waits) (slice_get l.workers.items worker) false

-- the line of an item of which this is said
abbrev pub line_by : ℕ → Option ℕ → List ℕ → Option Said → List ItemLine
line_by worker index front said = option_to_list (option_map (λ (said : Said). record { worker = worker; index = index; front = front; said = said }) said)

-- a worker makes an item, behind which it knows this; its line has the front
pub record IsNoted (worker : ℕ) (index : Option ℕ) (knows front : List ℕ) (said : Option Said) (old new : Ledger) : Type 0 where
  pub workers : new.workers.items ≡ set old.workers.items worker (record { front = knows; waits = false })
  pub journals : new.journals.items ≡ old.journals.items
  pub history : new.history ≡ old.history
  pub maps : new.maps.items ≡ old.maps.items
  pub lines : new.lines.items ≡ old.lines.items ++ line_by worker index front said

-- a worker makes a call that is placed now. The numbers of its front have 64 bits
pub record IsPlaced (worker : ℕ) (index : Option ℕ) (enters : Bool) (said : Option Said) (old new : Ledger) : Type 0 where
  pub workers : new.workers.items ≡ set old.workers.items worker (record { front = counted worker (known_in old worker); waits = false })
  pub journals : new.journals.items ≡ old.journals.items
  pub history : new.history ≡ cond enters (old.history + 1) old.history
  pub lines : new.lines.items ≡ old.lines.items ++ line_by worker index (known_in old worker) said
  pub front : list_all has_64_bits (known_in old worker) ≡ true

-- what is kept of an object's journal: how many entries it has, and what was released there
abbrev pub number_in : Ledger → ℕ → ℕ
number_in l object = option_map_or (λ (x : JournalState). x.entries) (slice_get l.journals.items object) 0

abbrev pub released_in : Ledger → ℕ → List ℕ
released_in l object = option_map_or (λ (x : JournalState). x.released) (slice_get l.journals.items object) []

-- what a worker knows behind an entry
abbrev pub learnt_in : Ledger → (worker object : ℕ) → Deed ObjectEvent ObjectReply → List ℕ
learnt_in l worker object deed = learnt deed (released_in l object) (known_in l worker)

-- a worker makes an entry of the journal of an object. The numbers of its front have 64 bits, and so have those of what is said of it
pub record IsEntered (worker : ℕ) (index : Option ℕ) (object : ℕ) (deed : Deed ObjectEvent ObjectReply) (old new : Ledger) : Type 0 where
  pub workers : new.workers.items ≡ set old.workers.items worker (record { front = learnt_in old worker object deed; waits = false })
  pub journals : new.journals.items ≡ set old.journals.items object (record { entries = number_in old object + 1; released = given deed (learnt_in old worker object deed) (released_in old object) })
  pub history : new.history ≡ old.history
  pub maps : new.maps.items ≡ old.maps.items
  pub lines : new.lines.items ≡ old.lines.items ++ line_by worker index (learnt_in old worker object deed) (entry_said object (number_in old object) deed)
  pub front : list_all has_64_bits (learnt_in old worker object deed) ≡ true
  pub said : IfSome (entry_said object (number_in old object) deed) (λ said. has_numbers said ≡ true)
