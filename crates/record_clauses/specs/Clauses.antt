-- The nine clauses of a checker of records, in its order. Each is asked of what is told of a run and of an account of it; all of them are that the record explains the outcome, and that the report is that of the outcome.
use Rattle.std.specs.Prelude.{◌≡◌, ℕ, ◌+◌, ◌<◌, true, List, [], map, length, All, Option, Some, None, slice_get, get_or}
use Rattle.sync_model.specs.Journal.{halt_of, KeepsEdges}
use Rattle.sync_model.specs.SharedHistory.{contents_after}
use Rattle.sync_types.specs.declared.misuse.Misuse.{Misuse}
use Rattle.workload.specs.declared.object.ObjectKind.TheVariants.{Pool}
use Rattle.workload.specs.declared.object.ObjectLine.{ObjectLine}
use Rattle.workload.specs.Plan.{has_dormant}
use Rattle.workload.specs.Puts.{puts_at}
use Rattle.run_record.specs.Calls.{IsJournalOf}
use Rattle.run_record.specs.Edges.{frees, takes}
use Rattle.run_record.specs.Explains.{KeepsFronts, AreLines, HasEnded, IsAtEnd}
use Rattle.run_record.specs.Journals.{IsStops}
use Rattle.run_record.specs.Lines.{Line, items_of, AreHalts}
use Rattle.run_record.specs.Objects.{contents_of, ends_in, first_part, object_count, starts_number}
use Rattle.run_record.specs.PoolKind.{IsPartJournal}
use Rattle.run_record.specs.Record.{Record, stop, object_number, journal_of, calls_of}
use Rattle.run_record.specs.StartsKind.{IsStartsJournal}
use Rattle.run_report.specs.ReportText.{report_text}
use Rattle.shared_checks.specs.Fronts.{LawfulFronts}
use Rattle.shared_checks.specs.Parts.{LawfulHistory, LawfulBegins, LawfulRanges}
use Rattle.record_clauses.specs.declared.clause.Clause.{Clause}
use Rattle.record_clauses.specs.declared.clause.Clause.TheVariants as clauses
use Rattle.record_clauses.specs.Account.{ToldItem, Claim, Account, record_of, outcome_of}
use Rattle.record_clauses.specs.Journals.{numbered_by, without_fronts}
use Rattle.run_cuts.specs.CallsAlong.{calls_along}
use Rattle.record_clauses.specs.Lists.{is_halt, without_halts, before_halts, calls_told, numbered_in}

-- a record whose lists have their halts set aside
abbrev pub halts_aside : Record → Record
halts_aside r = record r { lists = map without_halts r.lists }

module _ (claim : Claim) (account : Account) where
  -- each item is told to be of the call that it is of; a halt is of none
  pub record TellsCalls : Type 0 where
    pub calls : (worker : ℕ) (list : List ToldItem) (line : Line) → slice_get claim.lists worker ≡ Some list → slice_get account.lines worker ≡ Some line → calls_told list ≡ calls_along line
    pub halts : (worker i : ℕ) (list : List ToldItem) (x : ToldItem) → slice_get claim.lists worker ≡ Some list → slice_get list i ≡ Some x → is_halt x.made ≡ true → x.call ≡ None

  -- the entries in a worker's list are its own in the journals, in their order, and each is told its number there
  abbrev pub TellsNumbers : Type 0
  TellsNumbers = (worker object : ℕ) → numbered_in object (get_or claim.lists worker []) ≡ numbered_by worker (journal_of (record_of claim account) object)

  -- `spell`: Each list, its halts set aside, is a line of its worker, and the replies are those of the completed calls
  pub record IsSpelt : Type 0 where
    pub lines : AreLines claim.plan (halts_aside (record_of claim account)) (outcome_of claim account) (map before_halts account.lines)
    pub told : TellsCalls

  -- `legal`: The history is legal, and it is that of the calls on maps and atomics: each is answered as by the objects for one thread at its place
  abbrev pub IsLegallyPlaced : Type 0
  IsLegallyPlaced = LawfulHistory (contents_of claim.plan) account.history (calls_of (record_of claim account))

  -- `front`: Each call lies behind all that its worker knew, and the fronts along each list count the worker's own calls, and never fall
  pub record HasFronts : Type 0 where
    pub calls : LawfulFronts (calls_of (record_of claim account))
    pub items : KeepsFronts (record_of claim account)

  -- `range`: Each step of a cursor follows the call that began the cursor, and shows what the Range law allows
  pub record HasRanges : Type 0 where
    pub begun : LawfulBegins (calls_of (record_of claim account))
    pub shown : LawfulRanges (contents_of claim.plan) account.history (calls_of (record_of claim account))

  -- `machine`: Each journal, its fronts set aside, follows its object's machine from the declared start. The lists have the entries of the journals, each once and with its number
  pub record HasJournals : Type 0 where
    pub objects : length account.journals ≡ object_count claim.plan
    pub stops : IsStops (journal_of (record_of claim account) stop)
    pub each : (place : ℕ) (object : ObjectLine) → slice_get claim.plan.objects place ≡ Some object
        → IsJournalOf claim.plan place object.kind (without_fronts (journal_of (record_of claim account) (object_number place)))
    pub parts : (place part : ℕ) (object : ObjectLine) → slice_get claim.plan.objects place ≡ Some object → object.kind ≡ Pool → part < claim.plan.workers
        → IsPartJournal (puts_at place claim.plan.scripts) (without_fronts (journal_of (record_of claim account) (first_part claim.plan place + part)))
    pub starts : has_dormant claim.plan ≡ true → IsStartsJournal claim.plan.dormant (without_fronts (journal_of (record_of claim account) (starts_number claim.plan)))
    pub told : TellsNumbers

  -- `edge`: In each journal who acquires knows what each earlier entry knew that releases
  abbrev pub HasEdges : Type 0
  HasEdges = (object : ℕ) → KeepsEdges frees takes (journal_of (record_of claim account) object)

  -- `end`: In a run that is done each worker has come to the end of its script, or was never started, and the ends are what the maps and atomics contain after the whole history. Another run has no ends
  abbrev pub HasEnds : Option Misuse → Type 0
  HasEnds None = All (λ line. IsAtEnd line.ending) account.lines × (account.left.ends ≡ ends_in claim.plan (contents_after (contents_of claim.plan) account.history))
  HasEnds (Some misuse) = account.left.ends ≡ []

  -- a run that ended by this misuse: each worker has come to an end, and the misuse is the first that halted Stop
  abbrev pub IsStoppedBy : Option Misuse → Type 0
  IsStoppedBy None = Unit {0}
  IsStoppedBy (Some misuse) = All (λ line. HasEnded line.ending) account.lines × (halt_of (journal_of (record_of claim account) stop) ≡ Some misuse)

  -- `stop`: Halts stand behind a misuse of their worker alone, and are by it; and the run ended by the first that halted Stop, if it isn't done
  pub record HasHalts : Type 0 where
    pub lists : map items_of account.lines ≡ (record_of claim account).lists
    pub halts : (worker : ℕ) (line : Line) → slice_get account.lines worker ≡ Some line → AreHalts line.ending line.halts
    pub stopped : IsStoppedBy claim.misused

  -- `report`: The report is that of the outcome
  abbrev pub HasReport : Type 0
  HasReport = claim.report ≡ report_text claim.plan (outcome_of claim account)

  -- the clause holds of the account
  abbrev pub Holds : Clause → Type 0
  Holds clauses.Spell = IsSpelt
  Holds clauses.Legal = IsLegallyPlaced
  Holds clauses.Front = HasFronts
  Holds clauses.Range = HasRanges
  Holds clauses.Machine = HasJournals
  Holds clauses.Edge = HasEdges
  Holds clauses.End = HasEnds claim.misused
  Holds clauses.Stop = HasHalts
  Holds clauses.Report = HasReport
