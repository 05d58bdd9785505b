-- The text of a record that explains the outcome of its run.
use Rattle.std.specs.Prelude.{◌≡◌, ℕ, List, map, length, Some, slice_get}
use Rattle.workload.specs.Readable.{IsReadable}
use Rattle.run_record.specs.declared.made.Made.{Made}
use Rattle.run_record.specs.declared.made.Made.TheVariants.{Shared, Entered}
use Rattle.run_record.specs.Record.{ObjectEntry, Record}
use Rattle.record_text.specs.Told.{IsTold, Told, items_of, joined}
use Rattle.record_clauses.specs.declared.clause.Verdict.{Verdict}
use Rattle.record_clauses.specs.declared.clause.Verdict.TheVariants.{Yes}
use Rattle.record_clauses.specs.Account.{Claim, ToldItem}
use Rattle.record_clauses.specs.Verdicts as claims
use Rattle.run_check.specs.Items.{line_of}
use Rattle.run_check.specs.Tells.{ComesTo}

-- The lines of each worker in the text are those in which the items of its list are written, in their order, and the text names the workload, the end of the run and its report. Lines of several workers may stand in any order
pub record AreLinesOf (told : Told) (claim : Claim) : Type 0 where
  pub plan : claim.plan ≡ told.plan
  pub misused : claim.misused ≡ told.misused
  pub workers : length claim.lists ≡ told.plan.workers
  pub written : (worker : ℕ) (list : List ToldItem) → slice_get claim.lists worker ≡ Some list → map (line_of worker) list ≡ map Some (items_of told.items worker)
  pub report : claim.report ≡ joined told.report

-- the bytes are the text of a record, of a readable workload, and what they tell comes to this verdict
abbrev pub HasVerdict : List ℕ → Verdict → Type 0
HasVerdict bytes verdict = (told : Told) × IsTold bytes told × IsReadable told.plan × ComesTo told verdict

-- the bytes are the text of a record that explains a run: they have the lines, the end and the report of some claim, and all clauses hold of the claim
abbrev pub IsExplainingText : List ℕ → Type 0
IsExplainingText bytes = (told : Told) × IsTold bytes told × ((claim : Claim) × AreLinesOf told claim × claims.ComesTo claim Yes)

-- an entry of a journal without what its line leaves out: what its worker had seen of the journal, and its number among all events
abbrev pub plain_entry : ObjectEntry → ObjectEntry
plain_entry entry = record { caller = entry.caller; deed = entry.deed; front = entry.front; knew = 0; time = 0 }

abbrev pub plain_made : Made → Made
plain_made (Shared x) = Shared x
plain_made (Entered object entry) = Entered object (plain_entry entry)

-- a record of such entries
abbrev pub plain_record : Record → Record
plain_record r = record { history = r.history; journals = map (map plain_entry) r.journals; lists = map (map plain_made) r.lists }
