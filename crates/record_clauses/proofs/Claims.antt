-- The claim and the account of a record that explains an outcome.
use Rattle.std.proofs.Common.{◌≡◌, ℕ, zero, suc, ◌+◌, List, [], ◌∷◌, map, length, get_or, Option, None, Some, slice_get, refl, sym, ap, ◌∙◌, subst, arith, append-nil}
use Rattle.std.proofs.lemmas.Option.{none-some, same_Some}
use Rattle.script_calls.specs.declared.outcome.Outcome.{Outcome}
use Rattle.script_calls.specs.declared.outcome.Outcome.TheVariants.{Done, Misused, Deadlocked}
use Rattle.script_calls.specs.Outcome.{left_by}
use Rattle.sync_types.specs.declared.misuse.Misuse.{Misuse}
use Rattle.workload.specs.Plan.{Plan}
use Rattle.run_record.specs.declared.made.Made.{Made}
use Rattle.run_record.specs.Explains.{AreLines, IsRecordOf, Agrees, Explains}
use Rattle.run_record.specs.Lines.{Line, items_of}
use Rattle.run_record.specs.Record.{Record, ObjectEntry, journal_of, entries_in}
use Rattle.run_report.specs.ReportText.{report_text}
use Rattle.record_clauses.specs.declared.clause.Clause.{Clause}
use Rattle.record_clauses.specs.Account.{ToldItem, Claim, Account, made_in, record_of, outcome_by, outcome_of}
use Rattle.record_clauses.specs.Clauses.{TellsCalls, TellsNumbers, Holds}
use Rattle.record_clauses.specs.Journals.{numbered_by}
use Rattle.run_cuts.specs.CallsAlong.{calls_along}
use Rattle.record_clauses.specs.Lists.{without_halts, before_halts, calls_told, numbered_in}
use Rattle.record_clauses.proofs.Explaining.{LawIsItsParts, EdgesAreKept, HaltsComeLast, all_hold}
use Rattle.record_clauses.proofs.HaltsAside.{calm_part, same_items, cut_at}
use Rattle.record_clauses.proofs.Telling.{tell, made_told, numbers_told, calls_are_told, halts_told, calls_along_length}
use Rattle.record_clauses.proofs.ToldLists.{entries_of, in_journal}

-- by which misuse a run ended that came to this
abbrev misused_by : Outcome → Option Misuse
misused_by (Done left) = None
misused_by (Misused left misuse) = Some misuse
misused_by (Deadlocked left) = None

same_outcome : (plan : Plan) (r : Record) (lines : List Line) (outcome : Outcome) → Agrees plan r lines outcome → outcome_by (misused_by outcome) (left_by outcome) ≡ outcome
same_outcome plan r lines (Done left) agrees = refl
same_outcome plan r lines (Misused left misuse) agrees = refl
same_outcome plan r lines (Deadlocked left) agrees = absurd agrees

module _ (plan : Plan) (r : Record) where
  -- the list of a worker, told
  abbrev told_line : ℕ → Line → List ToldItem
  told_line worker line = tell (calls_along line) (λ object. numbered_by worker (journal_of r object)) (items_of line)

  -- those of all workers from one on
  abbrev told_from : ℕ → List Line → List (List ToldItem)
  told_from worker [] = []
  told_from worker (line ∷ lines) = told_line worker line ∷ told_from (worker + 1) lines

  all_made : (worker : ℕ) (lines : List Line) → map made_in (told_from worker lines) ≡ map items_of lines
  all_made worker [] = refl
  all_made worker (line ∷ lines) =
      ap (λ (l : List Made). l ∷ map made_in (told_from (worker + 1) lines)) (made_told (calls_along line) (λ object. numbered_by worker (journal_of r object)) (items_of line))
      ∙ ap (λ (ls : List (List Made)). items_of line ∷ ls) (all_made (worker + 1) lines)

  told_at : (from worker : ℕ) (lines : List Line) (list : List ToldItem) → slice_get (told_from from lines) worker ≡ Some list → (line : Line) × (slice_get lines worker ≡ Some line) × (list ≡ told_line (from + worker) line)
  told_at from worker [] list at = absurd (none-some list at)
  told_at from zero (line ∷ lines) list at = (line, refl, sym (same_Some (told_line from line) list at) ∙ ap (λ n. told_line n line) (omega arith))
  told_at from (suc worker) (line ∷ lines) list at =
      let later = told_at (from + 1) worker lines list at in
      (later.0, later.1, later.2 ∙ ap (λ n. told_line n later.0) (omega arith))

  -- a worker's list, or none
  some_list : (lists : List (List ToldItem)) (worker : ℕ) (P : List ToldItem → Type 0) → ((list : List ToldItem) → slice_get lists worker ≡ Some list → P list) → (slice_get lists worker ≡ None → P []) → P (get_or lists worker [])
  some_list [] worker P here none = none refl
  some_list (list ∷ lists) zero P here none = here list refl
  some_list (list ∷ lists) (suc worker) P here none = some_list lists worker P here none

  past : (from worker : ℕ) (lines : List Line) → slice_get (told_from from lines) worker ≡ None → get_or (map items_of lines) worker [] ≡ []
  past from worker [] none = refl
  past from zero (line ∷ lines) none = absurd (none-some (told_line from line) (sym none))
  past from (suc worker) (line ∷ lines) none = past (from + 1) worker lines none

  there : (lines : List Line) (worker : ℕ) (line : Line) → slice_get lines worker ≡ Some line → get_or (map items_of lines) worker [] ≡ items_of line
  there [] worker line at = absurd (none-some line at)
  there (x ∷ lines) zero line at = ap items_of (same_Some x line at)
  there (x ∷ lines) (suc worker) line at = there lines worker line at

  no_entries : (pairs : List (ℕ × ObjectEntry)) → entries_of pairs ≡ [] → [] ≡ pairs
  no_entries [] none = refl
  no_entries (pair ∷ pairs) none = let long = ap (λ (l : List ObjectEntry). length l) none in absurd (omega (arith, long))

  module _ (outcome : Outcome) (parts : LawIsItsParts) (kept : EdgesAreKept) (last : HaltsComeLast) (explains : Explains plan outcome r) where
    lines : List Line
    lines = explains.lines

    abbrev claim : Claim
    claim = record { plan = plan; misused = misused_by outcome; lists = told_from 0 explains.lines; report = report_text plan outcome }

    abbrev account : Account
    account = record { history = r.history; journals = r.journals; lines = explains.lines; left = left_by outcome }

    same_record : record_of claim account ≡ r
    same_record = ap (λ (lists : List (List Made)). let s : Record = record { history = r.history; journals = r.journals; lists = lists } in s) (all_made 0 explains.lines ∙ explains.are.lists)

    same : outcome_of claim account ≡ outcome
    same = same_outcome plan r explains.lines outcome explains.agrees

    long : (worker : ℕ) (line : Line) → slice_get explains.lines worker ≡ Some line → length (calls_along line) ≡ length (without_halts (items_of line))
    long worker line at =
        let is = explains.are.each worker line at in
        calls_along_length line ∙ ap (λ (l : List Made). length l) (sym (calm_alone line) ∙ same_items line (last plan worker line is) is.halts) where
          calm_alone : (line : Line) → items_of (before_halts line) ≡ calm_part line
          calm_alone line = cut_at line [] ∙ append-nil (calm_part line)

    calls : TellsCalls claim account
    calls = record {
      calls = λ worker list line at_list at_line.
          let told = told_at 0 worker explains.lines list at_list in
          let one : told.0 ≡ line = same_Some told.0 line (sym told.1 ∙ at_line) in
          ap (λ (l : List ToldItem). calls_told l) told.2 ∙ calls_are_told (calls_along told.0) (λ object. numbered_by (0 + worker) (journal_of r object)) (items_of told.0) (long worker told.0 told.1) ∙ ap calls_along one;
      halts = λ worker i list x at_list at_x is.
          let told = told_at 0 worker explains.lines list at_list in
          halts_told (calls_along told.0) (λ object. numbered_by (0 + worker) (journal_of r object)) (items_of told.0) i x (subst (λ (l : List ToldItem). slice_get l i ≡ Some x) told.2 at_x) is;
    }

    own : (worker object : ℕ) → entries_of (numbered_by worker (journal_of r object)) ≡ entries_in object (get_or (map items_of explains.lines) worker [])
    own worker object = in_journal 0 worker (journal_of r object) ∙ sym (explains.lawful.once worker object) ∙ ap (λ (lists : List (List Made)). entries_in object (get_or lists worker [])) (sym explains.are.lists)

    numbers : TellsNumbers claim account
    numbers worker object = some_list (told_from 0 explains.lines) worker (λ list. numbered_in object list ≡ numbered_by worker (journal_of r object)) here none where
      here : (list : List ToldItem) → slice_get (told_from 0 explains.lines) worker ≡ Some list → numbered_in object list ≡ numbered_by worker (journal_of r object)
      here list at =
          let told = told_at 0 worker explains.lines list at in
          let mine : list ≡ told_line worker told.0 = told.2 ∙ ap (λ n. told_line n told.0) (omega arith) in
          ap (λ (l : List ToldItem). numbered_in object l) mine
          ∙ numbers_told (calls_along told.0) (λ o. numbered_by worker (journal_of r o)) (items_of told.0) (λ o. own worker o ∙ ap (λ (l : List Made). entries_in o l) (there explains.lines worker told.0 told.1)) object

      none : slice_get (told_from 0 explains.lines) worker ≡ None → [] ≡ numbered_by worker (journal_of r object)
      none gone = no_entries (numbered_by worker (journal_of r object)) (own worker object ∙ ap (λ (l : List Made). entries_in object l) (past 0 worker explains.lines gone))

    -- a record that explains the outcome, of which the same lines are
    again : (s : Record) (other : Outcome) → r ≡ s → outcome ≡ other → (e : Explains plan other s) × (e.lines ≡ explains.lines)
    again s other is_record is_outcome = (record { lines = explains.lines; are = are; lawful = subst (λ (t : Record). IsRecordOf plan t) is_record explains.lawful; agrees = agrees }, refl) where
      are : AreLines plan s other explains.lines
      are = subst (λ (t : Record). AreLines plan t other explains.lines) is_record (subst (λ (o : Outcome). AreLines plan r o explains.lines) is_outcome explains.are)

      agrees : Agrees plan s explains.lines other
      agrees = subst (λ (t : Record). Agrees plan t explains.lines other) is_record (subst (λ (o : Outcome). Agrees plan r explains.lines o) is_outcome explains.agrees)

    holds : (clause : Clause) → Holds claim account clause
    holds = let e = again (record_of claim account) (outcome_of claim account) (sym same_record) (sym same) in
        all_hold claim account parts kept last e.0 e.1 calls numbers (ap (λ (o : Outcome). report_text plan o) (sym same))

    pub can_be_told : (c : Claim) × (a : Account) × (c.plan ≡ plan) × (record_of c a ≡ r) × (outcome_of c a ≡ outcome) × ((clause : Clause) → Holds c a clause)
    can_be_told = (claim, account, refl, same_record, same, holds)
