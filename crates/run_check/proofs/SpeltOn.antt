-- What is spelt of a claim is on objects that are there; and what a claim that a text tells comes to is of the text.
use Rattle.std.proofs.Common.{◌≡◌, ℕ, zero, suc, Bool, true, false, cond, List, [], ◌∷◌, map, get_or, slice_get, Option, Some, refl, sym, ap, ◌∙◌, subst}
use Rattle.script_calls.specs.declared.outcome.Report.{Report}
use Rattle.sync_model.specs.declared.item.Item.{Item}
use Rattle.sync_types.specs.declared.misuse.Misuse.{Misuse}
use Rattle.workload.specs.Plan.{Plan}
use Rattle.workload.specs.Readable.{IsReadable}
use Rattle.run_record.specs.declared.made.Made.{Made}
use Rattle.run_record.specs.declared.made.Made.TheVariants.{Shared, Entered}
use Rattle.run_record.specs.Explains.{Explains}
use Rattle.run_record.specs.Lines.{Line, items_of}
use Rattle.run_record.specs.Objects.{contents_of}
use Rattle.run_record.specs.Record.{Record, calls_of, shared_in}
use Rattle.run_report.specs.ReportText.{report_text}
use Rattle.shared_checks.specs.Placing.{AreOn}
use Rattle.record_text.specs.Told.{Told, joined}
use Rattle.record_clauses.specs.Account.{Account, Claim, made_in, outcome_by, record_of}
use Rattle.record_clauses.specs.Clauses.{IsSpelt}
use Rattle.record_clauses.specs.Lists.{before_halts, halts, without_halts}
use Rattle.run_check.specs.Tells.{Tells}
use Rattle.run_check.proofs.OnObjects.{spelt_is_on}

-- no call on a map or an atomic is a halt
shared_left : (list : List Made) → shared_in (without_halts list) ≡ shared_in list
shared_left [] = refl
shared_left (Shared x ∷ list) = ap (λ xs. x ∷ xs) (shared_left list)
shared_left (Entered object entry ∷ list) = by (halts entry.deed) (shared_left list) where
  by : (b : Bool) → shared_in (without_halts list) ≡ shared_in list → shared_in (cond b (without_halts list) (Entered object entry ∷ without_halts list)) ≡ shared_in list
  by true rest = rest
  by false rest = rest

-- each list is that of a line
line_at : (lines : List Line) (lists : List (List Made)) (worker i : ℕ) (x : Item) → map items_of lines ≡ map without_halts lists → slice_get (shared_in (get_or lists worker [])) i ≡ Some x
    → (line : Line) × (slice_get lines worker ≡ Some line) × (slice_get (shared_in (items_of line)) i ≡ Some x)
line_at lines [] worker i x same at = absurd cc
line_at [] (list ∷ lists) worker i x same at = absurd cc
line_at (line ∷ lines) (list ∷ lists) zero i x same at =
    let items : items_of line ≡ without_halts list = cc in
    (line, refl, ap (λ xs. slice_get (shared_in xs) i) items ∙ ap (λ xs. slice_get xs i) (shared_left list) ∙ at)
line_at (line ∷ lines) (list ∷ lists) (suc worker) i x same at = line_at lines lists worker i x (let rest : map items_of lines ≡ map without_halts lists = cc in rest) at

pub all_on : (claim : Claim) (account : Account) → IsReadable claim.plan → IsSpelt claim account → AreOn (contents_of claim.plan) (calls_of (record_of claim account))
all_on claim account readable spelt worker i x at =
    let (line, there, at_line) = line_at (map before_halts account.lines) (map made_in claim.lists) worker i x spelt.lines.lists at in
    spelt_is_on claim.plan worker i line x readable (spelt.lines.runs worker line there) (spelt.lines.each worker line there) at_line

pub of_text : (told : Told) (claim : Claim) → Tells told claim
    → (r : Record) × (left : Report) × (r.lists ≡ map made_in claim.lists) × Explains claim.plan (outcome_by claim.misused left) r × (claim.report ≡ report_text claim.plan (outcome_by claim.misused left))
    → (r : Record) × (left : Report) × (r.lists ≡ map made_in claim.lists) × Explains told.plan (outcome_by told.misused left) r × (joined told.report ≡ report_text told.plan (outcome_by told.misused left))
of_text told claim tells (r, left, lists, explains, report) = (
  r,
  left,
  lists,
  subst (λ (p : Plan). Explains p (outcome_by told.misused left) r) tells.plan (subst (λ (m : Option Misuse). Explains claim.plan (outcome_by m left) r) tells.misused explains),
  sym tells.report ∙ report ∙ ap (λ (p : Plan). report_text p (outcome_by claim.misused left)) tells.plan ∙ ap (λ (m : Option Misuse). report_text told.plan (outcome_by m left)) tells.misused,
)
