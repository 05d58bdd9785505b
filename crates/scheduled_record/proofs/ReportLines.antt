-- The report of a run, line by line.
use Rattle.std.proofs.Common.{◌≡◌, ℕ, ◌+◌, ◌<◌, ◌≤◌, true, false, List, [], ◌∷◌, ◌++◌, length, get_or, drop, refl, sym, ap, ◌∙◌, add-one, inl, inr}
use Rattle.std.proofs.Math.Dec.{ltb}
use Rattle.std.proofs.Math.Seq.{drop-cons}
use Rattle.std.proofs.lemmas.Bool.{cases_lt, eqb-true, false≢true, lt-ltb, ltb-true}
use Rattle.script_calls.specs.Runs.{passed_over}
use Rattle.script_calls.specs.declared.call.Call.{Call}
use Rattle.script_calls.specs.declared.call.Reply.{Reply}
use Rattle.workload.specs.Plan.{Plan, is_valid}
use Rattle.workload_text.specs.ReportLines.{completed_line}
use Rattle.run_report.specs.ReportText.{calls_text, workers_text}
use Rattle.scheduled_record.proofs.Gaining.{and_true, item_next}

-- what is left behind so many calls that are passed over
abbrev pub GoesOver : Type 0
GoesOver = (script : List Call) (place passes : ℕ) → drop passes (drop (place + 1) script) ≡ drop (place + 1 + passes) script

-- one more call: its line, and those from the next place on
pub calls_next : (plan : Plan) (worker place i : ℕ) (script : List Call) (replies : List (Reply ℕ)) (call : Call) (reply : Reply ℕ) (after : ℕ) → GoesOver
    → ltb place (length script) ≡ true → call ≡ get_or script place call → i < length replies → reply ≡ get_or replies i reply → after ≡ place + 1 + passed_over call reply
    → calls_text plan worker place (drop place script) (drop i replies) ≡ completed_line plan worker place call reply ++ calls_text plan worker after (drop after script) (drop (i + 1) replies)
calls_next plan worker place i script replies call reply after over some call_is below reply_is is =
    let line : List ℕ = completed_line plan worker place call reply in
    let passes : ℕ = passed_over call reply in
    ap (λ (cs : List Call). calls_text plan worker place cs (drop i replies)) (item_next script place call (ltb-true place (length script) some) call_is)
    ∙ ap (λ (rs : List (Reply ℕ)). calls_text plan worker place (call ∷ drop (place + 1) script) rs) (item_next replies i reply below reply_is)
    ∙ ap (λ (cs : List Call). line ++ calls_text plan worker (place + 1 + passes) cs (drop (i + 1) replies)) (over script place passes)
    ∙ ap (λ (n : ℕ). line ++ calls_text plan worker n (drop n script) (drop (i + 1) replies)) (sym is)

-- one more worker
pub workers_next : (plan : Plan) (i : ℕ) (replies : List (List (Reply ℕ))) (completed : List (Reply ℕ))
    → i < length plan.scripts → ltb i (length replies) ≡ true → completed ≡ get_or replies i completed
    → workers_text plan i (drop i plan.scripts) (drop i replies) ≡ calls_text plan i 0 (get_or plan.scripts i []) completed ++ workers_text plan (i + 1) (drop (i + 1) plan.scripts) (drop (i + 1) replies)
workers_next plan i replies completed below some same =
    ap (λ (ss : List (List Call)). workers_text plan i ss (drop i replies)) (drop-cons plan.scripts i [] below ∙ ap (λ n. get_or plan.scripts i [] ∷ drop n plan.scripts) (sym (add-one i)))
    ∙ ap (λ (rs : List (List (Reply ℕ))). workers_text plan i (get_or plan.scripts i [] ∷ drop (i + 1) plan.scripts) rs) (item_next replies i completed (ltb-true i (length replies) some) same)

-- no worker is left
pub workers_none : (plan : Plan) (worker : ℕ) (scripts : List (List Call)) (replies : List (List (Reply ℕ))) → replies ≡ [] → workers_text plan worker scripts replies ≡ []
workers_none plan worker scripts replies e = ap (workers_text plan worker scripts) e ∙ none scripts
  where
    none : (ss : List (List Call)) → workers_text plan worker ss [] ≡ []
    none [] = refl
    none (s ∷ ss) = refl

-- an index that isn't below
pub not_below : (i n : ℕ) → ltb i n ≡ false → n ≤ i
not_below i n e =
    elim (cases_lt i n) [
      | inl lt ↦ absurd (false≢true (sym e ∙ lt-ltb i n lt))
      | inr le ↦ le
    ]

-- there is a script for each worker
pub scripts_are : (plan : Plan) → is_valid plan ≡ true → length plan.scripts ≡ plan.workers
scripts_are plan e = eqb-true (length plan.scripts) plan.workers (and_true _ _ e).0
