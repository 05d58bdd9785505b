-- What is told of a run that is done tells its record: each item its call, and each entry its number.
use Rattle.std.proofs.Common.{◌≡◌, ℕ, zero, suc, ◌+◌, ◌<◌, ◌≤◌, true, false, List, [], ◌∷◌, map, get_or, Some, slice_get, inl, inr, refl, sym, ap, ◌∙◌, arith}
use Rattle.std.specs.List.{range_with_len}
use Rattle.std.specs.Option.{option_map}
use Rattle.std.proofs.lemmas.Bool.Decides.{leb_tells}
use Rattle.std.proofs.lemmas.List.FromFn.{get_or-map-range_with_len}
use Rattle.std.proofs.lemmas.Option.{slice_get-map, get_or_from_slice_get}
use Rattle.script_calls.specs.declared.outcome.Report.{Report}
use Rattle.workload.specs.Plan.{Plan}
use Rattle.run_record.specs.declared.made.Made.{Made}
use Rattle.run_record.specs.Lines.{Line}
use Rattle.run_record.specs.Record.{Record, journal_of, list_of}
use Rattle.record_clauses.specs.Account.{ToldItem, Account, made_in, record_of}
use Rattle.record_clauses.specs.Clauses.{TellsCalls, TellsNumbers}
use Rattle.record_clauses.specs.Journals.{numbered_by}
use Rattle.record_clauses.specs.Lists.{is_halt, calls_told, numbered_in}
use Rattle.run_cuts.specs.CallsAlong.{calls_along}
use Rattle.kept_record.specs.Keeping.{Act, made_by, account_of}
use Rattle.step_runner.specs.Traces.{trace_of}
use Rattle.scheduled_record.specs.RunActs.{run_acts, scheduled_record}
use Rattle.scheduled_record.specs.ToldItems.{ToldAct, told_run}
use Rattle.scheduled_record.specs.ToldItems.{told_of}
use Rattle.scheduled_record.specs.ToldLists.{told_item, told_list, claim_of}
use Rattle.scheduled_record.proofs.Adding.{run_told}
use Rattle.scheduled_record.proofs.RunLines.{row_there}
use Rattle.scheduled_record.proofs.ToldLemmas.{kept_lists}

made_told : (told : List ToldAct) → made_in (map told_item told) ≡ map (λ (t : ToldAct). t.act.made) told
made_told [] = refl
made_told (t ∷ told) = ap (λ (l : List Made). t.act.made ∷ l) (made_told told)

none_told : (told : List ToldAct) → map (λ (t : ToldAct). t.act.made) told ≡ [] → map told_item told ≡ []
none_told [] none = refl
none_told (t ∷ told) none = absurd cc

-- behind the last row
past_rows : {X : Type 0} (f : ℕ → List X) (n first i : ℕ) → n ≤ i → get_or (map f (range_with_len first n)) i [] ≡ []
past_rows f zero first i past = refl
past_rows f (suc n) first zero past = absurd (omega (arith, past))
past_rows f (suc n) first (suc i) past = past_rows f n (first + 1) i (omega (arith, past))

module _ (plan : Plan) where
  abbrev acts : List Act
  acts = (account_of plan (run_acts plan (trace_of plan))).acts

  one_list : (w : ℕ) → made_in (told_list plan w) ≡ made_by w acts
  one_list w = made_told (told_of plan w) ∙ (kept_lists plan w (told_run plan (trace_of plan)) ∙ ap (λ (l : List Act). made_by w (account_of plan l).acts) (run_told plan (trace_of plan)))

  all_lists : (n first : ℕ) → map made_in (map (told_list plan) (range_with_len first n)) ≡ map (λ (w : ℕ). made_by w acts) (range_with_len first n)
  all_lists zero first = refl
  all_lists (suc n) first = λ i. one_list first i ∷ all_lists n (first + 1) i

  -- an account of the run, whose lists are these lines
  abbrev pub run_account : Report → List Line → Account
  run_account left lines = record { history = (scheduled_record plan).history; journals = (scheduled_record plan).journals; lines = lines; left = left }

  pub record_is : (left : Report) (lines : List Line) → record_of (claim_of plan left) (run_account left lines) ≡ scheduled_record plan
  record_is left lines = λ i. record { history = (scheduled_record plan).history; journals = (scheduled_record plan).journals; lists = all_lists plan.workers 0 i }

  module _ (lists : (w : ℕ) → map (λ (t : ToldAct). t.act.made) (told_of plan w) ≡ list_of (scheduled_record plan) w) where
    -- the list of each worker, and none of anybody else
    told_row : (w : ℕ) → get_or (map (told_list plan) (range_with_len 0 plan.workers)) w [] ≡ told_list plan w
    told_row w = elim (leb_tells (suc w) plan.workers) [
      | inl within ↦ get_or-map-range_with_len (told_list plan) 0 plan.workers w w [] within.1 (omega arith)
      | inr past ↦ (
          let most : plan.workers ≤ w = omega (arith, past.1) in
          past_rows (told_list plan) plan.workers 0 w most ∙ sym (none_told (told_of plan w) (lists w ∙ past_rows (λ (n : ℕ). made_by n acts) plan.workers 0 w most))
          )
    ]

    pub numbers_told : (left : Report) (lines : List Line) → ((worker object : ℕ) → numbered_in object (told_list plan worker) ≡ numbered_by worker (journal_of (scheduled_record plan) object)) → TellsNumbers (claim_of plan left) (run_account left lines)
    numbers_told left lines each worker object = ap (numbered_in object) (told_row worker) ∙ each worker object

  -- a list that is told is its worker's
  abbrev pub IsOwn : Report → ℕ → List ToldItem → Type 0
  IsOwn left worker list = (worker < plan.workers) × (told_list plan worker ≡ list) × (list_of (scheduled_record plan) worker ≡ made_in list)

  pub own_list : (left : Report) (worker : ℕ) (list : List ToldItem) → slice_get (claim_of plan left).lists worker ≡ Some list → IsOwn left worker list
  own_list left worker list at =
      let row = row_there (told_list plan) plan.workers 0 worker list at in
      let from : 0 + worker ≡ worker = omega arith in
      let made : slice_get (map made_in (claim_of plan left).lists) worker ≡ Some (made_in list) = slice_get-map made_in (claim_of plan left).lists worker ∙ ap (option_map made_in) at in
      (row.0, ap (told_list plan) (sym from) ∙ row.1, ap (λ (r : Record). list_of r worker) (sym (record_is left [])) ∙ get_or_from_slice_get (map made_in (claim_of plan left).lists) worker (made_in list) [] made)

  pub calls_are : (left : Report) (lines : List Line)
      → ((worker : ℕ) (list : List ToldItem) (line : Line) → IsOwn left worker list → slice_get lines worker ≡ Some line → calls_told list ≡ calls_along line)
      → ((worker place : ℕ) (x : Made) → slice_get (list_of (scheduled_record plan) worker) place ≡ Some x → is_halt x ≡ false)
      → TellsCalls (claim_of plan left) (run_account left lines)
  calls_are left lines each none = record {
    calls = λ worker list line at at_line. each worker list line (own_list left worker list at) at_line;
    halts = λ worker i list x at at_x is.
        (let own = own_list left worker list at in
        let there : slice_get (list_of (scheduled_record plan) worker) i ≡ Some x.made = ap (λ (l : List Made). slice_get l i) own.2 ∙ (slice_get-map (λ (y : ToldItem). y.made) list i ∙ ap (option_map (λ (y : ToldItem). y.made)) at_x) in
        let clash : true ≡ false = sym is ∙ none worker i x.made there in absurd cc);
  }
