-- The stage `report`: where the clauses up to `stop` hold, the outcome is the one that was found, and so is the report.
use Rattle.std.proofs.Common.{◌≡◌, ◌↔◌, ℕ, ◌<◌, ◌≤◌, true, List, [], map, length, get_or, Option, Some, None, slice_get, sym, ap, ◌∙◌, subst, arith}
use Rattle.std.specs.Option.{option_map}
use Rattle.std.proofs.lemmas.Option.{get_or_from_slice_get, same_Some, slice_get-map}
use Rattle.script_calls.specs.declared.call.Reply.{Reply}
use Rattle.script_calls.specs.declared.outcome.Outcome.{Outcome}
use Rattle.script_calls.specs.declared.outcome.Report.{Report}
use Rattle.script_calls.specs.Outcome.{shows_to}
use Rattle.sync_types.specs.declared.end.End.{End}
use Rattle.sync_types.specs.declared.misuse.Misuse.{Misuse}
use Rattle.sync_model.specs.declared.item.Item.{Item}
use Rattle.sync_model.specs.declared.item.SharedCall.{SharedCall}
use Rattle.sync_model.specs.declared.item.SharedEntry.{SharedEntry}
use Rattle.sync_model.specs.EndsOfHistory.{HasKeysBelow}
use Rattle.sync_model.specs.SharedHistory.{Contents, contents_after, entry_of, value_at}
use Rattle.workload.specs.Draft.{all_keys, distinct_count}
use Rattle.workload.specs.declared.limits.TheConstants.{MAX_KEYS}
use Rattle.workload.specs.Keys.{keys_in}
use Rattle.workload.specs.Plan.{Plan}
use Rattle.workload.specs.Readable.{IsReadable}
use Rattle.run_record.specs.declared.made.Made.{Made}
use Rattle.run_record.specs.Explains.{AreLines, Explains, IsRecordOf, Agrees}
use Rattle.run_record.specs.Lines.{IsLineOf, Line, items_of}
use Rattle.run_record.specs.Objects.{contents_of}
use Rattle.run_record.specs.Record.{Record, calls_of, shared_in}
use Rattle.run_report.specs.ReportText.{report_text}
use Rattle.shared_checks.specs.Calls.{calls_in}
use Rattle.shared_checks.specs.Parts.{LawfulHistory, LawfulRanges}
use Rattle.shared_checks.specs.Placing.{IsOn}
use Rattle.list_checks.specs.declared.spell.line.SpeltLine.{SpeltLine}
use Rattle.record_text.specs.Told.{Told, joined}
use Rattle.record_clauses.specs.Account.{Account, Claim, outcome_by, outcome_of, record_of}
use Rattle.record_clauses.specs.Clauses.{HasEdges, HasEnds, HasFronts, HasHalts, HasJournals, HasRanges, Holds, IsLegallyPlaced, IsSpelt, IsStoppedBy, TellsCalls, TellsNumbers}
use Rattle.record_clauses.specs.declared.clause.Clause.{Clause}
use Rattle.record_clauses.specs.declared.clause.Clause.TheVariants as clauses
use Rattle.record_clauses.specs.PairOrder.{RepliesApart, ShowKeys}
use Rattle.record_clauses.specs.Verdicts as claims
use Rattle.run_check.specs.declared.spelling.Spelling.{Spelling}
use Rattle.run_check.specs.Found.{IsStoppedOf, ends_after, found_outcome}
use Rattle.run_check.specs.Tells.{Tells}
use Rattle.run_check.proofs.EndStage.{scripts}
use Rattle.run_check.proofs.FoundLines.{HaveOneOrder, replies_found}
use Rattle.run_check.proofs.Parts.{left_behind}
use Rattle.run_check.proofs.SpellNothing.{IsBlind}
use Rattle.run_check.proofs.SpeltOn.{all_on}
use Rattle.run_check.proofs.StopStage.{both_ended}

-- what is used of the crates below
pub record Laws : Type 0 where
  pub blind : IsBlind
  pub order : HaveOneOrder
  pub apart : (plan : Plan) (worker : ℕ) (history : List SharedEntry) (calls : ℕ → List Item) (line : Line) → LawfulRanges (contents_of plan) history calls → ShowKeys (keys_in plan.scripts) (calls worker)
      → calls worker ≡ shared_in (items_of line) → IsLineOf plan worker line → RepliesApart (keys_in plan.scripts) line.spelt
  pub shows : (told : Told) (claim : Claim) (account : Account) (worker : ℕ) → Tells told claim → IsLegallyPlaced claim account → HasRanges claim account → ShowKeys (keys_in claim.plan.scripts) (calls_of (record_of claim account) worker)
  pub lawful : (claim : Claim) (account : Account)
      → (IsLegallyPlaced claim account × HasFronts claim account × HasRanges claim account × HasJournals claim account × HasEdges claim account ↔ IsRecordOf claim.plan (record_of claim account) × TellsNumbers claim account)
  pub lines : (claim : Claim) (account : Account) → (IsSpelt claim account × HasHalts claim account ↔ AreLines claim.plan (record_of claim account) (outcome_of claim account) account.lines × TellsCalls claim account × IsStoppedBy claim account claim.misused)
  pub agrees : (claim : Claim) (account : Account) → (HasEnds claim account claim.misused × IsStoppedBy claim account claim.misused ↔ Agrees claim.plan (record_of claim account) account.lines (outcome_of claim account))
  pub one_history : (start other : Contents) (first second : List SharedEntry) (calls : ℕ → List Item) → LawfulHistory start first calls → LawfulHistory other second calls → first ≡ second
  pub few_pairs : (plan : Plan) (r : Record) (outcome : Outcome) (most : ℕ) → Explains plan outcome r → length (keys_in plan.scripts) ≤ most → shows_to most outcome ≡ true
  pub own_keys : (plan : Plan) (r : Record) (outcome : Outcome) (m key value : ℕ) → Explains plan outcome r → value_at (contents_after (contents_of plan) r.history) m key ≡ Some value → key < length (keys_in plan.scripts)
  pub count : (scripts : _) → length (keys_in scripts) ≡ distinct_count (all_keys scripts)

abbrev UpToStop : Claim → Account → Type 0
UpToStop claim account = (clause : Clause) → claims.place_of clause ≤ claims.place_of clauses.Stop → Holds claim account clause

module _ (laws : Laws) (told : Told) (found : Spelling) (marked : List (List Item)) (history : List SharedEntry) (claim : Claim) (is : IsStoppedOf told found marked history claim) where
  -- what was found that the run left behind
  abbrev left_found : Report
  left_found = record { replies = map (λ (line : SpeltLine). line.replies) found.lines; ends = ends_after told.plan history told.misused }

  abbrev outcome_is : Outcome
  outcome_is = found_outcome told.plan told.misused found.lines history

  module _ (account : Account) (holds : UpToStop claim account) where
    spelt : IsSpelt claim account
    spelt = holds clauses.Spell (omega arith)

    legal : IsLegallyPlaced claim account
    legal = holds clauses.Legal (omega arith)

    halts : HasHalts claim account
    halts = holds clauses.Stop (omega arith)

    ends : HasEnds claim account claim.misused
    ends = holds clauses.End (omega arith)

    explained : Explains claim.plan (outcome_of claim account) (record_of claim account)
    explained = record {
      lines = account.lines;
      are = ((laws.lines claim account).0 (spelt, halts)).0;
      lawful = ((laws.lawful claim account).0 (legal, holds clauses.Front (omega arith), holds clauses.Range (omega arith), holds clauses.Machine (omega arith), holds clauses.Edge (omega arith))).0;
      agrees = (laws.agrees claim account).0 (ends, halts.stopped);
    }

    are_lines : AreLines claim.plan (record_of claim account) (outcome_of claim account) account.lines
    are_lines = ((laws.lines claim account).0 (spelt, halts)).0

    -- no range shows two keys of one name
    are_apart : (worker : ℕ) (line : Line) → slice_get account.lines worker ≡ Some line → RepliesApart (keys_in told.plan.scripts) line.spelt
    are_apart worker line at =
        let there : slice_get (map items_of account.lines) worker ≡ Some (items_of line) = slice_get-map items_of account.lines worker ∙ ap (λ (o : Option Line). option_map items_of o) at in
        let list : get_or (record_of claim account).lists worker [] ≡ items_of line =
        ap (λ (lists : List (List Made)). get_or lists worker []) (sym are_lines.lists) ∙ get_or_from_slice_get (map items_of account.lines) worker (items_of line) [] there in
        subst (λ (p : Plan). RepliesApart (keys_in p.scripts) line.spelt) is.is.tells.plan
        (laws.apart claim.plan worker account.history (calls_of (record_of claim account)) line (holds clauses.Range (omega arith)).shown
        (laws.shows told claim account worker is.is.tells legal (holds clauses.Range (omega arith))) (ap shared_in list) (are_lines.each worker line at))

    replies_are : account.left.replies ≡ map (λ (line : SpeltLine). line.replies) found.lines
    replies_are = sym (left_behind claim.misused account.left) ∙ sym are_lines.replies
        ∙ replies_found laws.blind told found is.is.spelt claim is.is.tells account spelt (scripts laws.blind told found claim is.is) (both_ended claim account claim.misused ends halts.stopped) laws.order are_apart

    calls_are : calls_of (record_of claim account) ≡ calls_in marked
    calls_are = λ i worker. is.calls account worker i

    history_is : account.history ≡ history
    history_is = laws.one_history (contents_of claim.plan) (contents_of told.plan) account.history history (calls_of (record_of claim account)) legal
        (subst (λ (calls : ℕ → List Item). LawfulHistory (contents_of told.plan) history calls) (sym calls_are) is.legal)

    ends_by : (by : Option Misuse) → HasEnds claim account by → account.left.ends ≡ ends_after claim.plan account.history by
    ends_by None has = has.1
    ends_by (Some misuse) has = has

    ends_are : account.left.ends ≡ ends_after told.plan history told.misused
    ends_are = ends_by claim.misused ends ∙ ap (λ (p : Plan). ends_after p account.history claim.misused) is.is.tells.plan
        ∙ ap (λ (entries : List SharedEntry). ends_after told.plan entries claim.misused) history_is ∙ ap (λ (m : Option Misuse). ends_after told.plan history m) is.is.tells.misused

    left_is : account.left ≡ left_found
    left_is = ap (λ (replies : List (List (Reply ℕ))). let left : Report = record { replies = replies; ends = account.left.ends } in left) replies_are
        ∙ ap (λ (ends : List End). let left : Report = record { replies = map (λ (line : SpeltLine). line.replies) found.lines; ends = ends } in left) ends_are

    outcome_found : outcome_of claim account ≡ outcome_is
    outcome_found = ap (λ (m : Option Misuse). outcome_by m account.left) is.is.tells.misused ∙ ap (λ (left : Report). outcome_by told.misused left) left_is

    few_keys : length (keys_in claim.plan.scripts) ≤ MAX_KEYS
    few_keys = subst (λ (p : Plan). length (keys_in p.scripts) ≤ MAX_KEYS) (sym is.is.tells.plan) (subst (λ (n : ℕ). n ≤ MAX_KEYS) (sym (laws.count told.plan.scripts)) is.is.readable.key_room)

    shows_few : shows_to MAX_KEYS outcome_is ≡ true
    shows_few = ap (λ (o : Outcome). shows_to MAX_KEYS o) (sym outcome_found) ∙ laws.few_pairs claim.plan (record_of claim account) (outcome_of claim account) MAX_KEYS explained few_keys

    keys_below : HasKeysBelow (length (keys_in told.plan.scripts)) (contents_after (contents_of told.plan) history)
    keys_below = subst (λ (p : Plan). HasKeysBelow (length (keys_in p.scripts)) (contents_after (contents_of p) history)) is.is.tells.plan
        (subst (λ (entries : List SharedEntry). HasKeysBelow (length (keys_in claim.plan.scripts)) (contents_after (contents_of claim.plan) entries)) history_is
        (λ m key value has. laws.own_keys claim.plan (record_of claim account) (outcome_of claim account) m key value explained has))

    entries_on : (n : ℕ) (entry : SharedEntry) → slice_get history n ≡ Some entry → IsOn (contents_of told.plan) entry.call
    entries_on n entry at =
        let (j, x, there, entered, place) = is.legal.entries.called n entry at in
        let mine : Some (entry_of entry.caller x) ≡ Some entry = sym (is.legal.entries.entered entry.caller j x there entered) ∙ ap (λ (k : ℕ). slice_get history k) place ∙ at in
        let here : slice_get (calls_of (record_of claim account) entry.caller) j ≡ Some x = ap (λ (items : List Item). slice_get items j) (is.calls account entry.caller) ∙ there in
        let on = all_on claim account (subst (λ (p : Plan). IsReadable p) (sym is.is.tells.plan) is.is.readable) spelt entry.caller j x here in
        subst (λ (call : SharedCall). IsOn (contents_of told.plan) call) (ap (λ (e : SharedEntry). e.call) (same_Some (entry_of entry.caller x) entry mine)) (subst (λ (p : Plan). IsOn (contents_of p) x.call) is.is.tells.plan on)

    -- the report is that of the found outcome
    reports : claim.report ≡ report_text claim.plan (outcome_of claim account) → joined told.report ≡ report_text told.plan outcome_is
    reports same = sym is.is.tells.report ∙ same ∙ ap (λ (p : Plan). report_text p (outcome_of claim account)) is.is.tells.plan ∙ ap (λ (o : Outcome). report_text told.plan o) outcome_found

    reported : joined told.report ≡ report_text told.plan outcome_is → claim.report ≡ report_text claim.plan (outcome_of claim account)
    reported same = is.is.tells.report ∙ same ∙ sym (ap (λ (p : Plan). report_text p (outcome_of claim account)) is.is.tells.plan ∙ ap (λ (o : Outcome). report_text told.plan o) outcome_found)

    up_to_report : joined told.report ≡ report_text told.plan outcome_is → (clause : Clause) → claims.place_of clause ≤ claims.place_of clauses.Report → Holds claim account clause
    up_to_report same clauses.Report below = reported same
    up_to_report same clause below = holds clause (omega arith)

  pub entries_there : (n : ℕ) (entry : SharedEntry) → slice_get history n ≡ Some entry → IsOn (contents_of told.plan) entry.call
  entries_there = entries_on is.stopped.0 is.stopped.1

  pub keys_there : HasKeysBelow (length (keys_in told.plan.scripts)) (contents_after (contents_of told.plan) history)
  keys_there = keys_below is.stopped.0 is.stopped.1

  pub few_shown : shows_to MAX_KEYS outcome_is ≡ true
  few_shown = shows_few is.stopped.0 is.stopped.1

  pub report_stage : (joined told.report ≡ report_text told.plan outcome_is) ↔ claims.UpTo claim clauses.Report
  report_stage = (
    λ same. (is.stopped.0, up_to_report is.stopped.0 is.stopped.1 same),
    λ up. reports up.0 (λ clause below. up.1 clause (omega (arith, below))) (up.1 clauses.Report (omega arith)),
  )
