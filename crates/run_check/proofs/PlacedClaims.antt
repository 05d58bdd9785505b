-- Where the marked calls have a lawful history, the text tells one claim of which `legal` holds: the one with these marks.
use Rattle.std.proofs.Common.{◌≡◌, ◌⊎◌, inl, inr, ℕ, ◌<◌, ◌≤◌, List, [], map, length, get_or, Option, Some, None, slice_get, refl, sym, ap, ◌∙◌, subst, arith}
use Rattle.std.specs.Option.{option_map}
use Rattle.std.proofs.Math.Path.{fun_ext}
use Rattle.std.proofs.lemmas.List.{get_or_past, length-map}
use Rattle.std.proofs.lemmas.Option.{get_or_from_slice_get, slice_get_cases, slice_get-map}
use Rattle.sync_model.specs.declared.item.Item.{Item}
use Rattle.sync_model.specs.declared.item.SharedEntry.{SharedEntry}
use Rattle.sync_model.specs.SharedHistory.{Contents}
use Rattle.workload.specs.Plan.{Plan}
use Rattle.workload.specs.Readable.{IsReadable}
use Rattle.run_record.specs.Lines.{Line}
use Rattle.run_record.specs.Objects.{contents_of}
use Rattle.run_record.specs.Record.{calls_of, shared_in}
use Rattle.shared_checks.specs.Calls.{calls_in}
use Rattle.shared_checks.specs.Parts.{LawfulHistory}
use Rattle.shared_checks.specs.Marks.{AreMarked, unmarked}
use Rattle.list_checks.specs.declared.spell.line.SpeltLine.{SpeltLine}
use Rattle.record_text.specs.Told.{Told, joined}
use Rattle.run_check.specs.ToldItems.{Sketched, worker_told}
use Rattle.record_clauses.specs.declared.clause.Clause.{Clause}
use Rattle.record_clauses.specs.declared.clause.Clause.TheVariants.{Spell, Legal}
use Rattle.record_clauses.specs.Account.{Account, Claim, ToldItem, made_in, record_of}
use Rattle.record_clauses.specs.Clauses.{Holds, IsLegallyPlaced}
use Rattle.record_clauses.specs.Verdicts as claims
use Rattle.run_check.specs.declared.spelling.Spelling.{Spelling}
use Rattle.run_check.specs.Items.{told_item, told_list, unmarked_item}
use Rattle.run_check.specs.Lists.{AreSpeltTo}
use Rattle.run_check.specs.Placed.{IsPlaced}
use Rattle.run_check.specs.Tells.{Tells, UpTo}
use Rattle.run_check.proofs.MarkedClaims.{calls_fit, one_claim, with_calls}
use Rattle.run_check.proofs.ReportRest.{scripts_are}
use Rattle.run_check.proofs.SpellHolds.{halts_of_none, told_unmarked}
use Rattle.run_check.proofs.SpellNothing.{IsBlind}
use Rattle.run_check.proofs.SpeltClaims.{OwnLine, are_spelt, gather, own_lines}
use Rattle.run_check.proofs.ToldShared.{same_calls, shared_same}

pub same_law : (start : Contents) (history : List SharedEntry) (calls others : ℕ → List Item) → ((c : ℕ) → calls c ≡ others c) → LawfulHistory start history calls → LawfulHistory start history others
same_law start history calls others same law = subst (λ (cs : ℕ → List Item). LawfulHistory start history cs) (fun_ext same) law

-- the calls of a worker's list in a claim
calls_at : (claim : Claim) (account : Account) (worker : ℕ) (list : List ToldItem) → slice_get claim.lists worker ≡ Some list → calls_of (record_of claim account) worker ≡ shared_in (made_in list)
calls_at claim account worker list there =
    ap shared_in (get_or_from_slice_get (map made_in claim.lists) worker (made_in list) [] (slice_get-map made_in claim.lists worker ∙ ap (λ (o : Option (List ToldItem)). option_map made_in o) there))

module _ (told : Told) (found : Spelling) (are : AreSpeltTo told.plan told.items told.plan.workers found) (marked : List (List Item)) (is : AreMarked (contents_of told.plan) found.shared.items marked) where
  -- a claim of which `legal` holds has these calls
  only_calls : (claim : Claim) → Tells told claim → (account : Account) → IsLegallyPlaced claim account → (c : ℕ) → calls_of (record_of claim account) c ≡ calls_in marked c
  only_calls claim tells account law =
      is.only (calls_of (record_of claim account)) account.history (same_calls told found are claim tells account)
      (subst (λ (p : Plan). LawfulHistory (contents_of p) account.history (calls_of (record_of claim account))) tells.plan law)

  -- where these have no lawful history, `legal` holds of no claim
  pub marks_have_none : ((history : List SharedEntry) → LawfulHistory (contents_of told.plan) history (calls_in marked) → ⊥) → UpTo told Legal → ⊥
  marks_have_none none (claim, tells, (account, holds)) =
      let law : IsLegallyPlaced claim account = holds Legal (omega arith) in
      none account.history
      (same_law (contents_of told.plan) account.history (calls_of (record_of claim account)) (calls_in marked) (only_calls claim tells account law)
      (subst (λ (p : Plan). LawfulHistory (contents_of p) account.history (calls_of (record_of claim account))) tells.plan law))

  -- ---- the claim with these calls

  abbrev IsMarkedList : ℕ → List ToldItem → Type 0
  IsMarkedList worker list = (items : List Sketched) × (worker_told told.plan told.items worker ≡ Some items) × (map unmarked_item list ≡ map (told_item worker) items) × (shared_in (made_in list) ≡ calls_in marked worker)

  marked_list : (worker : ℕ) → worker < told.plan.workers → (list : List ToldItem) × IsMarkedList worker list
  marked_list worker below =
      let (one, at, spelt) = are.each worker below in
      let plain = map (told_item worker) spelt.list in
      let theirs : get_or found.shared.items worker [] ≡ one.told.shared = get_or_from_slice_get found.shared.items worker one.told.shared [] at.2 in
      let fits : map unmarked (shared_in (made_in plain)) ≡ map unmarked (calls_in marked worker) =
      shared_same worker plain spelt.list (sym (told_unmarked worker spelt.list)) ∙ ap (map unmarked) (sym spelt.parts.shared ∙ sym theirs) ∙ sym (is.same worker) in
      let (items, calls) = calls_fit plain (calls_in marked worker) fits in
      (with_calls plain (calls_in marked worker), (spelt.list, spelt.told, items ∙ told_unmarked worker spelt.list, calls))

  module _ (lists : List (List ToldItem)) (count : length lists ≡ told.plan.workers) (each : (worker : ℕ) (list : List ToldItem) → slice_get lists worker ≡ Some list → IsMarkedList worker list) where
    abbrev marked_claim : Claim
    marked_claim = record { plan = told.plan; misused = told.misused; lists = lists; report = joined told.report }

    is_told : Tells told marked_claim
    is_told = record { plan = refl; misused = refl; workers = count; lists = λ worker list at. by worker list (each worker list at); report = refl } where
      by : (worker : ℕ) (list : List ToldItem) → IsMarkedList worker list → told_list told worker ≡ Some (map unmarked_item list)
      by worker list (items, same, unmarked_, calls) =
          ap (λ (o : Option (List Sketched)). option_map (λ (ss : List Sketched). map (told_item worker) ss) o) same
          ∙ ap (λ (xs : List ToldItem). Some xs) (sym unmarked_)

    has_calls : (account : Account) (c : ℕ) → calls_of (record_of marked_claim account) c ≡ calls_in marked c
    has_calls account c = by (slice_get_cases lists c).1 where
      by : ((list : List ToldItem) × (c < length lists) × (slice_get lists c ≡ Some list) × (get_or lists c list ≡ list)) ⊎ ((length lists ≤ c) × (slice_get lists c ≡ None)) → calls_of (record_of marked_claim account) c ≡ calls_in marked c
      by (inl (list, within, there, read)) = let (items, same, unmarked_, calls) = each c list there in calls_at marked_claim account c list there ∙ calls
      by (inr (past, none)) =
          let shared = are.shared in
          let also = is.count in
          let long : length (map made_in lists) ≡ length lists = length-map lists made_in in
          let mine : get_or (map made_in lists) c [] ≡ [] = get_or_past (map made_in lists) c [] (omega (arith, past, long)) in
          let theirs : calls_in marked c ≡ [] = get_or_past marked c [] (omega (arith, past, count, shared, also)) in
          ap shared_in mine ∙ sym theirs

    is_only : (other : Claim) (account : Account) → Tells told other → IsLegallyPlaced other account → other ≡ marked_claim
    is_only other account tells law =
        one_claim told other marked_claim tells is_told
        (λ worker list mine there at. sym (calls_at other account worker list there) ∙ only_calls other tells account law worker ∙ sym (has_calls account worker) ∙ calls_at marked_claim account worker mine at)

    module _ (history : List SharedEntry) (law : LawfulHistory (contents_of told.plan) history (calls_in marked)) (blind : IsBlind) (readable : IsReadable told.plan) where
      abbrev placed_account : List Line → Account
      placed_account lines = record { history = history; journals = []; lines = lines; left = record { replies = map (λ (line : SpeltLine). line.replies) found.lines; ends = [] } }

      is_legal : claims.UpTo marked_claim Legal
      is_legal = by (own_lines blind told found are marked_claim is_told) where
        by : (lines : List Line) × (length lines ≡ told.plan.workers) × ((worker : ℕ) (line : Line) → slice_get lines worker ≡ Some line → OwnLine blind told found are marked_claim is_told worker line) → claims.UpTo marked_claim Legal
        by (lines, count, own) = (placed_account lines, λ earlier before. holds earlier before) where
          holds : (clause : Clause) → claims.place_of clause ≤ 1 → Holds marked_claim (placed_account lines) clause
          holds Spell before = are_spelt blind told found are marked_claim is_told lines count own (scripts_are told.plan readable.valid) (halts_of_none told marked_claim is_told) history [] []
          holds Legal before =
              same_law (contents_of told.plan) history (calls_in marked) (calls_of (record_of marked_claim (placed_account lines))) (λ c. sym (has_calls (placed_account lines) c)) law
          holds clause before = absurd (omega (arith, before))

      is_placed : IsPlaced told marked history marked_claim
      is_placed = record { tells = is_told; only = is_only; calls = has_calls; legal = law; holds = is_legal }

  pub some_placed : (history : List SharedEntry) → LawfulHistory (contents_of told.plan) history (calls_in marked) → IsBlind → IsReadable told.plan → (claim : Claim) × IsPlaced told marked history claim
  some_placed history law blind readable =
      let (lists, count, each) = gather IsMarkedList told.plan.workers marked_list in (marked_claim lists count each, is_placed lists count each history law blind readable)
