-- The calls on maps and atomics of a claim that a text tells, against those that the text's lines say.
use Rattle.std.proofs.Common.{◌≡◌, ◌⊎◌, inl, inr, ℕ, ◌<◌, ◌≤◌, List, [], ◌∷◌, ◌++◌, map, length, get_or, Option, Some, None, slice_get, refl, sym, ap, ◌∙◌, subst, arith}
use Rattle.std.specs.List.{flat_map}
use Rattle.std.proofs.lemmas.List.{get_or_past, length-map}
use Rattle.std.proofs.lemmas.Option.{get_or_from_slice_get, same_Some, slice_get_cases, slice_get-map}
use Rattle.std.specs.Option.{option_map}
use Rattle.sync_model.specs.declared.item.Item.{Item}
use Rattle.shared_checks.specs.Marks.{AreSameCalls, HaveNoHistory, unmarked}
use Rattle.workload.specs.Plan.{Plan}
use Rattle.run_record.specs.declared.made.Made.{Made}
use Rattle.run_record.specs.declared.made.Made.TheVariants.{Shared, Entered}
use Rattle.run_record.specs.Objects.{contents_of}
use Rattle.run_record.specs.Record.{calls_of, shared_in}
use Rattle.shared_checks.specs.Parts.{LawfulHistory}
use Rattle.record_text.specs.Told.{Told}
use Rattle.run_check.specs.declared.told.sketch.Sketch.{Sketch}
use Rattle.run_check.specs.declared.told.sketch.Sketch.TheVariants as sketches
use Rattle.run_check.specs.ToldItems.{Sketched, made_of, worker_told}
use Rattle.run_check.specs.ToldLists.{shared_at}
use Rattle.record_clauses.specs.declared.clause.Clause.TheVariants.{Legal}
use Rattle.record_clauses.specs.Account.{Account, Claim, ToldItem, made_in, record_of}
use Rattle.record_clauses.specs.Clauses.{IsLegallyPlaced}
use Rattle.run_check.specs.declared.spelling.SpeltList.{SpeltList}
use Rattle.run_check.specs.declared.spelling.Spelling.{Spelling}
use Rattle.run_check.specs.Items.{told_item, unmarked_item, unmarked_made}
use Rattle.run_check.specs.Lists.{AreSpeltTo, IsSpeltList, list_at}
use Rattle.run_check.specs.Tells.{Tells, UpTo}
use Rattle.run_check.proofs.ToldLists.{mapped}

abbrev one_call : Made → List Item
one_call (Shared x) = unmarked x ∷ []
one_call (Entered object entry) = []

calls_before : (made : Made) (later : List Made) → map unmarked (shared_in (made ∷ later)) ≡ one_call made ++ map unmarked (shared_in later)
calls_before (Shared x) later = refl
calls_before (Entered object entry) later = refl

one_unmarked : (made : Made) → one_call (unmarked_made made) ≡ one_call made
one_unmarked (Shared x) = refl
one_unmarked (Entered object entry) = refl

one_told : (worker : ℕ) (front : List ℕ) (sketch : Sketch) (later : List Item) → one_call (made_of worker front sketch) ++ map unmarked later ≡ map unmarked (shared_at front sketch ++ later)
one_told worker front (sketches.Shared call reply place) later = refl
one_told worker front (sketches.Entered object number deed) later = refl

-- they are those that the lines say, but for their marks
pub shared_same : (worker : ℕ) (list : List ToldItem) (items : List Sketched) → map (told_item worker) items ≡ map unmarked_item list
    → map unmarked (shared_in (made_in list)) ≡ map unmarked (flat_map (λ (s : Sketched). shared_at s.front s.sketch) items)
shared_same worker [] [] same = refl
shared_same worker [] (s ∷ items) same = absurd cc
shared_same worker (x ∷ list) [] same = absurd cc
shared_same worker (x ∷ list) (s ∷ items) same =
    let first : told_item worker s ≡ unmarked_item x = cc in
    let rest : map (told_item worker) items ≡ map unmarked_item list = cc in
    let later = shared_same worker list items rest in
    let one : one_call x.made ≡ one_call (made_of worker s.front s.sketch) = sym (one_unmarked x.made) ∙ sym (ap (λ (y : ToldItem). one_call y.made) first) in
    calls_before x.made (made_in list) ∙ ap (λ (xs : List Item). one_call x.made ++ xs) later
    ∙ ap (λ (xs : List Item). xs ++ map unmarked (flat_map (λ (t : Sketched). shared_at t.front t.sketch) items)) one
    ∙ one_told worker s.front s.sketch (flat_map (λ (t : Sketched). shared_at t.front t.sketch) items)

module _ (told : Told) (found : Spelling) (are : AreSpeltTo told.plan told.items told.plan.workers found) (claim : Claim) (tells : Tells told claim) where
  -- each worker's calls, but for their marks
  pub same_calls : (account : Account) → AreSameCalls found.shared.items (calls_of (record_of claim account))
  same_calls account worker = by (slice_get_cases claim.lists worker).1 where
    calls : ℕ → List Item
    calls w = shared_in (get_or (map made_in claim.lists) w [])

    by_one : (list : List ToldItem) → slice_get claim.lists worker ≡ Some list → (one : SpeltList) × list_at found worker one × IsSpeltList told.plan told.items worker one → map unmarked (calls worker) ≡ map unmarked (get_or found.shared.items worker [])
    by_one list there (one, at, spelt) =
        let (items, is, same) = mapped (λ (ss : List Sketched). map (told_item worker) ss) (worker_told told.plan told.items worker) (map unmarked_item list) (tells.lists worker list there) in
        let one_list : items ≡ spelt.list = same_Some items spelt.list (sym is ∙ spelt.told) in
        let mine : map (told_item worker) spelt.list ≡ map unmarked_item list = ap (λ (ss : List Sketched). map (told_item worker) ss) (sym one_list) ∙ same in
        let made : get_or (map made_in claim.lists) worker [] ≡ made_in list = get_or_from_slice_get (map made_in claim.lists) worker (made_in list) [] (slice_get-map made_in claim.lists worker ∙ ap (λ (o : Option (List ToldItem)). option_map made_in o) there) in
        let theirs : get_or found.shared.items worker [] ≡ one.told.shared = get_or_from_slice_get found.shared.items worker one.told.shared [] at.2 in
        ap (λ (ms : List Made). map unmarked (shared_in ms)) made ∙ shared_same worker list spelt.list mine ∙ ap (map unmarked) (sym spelt.parts.shared ∙ sym theirs)

    by : ((list : List ToldItem) × (worker < length claim.lists) × (slice_get claim.lists worker ≡ Some list) × (get_or claim.lists worker list ≡ list)) ⊎ ((length claim.lists ≤ worker) × (slice_get claim.lists worker ≡ None)) → map unmarked (calls worker) ≡ map unmarked (get_or found.shared.items worker [])
    by (inl (list, within, there, read)) = let count = tells.workers in by_one list there (are.each worker (omega (arith, within, count)))
    by (inr (past, none)) =
        let count = tells.workers in
        let shared = are.shared in
        let long : length (map made_in claim.lists) ≡ length claim.lists = length-map claim.lists made_in in
        let mine : get_or (map made_in claim.lists) worker [] ≡ [] = get_or_past (map made_in claim.lists) worker [] (omega (arith, past, long)) in
        let theirs : get_or found.shared.items worker [] ≡ [] = get_or_past found.shared.items worker [] (omega (arith, past, count, shared)) in
        ap (λ (ms : List Made). map unmarked (shared_in ms)) mine ∙ ap (map unmarked) (sym theirs)

-- where the calls have no lawful history with any marks, `legal` holds of no claim that the text tells
pub none_legal : (told : Told) (found : Spelling) → AreSpeltTo told.plan told.items told.plan.workers found → HaveNoHistory (contents_of told.plan) found.shared.items → UpTo told Legal → ⊥
none_legal told found are none (claim, tells, (account, holds)) =
    let law : IsLegallyPlaced claim account = holds Legal (omega arith) in
    none (calls_of (record_of claim account)) account.history (same_calls told found are claim tells account) (subst (λ (p : Plan). LawfulHistory (contents_of p) account.history (calls_of (record_of claim account))) tells.plan law)
