-- A text with the lines of a claim of which all clauses hold tells a claim of which all clauses hold.
use Rattle.std.proofs.Common.{◌≡◌, ℕ, List, [], ◌∷◌, map, length, Option, Some, slice_get, refl, sym, ap, ◌∙◌, subst}
use Rattle.std.specs.Option.{option_map}
use Rattle.std.proofs.lemmas.List.{length-map}
use Rattle.std.proofs.lemmas.Option.{slice_get-map}
use Rattle.workload.specs.Plan.{Plan}
use Rattle.workload.specs.Readable.{IsReadable}
use Rattle.run_record.specs.declared.made.Made.{Made}
use Rattle.run_record.specs.declared.made.Made.TheVariants.{Shared, Entered}
use Rattle.record_text.specs.declared.item_line.ItemLine.{ItemLine}
use Rattle.record_text.specs.Told.{Told, items_of}
use Rattle.run_check.specs.ToldItems.{Sketched, along_start, kept_by, worker_told}
use Rattle.record_clauses.specs.declared.clause.Clause.{Clause}
use Rattle.record_clauses.specs.declared.clause.Clause.TheVariants.{Spell}
use Rattle.record_clauses.specs.declared.clause.Verdict.TheVariants.{Yes, No}
use Rattle.record_clauses.specs.Account.{Account, Claim, ToldItem}
use Rattle.record_clauses.specs.Clauses.{Holds}
use Rattle.run_check.specs.Completeness.{AreLinesOf, plain_made}
use Rattle.run_check.specs.Items.{line_of, told_item, unmarked_item}
use Rattle.run_check.specs.Tells.{ComesTo, Tells}
use Rattle.run_check.proofs.PlainClaims.{EndParts, LawfulParts, LineParts, explained, plain_claim, plain_holds, plain_item, plain_number}
use Rattle.run_check.proofs.SpellNothing.{IsBlind}
use Rattle.run_check.proofs.ToldBack.{list_back}
use Rattle.run_check.proofs.ToldHeld.{KeepsTypes}
use Rattle.run_check.proofs.ToldItems.{IsPlain, all_are_so}
use Rattle.run_check.proofs.ToldLists.{mapped}
use Rattle.run_check.proofs.ToldTypes.{EntriesAreCalls}

-- the plain item has the same line
same_line : (worker : ℕ) (index : Option ℕ) (number : ℕ) (made : Made) → line_of worker (plain_item (record { made = made; call = index; number = number })) ≡ line_of worker (record { made = made; call = index; number = number })
same_line worker index number (Shared x) = refl
same_line worker index number (Entered object entry) = refl

same_lines : (worker : ℕ) (list : List ToldItem) → map (line_of worker) (map plain_item list) ≡ map (line_of worker) list
same_lines worker [] = refl
same_lines worker (x ∷ list) =
    ap (λ (l : Option ItemLine). l ∷ map (line_of worker) (map plain_item list)) (same_line worker x.call x.number x.made) ∙ ap (λ (ls : List (Option ItemLine)). line_of worker x ∷ ls) (same_lines worker list)

is_plain : (number : ℕ) (made : Made) → IsPlain (plain_number number made) (plain_made made)
is_plain number (Shared x) = refl
is_plain number (Entered object entry) = (refl, refl)

-- so the text comes to no other verdict
pub not_no : (told : Told) (fails : Clause) → ComesTo told Yes → ComesTo told (No fails) → ⊥
not_no told fails (claim, tells, (account, holds)) comes = comes.1 (claim, tells, (account, λ earlier early. holds earlier))

module _ (keeps : KeepsTypes) (entered : EntriesAreCalls) (blind : IsBlind) (lawful_parts : LawfulParts) (line_parts : LineParts) (end_parts : EndParts) where
  pub comes_to_yes : (told : Told) (claim : Claim) (account : Account) → IsReadable told.plan → ((clause : Clause) → Holds claim account clause) → AreLinesOf told claim → ComesTo told Yes
  comes_to_yes told claim account readable all are = (plain_claim claim, tells, holding) where
    holding : (one : Account) × ((clause : Clause) → Holds (plain_claim claim) one clause)
    holding = plain_holds lawful_parts line_parts end_parts blind claim account all

    count : length (plain_claim claim).lists ≡ told.plan.workers
    count = length-map claim.lists (map plain_item) ∙ are.workers

    list_was : (worker : ℕ) (list : List ToldItem) → slice_get (plain_claim claim).lists worker ≡ Some list → (was : List ToldItem) × (slice_get claim.lists worker ≡ Some was) × (map plain_item was ≡ list)
    list_was worker list at = mapped (map plain_item) (slice_get claim.lists worker) list (sym (slice_get-map (map plain_item) claim.lists worker) ∙ at)

    written : (worker : ℕ) (list : List ToldItem) → slice_get (plain_claim claim).lists worker ≡ Some list → map (line_of worker) list ≡ map Some (items_of told.items worker)
    written worker list at =
        let (was, there, same) = list_was worker list at in
        sym (ap (map (line_of worker)) same) ∙ same_lines worker was ∙ are.written worker was there

    plain : (worker i : ℕ) (list : List ToldItem) (x : ToldItem) → slice_get (plain_claim claim).lists worker ≡ Some list → slice_get list i ≡ Some x → IsPlain x.number x.made
    plain worker i list x at at_x =
        let (was, there, same) = list_was worker list at in
        let (item, behind, like) = mapped plain_item (slice_get was i) x (sym (slice_get-map plain_item was i) ∙ ap (λ (l : List ToldItem). slice_get l i) same ∙ at_x) in
        subst (λ (y : ToldItem). IsPlain y.number y.made) like (is_plain item.number item.made)

    told_of : (worker : ℕ) (list : List ToldItem) → slice_get (plain_claim claim).lists worker ≡ Some list → option_map (λ (ss : List Sketched). map (told_item worker) ss) (worker_told claim.plan told.items worker) ≡ Some (map unmarked_item list)
    told_of worker list at =
        let (one, same) = explained lawful_parts line_parts end_parts (plain_claim claim) holding.0 holding.1 in
        let all_so = all_are_so keeps entered (plain_claim claim) holding.0 (subst IsReadable (sym are.plan) readable) one same (holding.1 Spell)
        (count ∙ sym (ap (λ (p : Plan). p.workers) are.plan)) told.items written plain worker list at in
        let (items, is, alike) = list_back claim.plan (kept_by told.items claim.plan.workers) worker along_start list (items_of told.items worker) (written worker list at) all_so in
        ap (option_map (λ (ss : List Sketched). map (told_item worker) ss)) is ∙ ap Some alike

    tells : Tells told (plain_claim claim)
    tells = record {
      plan = are.plan;
      misused = are.misused;
      workers = count;
      lists = λ worker list at. subst (λ (p : Plan). option_map (λ (ss : List Sketched). map (told_item worker) ss) (worker_told p told.items worker) ≡ Some (map unmarked_item list)) are.plan (told_of worker list at);
      report = are.report;
    }
