-- Each entry in a worker's list stands in the journal of its object, and each entry of a journal in its caller's list.
use Rattle.std.proofs.Common.{◌≡◌, ℕ, zero, suc, ◌==◌, Bool, true, false, cond, List, [], ◌∷◌, map, Option, Some, slice_get, refl, sym, ap, ◌∙◌, subst}
use Rattle.std.specs.Option.{option_map}
use Rattle.std.proofs.lemmas.Bool.{eq-eqb, eqb-true}
use Rattle.std.proofs.lemmas.Option.{none-some, same_Some, slice_get-map}
use Rattle.sync_types.specs.declared.misuse.Misuse.{Misuse}
use Rattle.sync_model.specs.declared.journal.Entry.{Entry}
use Rattle.sync_model.specs.Journal.{Follows, Right, by, halt_next, state_next}
use Rattle.run_record.specs.declared.entered.ObjectEvent.{ObjectEvent}
use Rattle.run_record.specs.declared.entered.ObjectReply.{ObjectReply}
use Rattle.run_record.specs.declared.made.Made.{Made}
use Rattle.run_record.specs.declared.made.Made.TheVariants.{Shared, Entered}
use Rattle.run_record.specs.Explains.{IsRecordOf}
use Rattle.run_record.specs.Parts.{lifted}
use Rattle.run_record.specs.Record.{ObjectEntry, Record, entries_in, journal_of, list_of}
use Rattle.workload.specs.Plan.{Plan}
use Rattle.run_check.proofs.ToldLists.{mapped}
use Rattle.run_check.proofs.ToldPlain.{entry_in}

-- an entry of a caller is one of the journal
from_by : (worker j : ℕ) (journal : List ObjectEntry) (entry : ObjectEntry) → slice_get (by worker journal) j ≡ Some entry → (k : ℕ) × (slice_get journal k ≡ Some entry) × (entry.caller ≡ worker)
from_by worker j [] entry at = absurd (none-some entry at)
from_by worker j (x ∷ journal) entry at = of j (λ i there. from_by worker i journal entry there) (x.caller == worker) refl at where
  of : (j : ℕ) → ((i : ℕ) → slice_get (by worker journal) i ≡ Some entry → (k : ℕ) × (slice_get journal k ≡ Some entry) × (entry.caller ≡ worker)) → (b : Bool) → (x.caller == worker) ≡ b
      → slice_get (cond b (x ∷ by worker journal) (by worker journal)) j ≡ Some entry → (k : ℕ) × (slice_get (x ∷ journal) k ≡ Some entry) × (entry.caller ≡ worker)
  of zero later true is there = (0, there, sym (ap (λ (e : ObjectEntry). e.caller) (same_Some x entry there)) ∙ eqb-true x.caller worker is)
  of (suc i) later true is there = let (k, behind, own) = later i there in (suc k, behind, own)
  of i later false is there = let (k, behind, own) = later i there in (suc k, behind, own)

-- and each entry of the journal is one of its caller's
into_by : (k : ℕ) (journal : List ObjectEntry) (entry : ObjectEntry) → slice_get journal k ≡ Some entry → (j : ℕ) × (slice_get (by entry.caller journal) j ≡ Some entry)
into_by k [] entry at = absurd (none-some entry at)
into_by zero (x ∷ journal) entry at =
    let same : x ≡ entry = same_Some x entry at in
    (0, ap (λ (b : Bool). slice_get (cond b (x ∷ by entry.caller journal) (by entry.caller journal)) 0) (eq-eqb x.caller entry.caller (ap (λ (e : ObjectEntry). e.caller) same)) ∙ at)
into_by (suc k) (x ∷ journal) entry at = of (x.caller == entry.caller) (into_by k journal entry at) where
  of : (b : Bool) → (j : ℕ) × (slice_get (by entry.caller journal) j ≡ Some entry) → (j : ℕ) × (slice_get (cond b (x ∷ by entry.caller journal) (by entry.caller journal)) j ≡ Some entry)
  of true (j, there) = (suc j, there)
  of false (j, there) = (j, there)

-- an entry on an object stands in the list
entry_from : (object j : ℕ) (list : List Made) (entry : ObjectEntry) → slice_get (entries_in object list) j ≡ Some entry → (i : ℕ) × (slice_get list i ≡ Some (Entered object entry))
entry_from object j [] entry at = absurd (none-some entry at)
entry_from object j (Shared x ∷ list) entry at = let (i, there) = entry_from object j list entry at in (suc i, there)
entry_from object j (Entered other one ∷ list) entry at = of j (λ k there. entry_from object k list entry there) (other == object) refl at where
  of : (j : ℕ) → ((k : ℕ) → slice_get (entries_in object list) k ≡ Some entry → (i : ℕ) × (slice_get list i ≡ Some (Entered object entry))) → (b : Bool) → (other == object) ≡ b
      → slice_get (cond b (one ∷ entries_in object list) (entries_in object list)) j ≡ Some entry → (i : ℕ) × (slice_get (Entered other one ∷ list) i ≡ Some (Entered object entry))
  of zero later true is there =
      let numbers : other ≡ object = eqb-true other object is in
      let entries : one ≡ entry = same_Some one entry there in
      (0, ap (λ (n : ℕ). Some (Entered n one)) numbers ∙ ap (λ (e : ObjectEntry). Some (Entered object e)) entries)
  of (suc k) later true is there = let (i, behind) = later k there in (suc i, behind)
  of k later false is there = let (i, behind) = later k there in (suc i, behind)

module _ (plan : Plan) (r : Record) (lawful : IsRecordOf plan r) where
  pub in_journal : (worker i object : ℕ) (entry : ObjectEntry) → slice_get (list_of r worker) i ≡ Some (Entered object entry) → (k : ℕ) × (slice_get (journal_of r object) k ≡ Some entry) × (entry.caller ≡ worker)
  in_journal worker i object entry at =
      let (j, there) = entry_in (list_of r worker) i object entry at in
      from_by worker j (journal_of r object) entry (sym (ap (λ (l : List ObjectEntry). slice_get l j) (lawful.once worker object)) ∙ there)

  pub in_list : (object k : ℕ) (entry : ObjectEntry) → slice_get (journal_of r object) k ≡ Some entry → (i : ℕ) × (slice_get (list_of r entry.caller) i ≡ Some (Entered object entry))
  in_list object k entry at =
      let (j, there) = into_by k (journal_of r object) entry at in
      entry_from object j (list_of r entry.caller) entry (ap (λ (l : List ObjectEntry). slice_get l j) (lawful.once entry.caller object) ∙ there)

module _ {E R : Type 0} (event : E → ObjectEvent) (reply : R → ObjectReply) (journal : List ObjectEntry) (own : List (Entry E R)) (are : journal ≡ map (lifted event reply) own) where
  -- an entry of the kind's own journal, and back
  pub own_at : (k : ℕ) (entry : ObjectEntry) → slice_get journal k ≡ Some entry → (x : Entry E R) × (slice_get own k ≡ Some x) × (lifted event reply x ≡ entry)
  own_at k entry at = mapped (lifted event reply) (slice_get own k) entry (sym (slice_get-map (lifted event reply) own k) ∙ sym (ap (λ (l : List ObjectEntry). slice_get l k) are) ∙ at)

  pub at_own : (k : ℕ) (x : Entry E R) → slice_get own k ≡ Some x → slice_get journal k ≡ Some (lifted event reply x)
  at_own k x at = ap (λ (l : List ObjectEntry). slice_get l k) are ∙ slice_get-map (lifted event reply) own k ∙ ap (option_map (lifted event reply)) at

-- each entry of a journal that follows a machine is right where it stands
pub right_at : {S E R : Type 0} (next : S → ℕ → E → S × R) (halts : Bool) (s : S) (h : Option Misuse) (own : List (Entry E R)) (k : ℕ) (x : Entry E R) → Follows next halts s h own → slice_get own k ≡ Some x → (t : S) × (g : Option Misuse) × Right next halts t g x.caller x.deed
right_at next halts s h [] k x follows at = absurd (none-some x at)
right_at next halts s h (y ∷ own) zero x follows at = (s, h, subst (λ (z : Entry _ _). Right next halts s h z.caller z.deed) (same_Some y x at) follows.0)
right_at next halts s h (y ∷ own) (suc k) x follows at = right_at next halts (state_next next s y.caller y.deed) (halt_next h y.deed) own k x follows.1 at
