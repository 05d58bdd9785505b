-- Entries of one kind's journal, as entries of whatever kind's.
use Rattle.std.proofs.Common.{◌≡◌, ◌↔◌, ℕ, zero, suc, Bool, true, List, [], ◌∷◌, map, Option, Some, slice_get, refl, sym, ap, ◌∙◌, subst}
use Rattle.std.proofs.lemmas.Bool.{false≢true}
use Rattle.std.proofs.lemmas.Option.{none-some, slice_get_within, get_or_from_slice_get}
use Rattle.std.specs.Prelude.{unwrap_or}
use Rattle.sync_model.specs.declared.journal.Deed.{Deed}
use Rattle.sync_model.specs.declared.journal.Deed.TheVariants.{Event, Refused, Halt}
use Rattle.sync_model.specs.declared.journal.Entry.{Entry}
use Rattle.sync_model.specs.Front.{AtLeast}
use Rattle.sync_model.specs.Journal.{is_such, KeepsEdges}
use Rattle.run_record.specs.declared.entered.ObjectEvent.{ObjectEvent}
use Rattle.run_record.specs.declared.entered.ObjectReply.{ObjectReply}
use Rattle.run_record.specs.Edges.{frees, takes}
use Rattle.run_record.specs.Journals.{FollowsFrom, IsStops}
use Rattle.run_record.specs.Parts.{lifted, lifted_deed}
use Rattle.run_record.specs.Record.{ObjectEntry}
use Rattle.object_checks.specs.JournalParts.{FollowsMachine}

module _ {E R : Type 0} (event : E → ObjectEvent) (reply : R → ObjectReply) where
  such : (test : ObjectEvent → ObjectReply → Bool) (d : Deed E R) → is_such test (lifted_deed event reply d) ≡ is_such (λ e r. test (event e) (reply r)) d
  such test (Event e r) = refl
  such test (Refused e m) = refl
  such test (Halt m) = refl

  -- each lifted entry is one of the kind's
  lifted_from : (own : List (Entry E R)) (i : ℕ) (x : ObjectEntry) → slice_get (map (lifted event reply) own) i ≡ Some x → (y : Entry E R) × (slice_get own i ≡ Some y) × (lifted event reply y ≡ x)
  lifted_from [] i x at = absurd (none-some x at)
  lifted_from (y ∷ own) zero x at = (y, refl, ap (λ (o : Option ObjectEntry). unwrap_or o x) at)
  lifted_from (y ∷ own) (suc i) x at = lifted_from own i x at

  -- and each of the kind's is lifted at its place
  lifted_at : (own : List (Entry E R)) (i : ℕ) (y : Entry E R) → slice_get own i ≡ Some y → slice_get (map (lifted event reply) own) i ≡ Some (lifted event reply y)
  lifted_at [] i y at = absurd (none-some y at)
  lifted_at (x ∷ own) zero y at = ap (λ (o : Option (Entry E R)). Some (lifted event reply (unwrap_or o y))) at
  lifted_at (x ∷ own) (suc i) y at = lifted_at own i y at

  -- the edge law, in the words of whatever kind and in the kind's own
  edges_lifted : (own : List (Entry E R)) → KeepsEdges (λ e r. frees (event e) (reply r)) (λ e r. takes (event e) (reply r)) own → KeepsEdges frees takes (map (lifted event reply) own)
  edges_lifted own keeps i j x y before at_x at_y is_x is_y =
      let a = lifted_from own i x at_x in
      let b = lifted_from own j y at_y in
      let first : is_such frees (lifted event reply a.0).deed ≡ true = subst (λ (e : ObjectEntry). is_such frees e.deed ≡ true) (sym a.2) is_x in
      let second : is_such takes (lifted event reply b.0).deed ≡ true = subst (λ (e : ObjectEntry). is_such takes e.deed ≡ true) (sym b.2) is_y in
      let least : AtLeast b.0.front a.0.front = keeps i j a.0 b.0 before a.1 b.1 (sym (such frees a.0.deed) ∙ first) (sym (such takes b.0.deed) ∙ second) in
      subst (λ (e : ObjectEntry). AtLeast e.front x.front) b.2 (subst (λ (e : ObjectEntry). AtLeast b.0.front e.front) a.2 least)

  edges_own : (own : List (Entry E R)) → KeepsEdges frees takes (map (lifted event reply) own) → KeepsEdges (λ e r. frees (event e) (reply r)) (λ e r. takes (event e) (reply r)) own
  edges_own own keeps i j x y before at_x at_y is_x is_y =
      keeps i j (lifted event reply x) (lifted event reply y) before (lifted_at own i x at_x) (lifted_at own j y at_y) (such frees x.deed ∙ is_x) (such takes y.deed ∙ is_y)

  -- a law of a journal falls into its two parts
  pub is_two : {S : Type 0} (next : S → ℕ → E → S × R) (start : S) (journal : List ObjectEntry)
      → (FollowsFrom event reply next (λ e r. frees (event e) (reply r)) (λ e r. takes (event e) (reply r)) start journal ↔ FollowsMachine event reply next start journal × KeepsEdges frees takes journal)
  is_two {S} next start journal = (apart, together) where
    apart : FollowsFrom event reply next (λ e r. frees (event e) (reply r)) (λ e r. takes (event e) (reply r)) start journal → FollowsMachine event reply next start journal × KeepsEdges frees takes journal
    apart (own, same, follows, keeps) = ((own, same, follows), subst (KeepsEdges frees takes) (sym same) (edges_lifted own keeps))

    together : FollowsMachine event reply next start journal × KeepsEdges frees takes journal → FollowsFrom event reply next (λ e r. frees (event e) (reply r)) (λ e r. takes (event e) (reply r)) start journal
    together ((own, same, follows), keeps) = (own, same, follows, edges_own own (subst (KeepsEdges frees takes) same keeps))

-- a journal without entries keeps the edge law
pub none_keep : (journal : List ObjectEntry) → journal ≡ [] → KeepsEdges frees takes journal
none_keep journal none i j x y before at_x = absurd (none-some x (sym (ap (λ (l : List ObjectEntry). slice_get l i) none) ∙ at_x))

-- halts release nothing
pub stops_keep : (journal : List ObjectEntry) → IsStops journal → KeepsEdges frees takes journal
stops_keep journal stops i j x y before at_x at_y is_x =
    let stop = stops i x (slice_get_within journal i x at_x) in
    let halt : x.deed ≡ Halt stop.0 = ap (λ (e : ObjectEntry). e.deed) (sym (get_or_from_slice_get journal i x x at_x)) ∙ stop.1 in
    absurd (false≢true (sym (ap (is_such frees) halt) ∙ is_x))
