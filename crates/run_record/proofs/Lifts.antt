-- Entries of one kind's journal, as entries of whatever kind's.
use Rattle.std.proofs.Common.{◌≡◌, ℕ, zero, suc, Bool, true, List, [], ◌∷◌, map, Option, Some, slice_get, refl, sym, ap, ◌∙◌, subst}
use Rattle.std.proofs.lemmas.Option.{none-some}
use Rattle.std.specs.Prelude.{unwrap_or}
use Rattle.sync_model.specs.declared.journal.Deed.{Deed}
use Rattle.sync_model.specs.declared.journal.Deed.TheVariants.{Event, Refused, Halt}
use Rattle.sync_model.specs.declared.journal.Entry.{Entry}
use Rattle.sync_model.specs.Front.{AtLeast}
use Rattle.sync_model.specs.Journal.{is_such, KeepsEdges}
use Rattle.run_record.specs.declared.entered.ObjectEvent.{ObjectEvent}
use Rattle.run_record.specs.declared.entered.ObjectReply.{ObjectReply}
use Rattle.run_record.specs.Parts.{lifted, lifted_deed}
use Rattle.run_record.specs.Record.{ObjectEntry}

module _ {E R : Type 0} (event : E → ObjectEvent) (reply : R → ObjectReply) where
  such : (test : ObjectEvent → ObjectReply → Bool) (d : Deed E R) → is_such test (lifted_deed event reply d) ≡ is_such (λ e r. test (event e) (reply r)) d
  such test (Event e r) = refl
  such test (Refused e m) = refl
  such test (Halt m) = refl

  -- each lifted entry is one of the kind's
  pub lifted_from : (own : List (Entry E R)) (i : ℕ) (x : ObjectEntry) → slice_get (map (lifted event reply) own) i ≡ Some x → (y : Entry E R) × (slice_get own i ≡ Some y) × (lifted event reply y ≡ x)
  lifted_from [] i x at = absurd (none-some x at)
  lifted_from (y ∷ own) zero x at = (y, refl, ap (λ (o : Option ObjectEntry). unwrap_or o x) at)
  lifted_from (y ∷ own) (suc i) x at = lifted_from own i x at

  -- and each of the kind's is lifted at its place
  pub lifted_at : (own : List (Entry E R)) (i : ℕ) (y : Entry E R) → slice_get own i ≡ Some y → slice_get (map (lifted event reply) own) i ≡ Some (lifted event reply y)
  lifted_at [] i y at = absurd (none-some y at)
  lifted_at (x ∷ own) zero y at = ap (λ (o : Option (Entry E R)). Some (lifted event reply (unwrap_or o y))) at
  lifted_at (x ∷ own) (suc i) y at = lifted_at own i y at

  -- the edge law, in the words of whatever kind
  pub edges_lifted : (frees takes : ObjectEvent → ObjectReply → Bool) (own : List (Entry E R)) → KeepsEdges (λ e r. frees (event e) (reply r)) (λ e r. takes (event e) (reply r)) own → KeepsEdges frees takes (map (lifted event reply) own)
  edges_lifted frees takes own keeps i j x y before at_x at_y is_x is_y =
      let a = lifted_from own i x at_x in
      let b = lifted_from own j y at_y in
      let first : is_such frees (lifted event reply a.0).deed ≡ true = subst (λ (e : ObjectEntry). is_such frees e.deed ≡ true) (sym a.2) is_x in
      let second : is_such takes (lifted event reply b.0).deed ≡ true = subst (λ (e : ObjectEntry). is_such takes e.deed ≡ true) (sym b.2) is_y in
      let least : AtLeast b.0.front a.0.front = keeps i j a.0 b.0 before a.1 b.1 (sym (such frees a.0.deed) ∙ first) (sym (such takes b.0.deed) ∙ second) in
      subst (λ (e : ObjectEntry). AtLeast e.front x.front) b.2 (subst (λ (e : ObjectEntry). AtLeast b.0.front e.front) a.2 least)
