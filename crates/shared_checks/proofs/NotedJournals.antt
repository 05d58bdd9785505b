-- The notes of a journal stand for it.
use Rattle.std.proofs.Common.{◌≡◌, ◌⊎◌, inl, inr, ℕ, ◌<◌, ◌≤◌, Bool, List, length, get_or, map, Some, None, slice_get, sym, ◌∙◌, arith}
use Rattle.std.proofs.lemmas.Option.{slice_get_within, slice_get_cases}
use Rattle.sync_model.specs.Journal.{KeepsEdges}
use Rattle.sync_model.specs.declared.journal.Entry.{Entry}
use Rattle.shared_checks.specs.declared.edges.Note.{Note}
use Rattle.shared_checks.specs.Edges.{entry_of, is_freeing, is_taking, AreNotes}
use Rattle.shared_checks.proofs.Released.{Kept, kept_law, law_kept}

-- of two lists that are as long, the second has an item where the first has one
also_at : {A B : Type 0} (xs : List A) (ys : List B) → length xs ≡ length ys → (i : ℕ) (x : A) → slice_get xs i ≡ Some x → (y : B) × (slice_get ys i ≡ Some y)
also_at {A} {B} xs ys same i x at = by (slice_get_cases ys i).1 where
  by : ((y : B) × (i < length ys) × (slice_get ys i ≡ Some y) × (get_or ys i y ≡ y)) ⊎ ((length ys ≤ i) × (slice_get ys i ≡ None)) → (y : B) × (slice_get ys i ≡ Some y)
  by (inl (y, inside, there, read)) = (y, there)
  by (inr (past, none)) = let inside = slice_get_within xs i x at in absurd (omega (arith, inside, past, same))

module _ {E R : Type 0} (frees takes : E → R → Bool) (journal : List (Entry E R)) (notes : List Note) (are : AreNotes frees takes journal notes) where
  pub noted : KeepsEdges frees takes journal → KeepsEdges is_freeing is_taking (map entry_of notes)
  noted law = kept_law notes (length notes) (omega arith) (λ i j a b before below at_i at_j is_free is_take w.
      let x = also_at notes journal are.count i a at_i in
      let y = also_at notes journal are.count j b at_j in
      let knows = law i j x.0 y.0 before x.1 y.1 (are.frees_alike i x.0 a x.1 at_i ∙ is_free) (are.takes_alike j y.0 b y.1 at_j ∙ is_take) w in
      let one = are.knows_alike i x.0 a x.1 at_i w in
      let two = are.knows_alike j y.0 b y.1 at_j w in
      omega (arith, knows, one, two))

  pub from_notes : KeepsEdges is_freeing is_taking (map entry_of notes) → KeepsEdges frees takes journal
  from_notes law i j x y before at_i at_j is_free is_take w =
      let a = also_at journal notes (sym are.count) i x at_i in
      let b = also_at journal notes (sym are.count) j y at_j in
      let inside = slice_get_within notes j b.0 b.1 in
      let kept : Kept notes (length notes) = law_kept notes (length notes) law in
      let knows = kept i j a.0 b.0 before inside a.1 b.1 (sym (are.frees_alike i x a.0 at_i a.1) ∙ is_free) (sym (are.takes_alike j y b.0 at_j b.1) ∙ is_take) w in
      let one = are.knows_alike i x a.0 at_i a.1 w in
      let two = are.knows_alike j y b.0 at_j b.1 w in
      omega (arith, knows, one, two)
