-- The notes of a journal's rows.
use Rattle.std.proofs.Common.{◌≡◌, ◌⊎◌, inl, inr, ℕ, zero, suc, ◌+◌, ◌≤◌, List, [], ◌∷◌, ◌++◌, length, map, Option, Some, slice_get, refl, sym, ap, ◌∙◌, subst, arith}
use Rattle.std.specs.Prelude.{slice_index, unwrap_or}
use Rattle.std.proofs.lemmas.List.{length-map, length-append}
use Rattle.std.proofs.lemmas.Option.{none-some, same_Some}
use Rattle.sync_model.specs.Journal.{is_such}
use Rattle.shared_checks.specs.declared.edges.Note.{Note}
use Rattle.shared_checks.specs.Edges.{AreNotes}
use Rattle.run_record.specs.Edges.{frees, takes}
use Rattle.run_record.specs.Record.{ObjectEntry}
use Rattle.object_checks.specs.declared.journals.row.Row.{Row}
use Rattle.object_checks.specs.JournalItems.{entry_in}

-- the note of an entry in a row
pub record IsNoteOf (row : Row) (note : Note) : Type 0 where
  pub frees_alike : is_such frees row.item.now.deed ≡ note.frees
  pub takes_alike : is_such takes row.item.now.deed ≡ note.takes
  pub front : (c : ℕ) → slice_index row.item.now.front c ≡ slice_index note.front.of c

row_at : (rows : List Row) (i : ℕ) (x : ObjectEntry) → slice_get (map entry_in rows) i ≡ Some x → (row : Row) × (slice_get rows i ≡ Some row) × (entry_in row ≡ x)
row_at [] i x at = absurd (none-some x at)
row_at (row ∷ rows) zero x at = (row, refl, ap (λ (o : Option ObjectEntry). unwrap_or o x) at)
row_at (row ∷ rows) (suc i) x at = row_at rows i x at

last_or_before : {A : Type 0} (xs : List A) (y : A) (i : ℕ) (x : A) → slice_get (xs ++ y ∷ []) i ≡ Some x → (slice_get xs i ≡ Some x) ⊎ ((i ≡ length xs) × (y ≡ x))
last_or_before [] y zero x at = inr (refl, same_Some y x at)
last_or_before [] y (suc i) x at = absurd (none-some x at)
last_or_before (z ∷ xs) y zero x at = inl at
last_or_before (z ∷ xs) y (suc i) x at = elim (last_or_before xs y i x at) [ inl before ↦ inl before | inr last ↦ inr (ap suc last.0, last.1) ]

module _ (rows : List Row) where
  -- the notes of the first n rows
  pub record NotesTo (n : ℕ) (notes : List Note) : Type 0 where
    pub count : length notes ≡ n
    pub each : (i : ℕ) (row : Row) (note : Note) → slice_get rows i ≡ Some row → slice_get notes i ≡ Some note → IsNoteOf row note

  pub no_notes : NotesTo 0 []
  no_notes = record { count = refl; each = λ i row note at there. absurd (none-some note there) }

  pub note_more : (n : ℕ) (notes : List Note) → NotesTo n notes → (row : Row) → slice_get rows n ≡ Some row → (note : Note) → IsNoteOf row note → NotesTo (n + 1) (notes ++ note ∷ [])
  note_more n notes are row at note is = record {
    count = length-append notes (note ∷ []) ∙ ap (λ k. k + 1) are.count;
    each = λ i other one there found. each i other one there (last_or_before notes note i one found);
  } where
    each : (i : ℕ) (other : Row) (one : Note) → slice_get rows i ≡ Some other → (slice_get notes i ≡ Some one) ⊎ ((i ≡ length notes) × (note ≡ one)) → IsNoteOf other one
    each i other one there (inl found) = are.each i other one there found
    each i other one there (inr (last, same)) =
        subst (λ (r : Row). IsNoteOf r one) (same_Some row other (sym at ∙ ap (λ k. slice_get rows k) (sym (last ∙ are.count)) ∙ there)) (subst (IsNoteOf row) same is)

  pub notes_all : (n : ℕ) (notes : List Note) → length rows ≤ n → n ≤ length rows → NotesTo n notes → AreNotes frees takes (map entry_in rows) notes
  notes_all n notes all no_more are = record {
    count = are.count ∙ omega (arith, all, no_more) ∙ sym (length-map rows entry_in);
    frees_alike = λ i x note at found. let r = row_at rows i x at in ap (λ (e : ObjectEntry). is_such frees e.deed) (sym r.2) ∙ (are.each i r.0 note r.1 found).frees_alike;
    takes_alike = λ i x note at found. let r = row_at rows i x at in ap (λ (e : ObjectEntry). is_such takes e.deed) (sym r.2) ∙ (are.each i r.0 note r.1 found).takes_alike;
    knows_alike = λ i x note at found c. let r = row_at rows i x at in ap (λ (e : ObjectEntry). slice_index e.front c) (sym r.2) ∙ (are.each i r.0 note r.1 found).front c;
  }
