-- All callers of a table are still so after one of them made calls.
use Rattle.std.proofs.Common.{◌≡◌, ◌≢◌, ℕ, zero, suc, List, [], ◌∷◌, set, Some, slice_get, inl, inr, refl, sym, ap, ◌∙◌, subst, length-set}
use Rattle.std.proofs.lemmas.Bool.{cases_eq}
use Rattle.std.proofs.lemmas.Option.{none-some, same_Some}
use Rattle.sync_model.specs.declared.caller.Caller.{Caller}
use Rattle.sync_types.specs.declared.map_object.MapCall.{MapCall}
use Rattle.sync_types.specs.declared.map_object.MapReply.{MapReply}
use Rattle.sync_model.specs.Note.{Holding}
use Rattle.sync_model.specs.Shared.{AreAllCallers, IsHeldBy}
use Rattle.shared_table.specs.declared.note.SharedNote.{SharedNote}
use Rattle.shared_table.specs.declared.table.SharedTable.{SharedTable}
use Rattle.shared_table.specs.Notes.{own_by, IsNoteOf}
use Rattle.go_map.specs.Maps.{MakesCall}

-- a call leaves its caller's number
pub still_held : (table : SharedTable) (map c : ℕ) (call : MapCall ℕ) (reply : MapReply) (old new : SharedNote) → MakesCall table map call reply old new → IsHeldBy c (own_by old) → IsHeldBy c (own_by new)
still_held table map c call reply old new makes held =
    let called = makes.1 in
    (called.becomes, called.own_new, called.number ∙ ap (λ (h : Holding). h.number) (same_Some called.was held.0 (sym called.own_old ∙ held.1)) ∙ held.2)

set_here : {A : Type 0} (xs : List A) (i : ℕ) (x y : A) → slice_get (set xs i x) i ≡ Some y → x ≡ y
set_here [] i x y at = absurd (none-some y at)
set_here (z ∷ xs) zero x y at = same_Some x y at
set_here (z ∷ xs) (suc i) x y at = set_here xs i x y at

set_there : {A : Type 0} (xs : List A) (i j : ℕ) (x : A) → j ≢ i → slice_get (set xs i x) j ≡ slice_get xs j
set_there [] i j x ne = refl
set_there (z ∷ xs) zero zero x ne = absurd (ne refl)
set_there (z ∷ xs) zero (suc j) x ne = refl
set_there (z ∷ xs) (suc i) zero x ne = refl
set_there (z ∷ xs) (suc i) (suc j) x ne = set_there xs i j x (λ e. ne (ap suc e))

pub all_still : (table : SharedTable) (callers : List (Caller SharedNote)) (count i : ℕ) (new : Caller SharedNote) → AreAllCallers IsNoteOf own_by table callers count → IsNoteOf table new.note × IsHeldBy i (own_by new.note) → AreAllCallers IsNoteOf own_by table (set callers i new) count
all_still table callers count i new all is = record {
  all = length-set callers i new ∙ all.all;
  each = λ j caller at. elim (cases_eq j i) [
    | inl same ↦ subst (λ (x : ℕ × Caller SharedNote). IsNoteOf table x.1.note × IsHeldBy x.0 (own_by x.1.note)) (λ k. (sym same k, set_here callers i new caller (ap (slice_get (set callers i new)) (sym same) ∙ at) k)) is
    | inr ne ↦ all.each j caller (sym (set_there callers i j new ne) ∙ at)
  ];
}
