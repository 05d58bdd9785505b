-- What a note's holder has seen, and what its front counts, are calls of the table's callers.
use Rattle.std.proofs.Common.{◌≡◌, ℕ, ◌<◌, length, Some, slice_get, slice_index, inl, inr, ap, arith}
use Rattle.std.proofs.lemmas.Bool.{cases_lt}
use Rattle.std.proofs.lemmas.Option.{slice_get_within}
use Rattle.sync_model.specs.declared.item.Item.{Item}
use Rattle.shared_table.specs.declared.note.SharedNote.{SharedNote}
use Rattle.shared_table.specs.declared.table.SharedTable.{SharedTable}
use Rattle.shared_table.specs.Notes.{counts_by, IsLawfulFor}
use Rattle.shared_table.specs.Tables.{caller_count}
use Rattle.shared_table.proofs.Settles.{item_there}

module _ (table : SharedTable) (note : SharedNote) (law : IsLawfulFor table note) where
  -- whoever made a call is a caller of the table
  pub made_by_caller : (c i : ℕ) (x : Item) → slice_get (law.calls c) i ≡ Some x → c < caller_count table
  made_by_caller c i x at = elim (cases_lt c (caller_count table)) [
    | inl below ↦ below
    | inr past ↦ absurd (let none_made = ap length (law.none_else c past) in let made = slice_get_within (law.calls c) i x at in omega arith)
  ]

  -- what the front counts was made
  pub counted_made : (c i : ℕ) → i < slice_index (counts_by note) c → (c < caller_count table) × ((x : Item) × (slice_get (law.calls c) i ≡ Some x))
  counted_made c i counted = (made_by_caller c i there.0 there.1, there)
    where
      there : (x : Item) × (slice_get (law.calls c) i ≡ Some x)
      there = let made = law.made c in item_there (law.calls c) i (omega arith)
