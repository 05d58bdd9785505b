-- What a walk of a map's caller made and showed.
use Rattle.std.specs.Prelude.{ℕ, ◌++◌, List, [], ◌∷◌, Some, None}
use Rattle.sync_model.specs.declared.item.SharedCall.TheVariants as calls
use Rattle.sync_model.specs.declared.item.SharedReply.TheVariants as replies
use Rattle.shared_table.specs.declared.note.SharedNote.{SharedNote}
use Rattle.shared_table.specs.declared.table.SharedTable.{SharedTable}
use Rattle.go_map.specs.Ranges.{MakesStep, calls_by, KeepsRangeLaw}

-- the note's holder made a step for each of these pairs, in order, of the walk that its call of this number began, and each step showed its pair
pub data Shows (table : SharedTable) (begin : ℕ) (from : SharedNote) : List (ℕ × ℕ) → SharedNote → Type 0 where
  nothing : Shows table begin from [] from
  step : (pairs : List (ℕ × ℕ)) (pair : ℕ × ℕ) (mid to : SharedNote) → Shows table begin from pairs mid → MakesStep table (calls.Next begin) (replies.Shown (Some pair)) mid to → Shows table begin from (pairs ++ pair ∷ []) to

-- It began a walk over the map, which showed these pairs, in order, and then that there is no more; and the walk kept the Range law.
pub record Walks (table : SharedTable) (map : ℕ) (pairs : List (ℕ × ℕ)) (old new : SharedNote) : Type 0 where
  pub begun : SharedNote
  pub begins : MakesStep table (calls.Begin map) replies.Begun old begun
  pub last : SharedNote
  pub shows : Shows table (calls_by old) begun pairs last
  pub ends : MakesStep table (calls.Next (calls_by old)) (replies.Shown None) last new
  pub range : KeepsRangeLaw table map (calls_by old) new
