-- The calls of a map in a record. Maps have no journal: their calls stand in the shared history.
use Rattle.std.specs.Prelude.{◌≡◌, ℕ, List, [], ◌∷◌, ◌++◌, map, Some, None, IsPermutation, IsSortedByKey, Ok}
use Rattle.std.specs.Ordering.{nat_cmp}
use Rattle.std.specs.Cmp.Lexicographic.{slice_cmp}
use Rattle.sync_model.specs.declared.answer.Answer.TheVariants.{Done}
use Rattle.script_calls.specs.declared.call.Reply.{Reply}
use Rattle.script_calls.specs.declared.call.Reply.TheVariants as replies
use Rattle.sync_model.specs.declared.item.SharedCall.{SharedCall}
use Rattle.sync_model.specs.declared.item.SharedCall.TheVariants as calls
use Rattle.sync_model.specs.declared.item.SharedReply.{SharedReply}
use Rattle.sync_model.specs.declared.item.SharedReply.TheVariants as answers
use Rattle.sync_types.specs.declared.map_object.MapCall.{MapCall}
use Rattle.sync_types.specs.declared.map_object.MapReply.{MapReply}
use Rattle.sync_types.specs.Renaming.{renamed_call}
use Rattle.workload.specs.Keys.{key_number, key_name}
use Rattle.run_record.specs.Parts.{Part, Places}

module _ (keys : List (List ℕ)) (m : ℕ) where
  -- a call of map number m is one placed call, with the number of its key
  abbrev pub map_call : MapCall (List ℕ) → Part (Reply ℕ)
  map_call call items answer = (reply : MapReply) × Places ((calls.Map m (renamed_call (key_number keys) call), answers.Map reply) ∷ []) items × (answer ≡ Done (Ok (replies.Map reply)))

  -- a step of the cursor that the worker's call of this number began, which shows a pair
  abbrev pub step_showing : ℕ → ℕ × ℕ → SharedCall × SharedReply
  step_showing begin pair = (calls.Next begin, answers.Shown (Some pair))

  -- a cursor that begins as the worker's call of this number, shows these pairs, and then none
  abbrev pub cursor_showing : ℕ → List (ℕ × ℕ) → List (SharedCall × SharedReply)
  cursor_showing begin shown = (calls.Begin m, answers.Begun) ∷ (map (step_showing begin) shown ++ (calls.Next begin, answers.Shown None) ∷ [])

  -- the pairs that were shown, sorted by the bytes of the keys
  abbrev pub AreSorted : List (ℕ × ℕ) → List (ℕ × ℕ) → Type 0
  AreSorted shown pairs = IsPermutation shown pairs × IsSortedByKey (λ pair. key_name keys pair.0) (slice_cmp nat_cmp) pairs

  -- a range is one cursor, taken until it shows none. It begins as the worker's call of this number
  abbrev pub range_call : ℕ → Part (Reply ℕ)
  range_call begin items answer =
      (shown : List (ℕ × ℕ)) × (pairs : List (ℕ × ℕ)) × Places (cursor_showing begin shown) items × AreSorted shown pairs × (answer ≡ Done (Ok (replies.Pairs pairs)))
