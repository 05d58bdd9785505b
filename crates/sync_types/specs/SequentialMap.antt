-- `sync.Map` with one caller, over keys of any type in an order.
use Rattle.std.specs.Prelude.{ℕ, Bool, true, false, ◌==◌, cond, Option, Some, None, is_some}
use Rattle.std.specs.Option.{option_map_or}
use Rattle.std.specs.declared.cmp.Ordering.{Ordering}
use Rattle.std.specs.FinMap.{FinMap, empty, get, insert, remove}
use Rattle.sync_types.specs.declared.map_object.MapCall.{MapCall}
use Rattle.sync_types.specs.declared.map_object.MapCall.TheVariants.{Load, Store, LoadOrStore, LoadAndDelete, Delete, Swap, CompareAndSwap, CompareAndDelete, Clear}
use Rattle.sync_types.specs.declared.map_object.MapReply.{MapReply}
use Rattle.sync_types.specs.declared.map_object.MapReply.TheVariants.{Done, Found, Settled, Compared}

-- whether a key is there with this value: an absent key has none, which isn't 0
abbrev pub has_value : ℕ → Option ℕ → Bool
has_value old found = option_map_or (λ value. value == old) found false

-- the value that was there, or else the given one, which is stored
abbrev pub settled : Option ℕ → ℕ → MapReply
settled None value = Settled value false
settled (Some there) value = Settled there true

module _ {K : Type 0} {R : K → K → Ordering} where
  -- what a call answers, by what the map contains
  abbrev pub map_reply : MapCall K → FinMap R ℕ → MapReply
  map_reply (Load key) m = Found (get m key)
  map_reply (Store key value) m = Done
  map_reply (LoadOrStore key value) m = settled (get m key) value
  map_reply (LoadAndDelete key) m = Found (get m key)
  map_reply (Delete key) m = Done
  map_reply (Swap key value) m = Found (get m key)
  map_reply (CompareAndSwap key old new) m = Compared (has_value old (get m key))
  map_reply (CompareAndDelete key old) m = Compared (has_value old (get m key))
  map_reply Clear m = Done

  -- what the map contains after a call
  abbrev pub map_after : MapCall K → FinMap R ℕ → FinMap R ℕ
  map_after (Load key) m = m
  map_after (Store key value) m = insert m key value
  map_after (LoadOrStore key value) m = cond (is_some (get m key)) m (insert m key value)
  map_after (LoadAndDelete key) m = remove m key
  map_after (Delete key) m = remove m key
  map_after (Swap key value) m = insert m key value
  map_after (CompareAndSwap key old new) m = cond (has_value old (get m key)) (insert m key new) m
  map_after (CompareAndDelete key old) m = cond (has_value old (get m key)) (remove m key) m
  map_after Clear m = empty

  -- whether a call is an entry of the shared history of map and atomic calls, by what the map contains before it
  abbrev pub is_map_entry : MapCall K → FinMap R ℕ → Bool
  is_map_entry (Load key) m = false
  is_map_entry (Store key value) m = true
  is_map_entry (LoadOrStore key value) m = cond (is_some (get m key)) false true
  is_map_entry (LoadAndDelete key) m = is_some (get m key)
  is_map_entry (Delete key) m = is_some (get m key)
  is_map_entry (Swap key value) m = true
  is_map_entry (CompareAndSwap key old new) m = has_value old (get m key)
  is_map_entry (CompareAndDelete key old) m = has_value old (get m key)
  is_map_entry Clear m = true

-- the key of a call, which `Clear` hasn't
abbrev pub map_key : {K : Type 0} → MapCall K → Option K
map_key (Load key) = Some key
map_key (Store key value) = Some key
map_key (LoadOrStore key value) = Some key
map_key (LoadAndDelete key) = Some key
map_key (Delete key) = Some key
map_key (Swap key value) = Some key
map_key (CompareAndSwap key old new) = Some key
map_key (CompareAndDelete key old) = Some key
map_key Clear = None
