-- A call on one key of a map, by what the key has: what it answers, whether it is an entry of the shared history, and what the key has afterwards.
use Rattle.std.specs.Prelude.{ℕ, Bool, true, false, cond, Option, Some, None, is_some}
use Rattle.sync_types.specs.declared.map_object.MapCall.{MapCall}
use Rattle.sync_types.specs.declared.map_object.MapCall.TheVariants.{Load, Store, LoadOrStore, LoadAndDelete, Delete, Swap, CompareAndSwap, CompareAndDelete, Clear}
use Rattle.sync_types.specs.declared.map_object.MapReply.{MapReply}
use Rattle.sync_types.specs.declared.map_object.MapReply.TheVariants.{Done, Found, Compared}
use Rattle.sync_types.specs.SequentialMap.{has_value, settled}

module _ {K : Type 0} where
  abbrev pub key_reply : MapCall K → Option ℕ → MapReply
  key_reply (Load key) held = Found held
  key_reply (Store key value) held = Done
  key_reply (LoadOrStore key value) held = settled held value
  key_reply (LoadAndDelete key) held = Found held
  key_reply (Delete key) held = Done
  key_reply (Swap key value) held = Found held
  key_reply (CompareAndSwap key old new) held = Compared (has_value old held)
  key_reply (CompareAndDelete key old) held = Compared (has_value old held)
  key_reply Clear held = Done

  abbrev pub is_key_entry : MapCall K → Option ℕ → Bool
  is_key_entry (Load key) held = false
  is_key_entry (Store key value) held = true
  is_key_entry (LoadOrStore key value) held = cond (is_some held) false true
  is_key_entry (LoadAndDelete key) held = is_some held
  is_key_entry (Delete key) held = is_some held
  is_key_entry (Swap key value) held = true
  is_key_entry (CompareAndSwap key old new) held = has_value old held
  is_key_entry (CompareAndDelete key old) held = has_value old held
  is_key_entry Clear held = true

  abbrev pub key_after : MapCall K → Option ℕ → Option ℕ
  key_after (Load key) held = held
  key_after (Store key value) held = Some value
  key_after (LoadOrStore key value) held = cond (is_some held) held (Some value)
  key_after (LoadAndDelete key) held = None
  key_after (Delete key) held = None
  key_after (Swap key value) held = Some value
  key_after (CompareAndSwap key old new) held = cond (has_value old held) (Some new) held
  key_after (CompareAndDelete key old) held = cond (has_value old held) None held
  key_after Clear held = None
