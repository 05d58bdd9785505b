-- Maps whose keys have other names.
use Rattle.std.specs.Prelude.{◌≡◌, ◌≢◌, ℕ, Bool, true, false, None}
use Rattle.std.specs.Option.{option_map_or}
use Rattle.std.specs.declared.cmp.Ordering.{Ordering}
use Rattle.std.specs.FinMap.{FinMap, get}
use Rattle.sync_types.specs.declared.map_object.MapCall.{MapCall}
use Rattle.sync_types.specs.declared.map_object.MapCall.TheVariants.{Load, Store, LoadOrStore, LoadAndDelete, Delete, Swap, CompareAndSwap, CompareAndDelete, Clear}
use Rattle.sync_types.specs.SequentialMap.{map_key}

module _ {K L : Type 0} (rename : K → L) where
  -- the call at the renamed key
  abbrev pub renamed_call : MapCall K → MapCall L
  renamed_call (Load key) = Load (rename key)
  renamed_call (Store key value) = Store (rename key) value
  renamed_call (LoadOrStore key value) = LoadOrStore (rename key) value
  renamed_call (LoadAndDelete key) = LoadAndDelete (rename key)
  renamed_call (Delete key) = Delete (rename key)
  renamed_call (Swap key value) = Swap (rename key) value
  renamed_call (CompareAndSwap key old new) = CompareAndSwap (rename key) old new
  renamed_call (CompareAndDelete key old) = CompareAndDelete (rename key) old
  renamed_call Clear = Clear

  -- no two of some keys get one name
  abbrev pub IsOneToOne : (K → Bool) → Type 0
  IsOneToOne is_key = (key other : K) → is_key key ≡ true → is_key other ≡ true → rename key ≡ rename other → key ≡ other

  -- the second map has at the renamed keys what the first one has at the keys, and neither has anything else
  pub record IsRenamed {R : K → K → Ordering} {S : L → L → Ordering} (is_key : K → Bool) (m : FinMap R ℕ) (n : FinMap S ℕ) : Type 0 where
    pub same : (key : K) → is_key key ≡ true → get n (rename key) ≡ get m key
    pub keys : (key : K) → is_key key ≡ false → get m key ≡ None
    pub names : (name : L) → ((key : K) → is_key key ≡ true → name ≢ rename key) → get n name ≡ None

-- whether the key of a call, if it has one, is one of some keys
abbrev pub is_call_at : {K : Type 0} → (K → Bool) → MapCall K → Bool
is_call_at is_key call = option_map_or is_key (map_key call) true
