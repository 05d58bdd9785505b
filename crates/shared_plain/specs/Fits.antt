-- Which events are answered.
use Rattle.std.specs.Prelude.{ℕ, ◌^◌, Bool, true, false, ◌&&◌, nat_lt, List, length, map, Option, Some, None, is_some, slice_get}
use Rattle.std.specs.Option.{option_map_or}
use Rattle.sync_types.specs.declared.atomic_object.AtomicCall.{AtomicCall}
use Rattle.sync_types.specs.declared.atomic_object.AtomicKind.{AtomicKind}
use Rattle.sync_types.specs.declared.map_object.MapCall.{MapCall}
use Rattle.sync_types.specs.declared.map_object.MapCall.TheVariants as on_map
use Rattle.sync_types.specs.SequentialMap.{map_key}
use Rattle.sync_types.specs.SequentialAtomic.{kind_of, is_atomic_call}
use Rattle.shared_plain.specs.declared.event.Event.{Event}
use Rattle.shared_plain.specs.declared.event.Event.TheVariants.{Map, Begin, Next, Atomic}
use Rattle.shared_plain.specs.PlainMachine.{Holdings}

-- whether a call's key is below the map's limit
abbrev pub has_room : MapCall ℕ → Option ℕ → Bool
has_room call None = false
has_room call (Some keys) = option_map_or (λ key. nat_lt key keys) (map_key call) true

-- whether the atomic's type has the call
abbrev pub has_kind : AtomicCall → Option AtomicKind → Bool
has_kind call None = false
has_kind call (Some kind) = is_atomic_call kind call

-- whether an event fits maps of these numbers of keys and atomics of these types
abbrev pub fits_in : List ℕ → List AtomicKind → Event → Bool
fits_in keys kinds (Map m call) = has_room call (slice_get keys m)
fits_in keys kinds (Begin m) = nat_lt m (length keys)
fits_in keys kinds (Next m begin from) = is_some (slice_get keys m)
fits_in keys kinds (Atomic a call) = has_kind call (slice_get kinds a)

abbrev pub fits : Holdings → Event → Bool
fits h event = fits_in (map (λ slots. length slots) h.maps) (map kind_of h.numbers) event

-- whether a value is in range
abbrev pub is_in_range : ℕ → Bool
is_in_range value = nat_lt value (2 ^ 63)

-- whether maps of the keys below this take a call
abbrev pub is_taken : ℕ → MapCall ℕ → Bool
is_taken keys (on_map.Load key) = nat_lt key keys
is_taken keys (on_map.Store key value) = nat_lt key keys && is_in_range value
is_taken keys (on_map.LoadOrStore key value) = nat_lt key keys && is_in_range value
is_taken keys (on_map.LoadAndDelete key) = nat_lt key keys
is_taken keys (on_map.Delete key) = nat_lt key keys
is_taken keys (on_map.Swap key value) = nat_lt key keys && is_in_range value
is_taken keys (on_map.CompareAndSwap key old new) = nat_lt key keys && (is_in_range old && is_in_range new)
is_taken keys (on_map.CompareAndDelete key old) = nat_lt key keys && is_in_range old
is_taken keys on_map.Clear = true
