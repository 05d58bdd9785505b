-- What contracts see of plain maps and atomics.
use Rattle.std.specs.Prelude.{ℕ, ◌<◌, List, length, map}
use Rattle.sync_types.specs.declared.atomic_object.AtomicKind.{AtomicKind}
use Rattle.sync_types.specs.SequentialAtomic.{kind_of}
use Rattle.ruled_object.specs.Passes.{callers_of, start_of}
use Rattle.shared_plain.specs.declared.plain.Plain.{Plain}

-- the types of the atomics, by number
abbrev pub kinds_of : Plain → List AtomicKind
kinds_of plain = map kind_of (start_of plain.object).numbers

-- how many maps there are
abbrev pub maps_of : Plain → ℕ
maps_of plain = length (start_of plain.object).maps

-- the number that all keys of the maps are below
abbrev pub keys_of : Plain → ℕ
keys_of plain = plain.keys

-- the keys that the maps take
abbrev pub Takes : Plain → ℕ → Type 0
Takes plain key = key < keys_of plain

-- how many callers there are
abbrev pub caller_count : Plain → ℕ
caller_count plain = callers_of plain.object
