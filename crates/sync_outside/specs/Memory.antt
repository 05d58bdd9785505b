-- Sources and sinks in memory.
use Rattle.std.specs.Prelude.{ℕ, Bool, ◌-◌, nat_le, ◌&&◌, ◌||◌, not, List, ◌++◌, length, drop, min, Option, None, is_some, Result, Ok, Err, position, slice_get, ◌<◌, ◌≤◌, if◌then◌else◌}
use Rattle.std.specs.Option.{option_map, option_map_or, option_and_then, ForSome}
use Rattle.std.specs.Str.{bytes_eq}
use Rattle.sync_outside.specs.declared.fault.OpenFault.{OpenFault}
use Rattle.sync_outside.specs.declared.fault.OpenFault.TheVariants.{Failed}
use Rattle.sync_outside.specs.Faults.{raised}
use Rattle.sync_outside.specs.Calls.{Calls, one_more, fails_next}

-- a name and its bytes
pub record File : Type 0 where
  pub name : List ℕ
  pub bytes : List ℕ

-- files, the calls made on them, what is left of the open one, and the counts of faults and of reads
pub record Files : Type 0 where
  pub listed : List File
  pub calls : Calls
  pub left : Option (List ℕ)
  pub listed_faults : ℕ
  pub unlisted_faults : ℕ
  pub read_faults : ℕ
  pub reads : ℕ

-- the place of the first file with a name
abbrev pub place_of : List File → List ℕ → Option ℕ
place_of files name = position (λ file. bytes_eq file.name name) files

-- the bytes of the file at a place that are left after some were taken
abbrev pub left_of : List File → Option ℕ → ℕ → Option (List ℕ)
left_of files place taken = option_and_then (λ p. option_map (λ file. drop taken file.bytes) (slice_get files p)) place

-- a place is one of the list, and no more bytes than it has were taken there
abbrev pub IsWithin : List File → Option ℕ → ℕ → Type 0
IsWithin files place taken = ForSome place (λ p. (p < length files) × ForSome (slice_get files p) (λ file. taken ≤ length file.bytes))

-- the bytes under a name
abbrev pub bytes_of : List File → List ℕ → Option (List ℕ)
bytes_of files name = left_of files (place_of files name) 0

-- whether there is a file with this name
abbrev pub is_listed : List File → List ℕ → Bool
is_listed files name = is_some (place_of files name)

-- the faults of opens of a name: the listed names share a count, and so do all others
abbrev pub open_faults : Files → List ℕ → ℕ
open_faults files name = if is_listed files.listed name then files.listed_faults else files.unlisted_faults

-- what an open of a name answers: it fails where the name isn't listed, and where the call's number says so
abbrev pub open_result : Files → List ℕ → Result (Unit {0}) OpenFault
open_result files name = if is_listed files.listed name && not (fails_next files.calls) then Ok tt else Err Failed

-- after an open of a name
abbrev pub after_open : Files → List ℕ → Files
after_open files name =
    if is_listed files.listed name
    then (if fails_next files.calls
    then record files { calls = one_more files.calls; left = None; listed_faults = raised files.listed_faults }
    else record files { calls = one_more files.calls; left = bytes_of files.listed name })
    else record files { calls = one_more files.calls; left = None; unlisted_faults = raised files.unlisted_faults }

-- how many bytes a read gives: all that are left, or as many as there is room for
abbrev pub read_count : Files → ℕ → ℕ
read_count files room = option_map_or (λ left. min (length left) room) files.left 0

-- after a read into a buffer with this room
abbrev pub after_read : Files → ℕ → Files
after_read files room =
    if fails_next files.calls
    then record files { calls = one_more files.calls; reads = raised files.reads; read_faults = raised files.read_faults }
    else record files { calls = one_more files.calls; reads = raised files.reads; left = option_map (drop (read_count files room)) files.left }

-- what was taken, the calls made, how many bytes can still be taken, and the count of faults
pub record Taken : Type 0 where
  pub bytes : List ℕ
  pub calls : Calls
  pub room : ℕ
  pub faults : ℕ

-- whether the next write of a piece fails: its number says so, or the piece is longer than the room
abbrev pub refuses : Taken → List ℕ → Bool
refuses taken piece = fails_next taken.calls || not (nat_le (length piece) taken.room)

-- after a write of a piece
abbrev pub after_write : Taken → List ℕ → Taken
after_write taken piece =
    if refuses taken piece
    then record taken { calls = one_more taken.calls; faults = raised taken.faults }
    else record taken { bytes = taken.bytes ++ piece; calls = one_more taken.calls; room = taken.room - length piece }
