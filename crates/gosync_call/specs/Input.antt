-- The bytes of a file that are read.
use Rattle.std.specs.Prelude.{◌≡◌, ℕ, ◌+◌, ◌≤◌, ◌⊎◌, List, length, take, Option, IfSome}
use Rattle.sync_outside.specs.Bytes.{Gives}
use Rattle.sync_outside.specs.Faults.{Rose}
use Rattle.workload.specs.declared.limits.TheConstants.{MAX_INPUT}

-- where a source tells the bytes of a file, these are they
abbrev pub AreBytesOf : Option (List ℕ) → List ℕ → Type 0
AreBytesOf told bytes = IfSome told (λ held. bytes ≡ held)

-- where a source tells the bytes of a file, these are they, or as many of them as a text may have and one more
abbrev pub IsInputTo : (limit : ℕ) → Option (List ℕ) → List ℕ → Type 0
IsInputTo limit told bytes = IfSome told (λ held. bytes ≡ take (limit + 1) held)

-- a first part of what was left was taken, of at most so many bytes
abbrev pub TakesTo : (limit : ℕ) → Option (List ℕ) → Option (List ℕ) → List ℕ → Type 0
TakesTo limit before after taken = Gives before after taken × (length taken ≤ limit + 1)

-- the file was read to its end, or so many of its bytes were taken
abbrev pub IsWhollyReadTo : (limit : ℕ) → Option (List ℕ) → Option (List ℕ) → Type 0
IsWhollyReadTo limit told left = (bytes : List ℕ) × IsInputTo limit told bytes × TakesTo limit told left bytes

-- of the text of a workload: its first 8,388,609 bytes at most
abbrev pub IsInput : Option (List ℕ) → List ℕ → Type 0
IsInput told bytes = IsInputTo MAX_INPUT told bytes

abbrev pub IsWhollyRead : Option (List ℕ) → Option (List ℕ) → Type 0
IsWhollyRead told left = IsWhollyReadTo MAX_INPUT told left

-- the file can't be read: the count of its failed opens rose, or that of failed reads
abbrev pub ReadFailed : ℕ → ℕ → ℕ → ℕ → Type 0
ReadFailed opens opens_now reads reads_now = Rose opens opens_now ⊎ Rose reads reads_now

-- neither did
abbrev pub NoReadFailed : ℕ → ℕ → ℕ → ℕ → Type 0
NoReadFailed opens opens_now reads reads_now = ReadFailed opens opens_now reads reads_now → ⊥

-- the count of failed writes didn't rise
abbrev pub NoWriteFailed : ℕ → ℕ → Type 0
NoWriteFailed writes writes_now = Rose writes writes_now → ⊥
