-- The system's inputs and outputs.
use Rattle.std.specs.Prelude.{◌≡◌, ℕ, Bool, true, false, List, ◌++◌, Option, None, Result, Ok, Err}
use Rattle.std.specs.Io.KnownBytes.{Appends}
use Rattle.sync_outside.specs.declared.fault.OpenFault.{OpenFault}
use Rattle.sync_outside.specs.declared.fault.OpenFault.TheVariants.{Failed, Memory}
use Rattle.sync_outside.specs.Faults.{raised, count_after}

-- the bytes of an input, of which none are told
abbrev pub untold : Option (List ℕ)
untold = None

-- whether one is open, and the counts of faults and of reads
pub record Inputs : Type 0 where
  pub is_open : Bool
  pub open_faults : ℕ
  pub read_faults : ℕ
  pub reads : ℕ

-- after an open with this result: want of memory is no fault
abbrev pub after_open : Result (Unit {0}) OpenFault → Inputs → Inputs
after_open (Ok _) inputs = record inputs { is_open = true }
after_open (Err Failed) inputs = record inputs { is_open = false; open_faults = raised inputs.open_faults }
after_open (Err Memory) inputs = record inputs { is_open = false }

-- after a read with this result
abbrev pub after_read : {A E : Type 0} → Result A E → Inputs → Inputs
after_read result inputs = record inputs { reads = raised inputs.reads; read_faults = count_after result inputs.read_faults }

-- a writer, and the counts of faults and of writes
pub record Output (W : Type 0) : Type 0 where
  pub writer : W
  pub faults : ℕ
  pub writes : ℕ

-- where they are told, the bytes grew by a first part of text
abbrev pub AppendsSome : Option (List ℕ) → Option (List ℕ) → List ℕ → Type 0
AppendsSome old new text = (front : List ℕ) × (rest : List ℕ) × (text ≡ front ++ rest) × Appends old new front
