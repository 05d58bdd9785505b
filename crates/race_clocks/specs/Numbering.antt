-- The numbers that channels have, and how they change.
use Rattle.std.specs.Prelude.{◌≡◌, ◌⊎◌, ℕ, ◌+◌, ◌<◌, ◌≤◌, ◌==◌, ◌&&◌, Bool, true, false, List, [], ◌∷◌, ◌++◌, Contains, max, Option, Some, None, cond, unwrap_or}
use Rattle.std.specs.Option.{option_to_list}
use Rattle.std.specs.FinMap.{empty, get, insert}
use Rattle.race_clocks.specs.Channels as all
use Rattle.race_clocks.specs.Handing.{are_for}
use Rattle.race_clocks.specs.Places.{at}
use Rattle.race_clocks.specs.Seen.{Named}
use Rattle.race_clocks.specs.declared.channel.Channel.{Channel}
use Rattle.race_clocks.specs.declared.channel.Channel.TheVariants as channels
use Rattle.race_clocks.specs.declared.numbers.Numbers.{Numbers}
use Rattle.race_clocks.specs.declared.tables.Tables.{Tables}

-- in a row
abbrev pub at_in : List (Option (List (Option ℕ))) → ℕ → ℕ → Option ℕ
at_in rows row slot = at (unwrap_or (at rows row) []) slot

-- of the keys of a map
abbrev pub keys_at : List (Option Named) → ℕ → Named
keys_at keys map = unwrap_or (at keys map) empty

-- the later one of two numbers is the greater one
abbrev pub later : Option ℕ → Option ℕ → Option ℕ
later (Some number) (Some next) = Some (max number next)
later (Some number) None = Some number
later None other = other

-- the number of a channel, if it has one
abbrev pub number_of : Tables → all.Channel → Option ℕ
number_of t (all.MutexUnlock mutex) = at t.mutexes mutex
number_of t (all.WriterUnlock lock) = at t.writers lock
number_of t (all.ReaderUnlock lock) = at t.readers lock
number_of t (all.Notice place worker) = at_in t.notices place worker
number_of t (all.Lowering group) = at t.groups group
number_of t (all.FunctionEnd once) = at t.onces once
number_of t (all.PutItem pool number) = at_in t.puts pool number
number_of t (all.Start worker) = at t.starts worker
number_of t (all.Atomic atomic) = at t.atomics atomic
number_of t (all.MapKey map key) = later (get (keys_at t.keys map) key) (at t.clears map)

-- the same by the code's channel
abbrev pub number_at : Tables → Channel → Option ℕ
number_at t (channels.MutexUnlock mutex) = at t.mutexes mutex
number_at t (channels.WriterUnlock lock) = at t.writers lock
number_at t (channels.ReaderUnlock lock) = at t.readers lock
number_at t (channels.Notice place worker) = at_in t.notices place worker
number_at t (channels.Lowering group) = at t.groups group
number_at t (channels.FunctionEnd once) = at t.onces once
number_at t (channels.PutItem pool number) = at_in t.puts pool number
number_at t (channels.Start worker) = at t.starts worker
number_at t (channels.Atomic atomic) = at t.atomics atomic
number_at t (channels.MapKey map key) = later (get (keys_at t.keys map) key) (at t.clears map)
number_at t (channels.EachKey map) = None

abbrev pub none_yet : Tables
none_yet = record { mutexes = []; writers = []; readers = []; notices = []; groups = []; onces = []; puts = []; starts = []; atomics = []; keys = []; clears = [] }

-- one place of a table is set, and one slot of a row
abbrev pub IsPut : ℕ → ℕ → List (Option ℕ) → List (Option ℕ) → Type 0
IsPut place number old new = (other : ℕ) → at new other ≡ cond (place == other) (Some number) (at old other)

abbrev pub IsPutIn : ℕ → ℕ → ℕ → List (Option (List (Option ℕ))) → List (Option (List (Option ℕ))) → Type 0
IsPutIn row slot number old new = (other place : ℕ) → at_in new other place ≡ cond ((row == other) && (slot == place)) (Some number) (at_in old other place)

abbrev pub IsInserted : ℕ → List ℕ → ℕ → List (Option Named) → List (Option Named) → Type 0
IsInserted map key number old new = (other : ℕ) → keys_at new other ≡ cond (map == other) (insert (keys_at old map) key number) (keys_at old other)

-- the channel's place in its table is set, and no other table is changed
abbrev pub IsSetAt : Channel → ℕ → Tables → Tables → Type 0
IsSetAt (channels.MutexUnlock mutex) number old new = (new ≡ record old { mutexes = new.mutexes }) × IsPut mutex number old.mutexes new.mutexes
IsSetAt (channels.WriterUnlock lock) number old new = (new ≡ record old { writers = new.writers }) × IsPut lock number old.writers new.writers
IsSetAt (channels.ReaderUnlock lock) number old new = (new ≡ record old { readers = new.readers }) × IsPut lock number old.readers new.readers
IsSetAt (channels.Notice place worker) number old new = (new ≡ record old { notices = new.notices }) × IsPutIn place worker number old.notices new.notices
IsSetAt (channels.Lowering group) number old new = (new ≡ record old { groups = new.groups }) × IsPut group number old.groups new.groups
IsSetAt (channels.FunctionEnd once) number old new = (new ≡ record old { onces = new.onces }) × IsPut once number old.onces new.onces
IsSetAt (channels.PutItem pool put) number old new = (new ≡ record old { puts = new.puts }) × IsPutIn pool put number old.puts new.puts
IsSetAt (channels.Start worker) number old new = (new ≡ record old { starts = new.starts }) × IsPut worker number old.starts new.starts
IsSetAt (channels.Atomic atomic) number old new = (new ≡ record old { atomics = new.atomics }) × IsPut atomic number old.atomics new.atomics
IsSetAt (channels.MapKey map key) number old new = (new ≡ record old { keys = new.keys }) × IsInserted map key number old.keys new.keys
IsSetAt (channels.EachKey map) number old new = (new ≡ record old { clears = new.clears }) × IsPut map number old.clears new.clears

-- ---- how numbers are given

-- whether what is handed on takes the place of what was there
abbrev pub is_replacing : Channel → Bool
is_replacing (channels.MutexUnlock mutex) = false
is_replacing (channels.WriterUnlock lock) = false
is_replacing (channels.ReaderUnlock lock) = false
is_replacing (channels.Notice place worker) = false
is_replacing (channels.Lowering group) = false
is_replacing (channels.FunctionEnd once) = false
is_replacing (channels.PutItem pool number) = false
is_replacing (channels.Start worker) = false
is_replacing (channels.Atomic atomic) = true
is_replacing (channels.MapKey map key) = true
is_replacing (channels.EachKey map) = true

abbrev pub kept_number : Tables → Channel → Option ℕ
kept_number t channel = cond (is_replacing channel) None (number_at t channel)

abbrev pub no_numbers : Numbers
no_numbers = record { tables = none_yet; next = 0 }

-- of the channels that have one
abbrev pub numbers_of : Tables → List Channel → List ℕ
numbers_of t [] = []
numbers_of t (channel ∷ rest) = option_to_list (number_at t channel) ++ numbers_of t rest

-- the next number is given to a channel
pub record IsFresh (channel : Channel) (number : ℕ) (old new : Numbers) : Type 0 where
  pub none : kept_number old.tables channel ≡ None
  pub is_next : number ≡ old.next
  pub set : IsSetAt channel number old.tables new.tables
  pub next : new.next ≡ old.next + 1

-- a channel has the number already, or it is given the next one
abbrev pub IsGiven : Channel → ℕ → Numbers → Numbers → Type 0
IsGiven channel number old new = ((kept_number old.tables channel ≡ Some number) × (new ≡ old)) ⊎ IsFresh channel number old new

-- numbers are below the next one, and a channel in which nothing is replaced has its own
pub record IsNumbered (numbers : Numbers) : Type 0 where
  pub below : (channel : all.Channel) (number : ℕ) → number_of numbers.tables channel ≡ Some number → number < numbers.next
  pub apart : (channel other : all.Channel) (number : ℕ) → number_of numbers.tables channel ≡ Some number → number_of numbers.tables other ≡ Some number → all.is_replaced channel ≡ false → channel ≡ other

-- these numbers were given as something was handed on through these channels
pub record HandedOn (old new : Numbers) (gives : List ℕ) (channels : List Channel) : Type 0 where
  pub numbered : IsNumbered new
  pub rises : old.next ≤ new.next
  pub below : (number : ℕ) → Contains gives number → number < new.next
  -- through each of these the number that it has now, which is a new one where something is replaced
  pub handed : (channel : all.Channel) → are_for channel channels ≡ true → (number : ℕ) × (number_of new.tables channel ≡ Some number) × Contains gives number × (all.is_replaced channel ≡ true → old.next ≤ number)
  -- and through no others
  pub given : (channel : all.Channel) (number : ℕ) → number_of new.tables channel ≡ Some number → Contains gives number → are_for channel channels ≡ true
  -- a channel keeps its number unless it is replaced, and gets none but a new one
  pub kept : (channel : all.Channel) (number : ℕ) → (all.is_replaced channel && are_for channel channels) ≡ false → number_of old.tables channel ≡ Some number → number_of new.tables channel ≡ Some number
  pub fresh : (channel : all.Channel) (number : ℕ) → number_of new.tables channel ≡ Some number → (number_of old.tables channel ≡ Some number) ⊎ (old.next ≤ number)
