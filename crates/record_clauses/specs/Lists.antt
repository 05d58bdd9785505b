-- What is told along a list: which items are halts, of which calls of the script the others are told to be, and which numbers entries have.
use Rattle.std.specs.Prelude.{ℕ, ◌==◌, Bool, true, false, cond, List, [], ◌∷◌, Option}
use Rattle.sync_model.specs.declared.journal.Deed.{Deed}
use Rattle.sync_model.specs.declared.journal.Deed.TheVariants.{Event, Refused, Halt}
use Rattle.run_record.specs.declared.entered.ObjectEvent.{ObjectEvent}
use Rattle.run_record.specs.declared.entered.ObjectReply.{ObjectReply}
use Rattle.run_record.specs.declared.made.Made.{Made}
use Rattle.run_record.specs.declared.made.Made.TheVariants.{Shared, Entered}
use Rattle.run_record.specs.Lines.{Line}
use Rattle.run_record.specs.Record.{ObjectEntry}
use Rattle.record_clauses.specs.Account.{ToldItem}

abbrev pub halts : Deed ObjectEvent ObjectReply → Bool
halts (Event event reply) = false
halts (Refused event misuse) = false
halts (Halt misuse) = true

-- whether an item is a halt, by whatever misuse
abbrev pub is_halt : Made → Bool
is_halt (Shared x) = false
is_halt (Entered object entry) = halts entry.deed

-- a list whose halts are set aside
abbrev pub without_halts : List Made → List Made
without_halts [] = []
without_halts (item ∷ list) = cond (is_halt item) (without_halts list) (item ∷ without_halts list)

-- a line whose halts are set aside
abbrev pub before_halts : Line → Line
before_halts line = record line { halts = [] }

-- of which calls the items of a list are told to be, up to its halts
abbrev pub calls_told : List ToldItem → List (Option ℕ)
calls_told [] = []
calls_told (x ∷ list) = cond (is_halt x.made) (calls_told list) (x.call ∷ calls_told list)

-- an entry of this object, with its number, before others
abbrev pub numbered : ℕ → ℕ → Made → List (ℕ × ObjectEntry) → List (ℕ × ObjectEntry)
numbered object number (Shared x) later = later
numbered object number (Entered other entry) later = cond (other == object) ((number, entry) ∷ later) later

-- the entries in a list that stand in the journal of an object, each with the number that it is told to have there
abbrev pub numbered_in : ℕ → List ToldItem → List (ℕ × ObjectEntry)
numbered_in object [] = []
numbered_in object (x ∷ list) = numbered object x.number x.made (numbered_in object list)
