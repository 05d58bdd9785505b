-- What contracts see of a pool and of the passes to it. Each part is an object of its own, with a journal of its own.
use Rattle.std.specs.Prelude.{◌≡◌, ℕ, ◌+◌, ◌<◌, ◌==◌, true, cond, List, [], ◌∷◌, ◌++◌, length, map, take, get_or, Option, Some, All, slice_get}
use Rattle.std.specs.List.{AllByRecursion, range_with_len}
use Rattle.std.specs.Option.{option_map_or}
use Rattle.sync_types.specs.declared.misuse.Misuse.{Misuse}
use Rattle.sync_model.specs.declared.answer.Answer.{Answer}
use Rattle.sync_model.specs.declared.journal.Deed.{Deed}
use Rattle.sync_model.specs.declared.journal.Deed.TheVariants.{Event, Refused, Halt}
use Rattle.sync_model.specs.Front.{Front}
use Rattle.sync_model.specs.Journal as journals
use Rattle.pool_core.specs.declared.pool_event.PoolEvent.{PoolEvent}
use Rattle.pool_core.specs.declared.pool_event.PoolReply.{PoolReply}
use Rattle.pool_core.specs.declared.pool_event.PoolReply.TheVariants.{Swept}
use Rattle.pool_core.specs.Edges.{pool_releases, pool_acquires}
use Rattle.pool_core.specs.PartLaws.{about}
use Rattle.pool_core.specs.PartMachine.{PartState, part_start, part_next}
use Rattle.ruled_object.specs.Gathered as gathered
use Rattle.ruled_object.specs.Growth as growth
use Rattle.ruled_object.specs.Passes as object
use Rattle.go_pool.specs.declared.pass.PoolPass.{PoolPass}
use Rattle.go_pool.specs.declared.pool.Pool.{Pool}
use Rattle.go_pool.specs.Parts as parts
use Rattle.go_pool.specs.Parts.{PartPass, PartJournal, AreOfHome, AreSeatsOf, IsColumn}

-- an entry of a part's journal
abbrev pub PoolEntry : Type 0
PoolEntry = parts.PoolEntry

-- the journals of all parts, in order of part
abbrev pub Journal : Type 0
Journal = List PartJournal

-- the journal of a part
abbrev pub journal_at : ℕ → Journal → PartJournal
journal_at part journal = get_or journal part []

-- the misuse of the first halt: that of part 0
abbrev pub halt_of : Journal → Option Misuse
halt_of journal = journals.halt_of (journal_at 0 journal)

-- what events did on the pool
abbrev pub Deeds : Type 0
Deeds = List (Deed (PoolEvent ℕ) (PoolReply ℕ))

-- the same, each with the part on which it was done
abbrev pub PartDeeds : Type 0
PartDeeds = List (ℕ × Deed (PoolEvent ℕ) (PoolReply ℕ))

-- an entry at its place in the journal of a part
pub record Placed : Type 0 where
  pub part : ℕ
  pub placed : growth.Placed (PoolEvent ℕ) (PoolReply ℕ)

-- what the entries did, those in the journal of a part, and all
abbrev pub deeds_at : List Placed → PartDeeds
deeds_at es = map (λ q. (q.part, q.placed.entry.deed)) es

abbrev pub in_part : ℕ → List Placed → List (growth.Placed (PoolEvent ℕ) (PoolReply ℕ))
in_part part [] = []
in_part part (q ∷ es) = cond (q.part == part) (q.placed ∷ in_part part es) (in_part part es)

abbrev pub all_of : List Placed → List (growth.Placed (PoolEvent ℕ) (PoolReply ℕ))
all_of es = map (λ q. q.placed) es

module _ (callers caller : ℕ) where
  -- the parts on which a caller's event is done: the one that it is about, and a sweep on each, from 0 up
  abbrev pub parts_at : PoolEvent ℕ → List ℕ
  parts_at event = option_map_or (λ part. part ∷ []) (about caller event) (range_with_len 0 callers)

  -- What the caller's event does at the parts. Where one of them refuses it, it was done on those before, and the rest has none
  abbrev pub IsDoneAt : Deed (PoolEvent ℕ) (PoolReply ℕ) → PartDeeds → Type 0
  IsDoneAt (Event event reply) done = done ≡ map (λ part. (part, Event event reply)) (parts_at event)
  IsDoneAt (Refused event misuse) done =
      (k : ℕ) × (part : ℕ) × (slice_get (parts_at event) k ≡ Some part) × (done ≡ map (λ before. (before, Event event Swept)) (take k (parts_at event)) ++ (part, Refused event misuse) ∷ [])
  IsDoneAt (Halt misuse) done = ⊥

  -- the same of several events, one after the other
  abbrev pub AreDoneAt : Deeds → PartDeeds → Type 0
  AreDoneAt [] done = done ≡ []
  AreDoneAt (deed ∷ deeds) done = (here : PartDeeds) × (later : PartDeeds) × (done ≡ here ++ later) × IsDoneAt deed here × AreDoneAt deeds later

module _ {N : Type 0} where
  -- the number of the caller
  abbrev pub number_of : PoolPass N → ℕ
  number_of pass = pass.number

  -- what the caller has seen of the journal of a part
  abbrev pub seen_of : ℕ → PoolPass N → PartJournal
  seen_of part pass = parts.seen_of part pass

  -- how many calls the pass is still good for
  abbrev pub left_of : PoolPass N → ℕ
  left_of pass = pass.left

  -- it is the pass of the same caller, good for as many calls
  abbrev pub SamePass : PoolPass N → PoolPass N → Type 0
  SamePass old new = (number_of new ≡ number_of old) × (left_of new ≡ left_of old)

  -- the same caller's pass, good for one call less
  abbrev pub IsOneLess : PoolPass N → PoolPass N → Type 0
  IsOneLess old new = (number_of new ≡ number_of old) × (left_of new + 1 ≡ left_of old)

  -- the same callers' passes, good for as many calls
  pub record SamePasses (old new : List (PoolPass N)) : Type 0 where
    pub count : length new ≡ length old
    pub each : (i : ℕ) (before after : PoolPass N) → slice_get old i ≡ Some before → slice_get new i ≡ Some after → SamePass before after

module _ {N H : Type 0} where
  -- how many callers, and so how many parts, a pool has
  abbrev pub parts_of : Pool N H → ℕ
  parts_of pool = pool.callers

  -- how many shared items a part has room for
  abbrev pub room_of : Pool N H → ℕ
  room_of pool = pool.room

  -- what a get answers that finds nothing
  abbrev pub fresh_of : Pool N H → ℕ
  fresh_of pool = pool.fresh

  -- it is the home of the notes that the pool keeps
  abbrev pub IsHomeOf : (H → N → Type 0) → Pool N H → H → Type 0
  IsHomeOf at pool home = AreOfHome at pool.parts.items home

  -- what a pass shows of each part's journal follows the machine, keeps the edge law, and has of its caller what the pass has
  abbrev pub IsLawful : Pool N H → PoolPass N → Type 0
  IsLawful pool pass = (part : ℕ) (p : PartPass N) → parts.pass_at part pass ≡ Some p → growth.IsLawful part_next true pool_releases pool_acquires (part_start (room_of pool)) p

  -- it is the pass of one caller to this pool, with a pass to each part, and shows what is lawful
  pub record IsPassOf (pool : Pool N H) (pass : PoolPass N) : Type 0 where
    pub caller : number_of pass < parts_of pool
    pub seats : AreSeatsOf pool.parts.items (number_of pass) pass.parts.items
    pub lawful : IsLawful pool pass

  -- each of these is a pass of the pool
  abbrev pub ArePasses : Pool N H → List (PoolPass N) → Type 0
  ArePasses pool passes = All (IsPassOf pool) passes

  -- all passes of the pool, in order of number
  pub record AreAllPasses (pool : Pool N H) (passes : List (PoolPass N)) : Type 0 where
    pub count : length passes ≡ parts_of pool
    pub each : (i : ℕ) (pass : PoolPass N) → slice_get passes i ≡ Some pass → IsPassOf pool pass × (number_of pass ≡ i)

  -- all passes of a new pool, in order of number, each good for so many calls. Nothing was done yet
  pub record AreNew (pool : Pool N H) (calls : ℕ) (passes : List (PoolPass N)) : Type 0 where
    pub all : AreAllPasses pool passes
    pub left : (i : ℕ) (pass : PoolPass N) → slice_get passes i ≡ Some pass → left_of pass ≡ calls
    pub seen : (i part : ℕ) (pass : PoolPass N) → slice_get passes i ≡ Some pass → seen_of part pass ≡ []
    pub own : (i part : ℕ) (pass : PoolPass N) → slice_get passes i ≡ Some pass → parts.own_of part pass ≡ []

  -- what a part holds after its journal: it began empty
  abbrev pub held_after : Pool N H → PartJournal → PartState ℕ
  held_after pool journal = journals.state_after part_next (part_start (room_of pool)) journal

  -- The caller made these entries, in order and no others, each in the journal of its part; the fronts along them never fall.
  pub record Grows (pool : Pool N H) (old : PoolPass N) (from : Front) (es : List Placed) (new : PoolPass N) (to : Front) : Type 0 where
    pub history : (part : ℕ) → growth.Leads (seen_of part old) (in_part part es) (seen_of part new)
    pub mine : (part : ℕ) → parts.own_of part new ≡ parts.own_of part old ++ growth.entries_of (in_part part es)
    pub right : AllByRecursion (growth.IsRight part_next true (part_start (room_of pool)) (number_of old)) (all_of es)
    pub fronts : journals.Rising from (growth.entries_of (all_of es)) to
    pub number : number_of new ≡ number_of old

  -- The caller made the events of a call that is spelt so, one after the other, each on the part that it is about, and no others. Halted is answered exactly where a halt stands before the last one's place.
  pub record Did {A : Type 0} (pool : Pool N H) (spells : Deeds → Answer A → Type 0) (old : PoolPass N) (from : Front) (answer : Answer A) (new : PoolPass N) (to : Front) : Type 0 where
    pub deeds : Deeds
    pub entries : List Placed
    pub grows : Grows pool old from entries new to
    pub done : AreDoneAt (parts_of pool) (number_of old) deeds (deeds_at entries)
    pub spelt : spells deeds answer
    pub halted : growth.MeetsHalt (all_of entries) answer

  -- The caller made this one entry more in the journal of each part, part by part from 0 up: in each it knew what it had seen there. The entries' numbers rise along the parts, from past the one that the caller had to this entry's, which is the last part's.
  pub record Adds (pool : Pool N H) (old : PoolPass N) (from : Front) (e : PoolEntry) (new : PoolPass N) : Type 0 where
    pub times : ℕ → ℕ
    pub past : (part : ℕ) → part < parts_of pool → from.time < times part
    pub rise : (part later : ℕ) → part < later → later < parts_of pool → times part < times later
    pub last : (part : ℕ) → part + 1 ≡ parts_of pool → times part ≡ e.time
    pub each : (part : ℕ) (before after : PartPass N) → parts.pass_at part old ≡ Some before → parts.pass_at part new ≡ Some after
        → object.Adds part_next true pool_releases pool_acquires (part_start (room_of pool)) before (record e { time = times part; knew = length (object.seen_by before) }) after

  -- the journal of each part is all that the passes' callers did on it
  pub record IsWhole (pool : Pool N H) (journal : Journal) (passes : List (PoolPass N)) : Type 0 where
    pub count : length journal ≡ parts_of pool
    pub each : (part : ℕ) → part < parts_of pool
        → (column : List (PartPass N)) × IsColumn passes part column × gathered.IsWhole part_next true pool_releases pool_acquires (part_start (room_of pool)) (journal_at part journal) column

  -- the same, and each pass has seen all of it
  pub record IsSeen (pool : Pool N H) (journal : Journal) (passes : List (PoolPass N)) : Type 0 where
    pub count : length journal ≡ parts_of pool
    pub each : (part : ℕ) → part < parts_of pool
        → (column : List (PartPass N)) × IsColumn passes part column × gathered.IsSeen part_next true pool_releases pool_acquires (part_start (room_of pool)) (journal_at part journal) column
