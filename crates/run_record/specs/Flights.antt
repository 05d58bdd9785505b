-- The flight of a call on a group of flights, by the group's journal and the lists of its callers.
use Rattle.std.specs.Prelude.{◌≡◌, ◌≢◌, ◌⊎◌, ℕ, ℤ, ◌<◌, ◌≤◌, Bool, true, List, [], ◌∷◌, ◌++◌, Some, slice_get}
use Rattle.sync_types.specs.declared.atomic_object.AtomicCall.TheVariants.{Add}
use Rattle.sync_types.specs.declared.atomic_object.AtomicReply.TheVariants.{Held}
use Rattle.sync_types.specs.declared.atomic_object.Number.TheVariants.{Int64}
use Rattle.sync_model.specs.declared.item.Item.{Item}
use Rattle.sync_model.specs.declared.item.SharedCall.TheVariants as calls
use Rattle.sync_model.specs.declared.item.SharedReply.TheVariants as answers
use Rattle.sync_model.specs.declared.journal.Deed.TheVariants.{Event}
use Rattle.flight_core.specs.declared.event.FlightEvent.{FlightEvent}
use Rattle.flight_core.specs.declared.event.FlightEvent.TheVariants.{Join, Land, Leave}
use Rattle.flight_core.specs.declared.event.FlightReply.{FlightReply}
use Rattle.flight_core.specs.declared.event.FlightReply.TheVariants.{Lead, Queued, Landed, Left}
use Rattle.run_record.specs.declared.entered.ObjectEvent.TheVariants as event
use Rattle.run_record.specs.declared.entered.ObjectReply.TheVariants as reply
use Rattle.run_record.specs.declared.made.Made.{Made}
use Rattle.run_record.specs.declared.made.Made.TheVariants.{Shared, Entered}
use Rattle.run_record.specs.Record.{Record, ObjectEntry, journal_of, list_of}

-- the entry is this event of a group of flights, and was answered this
abbrev pub IsOnFlights : FlightEvent → FlightReply → ObjectEntry → Type 0
IsOnFlights e answer entry = entry.deed ≡ Event (event.Flight e) (reply.Flight answer)

-- A flight of a key, by its group's journal: at one place its leader leads it, and at a later one lands it with a value, and is told whether the flight was shared. Between the two the leader does nothing at the group.
pub record IsFlight (journal : List ObjectEntry) (key leader from to : ℕ) (value : ℤ) (shared : Bool) : Type 0 where
  pub lead : ObjectEntry
  pub landing : ObjectEntry
  pub at_lead : slice_get journal from ≡ Some lead
  pub at_landing : slice_get journal to ≡ Some landing
  pub leads : IsOnFlights (Join key) Lead lead
  pub lands : IsOnFlights (Land value) (Landed shared) landing
  pub led_by : lead.caller ≡ leader
  pub landed_by : landing.caller ≡ leader
  pub in_order : from < to
  pub busy : (i : ℕ) (entry : ObjectEntry) → from < i → i < to → slice_get journal i ≡ Some entry → entry.caller ≢ leader

-- somebody joins a flight of the key between these places of the journal
pub record HasJoiner (journal : List ObjectEntry) (key from to : ℕ) : Type 0 where
  pub at : ℕ
  pub joiner : ObjectEntry
  pub is : slice_get journal at ≡ Some joiner
  pub joins : IsOnFlights (Join key) Queued joiner
  pub after_lead : from < at
  pub before_landing : at < to

-- In its leader's list a flight is three items, one behind the other: the lead, one `add` of the amount to atomic number a, which comes to the value, and the landing.
pub record AddsOnce (list : List Made) (object a : ℕ) (amount value : ℤ) (lead landing : ObjectEntry) : Type 0 where
  pub earlier : List Made
  pub add : Item
  pub later : List Made
  pub are : list ≡ earlier ++ Entered object lead ∷ (Shared add ∷ (Entered object landing ∷ later))
  pub adds : add.call ≡ calls.Atomic a (Add (Int64 amount))
  pub comes_to : add.reply ≡ answers.Atomic (Held (Int64 value))

-- The flight of a call of a worker for a key, which answers a value and whether that was shared. The group, which is this object, adds the amount to atomic number a.
pub record FliesOnce (r : Record) (object a : ℕ) (amount : ℤ) (worker key : ℕ) (items : List Made) (value : ℤ) (shared : Bool) : Type 0 where
  -- there is a flight of the key that came to the value, by its leader's one `add`
  pub leader : ℕ
  pub from : ℕ
  pub to : ℕ
  pub flight : IsFlight (journal_of r object) key leader from to value shared
  pub added : AddsOnce (list_of r leader) object a amount value flight.lead flight.landing
  -- the first and the last item of the call, and where they stand in the journal
  pub first : ObjectEntry
  pub between : List Made
  pub last : ObjectEntry
  pub are : items ≡ Entered object first ∷ (between ++ Entered object last ∷ [])
  pub came : ℕ
  pub left : ℕ
  pub at_first : slice_get (journal_of r object) came ≡ Some first
  pub at_last : slice_get (journal_of r object) left ≡ Some last
  -- the call led the flight, or joined it before its landing and left behind it
  pub led_or_joined : ((worker ≡ leader) × (came ≡ from) × (left ≡ to))
      ⊎ ((worker ≢ leader) × IsOnFlights (Join key) Queued first × IsOnFlights Leave (Left value) last × (from < came) × (came < to) × (to < left))
  -- no other flight of the key lasts when the call comes
  pub only : (another start end : ℕ) (other : ℤ) (other_shared : Bool) → IsFlight (journal_of r object) key another start end other other_shared → start ≤ came → came < end → (another ≡ leader) × (start ≡ from) × (end ≡ to)
  -- the flight was shared exactly where somebody joined it
  pub shared_so : shared ≡ true → HasJoiner (journal_of r object) key from to
  pub joined_so : HasJoiner (journal_of r object) key from to → shared ≡ true
