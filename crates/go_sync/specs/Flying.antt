-- Which events a call makes that comes for a key with a function, how it answers by them, and when it may call the function.
use Rattle.std.specs.Prelude.{◌≡◌, ◌⊎◌, ℕ, ℤ, Bool, true, List, [], ◌∷◌}
use Rattle.sync_model.specs.declared.answer.Answer.{Answer}
use Rattle.sync_model.specs.declared.answer.Answer.TheVariants.{Done, Halted}
use Rattle.sync_model.specs.declared.journal.Deed.TheVariants.{Event, Refused}
use Rattle.sync_model.specs.Front.{Front}
use Rattle.flight_core.specs.declared.event.FlightEvent.{FlightEvent}
use Rattle.flight_core.specs.declared.event.FlightEvent.TheVariants.{Join, Land}
use Rattle.flight_core.specs.declared.event.FlightReply.{FlightReply}
use Rattle.flight_core.specs.declared.event.FlightReply.TheVariants as reply
use Rattle.ruled_object.specs.Growth.{Placed, deeds_of}
use Rattle.single_flight.specs.declared.begun.Begun.TheVariants.{Got}
use Rattle.single_flight.specs.declared.group.Group.{Group}
use Rattle.single_flight.specs.FlightCalls.{FlightDeeds, Comes}
use Rattle.single_flight.specs.Flights.{FlightPass, FlightGrows, IsLeaderOf}
use Rattle.go_sync.specs.Made.{no_front}

-- Where the caller leads the flight it lands what its function came to, and answers that, with whether anybody joined. Else it answers what the flight came to that it joined, and that it is shared.
abbrev pub Flies : (ℤ → Type 0) → ℕ → FlightDeeds → Answer (ℤ × Bool) → Type 0
Flies work key deeds (Done answer) =
    (work answer.0 × (deeds ≡ Event (Join key) reply.Lead ∷ (Event (Land answer.0) (reply.Landed answer.1) ∷ []))) ⊎ (Comes key deeds (Done (Got answer.0)) × (answer.1 ≡ true))
Flies work key deeds (Halted misuse) =
    ((value : ℤ) × work value × (deeds ≡ Event (Join key) reply.Lead ∷ (Refused (Land value) misuse ∷ []))) ⊎ Comes key deeds (Halted misuse)

-- The pass shows that its caller, which came with `old`, leads the flight of the key: its one event since said so, and it hasn't landed.
pub record MayLand {N H : Type 0} (flights : Group N H) (key : ℕ) (old leader : FlightPass N) : Type 0 where
  pub leads : IsLeaderOf flights leader
  pub front : Front
  pub entries : List (Placed FlightEvent FlightReply)
  pub grows : FlightGrows flights old (no_front 0) entries leader front
  pub deeds : deeds_of entries ≡ Event (Join key) reply.Lead ∷ []
