-- What contracts see of a running Flight and of the passes to it.
use Rattle.std.specs.Prelude.{◌≡◌, ℕ, true, List, All}
use Rattle.sync_model.specs.declared.journal.Entry.{Entry}
use Rattle.sync_model.specs.Front.{Front}
use Rattle.flight_core.specs.declared.event.FlightEvent.{FlightEvent}
use Rattle.flight_core.specs.declared.event.FlightReply.{FlightReply}
use Rattle.flight_core.specs.FlightEdges.{flight_releases, flight_acquires}
use Rattle.flight_core.specs.FlightMachine.{FlightState, next}
use Rattle.flight_core.specs.FlightStages.{flight_stands}
use Rattle.flight_core.specs.declared.calls.FlightStand.TheVariants.{Out, Leads}
use Rattle.ruled_object.specs.declared.pass.Pass.{Pass}
use Rattle.ruled_object.specs.Gathered as gathered
use Rattle.ruled_object.specs.Growth.{Placed, Grows, IsLawful}
use Rattle.ruled_object.specs.Passes as object
use Rattle.ruled_object.specs.Standing.{stand_by}
use Rattle.call_loop.specs.Between.{IsBetween, AreAllBetween, AreNewBetween}
use Rattle.single_flight.specs.declared.group.Group.{Group}

-- an entry of a group's journal
abbrev pub FlightMade : Type 0
FlightMade = Entry FlightEvent FlightReply

-- what was done on a group, in its one order
abbrev pub FlightJournal : Type 0
FlightJournal = List FlightMade

-- the pass of a caller
abbrev pub FlightPass : Type 0 → Type 0
FlightPass N = Pass FlightState N FlightEvent FlightReply

module _ {N H : Type 0} where
  -- how many callers it has, and the state that its machine started from
  abbrev pub callers_of : Group N H → ℕ
  callers_of group = object.callers_of group.object

  abbrev pub start_of : Group N H → FlightState
  start_of group = object.start_of group.object

  -- it is the home of the note that the group was made with
  abbrev pub IsHomeOf : (H → N → Type 0) → Group N H → H → Type 0
  IsHomeOf at group home = object.IsHomeOf at group.object home

  -- it is the pass of a caller of this group that is between two calls: by its own entries it is in no flight
  abbrev pub IsPassOf : Group N H → FlightPass N → Type 0
  IsPassOf group pass = IsBetween Out flight_stands group.object pass

  -- it is the pass of a caller of this group that leads a flight, by its own entries
  pub record IsLeaderOf (group : Group N H) (pass : FlightPass N) : Type 0 where
    pub of : object.IsPassOf group.object pass
    pub leads : stand_by Out flight_stands (object.own_by pass) ≡ Leads

  -- each of these is the pass of a caller of the group
  abbrev pub AreFlightPasses : Group N H → List (FlightPass N) → Type 0
  AreFlightPasses group passes = All (IsPassOf group) passes

  -- all passes of the group, in order of number, each between two calls
  abbrev pub AreAllPasses : Group N H → List (FlightPass N) → Type 0
  AreAllPasses group passes = AreAllBetween Out flight_stands group.object passes

  -- all passes of a new group, each good for so many calls. Nothing was done yet
  abbrev pub AreNew : Group N H → ℕ → List (FlightPass N) → Type 0
  AreNew group calls passes = AreNewBetween Out flight_stands group.object calls passes

  -- the caller made these entries, in order and no others; the fronts along them never fall
  abbrev pub FlightGrows : Group N H → FlightPass N → Front → List (Placed FlightEvent FlightReply) → FlightPass N → Front → Type 0
  FlightGrows group old from es new to = Grows next true (start_of group) old from es new to

  -- what a pass shows of the journal follows the machine, keeps the edge law, and has of its caller what the pass has
  abbrev pub IsFlightLawful : Group N H → FlightPass N → Type 0
  IsFlightLawful group pass = IsLawful next true flight_releases flight_acquires (start_of group) pass

  -- the caller halted the group by this entry
  abbrev pub FlightHalts : Group N H → FlightPass N → FlightMade → FlightPass N → Type 0
  FlightHalts group old e new = object.Adds next true flight_releases flight_acquires (start_of group) old e new

  -- the journal is all that the passes' callers did on the group
  abbrev pub IsFlightWhole : Group N H → FlightJournal → List (FlightPass N) → Type 0
  IsFlightWhole group journal passes = gathered.IsWhole next true flight_releases flight_acquires (start_of group) journal passes

  -- the same, and each pass has seen all of it
  abbrev pub IsFlightSeen : Group N H → FlightJournal → List (FlightPass N) → Type 0
  IsFlightSeen group journal passes = gathered.IsSeen next true flight_releases flight_acquires (start_of group) journal passes
