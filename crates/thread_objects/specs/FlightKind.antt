-- What is the own of a group of flights.
use Rattle.std.specs.Global.{Vec}
use Rattle.std.specs.Prelude.{ℕ, Option, Some, None}
use Rattle.flight_core.specs.declared.calls.FlightStand.{FlightStand}
use Rattle.flight_core.specs.declared.calls.FlightStand.TheVariants.{Out}
use Rattle.flight_core.specs.declared.event.FlightEvent.{FlightEvent}
use Rattle.flight_core.specs.declared.event.FlightReply.{FlightReply}
use Rattle.flight_core.specs.FlightEdges.{flight_releases, flight_acquires}
use Rattle.flight_core.specs.FlightMachine.{FlightState, start, next}
use Rattle.flight_core.specs.FlightStages.{flight_stands, FlightBegins}
use Rattle.workload.specs.declared.object.ObjectKind.{ObjectKind}
use Rattle.workload.specs.declared.object.ObjectKind.TheVariants as kinds
use Rattle.workload.specs.declared.object.ObjectWord.TheVariants as words
use Rattle.ruled_object.specs.declared.pass.Pass.{Pass}
use Rattle.run_record.specs.declared.entered.ObjectEvent.TheVariants as events
use Rattle.run_record.specs.declared.entered.ObjectReply.TheVariants as replies
use Rattle.thread_objects.specs.declared.column.AnyColumn.{AnyColumn}
use Rattle.thread_objects.specs.declared.column.AnyColumn.TheVariants as columns
use Rattle.thread_objects.specs.declared.pass.AnyPass.{AnyPass}
use Rattle.thread_objects.specs.declared.pass.AnyPass.TheVariants as passes
use Rattle.thread_objects.specs.EachKind.{Kind}

-- the state in which it begins, if the workload declares a group of flights here
abbrev pub flight_starts : ℕ → ObjectKind → Option FlightState
flight_starts workers (kinds.Flight atomic delta) = Some (start workers)
flight_starts workers kind = None

-- the pass, if it is one to a group of flights
abbrev pub flight_pass : {N : Type 0} → AnyPass N → Option (Pass FlightState N FlightEvent FlightReply)
flight_pass (passes.Flight pass) = Some pass
flight_pass pass = None

-- the passes of a column, if they are to a group of flights
abbrev pub flight_column : {N : Type 0} → AnyColumn N → Option (Vec (Pass FlightState N FlightEvent FlightReply))
flight_column (columns.Flight ps) = Some ps
flight_column column = None

abbrev pub flight : Kind FlightState FlightEvent FlightReply FlightStand
flight = record {
  word = Some words.Flight;
  starts = flight_starts;
  begins = FlightBegins;
  out = Out;
  stands = flight_stands;
  next = next;
  frees = flight_releases;
  takes = flight_acquires;
  event = events.Flight;
  reply = replies.Flight;
  pass = flight_pass;
  column = flight_column;
}
