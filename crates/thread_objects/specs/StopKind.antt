-- What is Stop's own.
use Rattle.std.specs.Global.{Vec}
use Rattle.std.specs.Prelude.{false, Option, Some, None}
use Rattle.ruled_object.specs.declared.pass.Pass.{Pass}
use Rattle.thread_objects.specs.declared.column.AnyColumn.{AnyColumn}
use Rattle.thread_objects.specs.declared.column.AnyColumn.TheVariants as columns
use Rattle.thread_objects.specs.declared.pass.AnyPass.{AnyPass}
use Rattle.thread_objects.specs.declared.pass.AnyPass.TheVariants as passes
use Rattle.thread_objects.specs.declared.parts.stop.NoEvent.{NoEvent}
use Rattle.thread_objects.specs.EachKind.{Kind}
use Rattle.thread_objects.specs.Stop.{StopBegins, stop_stands, no_event, no_reply}

-- the pass, if it is one to Stop
abbrev pub stop_pass : {N : Type 0} → AnyPass N → Option (Pass (Unit {0}) N NoEvent NoEvent)
stop_pass (passes.Stop pass) = Some pass
stop_pass pass = None

-- the passes of a column, if they are to Stop
abbrev pub stop_column : {N : Type 0} → AnyColumn N → Option (Vec (Pass (Unit {0}) N NoEvent NoEvent))
stop_column (columns.Stop ps) = Some ps
stop_column column = None

-- no workload declares it
abbrev pub stop : Kind (Unit {0}) NoEvent NoEvent (Unit {0})
stop = record {
  word = None;
  starts = λ workers kind. None;
  begins = StopBegins;
  out = tt;
  stands = stop_stands;
  next = λ state caller event. (state, event);
  frees = λ event reply. false;
  takes = λ event reply. false;
  event = no_event;
  reply = no_reply;
  pass = stop_pass;
  column = stop_column;
}
