-- What is the own of Starts, on which workers are started.
use Rattle.std.specs.Global.{Vec}
use Rattle.std.specs.Prelude.{Option, Some, None}
use Rattle.starts_core.specs.declared.starts.StartEvent.{StartEvent}
use Rattle.starts_core.specs.declared.starts.StartReply.{StartReply}
use Rattle.starts_core.specs.StartsEdges.{starts_releases, starts_acquires}
use Rattle.starts_core.specs.StartsMachine.{StartsState, next}
use Rattle.starts_core.specs.StartsStages.{starts_stands, StartsBegins}
use Rattle.ruled_object.specs.declared.pass.Pass.{Pass}
use Rattle.run_record.specs.declared.entered.ObjectEvent.TheVariants as events
use Rattle.run_record.specs.declared.entered.ObjectReply.TheVariants as replies
use Rattle.thread_objects.specs.declared.column.AnyColumn.{AnyColumn}
use Rattle.thread_objects.specs.declared.column.AnyColumn.TheVariants as columns
use Rattle.thread_objects.specs.declared.pass.AnyPass.{AnyPass}
use Rattle.thread_objects.specs.declared.pass.AnyPass.TheVariants as passes
use Rattle.thread_objects.specs.EachKind.{Kind}

-- the pass, if it is one to Starts
abbrev pub starts_pass : {N : Type 0} → AnyPass N → Option (Pass StartsState N StartEvent StartReply)
starts_pass (passes.Starts pass) = Some pass
starts_pass pass = None

-- the passes of a column, if they are to Starts
abbrev pub starts_column : {N : Type 0} → AnyColumn N → Option (Vec (Pass StartsState N StartEvent StartReply))
starts_column (columns.Starts ps) = Some ps
starts_column column = None

-- no workload declares it
abbrev pub starts : Kind StartsState StartEvent StartReply (Unit {0})
starts = record {
  word = None;
  starts = λ workers kind. None;
  begins = StartsBegins;
  out = tt;
  stands = starts_stands;
  next = next;
  frees = starts_releases;
  takes = starts_acquires;
  event = events.Starts;
  reply = replies.Starts;
  pass = starts_pass;
  column = starts_column;
}
