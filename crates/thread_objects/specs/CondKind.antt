-- What is a cond's own.
use Rattle.std.specs.Global.{Vec}
use Rattle.std.specs.Prelude.{ℕ, Option, Some, None}
use Rattle.wait_cores.specs.declared.notify.NotifyEvent.{NotifyEvent}
use Rattle.wait_cores.specs.declared.notify.NotifyReply.{NotifyReply}
use Rattle.wait_cores.specs.NotifyEdges.{notify_releases, notify_acquires}
use Rattle.wait_cores.specs.NotifyMachine.{NotifyState, start, next}
use Rattle.protocols.specs.CondStages.{cond_stands, CondBegins}
use Rattle.workload.specs.declared.object.ObjectKind.{ObjectKind}
use Rattle.workload.specs.declared.object.ObjectKind.TheVariants as kinds
use Rattle.workload.specs.declared.object.ObjectWord.TheVariants as words
use Rattle.ruled_object.specs.declared.pass.Pass.{Pass}
use Rattle.run_record.specs.declared.entered.ObjectEvent.TheVariants as events
use Rattle.run_record.specs.declared.entered.ObjectReply.TheVariants as replies
use Rattle.thread_objects.specs.declared.column.AnyColumn.{AnyColumn}
use Rattle.thread_objects.specs.declared.column.AnyColumn.TheVariants as columns
use Rattle.thread_objects.specs.declared.pass.AnyPass.{AnyPass}
use Rattle.thread_objects.specs.declared.pass.AnyPass.TheVariants as passes
use Rattle.thread_objects.specs.EachKind.{Kind}

-- the state in which it begins, if the workload declares a cond here
abbrev pub cond_starts : ℕ → ObjectKind → Option NotifyState
cond_starts workers (kinds.Cond mutex) = Some (start workers)
cond_starts workers kind = None

-- the pass, if it is one to a cond
abbrev pub cond_pass : {N : Type 0} → AnyPass N → Option (Pass NotifyState N NotifyEvent NotifyReply)
cond_pass (passes.Cond pass) = Some pass
cond_pass pass = None

-- the passes of a column, if they are to a cond
abbrev pub cond_column : {N : Type 0} → AnyColumn N → Option (Vec (Pass NotifyState N NotifyEvent NotifyReply))
cond_column (columns.Cond ps) = Some ps
cond_column column = None

abbrev pub cond : Kind NotifyState NotifyEvent NotifyReply (Unit {0})
cond = record {
  word = Some words.Cond;
  starts = cond_starts;
  begins = CondBegins;
  out = tt;
  stands = cond_stands;
  next = next;
  frees = notify_releases;
  takes = notify_acquires;
  event = events.Cond;
  reply = replies.Cond;
  pass = cond_pass;
  column = cond_column;
}
