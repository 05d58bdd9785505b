-- What is a reader/writer mutex's own.
use Rattle.std.specs.Global.{Vec}
use Rattle.std.specs.Prelude.{ℕ, Bool, false, Option, Some, None}
use Rattle.rw_core.specs.declared.event.RwEvent.{RwEvent}
use Rattle.rw_core.specs.declared.reply.RwReply.{RwReply}
use Rattle.rw_core.specs.Edges.{releases, acquires}
use Rattle.rw_core.specs.RwMachine.{State, start, next}
use Rattle.protocols.specs.RwMutexStages.{rw_stands, RwMutexBegins}
use Rattle.workload.specs.declared.object.ObjectKind.{ObjectKind}
use Rattle.workload.specs.declared.object.ObjectKind.TheVariants as kinds
use Rattle.workload.specs.declared.object.ObjectWord.TheVariants as words
use Rattle.ruled_object.specs.declared.pass.Pass.{Pass}
use Rattle.run_record.specs.declared.entered.ObjectEvent.TheVariants as events
use Rattle.run_record.specs.declared.entered.ObjectReply.TheVariants as replies
use Rattle.thread_objects.specs.declared.column.AnyColumn.{AnyColumn}
use Rattle.thread_objects.specs.declared.column.AnyColumn.TheVariants as columns
use Rattle.thread_objects.specs.declared.pass.AnyPass.{AnyPass}
use Rattle.thread_objects.specs.declared.pass.AnyPass.TheVariants as passes
use Rattle.thread_objects.specs.EachKind.{Kind}

-- the state in which it begins, if the workload declares a reader/writer mutex here
abbrev pub rw_mutex_starts : ℕ → ObjectKind → Option State
rw_mutex_starts workers kinds.RwMutex = Some (start workers)
rw_mutex_starts workers kind = None

-- the pass, if it is one to a reader/writer mutex
abbrev pub rw_mutex_pass : {N : Type 0} → AnyPass N → Option (Pass State N RwEvent RwReply)
rw_mutex_pass (passes.RwMutex pass) = Some pass
rw_mutex_pass pass = None

-- the passes of a column, if they are to a reader/writer mutex
abbrev pub rw_mutex_column : {N : Type 0} → AnyColumn N → Option (Vec (Pass State N RwEvent RwReply))
rw_mutex_column (columns.RwMutex ps) = Some ps
rw_mutex_column column = None

abbrev pub rw_mutex : Kind State RwEvent RwReply Bool
rw_mutex = record {
  word = Some words.RwMutex;
  starts = rw_mutex_starts;
  begins = RwMutexBegins;
  out = false;
  stands = rw_stands;
  next = next;
  frees = λ event reply. releases reply;
  takes = λ event reply. acquires reply;
  event = events.RwMutex;
  reply = replies.RwMutex;
  pass = rw_mutex_pass;
  column = rw_mutex_column;
}
