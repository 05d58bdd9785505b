-- What is a mutex's own.
use Rattle.std.specs.Global.{Vec}
use Rattle.std.specs.Prelude.{ℕ, Bool, false, Option, Some, None}
use Rattle.mutex_core.specs.declared.event.MutexEvent.{MutexEvent}
use Rattle.mutex_core.specs.declared.reply.MutexReply.{MutexReply}
use Rattle.mutex_core.specs.Edges.{releases, acquires}
use Rattle.mutex_core.specs.MutexMachine.{State, start, next}
use Rattle.protocols.specs.MutexStages.{mutex_stands, MutexBegins}
use Rattle.workload.specs.declared.object.ObjectKind.{ObjectKind}
use Rattle.workload.specs.declared.object.ObjectKind.TheVariants as kinds
use Rattle.workload.specs.declared.object.ObjectWord.TheVariants as words
use Rattle.ruled_object.specs.declared.pass.Pass.{Pass}
use Rattle.run_record.specs.declared.entered.ObjectEvent.TheVariants as events
use Rattle.run_record.specs.declared.entered.ObjectReply.TheVariants as replies
use Rattle.thread_objects.specs.declared.column.AnyColumn.{AnyColumn}
use Rattle.thread_objects.specs.declared.column.AnyColumn.TheVariants as columns
use Rattle.thread_objects.specs.declared.pass.AnyPass.{AnyPass}
use Rattle.thread_objects.specs.declared.pass.AnyPass.TheVariants as passes
use Rattle.thread_objects.specs.EachKind.{Kind}

-- the state in which it begins, if the workload declares a mutex here
abbrev pub mutex_starts : ℕ → ObjectKind → Option State
mutex_starts workers kinds.Mutex = Some (start workers)
mutex_starts workers kind = None

-- the pass, if it is one to a mutex
abbrev pub mutex_pass : {N : Type 0} → AnyPass N → Option (Pass State N MutexEvent MutexReply)
mutex_pass (passes.Mutex pass) = Some pass
mutex_pass pass = None

-- the passes of a column, if they are to a mutex
abbrev pub mutex_column : {N : Type 0} → AnyColumn N → Option (Vec (Pass State N MutexEvent MutexReply))
mutex_column (columns.Mutex ps) = Some ps
mutex_column column = None

abbrev pub mutex : Kind State MutexEvent MutexReply Bool
mutex = record {
  word = Some words.Mutex;
  starts = mutex_starts;
  begins = MutexBegins;
  out = false;
  stands = mutex_stands;
  next = next;
  frees = λ event reply. releases reply;
  takes = λ event reply. acquires reply;
  event = events.Mutex;
  reply = replies.Mutex;
  pass = mutex_pass;
  column = mutex_column;
}
