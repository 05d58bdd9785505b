-- What is a weighted semaphore's own.
use Rattle.std.specs.Global.{Vec}
use Rattle.std.specs.Prelude.{ℕ, Bool, false, Option, Some, None}
use Rattle.sema_core.specs.declared.event.SemaEvent.{SemaEvent}
use Rattle.sema_core.specs.declared.event.SemaReply.{SemaReply}
use Rattle.sema_core.specs.SemaEdges.{sema_releases, sema_acquires}
use Rattle.sema_core.specs.SemaMachine.{SemaState, start, next}
use Rattle.sema_core.specs.SemaStages.{SemaBegins}
use Rattle.sema_core.specs.SemaStanding.{waits_after}
use Rattle.workload.specs.declared.object.ObjectKind.{ObjectKind}
use Rattle.workload.specs.declared.object.ObjectKind.TheVariants as kinds
use Rattle.workload.specs.declared.object.ObjectWord.TheVariants as words
use Rattle.ruled_object.specs.declared.pass.Pass.{Pass}
use Rattle.run_record.specs.declared.entered.ObjectEvent.TheVariants as events
use Rattle.run_record.specs.declared.entered.ObjectReply.TheVariants as replies
use Rattle.thread_objects.specs.declared.column.AnyColumn.{AnyColumn}
use Rattle.thread_objects.specs.declared.column.AnyColumn.TheVariants as columns
use Rattle.thread_objects.specs.declared.pass.AnyPass.{AnyPass}
use Rattle.thread_objects.specs.declared.pass.AnyPass.TheVariants as passes
use Rattle.thread_objects.specs.EachKind.{Kind}

-- the state in which it begins, if the workload declares a semaphore here, which has this size
abbrev pub sema_starts : ℕ → ObjectKind → Option SemaState
sema_starts workers (kinds.Sema size) = Some (start workers size)
sema_starts workers kind = None

-- the pass, if it is one to a semaphore
abbrev pub sema_pass : {N : Type 0} → AnyPass N → Option (Pass SemaState N SemaEvent SemaReply)
sema_pass (passes.Sema pass) = Some pass
sema_pass pass = None

-- the passes of a column, if they are to a semaphore
abbrev pub sema_column : {N : Type 0} → AnyColumn N → Option (Vec (Pass SemaState N SemaEvent SemaReply))
sema_column (columns.Sema ps) = Some ps
sema_column column = None

abbrev pub sema : Kind SemaState SemaEvent SemaReply Bool
sema = record {
  word = Some words.Sema;
  starts = sema_starts;
  begins = SemaBegins;
  out = false;
  stands = waits_after;
  next = next;
  frees = sema_releases;
  takes = sema_acquires;
  event = events.Sema;
  reply = replies.Sema;
  pass = sema_pass;
  column = sema_column;
}
