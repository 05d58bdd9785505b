-- What is a wait group's own.
use Rattle.std.specs.Global.{Vec}
use Rattle.std.specs.Prelude.{ℕ, Bool, false, Option, Some, None}
use Rattle.wait_cores.specs.declared.group.GroupEvent.{GroupEvent}
use Rattle.wait_cores.specs.declared.group.GroupReply.{GroupReply}
use Rattle.wait_cores.specs.GroupEdges.{group_releases, group_acquires}
use Rattle.wait_cores.specs.GroupMachine.{GroupState, next}
use Rattle.wait_cores.specs.GroupStanding.{waits_after}
use Rattle.protocols.specs.GroupStages.{GroupBegins}
use Rattle.workload.specs.declared.object.ObjectKind.{ObjectKind}
use Rattle.workload.specs.declared.object.ObjectKind.TheVariants as kinds
use Rattle.workload.specs.declared.object.ObjectWord.TheVariants as words
use Rattle.ruled_object.specs.declared.pass.Pass.{Pass}
use Rattle.run_record.specs.declared.entered.ObjectEvent.TheVariants as events
use Rattle.run_record.specs.declared.entered.ObjectReply.TheVariants as replies
use Rattle.run_record.specs.WaitGroupKind.{group_start}
use Rattle.thread_objects.specs.declared.column.AnyColumn.{AnyColumn}
use Rattle.thread_objects.specs.declared.column.AnyColumn.TheVariants as columns
use Rattle.thread_objects.specs.declared.pass.AnyPass.{AnyPass}
use Rattle.thread_objects.specs.declared.pass.AnyPass.TheVariants as passes
use Rattle.thread_objects.specs.EachKind.{Kind}

-- the state in which it begins, if the workload declares a wait group here, whose counter is this at the start
abbrev pub wait_group_starts : ℕ → ObjectKind → Option GroupState
wait_group_starts workers (kinds.WaitGroup counter) = Some (group_start workers counter)
wait_group_starts workers kind = None

-- the pass, if it is one to a wait group
abbrev pub wait_group_pass : {N : Type 0} → AnyPass N → Option (Pass GroupState N GroupEvent GroupReply)
wait_group_pass (passes.WaitGroup pass) = Some pass
wait_group_pass pass = None

-- the passes of a column, if they are to a wait group
abbrev pub wait_group_column : {N : Type 0} → AnyColumn N → Option (Vec (Pass GroupState N GroupEvent GroupReply))
wait_group_column (columns.WaitGroup ps) = Some ps
wait_group_column column = None

abbrev pub wait_group : Kind GroupState GroupEvent GroupReply Bool
wait_group = record {
  word = Some words.WaitGroup;
  starts = wait_group_starts;
  begins = GroupBegins;
  out = false;
  stands = waits_after;
  next = next;
  frees = group_releases;
  takes = group_acquires;
  event = events.WaitGroup;
  reply = replies.WaitGroup;
  pass = wait_group_pass;
  column = wait_group_column;
}
