-- What is a once's own.
use Rattle.std.specs.Global.{Vec}
use Rattle.std.specs.Prelude.{ℕ, ℤ, Bool, Option, Some, None}
use Rattle.script_calls.specs.declared.call.Reply.{Reply}
use Rattle.script_calls.specs.declared.call.Reply.TheVariants as reply_of
use Rattle.sync_types.specs.declared.once_call.DoReply.TheVariants as do_replies
use Rattle.wait_cores.specs.declared.once.OnceEvent.{OnceEvent}
use Rattle.wait_cores.specs.declared.once.OnceReply.{OnceReply}
use Rattle.wait_cores.specs.OnceMachine.{OnceState, start}
use Rattle.workload.specs.declared.object.ObjectKind.{ObjectKind}
use Rattle.workload.specs.declared.object.ObjectKind.TheVariants as kinds
use Rattle.workload.specs.declared.object.ObjectWord.TheVariants as words
use Rattle.ruled_object.specs.declared.pass.Pass.{Pass}
use Rattle.run_record.specs.declared.entered.ObjectEvent.TheVariants as events
use Rattle.run_record.specs.declared.entered.ObjectReply.TheVariants as replies
use Rattle.thread_objects.specs.declared.column.AnyColumn.{AnyColumn}
use Rattle.thread_objects.specs.declared.column.AnyColumn.TheVariants as columns
use Rattle.thread_objects.specs.declared.pass.AnyPass.{AnyPass}
use Rattle.thread_objects.specs.declared.pass.AnyPass.TheVariants as passes
use Rattle.thread_objects.specs.EachKind.{Kind}
use Rattle.thread_objects.specs.OnceKinds.{of_onces}

-- the state in which it begins, if the workload declares a once here
abbrev pub once_starts : ℕ → ObjectKind → Option (OnceState ℤ)
once_starts workers (kinds.Once atomic delta) = Some (start workers)
once_starts workers kind = None

-- the pass, if it is one to a once
abbrev pub once_pass : {N : Type 0} → AnyPass N → Option (Pass (OnceState ℤ) N (OnceEvent ℤ) (OnceReply ℤ))
once_pass (passes.Once pass) = Some pass
once_pass pass = None

-- the passes of a column, if they are to a once
abbrev pub once_column : {N : Type 0} → AnyColumn N → Option (Vec (Pass (OnceState ℤ) N (OnceEvent ℤ) (OnceReply ℤ)))
once_column (columns.Once ps) = Some ps
once_column column = None

abbrev pub once : Kind (OnceState ℤ) (OnceEvent ℤ) (OnceReply ℤ) (Bool × Bool)
once = of_onces words.Once once_starts events.Once replies.Once (λ N pass. once_pass pass) (λ N column. once_column column)

-- what a call replies that ran the function
abbrev pub ran : ℤ → Reply ℕ
ran sum = reply_of.Once (do_replies.Ran sum)
