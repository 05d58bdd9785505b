-- What is the own of a function made by `OnceFunc`.
use Rattle.std.specs.Global.{Vec}
use Rattle.std.specs.Prelude.{ℕ, Bool, Option, Some, None}
use Rattle.script_calls.specs.declared.call.Reply.{Reply}
use Rattle.script_calls.specs.declared.call.Reply.TheVariants as reply_of
use Rattle.wait_cores.specs.declared.once.OnceEvent.{OnceEvent}
use Rattle.wait_cores.specs.declared.once.OnceReply.{OnceReply}
use Rattle.wait_cores.specs.OnceMachine.{OnceState, start}
use Rattle.workload.specs.declared.object.ObjectKind.{ObjectKind}
use Rattle.workload.specs.declared.object.ObjectKind.TheVariants as kinds
use Rattle.workload.specs.declared.object.ObjectWord.TheVariants as words
use Rattle.ruled_object.specs.declared.pass.Pass.{Pass}
use Rattle.run_record.specs.declared.entered.ObjectEvent.TheVariants as events
use Rattle.run_record.specs.declared.entered.ObjectReply.TheVariants as replies
use Rattle.run_record.specs.OnceKind.{failure}
use Rattle.thread_objects.specs.declared.column.AnyColumn.{AnyColumn}
use Rattle.thread_objects.specs.declared.column.AnyColumn.TheVariants as columns
use Rattle.thread_objects.specs.declared.pass.AnyPass.{AnyPass}
use Rattle.thread_objects.specs.declared.pass.AnyPass.TheVariants as passes
use Rattle.thread_objects.specs.EachKind.{Kind}
use Rattle.thread_objects.specs.OnceKinds.{of_onces}

-- the state in which it begins, if the workload declares a function made by `OnceFunc` here
abbrev pub once_func_starts : ℕ → ObjectKind → Option (OnceState ℕ)
once_func_starts workers (kinds.OnceFunc code) = Some (start workers)
once_func_starts workers kind = None

-- the pass, if it is one to a function made by `OnceFunc`
abbrev pub once_func_pass : {N : Type 0} → AnyPass N → Option (Pass (OnceState ℕ) N (OnceEvent ℕ) (OnceReply ℕ))
once_func_pass (passes.OnceFunc pass) = Some pass
once_func_pass pass = None

-- the passes of a column, if they are to a function made by `OnceFunc`
abbrev pub once_func_column : {N : Type 0} → AnyColumn N → Option (Vec (Pass (OnceState ℕ) N (OnceEvent ℕ) (OnceReply ℕ)))
once_func_column (columns.OnceFunc ps) = Some ps
once_func_column column = None

abbrev pub once_func : Kind (OnceState ℕ) (OnceEvent ℕ) (OnceReply ℕ) (Bool × Bool)
once_func = of_onces words.OnceFunc once_func_starts events.OnceFunc replies.OnceFunc (λ N pass. once_func_pass pass) (λ N column. once_func_column column)

-- what a call replies, where the function came to this code
abbrev pub func_told : ℕ → Reply ℕ
func_told kept = reply_of.OnceFunc (failure kept)
