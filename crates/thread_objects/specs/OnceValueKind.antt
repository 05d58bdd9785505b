-- What is the own of a function made by `OnceValue`.
use Rattle.std.specs.Global.{Vec}
use Rattle.std.specs.Prelude.{ℕ, Bool, Option, Some, None}
use Rattle.script_calls.specs.declared.call.Reply.{Reply}
use Rattle.script_calls.specs.declared.call.Reply.TheVariants as reply_of
use Rattle.wait_cores.specs.declared.once.OnceEvent.{OnceEvent}
use Rattle.wait_cores.specs.declared.once.OnceReply.{OnceReply}
use Rattle.wait_cores.specs.OnceMachine.{OnceState, start}
use Rattle.workload.specs.declared.object.ObjectKind.{ObjectKind}
use Rattle.workload.specs.declared.object.ObjectKind.TheVariants as kinds
use Rattle.workload.specs.declared.object.ObjectWord.TheVariants as words
use Rattle.ruled_object.specs.declared.pass.Pass.{Pass}
use Rattle.run_record.specs.declared.entered.ObjectEvent.TheVariants as events
use Rattle.run_record.specs.declared.entered.ObjectReply.TheVariants as replies
use Rattle.thread_objects.specs.declared.column.AnyColumn.{AnyColumn}
use Rattle.thread_objects.specs.declared.column.AnyColumn.TheVariants as columns
use Rattle.thread_objects.specs.declared.pass.AnyPass.{AnyPass}
use Rattle.thread_objects.specs.declared.pass.AnyPass.TheVariants as passes
use Rattle.thread_objects.specs.EachKind.{Kind}
use Rattle.thread_objects.specs.OnceKinds.{of_onces}

-- the state in which it begins, if the workload declares a function made by `OnceValue` here
abbrev pub once_value_starts : ℕ → ObjectKind → Option (OnceState ℕ)
once_value_starts workers (kinds.OnceValue value) = Some (start workers)
once_value_starts workers kind = None

-- the pass, if it is one to a function made by `OnceValue`
abbrev pub once_value_pass : {N : Type 0} → AnyPass N → Option (Pass (OnceState ℕ) N (OnceEvent ℕ) (OnceReply ℕ))
once_value_pass (passes.OnceValue pass) = Some pass
once_value_pass pass = None

-- the passes of a column, if they are to a function made by `OnceValue`
abbrev pub once_value_column : {N : Type 0} → AnyColumn N → Option (Vec (Pass (OnceState ℕ) N (OnceEvent ℕ) (OnceReply ℕ)))
once_value_column (columns.OnceValue ps) = Some ps
once_value_column column = None

abbrev pub once_value : Kind (OnceState ℕ) (OnceEvent ℕ) (OnceReply ℕ) (Bool × Bool)
once_value = of_onces words.OnceValue once_value_starts events.OnceValue replies.OnceValue (λ N pass. once_value_pass pass) (λ N column. once_value_column column)

-- what a call replies, where the function came to this value
abbrev pub value_told : ℕ → Reply ℕ
value_told kept = reply_of.OnceValue kept
