-- The calls of a once, and of functions made by `OnceFunc` and `OnceValue`, and their journals in a record.
use Rattle.std.specs.Prelude.{ℕ, ℤ, ◌==◌, if◌then◌else◌, List, Option, Some, None}
use Rattle.script_calls.specs.declared.call.Reply.{Reply}
use Rattle.script_calls.specs.declared.call.Reply.TheVariants as replies
use Rattle.sync_types.specs.declared.once_call.DoReply.TheVariants as do_replies
use Rattle.wait_cores.specs.OnceMachine.{next, start}
use Rattle.wait_cores.specs.OnceEdges.{once_releases, once_acquires}
use Rattle.protocols.specs.declared.once.OnceOutcome.{OnceOutcome}
use Rattle.protocols.specs.declared.once.OnceOutcome.TheVariants.{Run, Already, Ended}
use Rattle.protocols.specs.declared.once.OnceStage.{OnceStage}
use Rattle.protocols.specs.declared.once.OnceStage.TheVariants as stage
use Rattle.protocols.specs.OnceStages.{once_event, once_meaning}
use Rattle.run_record.specs.declared.entered.ObjectEvent.TheVariants as event
use Rattle.run_record.specs.declared.entered.ObjectReply.TheVariants as reply
use Rattle.run_record.specs.AtomicKind.{adds}
use Rattle.run_record.specs.Journals.{FollowsFrom}
use Rattle.run_record.specs.Parts.{Part, and_then, never, read_as, returns, stages}
use Rattle.run_record.specs.Record.{ObjectEntry}

module _ {T : Type 0} (part : OnceStage T → Part (OnceOutcome T)) (function : Part T) (ran returned : T → Reply ℕ) where
  -- the caller that is to run the function does so, and ends it with what it came to; any other returns with that
  abbrev pub goes_on_once : OnceOutcome T → Part (Reply ℕ)
  goes_on_once Run = and_then function (λ value. read_as (λ ended. ran value) (part (stage.End value)))
  goes_on_once (Already kept) = returns (returned kept)
  goes_on_once Ended = never

  -- a call begins, and goes on by what that comes to
  abbrev pub once_part : Part (Reply ℕ)
  once_part = and_then (part stage.Begin) goes_on_once

-- a once adds this amount to atomic number a
abbrev pub do_call : ℕ → ℕ → ℤ → Part (Reply ℕ)
do_call object a amount =
    once_part (stages event.Once reply.Once once_event once_meaning object) (adds a amount) (λ sum. replies.Once (do_replies.Ran sum)) (λ kept. replies.Once do_replies.Done)

-- a code of 0 stands for no failure
abbrev pub failure : ℕ → Option ℕ
failure code = if code == 0 then None else Some code

-- a function made by `OnceFunc` comes to this code, and one made by `OnceValue` to this value
abbrev pub func_call : ℕ → ℕ → Part (Reply ℕ)
func_call object code = once_part (stages event.OnceFunc reply.OnceFunc once_event once_meaning object) (returns code) (λ kept. replies.OnceFunc (failure kept)) (λ kept. replies.OnceFunc (failure kept))

abbrev pub value_call : ℕ → ℕ → Part (Reply ℕ)
value_call object value = once_part (stages event.OnceValue reply.OnceValue once_event once_meaning object) (returns value) replies.OnceValue replies.OnceValue

-- the function was not run at the start
abbrev pub IsOnceJournal : ℕ → List ObjectEntry → Type 0
IsOnceJournal workers journal = FollowsFrom event.Once reply.Once next once_releases once_acquires (start workers) journal

abbrev pub IsOnceFuncJournal : ℕ → List ObjectEntry → Type 0
IsOnceFuncJournal workers journal = FollowsFrom event.OnceFunc reply.OnceFunc next once_releases once_acquires (start workers) journal

abbrev pub IsOnceValueJournal : ℕ → List ObjectEntry → Type 0
IsOnceValueJournal workers journal = FollowsFrom event.OnceValue reply.OnceValue next once_releases once_acquires (start workers) journal
