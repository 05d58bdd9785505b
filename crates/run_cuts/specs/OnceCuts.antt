-- How a call of a once, or of a function made by `OnceFunc` or `OnceValue`, is cut from a list.
use Rattle.std.specs.Prelude.{ℕ, ℤ, Bool, true, false, ◌==◌, Option, Some, None}
use Rattle.std.specs.Ordering.{int_eq}
use Rattle.script_calls.specs.declared.call.Reply.{Reply}
use Rattle.script_calls.specs.declared.call.Reply.TheVariants as replies
use Rattle.sync_types.specs.declared.once_call.DoReply.TheVariants as do_replies
use Rattle.wait_cores.specs.declared.once.OnceEvent.{OnceEvent}
use Rattle.wait_cores.specs.declared.once.OnceEvent.TheVariants.{Begin, End, Leave}
use Rattle.wait_cores.specs.declared.once.OnceReply.{OnceReply}
use Rattle.protocols.specs.declared.once.OnceOutcome.{OnceOutcome}
use Rattle.protocols.specs.declared.once.OnceOutcome.TheVariants.{Run, Already, Ended}
use Rattle.protocols.specs.declared.once.OnceStage.{OnceStage}
use Rattle.protocols.specs.declared.once.OnceStage.TheVariants as stage
use Rattle.protocols.specs.OnceStages.{once_meaning}
use Rattle.run_record.specs.OnceKind.{failure}
use Rattle.run_record.specs.declared.entered.ObjectEvent.{ObjectEvent}
use Rattle.run_record.specs.declared.entered.ObjectEvent.TheVariants as event
use Rattle.run_record.specs.declared.entered.ObjectReply.{ObjectReply}
use Rattle.run_record.specs.declared.entered.ObjectReply.TheVariants as reply
use Rattle.run_cuts.specs.Cuts.{Cutter, move, never_cut, read_cut, returns_cut, stages_cut, then_cut}
use Rattle.run_cuts.specs.SharedCuts.{adds_cut}

abbrev pub do_event_in : ObjectEvent → Option (OnceEvent ℤ)
do_event_in (event.Once e) = Some e
do_event_in other = None

abbrev pub do_reply_in : ObjectReply → Option (OnceReply ℤ)
do_reply_in (reply.Once r) = Some r
do_reply_in other = None

abbrev pub func_event_in : ObjectEvent → Option (OnceEvent ℕ)
func_event_in (event.OnceFunc e) = Some e
func_event_in other = None

abbrev pub func_reply_in : ObjectReply → Option (OnceReply ℕ)
func_reply_in (reply.OnceFunc r) = Some r
func_reply_in other = None

abbrev pub value_event_in : ObjectEvent → Option (OnceEvent ℕ)
value_event_in (event.OnceValue e) = Some e
value_event_in other = None

abbrev pub value_reply_in : ObjectReply → Option (OnceReply ℕ)
value_reply_in (reply.OnceValue r) = Some r
value_reply_in other = None

module _ {T : Type 0} (same : T → T → Bool) where
  -- whether the event is the stage's: an end keeps the same
  abbrev pub is_once_event : OnceStage T → OnceEvent T → Bool
  is_once_event stage.Begin Begin = true
  is_once_event (stage.End kept) (End told) = same told kept
  is_once_event stage.Leave Leave = true
  is_once_event from event = false

module _ {T : Type 0} (part : OnceStage T → Cutter (OnceOutcome T)) (function : Cutter T) (ran returned : T → Reply ℕ) where
  abbrev pub goes_on_cut : OnceOutcome T → Cutter (Reply ℕ)
  goes_on_cut Run = then_cut function (λ value. read_cut (λ ended. ran value) (part (stage.End value)))
  goes_on_cut (Already kept) = returns_cut (returned kept)
  goes_on_cut Ended = never_cut

  abbrev pub once_cut : Cutter (Reply ℕ)
  once_cut = then_cut (part stage.Begin) goes_on_cut

abbrev pub do_cut : ℕ → ℕ → ℤ → Cutter (Reply ℕ)
do_cut object a amount =
    once_cut (stages_cut (move do_event_in do_reply_in (is_once_event int_eq) once_meaning) object) (adds_cut a amount) (λ sum. replies.Once (do_replies.Ran sum)) (λ kept. replies.Once do_replies.Done)

abbrev pub func_cut : ℕ → ℕ → Cutter (Reply ℕ)
func_cut object code =
    once_cut (stages_cut (move func_event_in func_reply_in (is_once_event (λ a b. a == b)) once_meaning) object) (returns_cut code) (λ kept. replies.OnceFunc (failure kept)) (λ kept. replies.OnceFunc (failure kept))

abbrev pub value_cut : ℕ → ℕ → Cutter (Reply ℕ)
value_cut object value =
    once_cut (stages_cut (move value_event_in value_reply_in (is_once_event (λ a b. a == b)) once_meaning) object) (returns_cut value) replies.OnceValue replies.OnceValue
