-- That the calls of a once, and of functions made by `OnceFunc` and `OnceValue`, are cut as they are spelt.
use Rattle.std.proofs.Common.{◌≡◌, ℕ, ℤ, Bool, true, eqb, [], Option, Some, refl, ap}
use Rattle.std.specs.Ordering.{int_eq}
use Rattle.std.proofs.lemmas.Bool.{eqb-true, eq-eqb}
use Rattle.std.proofs.lemmas.Bool.Decides.{Decides-int_eq}
use Rattle.script_calls.specs.declared.call.Reply.{Reply}
use Rattle.script_calls.specs.declared.call.Reply.TheVariants as replies
use Rattle.sync_types.specs.declared.once_call.DoReply.TheVariants as do_replies
use Rattle.wait_cores.specs.declared.once.OnceEvent.{OnceEvent}
use Rattle.wait_cores.specs.declared.once.OnceEvent.TheVariants.{Begin, End, Leave}
use Rattle.wait_cores.specs.declared.once.OnceReply.{OnceReply}
use Rattle.protocols.specs.Spelling.{IsEventOf}
use Rattle.protocols.specs.declared.once.OnceOutcome.{OnceOutcome}
use Rattle.protocols.specs.declared.once.OnceOutcome.TheVariants.{Run, Already, Ended}
use Rattle.protocols.specs.declared.once.OnceStage.{OnceStage}
use Rattle.protocols.specs.declared.once.OnceStage.TheVariants as stage
use Rattle.protocols.specs.OnceStages.{once_event, once_meaning}
use Rattle.run_record.specs.AtomicKind.{adds}
use Rattle.run_record.specs.OnceKind.{goes_on_once, once_part, do_call, failure, func_call, value_call}
use Rattle.run_record.specs.Parts.{Part, read_as, returns, stages}
use Rattle.run_record.specs.declared.entered.ObjectEvent.{ObjectEvent}
use Rattle.run_record.specs.declared.entered.ObjectEvent.TheVariants as event
use Rattle.run_record.specs.declared.entered.ObjectReply.{ObjectReply}
use Rattle.run_record.specs.declared.entered.ObjectReply.TheVariants as reply
use Rattle.run_cuts.specs.Cuts.{Cutter, Cuts, move, read_cut, returns_cut, stages_cut}
use Rattle.run_cuts.specs.OnceCuts.{do_event_in, do_reply_in, func_event_in, func_reply_in, value_event_in, value_reply_in, is_once_event, goes_on_cut, once_cut, do_cut, func_cut, value_cut}
use Rattle.run_cuts.specs.SharedCuts.{adds_cut}
use Rattle.run_cuts.proofs.CutLemmas.{halt_continues, halts_on, moves_are, never_cuts, read_cuts, returns_cuts, stages_cuts, then_cuts, then_cuts_by}
use Rattle.run_cuts.proofs.SharedCut.{adds_cuts}

some_same : {X : Type 0} {x y : X} → Some x ≡ Some y → x ≡ y
some_same e = cc

only_do : (o : ObjectEvent) (e : OnceEvent ℤ) → do_event_in o ≡ Some e → o ≡ event.Once e
only_do (event.Once x) e is = ap (λ (y : OnceEvent ℤ). event.Once y) (some_same is)
only_do o e is = absurd cc

only_do_reply : (o : ObjectReply) (e : OnceReply ℤ) → do_reply_in o ≡ Some e → o ≡ reply.Once e
only_do_reply (reply.Once x) e is = ap (λ (y : OnceReply ℤ). reply.Once y) (some_same is)
only_do_reply o e is = absurd cc

only_func : (o : ObjectEvent) (e : OnceEvent ℕ) → func_event_in o ≡ Some e → o ≡ event.OnceFunc e
only_func (event.OnceFunc x) e is = ap (λ (y : OnceEvent ℕ). event.OnceFunc y) (some_same is)
only_func o e is = absurd cc

only_func_reply : (o : ObjectReply) (e : OnceReply ℕ) → func_reply_in o ≡ Some e → o ≡ reply.OnceFunc e
only_func_reply (reply.OnceFunc x) e is = ap (λ (y : OnceReply ℕ). reply.OnceFunc y) (some_same is)
only_func_reply o e is = absurd cc

only_value : (o : ObjectEvent) (e : OnceEvent ℕ) → value_event_in o ≡ Some e → o ≡ event.OnceValue e
only_value (event.OnceValue x) e is = ap (λ (y : OnceEvent ℕ). event.OnceValue y) (some_same is)
only_value o e is = absurd cc

only_value_reply : (o : ObjectReply) (e : OnceReply ℕ) → value_reply_in o ≡ Some e → o ≡ reply.OnceValue e
only_value_reply (reply.OnceValue x) e is = ap (λ (y : OnceReply ℕ). reply.OnceValue y) (some_same is)
only_value_reply o e is = absurd cc

module _ {T : Type 0} (same : T → T → Bool) (same_told : (a b : T) → same a b ≡ true → a ≡ b) (same_tells : (a : T) → same a a ≡ true) where
  told : (from : OnceStage T) (e : OnceEvent T) → is_once_event same from e ≡ true → IsEventOf once_event from e
  told stage.Begin Begin is = (0, refl)
  told (stage.End kept) (End other) is = (0, ap (λ (k : T). let e : OnceEvent T = End k in e) (same_told other kept is))
  told stage.Leave Leave is = (0, refl)
  told from e is = absurd cc

  tells : (from : OnceStage T) (now : ℕ) → is_once_event same from (once_event from now) ≡ true
  tells stage.Begin now = refl
  tells (stage.End kept) now = same_tells kept
  tells stage.Leave now = refl

  module _ (event_as : OnceEvent T → ObjectEvent) (reply_as : OnceReply T → ObjectReply) (event_in : ObjectEvent → Option (OnceEvent T)) (reply_in : ObjectReply → Option (OnceReply T))
      (event_back : (e : OnceEvent T) → event_in (event_as e) ≡ Some e) (reply_back : (r : OnceReply T) → reply_in (reply_as r) ≡ Some r)
      (event_only : (o : ObjectEvent) (e : OnceEvent T) → event_in o ≡ Some e → o ≡ event_as e) (reply_only : (o : ObjectReply) (r : OnceReply T) → reply_in o ≡ Some r → o ≡ reply_as r)
      (object : ℕ) (function : Part T) (function_cut : Cutter T) (function_cuts : Cuts function function_cut) (ran returned : T → Reply ℕ) where
    abbrev part : OnceStage T → Part (OnceOutcome T)
    part = stages event_as reply_as once_event once_meaning object

    abbrev part_cut : OnceStage T → Cutter (OnceOutcome T)
    part_cut = stages_cut (move event_in reply_in (is_once_event same) once_meaning) object

    part_cuts : (from : OnceStage T) → Cuts (part from) (part_cut from)
    part_cuts from =
        stages_cuts event_as reply_as once_event once_meaning (move event_in reply_in (is_once_event same) once_meaning)
        (moves_are event_as reply_as once_event once_meaning event_in reply_in (is_once_event same) event_back reply_back event_only reply_only told tells) object from

    end_cuts : (value : T) → Cuts (read_as (λ ended. ran value) (part (stage.End value))) (read_cut (λ ended. ran value) (part_cut (stage.End value)))
    end_cuts value = read_cuts (λ ended. ran value) (part (stage.End value)) (part_cut (stage.End value)) (part_cuts (stage.End value))

    outcome_cuts : (outcome : OnceOutcome T) → Cuts (goes_on_once part function ran returned outcome) (goes_on_cut part_cut function_cut ran returned outcome)
    outcome_cuts Run =
        then_cuts function (λ value. read_as (λ ended. ran value) (part (stage.End value))) function_cut (λ value. read_cut (λ ended. ran value) (part_cut (stage.End value)))
        function_cuts end_cuts (λ value. (end_cuts value).goes_on [] refl)
    outcome_cuts (Already kept) = returns_cuts (returned kept)
    outcome_cuts Ended = never_cuts

    pub once_cuts : Cuts (once_part part function ran returned) (once_cut part_cut function_cut ran returned)
    once_cuts =
        then_cuts_by (part stage.Begin) (goes_on_once part function ran returned) (part_cut stage.Begin) (goes_on_cut part_cut function_cut ran returned) (part_cuts stage.Begin) outcome_cuts
        (halt_continues (part stage.Begin) (goes_on_once part function ran returned) (part_cut stage.Begin) (goes_on_cut part_cut function_cut ran returned) (part_cuts stage.Begin) outcome_cuts
        (halts_on event_as reply_as once_event once_meaning (move event_in reply_in (is_once_event same) once_meaning)
        (moves_are event_as reply_as once_event once_meaning event_in reply_in (is_once_event same) event_back reply_back event_only reply_only told tells) object stage.Begin))

eqb_same : (n : ℕ) → eqb n n ≡ true
eqb_same n = eq-eqb n n refl

int_told : (a b : ℤ) → int_eq a b ≡ true → a ≡ b
int_told a b h = (Decides-int_eq a b).0 h

int_same : (a : ℤ) → int_eq a a ≡ true
int_same a = (Decides-int_eq a a).1 refl

pub do_cuts : (object a : ℕ) (amount : ℤ) → Cuts (do_call object a amount) (do_cut object a amount)
do_cuts object a amount =
    once_cuts int_eq int_told int_same event.Once reply.Once do_event_in do_reply_in (λ e. refl) (λ r. refl) only_do only_do_reply object (adds a amount) (adds_cut a amount) (adds_cuts a amount)
    (λ sum. replies.Once (do_replies.Ran sum)) (λ kept. replies.Once do_replies.Done)

pub func_cuts : (object code : ℕ) → Cuts (func_call object code) (func_cut object code)
func_cuts object code =
    once_cuts (λ (a b : ℕ). eqb a b) eqb-true eqb_same event.OnceFunc reply.OnceFunc func_event_in func_reply_in (λ e. refl) (λ r. refl) only_func only_func_reply object (returns code) (returns_cut code) (returns_cuts code)
    (λ kept. replies.OnceFunc (failure kept)) (λ kept. replies.OnceFunc (failure kept))

pub value_cuts : (object value : ℕ) → Cuts (value_call object value) (value_cut object value)
value_cuts object value =
    once_cuts (λ (a b : ℕ). eqb a b) eqb-true eqb_same event.OnceValue reply.OnceValue value_event_in value_reply_in (λ e. refl) (λ r. refl) only_value only_value_reply object (returns value) (returns_cut value) (returns_cuts value)
    replies.OnceValue replies.OnceValue
