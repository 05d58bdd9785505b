-- That the reply of a call shows few pairs, where the cursor of its `range` did.
use Rattle.std.proofs.Common.{◌≡◌, ℕ, ◌≤◌, ℤ, true, List, [], ◌∷◌, length, Option, Some, None, slice_get, refl, sym, subst, arith}
use Rattle.std.specs.Prelude.{Ok, Err}
use Rattle.std.specs.List.{range_with_len}
use Rattle.std.proofs.lemmas.Bool.{le-leb}
use Rattle.std.proofs.lemmas.List.Sorted.{length_permutation}
use Rattle.sync_model.specs.declared.answer.Answer.TheVariants.{Done, Halted}
use Rattle.script_calls.specs.declared.call.Call.{Call}
use Rattle.script_calls.specs.declared.call.ComposedCall.TheVariants.{IfEqual, WaitFor, Go}
use Rattle.script_calls.specs.declared.call.Operation.{Operation}
use Rattle.script_calls.specs.declared.call.Operation.TheVariants as operations
use Rattle.script_calls.specs.declared.call.Reply.{Reply}
use Rattle.script_calls.specs.declared.call.Reply.TheVariants as replies
use Rattle.sync_types.specs.declared.once_call.DoReply.TheVariants as do_replies
use Rattle.sync_types.specs.declared.pool_call.PoolCall.{PoolCall}
use Rattle.sync_types.specs.declared.pool_call.PoolCall.TheVariants as pool_calls
use Rattle.sync_types.specs.declared.pool_call.PoolCallReply.TheVariants as pool_replies
use Rattle.sync_types.specs.declared.wait_call.CondCall.{CondCall}
use Rattle.sync_types.specs.declared.wait_call.CondCall.TheVariants as cond_calls
use Rattle.script_calls.specs.Outcome.{has_pairs_to}
use Rattle.flight_core.specs.declared.calls.FlightOutcome.{FlightOutcome}
use Rattle.flight_core.specs.declared.calls.FlightOutcome.TheVariants as flown
use Rattle.pool_core.specs.declared.pool_event.PoolEvent.{PoolEvent}
use Rattle.protocols.specs.OnceStages.{once_event, once_meaning}
use Rattle.protocols.specs.Spelling.{CallAnswer}
use Rattle.protocols.specs.declared.once.OnceOutcome.{OnceOutcome}
use Rattle.protocols.specs.declared.once.OnceOutcome.TheVariants.{Run, Already, Ended}
use Rattle.protocols.specs.declared.once.OnceStage.{OnceStage}
use Rattle.protocols.specs.declared.pool.PoolOutcome.{PoolOutcome}
use Rattle.protocols.specs.declared.pool.PoolOutcome.TheVariants.{Kept, Dropped, Item, Nothing, Swept}
use Rattle.workload.specs.declared.object.ObjectKind.{ObjectKind}
use Rattle.workload.specs.declared.object.ObjectKind.TheVariants as kinds
use Rattle.workload.specs.declared.object.ObjectLine.{ObjectLine}
use Rattle.workload.specs.Keys.{keys_in}
use Rattle.workload.specs.Plan.{Plan}
use Rattle.run_record.specs.declared.entered.ObjectEvent.TheVariants as event
use Rattle.run_record.specs.declared.entered.ObjectReply.TheVariants as reply
use Rattle.run_record.specs.declared.made.Made.{Made}
use Rattle.run_record.specs.AtomicKind.{adds}
use Rattle.run_record.specs.Calls.{call_on, call_at, SpellsCall}
use Rattle.run_record.specs.CondKind.{cond_call}
use Rattle.run_record.specs.FlightKind.{was_shared, goes_on_flight, flight_part}
use Rattle.run_record.specs.MapKind.{cursor_showing}
use Rattle.run_record.specs.OnceKind.{goes_on_once, once_part, failure}
use Rattle.run_record.specs.Parts.{Part, GoesOn, returns, never, and_then, read_as, with_outcome, Places, stages}
use Rattle.run_record.specs.PoolKind.{pool_call, found_by, found_or, looks_of, swept_by}
use Rattle.run_record.specs.Tests.{compared}

module _ (most : ℕ) where
  abbrev pub Few : CallAnswer (Reply ℕ) → Type 0
  Few (Done (Ok given)) = has_pairs_to most given ≡ true
  Few (Done (Err misuse)) = Unit {0}
  Few (Halted misuse) = Unit {0}

  abbrev pub AnswersFew : Part (Reply ℕ) → Type 0
  AnswersFew part = (items : List Made) (answer : CallAnswer (Reply ℕ)) → part items answer → Few answer

  few_returns : (outcome : Reply ℕ) → has_pairs_to most outcome ≡ true → AnswersFew (returns outcome)
  few_returns outcome few items answer is = subst Few (sym is.1) few

  few_never : AnswersFew never
  few_never items answer is = absurd is

  module _ {O : Type 0} where
    few_given : (f : O → Reply ℕ) → ((outcome : O) → has_pairs_to most (f outcome) ≡ true) → (given : CallAnswer O) → Few (with_outcome f given)
    few_given f few (Done (Ok outcome)) = few outcome
    few_given f few (Done (Err misuse)) = tt
    few_given f few (Halted misuse) = tt

    few_read : (f : O → Reply ℕ) (part : Part O) → ((outcome : O) → has_pairs_to most (f outcome) ≡ true) → AnswersFew (read_as f part)
    few_read f part few items answer (given, made, is) = subst Few (sym is) (few_given f few given)

    few_later : (next : O → Part (Reply ℕ)) (given : CallAnswer O) (later : List Made) (answer : CallAnswer (Reply ℕ)) → ((outcome : O) → AnswersFew (next outcome)) → GoesOn next given later answer → Few answer
    few_later next (Done (Ok outcome)) later answer each goes = each outcome later answer goes
    few_later next (Done (Err misuse)) later answer each goes = subst Few (sym goes.1) tt
    few_later next (Halted misuse) later answer each goes = subst Few (sym goes.1) tt

    few_then : (first : Part O) (next : O → Part (Reply ℕ)) → ((outcome : O) → AnswersFew (next outcome)) → AnswersFew (and_then first next)
    few_then first next each items answer (xs, ys, given, is, made, goes) = few_later next given ys answer each goes

  few_cond : (object mutex : ℕ) (call : CondCall) → AnswersFew (cond_call object mutex call)
  few_cond object mutex cond_calls.Wait = few_then _ _ (λ ticket. few_then _ _ (λ unlocked. few_then _ _ (λ left. few_read (λ locked. replies.Returned) _ (λ locked. refl))))
  few_cond object mutex cond_calls.Signal = few_read (λ done. replies.Returned) _ (λ done. refl)
  few_cond object mutex cond_calls.Broadcast = few_read (λ done. replies.Returned) _ (λ done. refl)

  module _ {T : Type 0} (part : OnceStage T → Part (OnceOutcome T)) (function : Part T) (ran returned : T → Reply ℕ) (few_ran : (value : T) → has_pairs_to most (ran value) ≡ true) (few_returned : (value : T) → has_pairs_to most (returned value) ≡ true) where
    few_goes_on : (outcome : OnceOutcome T) → AnswersFew (goes_on_once part function ran returned outcome)
    few_goes_on Run = few_then function _ (λ value. few_read (λ ended. ran value) _ (λ ended. few_ran value))
    few_goes_on (Already kept) = few_returns (returned kept) (few_returned kept)
    few_goes_on Ended = few_never

    few_once : AnswersFew (once_part part function ran returned)
    few_once = few_then _ _ few_goes_on

  few_lead : (object a : ℕ) (amount : ℤ) (outcome : FlightOutcome) → AnswersFew (goes_on_flight (flight_part object) (adds a amount) outcome)
  few_lead object a amount flown.Lead = few_then (adds a amount) _ (λ value. few_read (λ outcome. replies.Flown value (was_shared outcome)) _ (λ outcome. refl))
  few_lead object a amount (flown.Got value) = few_returns (replies.Flown value true) refl
  few_lead object a amount (flown.Landed shared) = few_never

  few_found : (rest : Part (Reply ℕ)) → AnswersFew rest → (outcome : PoolOutcome) → AnswersFew (found_or rest outcome)
  few_found rest few (Item item) = few_returns (replies.Pool (pool_replies.Put item)) refl
  few_found rest few Nothing = few
  few_found rest few Kept = few_never
  few_found rest few (Dropped item) = few_never
  few_found rest few Swept = few_never

  few_looks : (worker first : ℕ) (looks : List (PoolEvent ℕ)) → AnswersFew (found_by worker first looks)
  few_looks worker first [] = few_returns (replies.Pool pool_replies.New) refl
  few_looks worker first (look ∷ looks) = few_then _ _ (few_found (found_by worker first looks) (few_looks worker first looks))

  few_sweeps : (first : ℕ) (parts : List ℕ) → AnswersFew (swept_by first parts)
  few_sweeps first [] = few_returns (replies.Pool pool_replies.Done) refl
  few_sweeps first (part ∷ parts) = few_then _ _ (λ swept. few_sweeps first parts)

  few_pool : (workers worker first : ℕ) (call : PoolCall) → AnswersFew (pool_call workers worker first call)
  few_pool workers worker first (pool_calls.Put item) = few_read (λ put. replies.Pool pool_replies.Done) _ (λ put. refl)
  few_pool workers worker first pool_calls.Get = few_looks worker first (looks_of workers worker)
  few_pool workers worker first pool_calls.Sweep = few_sweeps first (range_with_len 0 workers)

  module _ (plan : Plan) (worker before : ℕ) (items : List Made) (answer : CallAnswer (Reply ℕ)) (ranged : (m : ℕ) (shown : List (ℕ × ℕ)) → Places (cursor_showing (keys_in plan.scripts) m before shown) items → length shown ≤ most) where
    few_on : (place : ℕ) (kind : ObjectKind) (operation : Operation) → call_on plan worker before place kind operation items answer → Few answer
    few_on place kinds.Map (operations.Map call) (given, places, is) = subst Few (sym is) refl
    few_on place kinds.Map operations.Range (shown, pairs, places, sorted, is) =
        let same = length_permutation shown pairs sorted.0 in
        let low = ranged _ shown places in
        subst Few (sym is) (le-leb (length pairs) most (omega (arith, same, low)))
    few_on place (kinds.Atomic type) (operations.Atomic call) (given, places, is) = subst Few (sym is) refl
    few_on place (kinds.Atomic type) (operations.Composed (IfEqual value passes)) (given, made, is) = subst Few (sym is) (few_given compared (λ met. refl) given)
    few_on place kinds.Mutex (operations.Mutex call) (given, made, is) = subst Few (sym is) (few_given replies.Lock (λ reply. refl) given)
    few_on place kinds.RwMutex (operations.RwMutex call) (given, made, is) = subst Few (sym is) (few_given replies.Lock (λ reply. refl) given)
    few_on place (kinds.Cond mutex) (operations.Cond call) spelt = few_cond _ _ call items answer spelt
    few_on place (kinds.Cond mutex) (operations.Composed (WaitFor atomic value tries)) (given, made, is) = subst Few (sym is) (few_given compared (λ met. refl) given)
    few_on place (kinds.WaitGroup start) (operations.WaitGroup call) (given, made, is) = subst Few (sym is) (few_given (λ done. replies.Returned) (λ done. refl) given)
    few_on place (kinds.WaitGroup start) (operations.Composed (Go started)) spelt = few_then _ _ (λ added. few_read (λ started. replies.Returned) _ (λ started. refl)) items answer spelt
    few_on place (kinds.Once atomic delta) operations.Once spelt =
        few_once (stages event.Once reply.Once once_event once_meaning _) (adds _ delta) (λ sum. replies.Once (do_replies.Ran sum)) (λ kept. replies.Once do_replies.Done) (λ sum. refl) (λ kept. refl) items answer spelt
    few_on place (kinds.OnceFunc code) operations.OnceFunc spelt =
        few_once (stages event.OnceFunc reply.OnceFunc once_event once_meaning _) (returns code) (λ kept. replies.OnceFunc (failure kept)) (λ kept. replies.OnceFunc (failure kept)) (λ kept. refl) (λ kept. refl) items answer spelt
    few_on place (kinds.OnceValue value) operations.OnceValue spelt =
        few_once (stages event.OnceValue reply.OnceValue once_event once_meaning _) (returns value) replies.OnceValue replies.OnceValue (λ kept. refl) (λ kept. refl) items answer spelt
    few_on place kinds.Pool (operations.Pool call) spelt = few_pool _ _ _ call items answer spelt
    few_on place (kinds.Sema size) (operations.Sema call) (given, made, is) = subst Few (sym is) (few_given replies.Lock (λ reply. refl) given)
    few_on place (kinds.Flight atomic delta) (operations.Fly key) spelt = few_then _ _ (few_lead _ _ delta) items answer spelt
    few_on place kind operation spelt = absurd spelt

    few_at : (place : ℕ) (object : Option ObjectLine) (operation : Operation) → call_at plan worker before place object operation items answer → Few answer
    few_at place None operation spelt = absurd spelt
    few_at place (Some object) operation spelt = few_on place object.kind operation spelt

    pub few_call : (call : Call) → SpellsCall plan worker before call items answer → Few answer
    few_call call spelt = few_at call.object (slice_get plan.objects call.object) call.operation spelt
