-- A turn ends a once's function exactly where the stage that is due does.
use Rattle.std.proofs.Common.{◌≡◌, ℕ, ◌<◌, Bool, true, false, cond, List, [], refl, sym, ap, ◌∙◌}
use Rattle.std.specs.Prelude.{ℤ, Result, Ok, Err, if◌then◌else◌}
use Rattle.std.specs.Int.{w64, int_wrapping_add}
use Rattle.std.proofs.lemmas.Bool.{lt-ltb}
use Rattle.sync_types.specs.declared.atomic_object.AtomicCall.TheVariants.{Add}
use Rattle.sync_types.specs.declared.atomic_object.AtomicReply.TheVariants.{Held}
use Rattle.sync_types.specs.declared.atomic_object.Number.TheVariants.{Int64}
use Rattle.script_calls.specs.declared.call.Operation.TheVariants as operations
use Rattle.script_calls.specs.declared.call.Reply.TheVariants as replies
use Rattle.wait_cores.specs.OnceMachine.{OnceState, callers_of, place_of, runner_in, end_by, made, next}
use Rattle.wait_cores.specs.OnceStanding.{runs_in, runs_at}
use Rattle.wait_cores.specs.declared.once.OnceEvent.{OnceEvent}
use Rattle.wait_cores.specs.declared.once.OnceEvent.TheVariants as events
use Rattle.wait_cores.specs.declared.once.OncePlace.{OncePlace}
use Rattle.wait_cores.specs.declared.once.OncePlace.TheVariants as places
use Rattle.wait_cores.specs.declared.once.OnceProgress.{OnceProgress}
use Rattle.wait_cores.specs.declared.once.OnceProgress.TheVariants as progress
use Rattle.wait_cores.specs.declared.once.OnceReply.{OnceReply}
use Rattle.wait_cores.specs.declared.once.OnceReply.TheVariants as reply
use Rattle.protocols.specs.OnceStages.{once_event, once_meaning, begin_meaning, end_meaning, leave_meaning}
use Rattle.protocols.specs.declared.once.OnceOutcome.{OnceOutcome}
use Rattle.protocols.specs.declared.once.OnceOutcome.TheVariants.{Run, Already, Ended}
use Rattle.step_runner.specs.declared.turns.answer.Answer.{Answer}
use Rattle.step_runner.specs.declared.turns.item.Item.{Item}
use Rattle.step_runner.specs.Due.{once_due, ends_function}
use Rattle.step_runner.specs.Items.{add_items, placed_at}
use Rattle.step_runner.specs.Stages.{outcome_of, make}
use Rattle.step_runner.specs.TurnAtObjects.{once_made, number_after}
use Rattle.step_runner.proofs.Refuted.{no}

abbrev is_ended : Result (OnceOutcome ℤ) Answer → Bool
is_ended (Ok Ended) = true
is_ended other = false

-- no other stage ends it
begun : (r : OnceReply ℤ) → false ≡ is_ended (outcome_of (begin_meaning r))
begun reply.Run = refl
begun reply.Queued = refl
begun (reply.Done kept) = refl
begun reply.Ended = refl
begun (reply.Left kept) = refl
begun reply.Still = refl

left : (r : OnceReply ℤ) → false ≡ is_ended (outcome_of (leave_meaning r))
left reply.Run = refl
left reply.Queued = refl
left (reply.Done kept) = refl
left reply.Ended = refl
left (reply.Left kept) = refl
left reply.Still = refl

abbrev if_runs : Bool → OnceState ℤ → ℤ → OnceState ℤ × OnceReply ℤ
if_runs test o value = if test then (record o { progress = progress.Ended value }, reply.Ended) else (o, reply.Still)

abbrev if_there : Bool → OnceState ℤ → ℕ → OnceEvent ℤ → OnceState ℤ × OnceReply ℤ
if_there test o worker event = if test then made o worker event else (o, reply.Still)

-- the worker that runs it ends it
end_by_runner : (p : OnceProgress ℤ) (o : OnceState ℤ) (worker : ℕ) (value : ℤ) → runs_in p worker ≡ true → (end_by (runner_in p) o worker value).1 ≡ reply.Ended
end_by_runner progress.NotRun o worker value runs = no runs
end_by_runner (progress.Running runner) o worker value runs = ap (λ (test : Bool). (if_runs test o value).1) runs
end_by_runner (progress.Ended kept) o worker value runs = no runs

module _ (worker moment : ℕ) (value : ℤ) (o : OnceState ℤ) (below : worker < callers_of o) where
  ends_reply : runs_at o worker ≡ true → (next o worker (events.End value)).1 ≡ reply.Ended
  ends_reply runs =
      ap (λ (test : Bool). (if_there test o worker (events.End value)).1) (lt-ltb worker (callers_of o) below)
      ∙ end_by_runner o.progress o worker value runs

  by_place : (runs : Bool) (place : OncePlace) → runs_at o worker ≡ runs → ends_function (once_due value runs place) ≡ is_ended (make next once_event once_meaning worker moment (once_due value runs place) o).1
  by_place true places.Out runs = ap (λ (r : OnceReply ℤ). is_ended (outcome_of (end_meaning r))) (sym (ends_reply runs))
  by_place false places.Out runs = begun (next o worker events.Begin).1
  by_place true places.Waiting runs = refl
  by_place false places.Waiting runs = refl
  by_place true places.Released runs = left (next o worker events.Leave).1
  by_place false places.Released runs = left (next o worker events.Leave).1

  ended : ends_function (once_due value (runs_at o worker) (place_of o worker)) ≡ is_ended (once_made worker moment value o).1
  ended = by_place (runs_at o worker) (place_of o worker) refl

number_by : (r : Result (OnceOutcome ℤ) Answer) (sum old : ℤ) → number_after r (Int64 sum) (Int64 old) ≡ Int64 (cond (is_ended r) sum old)
number_by (Ok Ended) sum old = refl
number_by (Ok Run) sum old = refl
number_by (Ok (Already kept)) sum old = refl
number_by (Err answer) sum old = refl

-- the call by which the function adds, with its reply
abbrev pub Adds : ℕ → ℕ → ℤ → ℤ → List Item
Adds worker object delta sum = placed_at worker object (operations.Atomic (Add (Int64 delta))) (replies.Atomic (Held (Int64 sum)))

items_by : (worker object : ℕ) (delta old : ℤ) (r : Result (OnceOutcome ℤ) Answer) → add_items worker object delta (Int64 old) r ≡ cond (is_ended r) (Adds worker object delta (int_wrapping_add w64 old delta)) []
items_by worker object delta old (Ok Ended) = refl
items_by worker object delta old (Ok Run) = refl
items_by worker object delta old (Ok (Already kept)) = refl
items_by worker object delta old (Err answer) = refl

module _ (worker moment : ℕ) (o : OnceState ℤ) (old delta : ℤ) (below : worker < callers_of o) where
  abbrev the_sum : ℤ
  the_sum = int_wrapping_add w64 old delta

  abbrev its_end : Bool
  its_end = ends_function (once_due the_sum (runs_at o worker) (place_of o worker))

  pub number_then : number_after (once_made worker moment the_sum o).1 (Int64 the_sum) (Int64 old) ≡ Int64 (cond its_end the_sum old)
  number_then = number_by (once_made worker moment the_sum o).1 the_sum old ∙ ap (λ (b : Bool). Int64 (cond b the_sum old)) (sym (ended worker moment the_sum o below))

  pub items_then : (object : ℕ) → add_items worker object delta (Int64 old) (once_made worker moment the_sum o).1 ≡ cond its_end (Adds worker object delta the_sum) []
  items_then object = items_by worker object delta old (once_made worker moment the_sum o).1 ∙ ap (λ (b : Bool). cond b (Adds worker object delta the_sum) []) (sym (ended worker moment the_sum o below))
