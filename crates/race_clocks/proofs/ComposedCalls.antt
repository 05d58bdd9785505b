-- What a turn made that completed a `go`, or a `do` of a once.
use Rattle.std.proofs.Common.{◌≡◌, ℕ, ◌<◌, List, [], ◌∷◌, ◌≢◌, ◌++◌, length, Some, slice_get, refl, sym, ap, ◌∙◌}
use Rattle.std.specs.Prelude.{All}
use Rattle.std.proofs.lemmas.Bool.{false≢true}
use Rattle.script_calls.specs.declared.call.ComposedCall.TheVariants.{Go}
use Rattle.script_calls.specs.declared.call.Operation.TheVariants as operations
use Rattle.script_calls.specs.declared.call.Reply.{Reply}
use Rattle.workload.specs.Plan.{Plan}
use Rattle.step_runner.specs.declared.trace.TraceItem.{TraceItem}
use Rattle.step_runner.specs.declared.turns.answer.Answer.{Answer}
use Rattle.step_runner.specs.declared.turns.answer.Answer.TheVariants as answers
use Rattle.step_runner.specs.declared.turns.item.Deed.{Deed}
use Rattle.step_runner.specs.declared.turns.item.Item.{Item}
use Rattle.step_runner.specs.Items.{items_at}
use Rattle.step_runner.specs.TurnAtObjects.{turn_at}
use Rattle.step_runner.specs.TurnWithin.{add_one, start_item, start_items}
use Rattle.race_clocks.specs.HappensBefore.{Before}
use Rattle.race_clocks.specs.Rows.{Makes, earlier_of, Completes, start_of}
use Rattle.race_clocks.proofs.Accesses.{IsToldOf}
use Rattle.race_clocks.proofs.CompletedCalls.{is_completed, IsWhole, never, later, whole}
use Rattle.race_clocks.proofs.Ordered.{start_row}

start_behind : (answer : Answer) (reply : Reply (List ℕ)) (start : Item) → answer ≡ answers.Completed reply → start_items answer start ≡ start ∷ []
start_behind answers.Still reply start is = never reply is
start_behind answers.Unfinished reply start is = later reply is
start_behind (answers.Completed other) reply start is = refl
start_behind (answers.Misused misuse) reply start is = absurd (false≢true (ap is_completed is))

module _ (plan : Plan) (trace : List TraceItem) (told : (n : ℕ) (one : TraceItem) → slice_get trace n ≡ Some one → IsToldOf plan one) (i group started : ℕ) (reply : Reply (List ℕ)) (c : Completes trace i group (operations.Composed (Go started)) reply) where
  abbrev its : IsWhole plan c.turn (record { object = group; operation = operations.Composed (Go started) }) reply
  its = whole plan trace told i group (operations.Composed (Go started)) reply c

  -- the start, behind the `add`
  pub start_made : (starts : ℕ) × (worker : ℕ) × Makes trace i starts worker (start_of started)
  start_made = by its where
    by : IsWhole plan c.turn (record { object = group; operation = operations.Composed (Go started) }) reply → (starts : ℕ) × (worker : ℕ) × Makes trace i starts worker (start_of started)
    by w = (
      length w.state.objects,
      w.worker,
      record {
        turn = c.turn;
        at = c.at;
        front = items_at (add_one group) w.worker w.state.moment w.state.objects;
        back = [];
        made = sym w.made ∙ ap (λ behind. items_at (add_one group) w.worker w.state.moment w.state.objects ++ behind)
            (start_behind (turn_at (add_one group) w.worker w.state.moment w.state.objects).1 reply (start_item w.worker (length w.state.objects) started) w.completes);
      },
    )

  pub go_then : (j place : ℕ) (e : Deed) → i < j → (m : Makes trace j place started e) → All (λ (other : Item). other.caller ≢ started) (earlier_of trace j place started e m) → Before plan trace i j
  go_then j place e earlier m none = by start_made where
    by : (starts : ℕ) × (worker : ℕ) × Makes trace i starts worker (start_of started) → Before plan trace i j
    by (starts, worker, one) = start_row plan trace i j starts place worker started (start_of started) e earlier one m refl none
