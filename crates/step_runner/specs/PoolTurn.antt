-- A call of a pool, which is made in one turn.
use Rattle.std.specs.Prelude.{ℕ, ◌*◌, List, [], ◌∷◌, Option, Some, None, Result, Ok}
use Rattle.script_calls.specs.declared.call.Reply.TheVariants as replies
use Rattle.sync_types.specs.declared.pool_call.PoolCall.{PoolCall}
use Rattle.sync_types.specs.declared.pool_call.PoolCall.TheVariants as calls
use Rattle.sync_types.specs.declared.pool_call.PoolCallReply.TheVariants as pool_replies
use Rattle.pool_core.specs.PoolMachine.{PoolState, callers_of, next}
use Rattle.protocols.specs.declared.pool.PoolOutcome.{PoolOutcome}
use Rattle.protocols.specs.declared.pool.PoolOutcome.TheVariants.{Item}
use Rattle.protocols.specs.declared.pool.PoolStage.{PoolStage}
use Rattle.protocols.specs.declared.pool.PoolStage.TheVariants as stage
use Rattle.protocols.specs.PoolStages.{pool_event, pool_meaning}
use Rattle.step_runner.specs.declared.turns.answer.Answer.{Answer}
use Rattle.step_runner.specs.declared.turns.answer.Answer.TheVariants.{Completed}
use Rattle.step_runner.specs.Due.{looks_of}
use Rattle.step_runner.specs.Stages.{make}

abbrev pub PoolStep : Type 0
PoolStep = PoolState ℕ × Answer

-- the item that a look took, if it took one
abbrev pub item_of : Result PoolOutcome Answer → Option ℕ
item_of (Ok (Item item)) = Some item
item_of other = None

-- the item that a look took, else what the rest finds
abbrev pub found_or : PoolState ℕ × Option ℕ → (PoolState ℕ → PoolStep) → PoolStep
found_or (p, Some item) rest = (p, Completed (replies.Pool (pool_replies.Put item)))
found_or (p, None) rest = rest p

module _ (worker moment : ℕ) where
  abbrev pub pool_made : PoolStage → PoolState ℕ → PoolState ℕ × Result PoolOutcome Answer
  pool_made stage p = make next pool_event pool_meaning worker moment (Some stage) p

  abbrev pub looked : PoolStage → PoolState ℕ → PoolState ℕ × Option ℕ
  looked look p = ((pool_made look p).0, item_of (pool_made look p).1)

  -- the first item that some looks find, or a new one
  abbrev pub found_by : List PoolStage → PoolState ℕ → PoolStep
  found_by [] p = (p, Completed (replies.Pool pool_replies.New))
  found_by (look ∷ looks) p = found_or (looked look p) (found_by looks)

  -- A get makes all looks of its worker: at each part, and at each part's victims. Each other call is one stage
  abbrev pub pool_step : PoolCall → PoolState ℕ → PoolStep
  pool_step (calls.Put item) p = ((pool_made (stage.Put item) p).0, Completed (replies.Pool pool_replies.Done))
  pool_step calls.Sweep p = ((pool_made stage.Sweep p).0, Completed (replies.Pool pool_replies.Done))
  pool_step calls.Get p = found_by (looks_of (callers_of p) worker 0 (2 * callers_of p)) p
