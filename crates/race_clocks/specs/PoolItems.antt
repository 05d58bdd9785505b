-- A pool as a run has it, for the law that says whose item a look takes: its machine with the items themselves, and the items that were put into it.
use Rattle.std.specs.Prelude.{ℕ, ◌==◌, List, [], ◌∷◌, cond}
use Rattle.std.specs.List.{flat_map, fold}
use Rattle.pool_core.specs.PoolMachine as pool
use Rattle.pool_core.specs.declared.pool_event.PoolEvent.TheVariants.{Put}
use Rattle.workload.specs.Plan.{Plan}
use Rattle.workload.specs.Puts.{puts_at}
use Rattle.run_record.specs.declared.entered.ObjectEvent.TheVariants as events
use Rattle.step_runner.specs.declared.turns.item.Deed.{Deed}
use Rattle.step_runner.specs.declared.turns.item.Deed.TheVariants as deeds
use Rattle.step_runner.specs.declared.turns.item.Item.{Item}

abbrev pub kept_made : pool.PoolState ℕ → ℕ → Deed → pool.PoolState ℕ
kept_made state caller (deeds.Entered (events.Pool event) answer) = (pool.next state caller event).0
kept_made state caller deed = state

abbrev pub kept_by : ℕ → pool.PoolState ℕ → Item → pool.PoolState ℕ
kept_by place state item = cond (item.object == place) (kept_made state item.caller item.deed) state

-- the pool after these items
abbrev pub kept_behind : Plan → ℕ → List Item → pool.PoolState ℕ
kept_behind plan place items = fold (kept_by place) (pool.start plan.workers (puts_at place plan.scripts)) items

abbrev pub put_by : Deed → List ℕ
put_by (deeds.Entered (events.Pool (Put value)) answer) = value ∷ []
put_by deed = []

-- what was put into the pool at a place, in order
abbrev pub puts_into : ℕ → List Item → List ℕ
puts_into place items = flat_map (λ (item : Item). cond (item.object == place) (put_by item.deed) []) items
