-- What a completed `waitfor` has found and made.
use Rattle.std.specs.Prelude.{◌≡◌, ◌≢◌, ◌↔◌, ℕ, ◌+◌, ◌≤◌, Bool, true, false, length, Some, slice_get}
use Rattle.script_calls.specs.declared.call.Reply.TheVariants as replies
use Rattle.sync_types.specs.declared.atomic_object.AtomicReply.TheVariants.{Compared}
use Rattle.sync_types.specs.declared.atomic_object.Number.{Number}
use Rattle.sync_model.specs.declared.item.Item.{Item}
use Rattle.sync_model.specs.SharedHistory.{contents_at, number_at}
use Rattle.workload.specs.Plan.{Plan}
use Rattle.run_record.specs.Lines.{SpeltCall}
use Rattle.run_record.specs.Objects.{contents_of}
use Rattle.run_record.specs.Record.{Record, shared_in}
use Rattle.run_record.specs.Rounds.{Round, HasWaited, tickets_of}

-- what an atomic of one thread holds at the place of an item in the history
abbrev pub held_at : Plan → Record → ℕ → Item → Number
held_at plan r a x = number_at (contents_at (contents_of plan) r.history x.place) a

-- A completed `waitfor` of atomic number a, on the cond that is this object. `met` is its answer.
pub record WaitedFor (plan : Plan) (r : Record) (cond mutex a : ℕ) (value : Number) (tries : ℕ) (spelt : SpeltCall) : Type 0 where
  pub met : Bool
  pub answers : spelt.reply ≡ replies.Atomic (Compared met)
  -- its items are rounds of a load and a wait, and a last load
  pub made : HasWaited cond mutex a value tries met spelt.items
  -- it answers true exactly where the atomic holds the value at the last load
  pub holds : (met ≡ true) ↔ (held_at plan r a made.last ≡ value)
  -- at each load before it held another one
  pub held_another : (n : ℕ) (round : Round) → slice_get made.rounds n ≡ Some round → held_at plan r a round.look ≢ value
  -- it took a ticket for each wait, and made one load more
  pub loads : length (shared_in spelt.items) ≡ tickets_of cond spelt.items + 1
  pub few : tickets_of cond spelt.items ≤ tries
  -- it answers false exactly where it made all its waits and found another value at last
  pub fails : (met ≡ false) ↔ ((tickets_of cond spelt.items ≡ tries) × (held_at plan r a made.last ≢ value))
