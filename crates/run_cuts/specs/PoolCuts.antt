-- How a call of a pool is cut from a list.
use Rattle.std.specs.Prelude.{ℕ, ◌+◌, ◌==◌, Bool, true, false, List, [], ◌∷◌, Option, Some, None}
use Rattle.std.specs.List.{range_with_len}
use Rattle.script_calls.specs.declared.call.Reply.{Reply}
use Rattle.script_calls.specs.declared.call.Reply.TheVariants as replies
use Rattle.sync_types.specs.declared.pool_call.PoolCall.{PoolCall}
use Rattle.sync_types.specs.declared.pool_call.PoolCall.TheVariants as calls
use Rattle.sync_types.specs.declared.pool_call.PoolCallReply.TheVariants as pool_replies
use Rattle.pool_core.specs.declared.pool_event.PoolEvent.{PoolEvent}
use Rattle.pool_core.specs.declared.pool_event.PoolEvent.TheVariants as pool_event
use Rattle.pool_core.specs.declared.pool_event.PoolReply.{PoolReply}
use Rattle.protocols.specs.declared.pool.PoolOutcome.{PoolOutcome}
use Rattle.protocols.specs.declared.pool.PoolOutcome.TheVariants.{Kept, Dropped, Item, Nothing, Swept}
use Rattle.protocols.specs.declared.pool.PoolStage.{PoolStage}
use Rattle.protocols.specs.declared.pool.PoolStage.TheVariants as stage
use Rattle.protocols.specs.PoolStages as protocol
use Rattle.run_record.specs.PoolKind.{looks_of, part_of, stage_of}
use Rattle.run_record.specs.declared.entered.ObjectEvent.{ObjectEvent}
use Rattle.run_record.specs.declared.entered.ObjectEvent.TheVariants as event
use Rattle.run_record.specs.declared.entered.ObjectReply.{ObjectReply}
use Rattle.run_record.specs.declared.entered.ObjectReply.TheVariants as reply
use Rattle.run_cuts.specs.Cuts.{Cutter, move, never_cut, read_cut, returns_cut, stages_cut, then_cut}

abbrev pub pool_event_in : ObjectEvent → Option (PoolEvent ℕ)
pool_event_in (event.Pool e) = Some e
pool_event_in other = None

abbrev pub pool_reply_in : ObjectReply → Option (PoolReply ℕ)
pool_reply_in (reply.Pool r) = Some r
pool_reply_in other = None

-- whether the event is the stage's
abbrev pub is_pool_event : PoolStage → PoolEvent ℕ → Bool
is_pool_event (stage.Put item) (pool_event.Put other) = other == item
is_pool_event stage.LookOwn pool_event.LookOwn = true
is_pool_event (stage.LookOther part) (pool_event.LookOther other) = other == part
is_pool_event (stage.LookVictim part) (pool_event.LookVictim other) = other == part
is_pool_event stage.Sweep pool_event.Sweep = true
is_pool_event from event = false

abbrev pub pool_part_cut : ℕ → PoolStage → Cutter PoolOutcome
pool_part_cut object from = stages_cut (move pool_event_in pool_reply_in is_pool_event protocol.pool_meaning) object from

-- the item that a look took, or what the rest comes to where it found nothing
abbrev pub found_or_cut : Cutter (Reply ℕ) → PoolOutcome → Cutter (Reply ℕ)
found_or_cut rest (Item item) = returns_cut (replies.Pool (pool_replies.Put item))
found_or_cut rest Nothing = rest
found_or_cut rest Kept = never_cut
found_or_cut rest (Dropped item) = never_cut
found_or_cut rest Swept = never_cut

-- looks up to the first that takes an item
abbrev pub found_by_cut : ℕ → ℕ → List (PoolEvent ℕ) → Cutter (Reply ℕ)
found_by_cut worker first [] = returns_cut (replies.Pool pool_replies.New)
found_by_cut worker first (look ∷ looks) = then_cut (pool_part_cut (first + part_of worker look) (stage_of look)) (found_or_cut (found_by_cut worker first looks))

-- these parts are swept, one after the other
abbrev pub swept_by_cut : ℕ → List ℕ → Cutter (Reply ℕ)
swept_by_cut first [] = returns_cut (replies.Pool pool_replies.Done)
swept_by_cut first (part ∷ parts) = then_cut (pool_part_cut (first + part) stage.Sweep) (λ swept. swept_by_cut first parts)

abbrev pub pool_cut : ℕ → ℕ → ℕ → PoolCall → Cutter (Reply ℕ)
pool_cut workers worker first (calls.Put item) = read_cut (λ put. replies.Pool pool_replies.Done) (pool_part_cut (first + worker) (stage.Put item))
pool_cut workers worker first calls.Get = found_by_cut worker first (looks_of workers worker)
pool_cut workers worker first calls.Sweep = swept_by_cut first (range_with_len 0 workers)
