-- That a pool's calls are cut as they are spelt.
use Rattle.std.proofs.Common.{◌≡◌, ℕ, ◌+◌, true, List, [], ◌∷◌, Some, refl, ap}
use Rattle.std.specs.List.{range_with_len}
use Rattle.std.proofs.lemmas.Bool.{eqb-true, eq-eqb}
use Rattle.script_calls.specs.declared.call.Reply.{Reply}
use Rattle.script_calls.specs.declared.call.Reply.TheVariants as replies
use Rattle.sync_types.specs.declared.pool_call.PoolCall.{PoolCall}
use Rattle.sync_types.specs.declared.pool_call.PoolCall.TheVariants as calls
use Rattle.sync_types.specs.declared.pool_call.PoolCallReply.TheVariants as pool_replies
use Rattle.pool_core.specs.declared.pool_event.PoolEvent.{PoolEvent}
use Rattle.pool_core.specs.declared.pool_event.PoolEvent.TheVariants as pool_event
use Rattle.pool_core.specs.declared.pool_event.PoolReply.{PoolReply}
use Rattle.protocols.specs.Spelling.{IsEventOf}
use Rattle.protocols.specs.declared.pool.PoolOutcome.{PoolOutcome}
use Rattle.protocols.specs.declared.pool.PoolOutcome.TheVariants.{Kept, Dropped, Item, Nothing, Swept}
use Rattle.protocols.specs.declared.pool.PoolStage.{PoolStage}
use Rattle.protocols.specs.declared.pool.PoolStage.TheVariants as stage
use Rattle.protocols.specs.PoolStages as protocol
use Rattle.run_record.specs.Parts.{Part, and_then}
use Rattle.run_record.specs.PoolKind.{pool_part, stage_of, found_or, part_of, found_by, looks_of, swept_by, pool_call}
use Rattle.run_record.specs.declared.entered.ObjectEvent.{ObjectEvent}
use Rattle.run_record.specs.declared.entered.ObjectEvent.TheVariants as event
use Rattle.run_record.specs.declared.entered.ObjectReply.{ObjectReply}
use Rattle.run_record.specs.declared.entered.ObjectReply.TheVariants as reply
use Rattle.run_cuts.specs.Cuts.{Cutter, Cuts, move, then_cut}
use Rattle.run_cuts.specs.PoolCuts.{pool_event_in, pool_reply_in, is_pool_event, pool_part_cut, found_or_cut, found_by_cut, swept_by_cut, pool_cut}
use Rattle.run_cuts.proofs.CutLemmas.{halt_continues, halts_on, moves_are, never_cuts, read_cuts, returns_cuts, stages_cuts, then_cuts_by}

some_same : {X : Type 0} {x y : X} → Some x ≡ Some y → x ≡ y
some_same e = cc

only_event : (o : ObjectEvent) (e : PoolEvent ℕ) → pool_event_in o ≡ Some e → o ≡ event.Pool e
only_event (event.Pool x) e is = ap (λ (y : PoolEvent ℕ). event.Pool y) (some_same is)
only_event o e is = absurd cc

only_reply : (o : ObjectReply) (r : PoolReply ℕ) → pool_reply_in o ≡ Some r → o ≡ reply.Pool r
only_reply (reply.Pool x) r is = ap (λ (y : PoolReply ℕ). reply.Pool y) (some_same is)
only_reply o r is = absurd cc

told : (from : PoolStage) (e : PoolEvent ℕ) → is_pool_event from e ≡ true → IsEventOf protocol.pool_event from e
told (stage.Put item) (pool_event.Put other) is = (0, ap (λ (n : ℕ). let e : PoolEvent ℕ = pool_event.Put n in e) (eqb-true other item is))
told stage.LookOwn pool_event.LookOwn is = (0, refl)
told (stage.LookOther part) (pool_event.LookOther other) is = (0, ap (λ (n : ℕ). let e : PoolEvent ℕ = pool_event.LookOther n in e) (eqb-true other part is))
told (stage.LookVictim part) (pool_event.LookVictim other) is = (0, ap (λ (n : ℕ). let e : PoolEvent ℕ = pool_event.LookVictim n in e) (eqb-true other part is))
told stage.Sweep pool_event.Sweep is = (0, refl)
told from e is = absurd cc

tells : (from : PoolStage) (now : ℕ) → is_pool_event from (protocol.pool_event from now) ≡ true
tells (stage.Put item) now = eq-eqb item item refl
tells stage.LookOwn now = refl
tells (stage.LookOther part) now = eq-eqb part part refl
tells (stage.LookVictim part) now = eq-eqb part part refl
tells stage.Sweep now = refl

pool_part_cuts : (object : ℕ) (from : PoolStage) → Cuts (pool_part object from) (pool_part_cut object from)
pool_part_cuts object from =
    stages_cuts event.Pool reply.Pool protocol.pool_event protocol.pool_meaning (move pool_event_in pool_reply_in is_pool_event protocol.pool_meaning)
    (moves_are event.Pool reply.Pool protocol.pool_event protocol.pool_meaning pool_event_in pool_reply_in is_pool_event (λ e. refl) (λ r. refl) only_event only_reply told tells) object from

-- a part, and what comes behind it
behind_part : (object : ℕ) (from : PoolStage) (next : PoolOutcome → Part (Reply ℕ)) (cut_next : PoolOutcome → Cutter (Reply ℕ)) → ((outcome : PoolOutcome) → Cuts (next outcome) (cut_next outcome))
    → Cuts (and_then (pool_part object from) next) (then_cut (pool_part_cut object from) cut_next)
behind_part object from next cut_next cuts =
    then_cuts_by (pool_part object from) next (pool_part_cut object from) cut_next (pool_part_cuts object from) cuts
    (halt_continues (pool_part object from) next (pool_part_cut object from) cut_next (pool_part_cuts object from) cuts
    (halts_on event.Pool reply.Pool protocol.pool_event protocol.pool_meaning (move pool_event_in pool_reply_in is_pool_event protocol.pool_meaning)
    (moves_are event.Pool reply.Pool protocol.pool_event protocol.pool_meaning pool_event_in pool_reply_in is_pool_event (λ e. refl) (λ r. refl) only_event only_reply told tells) object from))

found_or_cuts : (rest : Part (Reply ℕ)) (rest_cut : Cutter (Reply ℕ)) → Cuts rest rest_cut → (outcome : PoolOutcome) → Cuts (found_or rest outcome) (found_or_cut rest_cut outcome)
found_or_cuts rest rest_cut cuts (Item item) = returns_cuts (replies.Pool (pool_replies.Put item))
found_or_cuts rest rest_cut cuts Nothing = cuts
found_or_cuts rest rest_cut cuts Kept = never_cuts
found_or_cuts rest rest_cut cuts (Dropped item) = never_cuts
found_or_cuts rest rest_cut cuts Swept = never_cuts

found_by_cuts : (worker first : ℕ) (looks : List (PoolEvent ℕ)) → Cuts (found_by worker first looks) (found_by_cut worker first looks)
found_by_cuts worker first [] = returns_cuts (replies.Pool pool_replies.New)
found_by_cuts worker first (look ∷ looks) =
    behind_part (first + part_of worker look) (stage_of look) (found_or (found_by worker first looks)) (found_or_cut (found_by_cut worker first looks))
    (found_or_cuts (found_by worker first looks) (found_by_cut worker first looks) (found_by_cuts worker first looks))

swept_by_cuts : (first : ℕ) (parts : List ℕ) → Cuts (swept_by first parts) (swept_by_cut first parts)
swept_by_cuts first [] = returns_cuts (replies.Pool pool_replies.Done)
swept_by_cuts first (part ∷ parts) = behind_part (first + part) stage.Sweep (λ swept. swept_by first parts) (λ swept. swept_by_cut first parts) (λ swept. swept_by_cuts first parts)

pub pool_cuts : (workers worker first : ℕ) (call : PoolCall) → Cuts (pool_call workers worker first call) (pool_cut workers worker first call)
pool_cuts workers worker first (calls.Put item) = read_cuts (λ put. replies.Pool pool_replies.Done) (pool_part (first + worker) (stage.Put item)) (pool_part_cut (first + worker) (stage.Put item)) (pool_part_cuts (first + worker) (stage.Put item))
pool_cuts workers worker first calls.Get = found_by_cuts worker first (looks_of workers worker)
pool_cuts workers worker first calls.Sweep = swept_by_cuts first (range_with_len 0 workers)
