-- The journal of each part of a pool follows the machine of a part.
use Rattle.std.proofs.Common.{◌≡◌, ℕ, zero, suc, ◌<◌, ◌==◌, Bool, true, false, cond, List, [], ◌∷◌, map, flat_map, replicate, Some, slice_get, refl, ap, ◌∙◌, arith}
use Rattle.std.specs.List.{AllByRecursion}
use Rattle.std.proofs.lemmas.List.{length-replicate}
use Rattle.sync_model.specs.Journal.{KeepsEdges}
use Rattle.pool_core.specs.Edges.{pool_releases, pool_acquires}
use Rattle.pool_core.specs.PartMachine.{part_start, part_next}
use Rattle.pool_core.specs.PoolMachine as pool
use Rattle.pool_core.specs.PoolParts.{empty}
use Rattle.workload.specs.declared.object.ObjectKind.TheVariants as kinds
use Rattle.workload.specs.Plan.{Plan}
use Rattle.run_record.specs.declared.entered.ObjectEvent.TheVariants as events
use Rattle.run_record.specs.declared.entered.ObjectReply.TheVariants as answered
use Rattle.run_record.specs.Edges.{frees, takes}
use Rattle.run_record.specs.PoolKind.{IsPartJournal}
use Rattle.run_record.specs.Record.{ObjectEntry}
use Rattle.kept_record.specs.Acts.{told}
use Rattle.step_runner.specs.declared.turns.item.Item.{Item}
use Rattle.step_runner.specs.declared.turns.object_state.ObjectState.{ObjectState}
use Rattle.step_runner.specs.declared.turns.object_state.ObjectState.TheVariants as states
use Rattle.step_runner.specs.LeadsTo.{on_object, LeadsTo}
use Rattle.step_runner.specs.Objects.{new_object}
use Rattle.scheduled_record.specs.ItemsOf.{AreItemsOf}
use Rattle.scheduled_record.proofs.Journals.{follows_from}
use Rattle.scheduled_record.proofs.OnParts.{part_told}
use Rattle.scheduled_record.proofs.PartLogs.{PartLaws, part_log, part_follows, by_part, told_on_part, from_part_log, log_callers}

there : {X : Type 0} (n i : ℕ) (x : X) → i < n → slice_get (replicate n x) i ≡ Some x
there zero i x less = absurd (omega arith)
there (suc n) zero x less = refl
there (suc n) (suc i) x less = there n i x (omega arith)

callers_on : (plan : Plan) (place : ℕ) (items : List Item) → AreItemsOf plan items → AllByRecursion (λ (item : Item). item.caller < plan.workers) (on_object place items)
callers_on plan place [] all = tt
callers_on plan place (item ∷ items) all = chosen (item.object == place) (callers_on plan place items all.1) where
  chosen : (b : Bool) → AllByRecursion (λ (item : Item). item.caller < plan.workers) (on_object place items) → AllByRecursion (λ (item : Item). item.caller < plan.workers) (cond b (item ∷ on_object place items) (on_object place items))
  chosen true rest = (all.0.caller, rest)
  chosen false rest = rest

module _ (laws : PartLaws) (plan : Plan) (place part room : ℕ) (within : part < plan.workers) (items : List Item) (all : AreItemsOf plan items) (journal : List ObjectEntry)
    (are : map told journal ≡ flat_map (part_told place part) items) (keeps : KeepsEdges frees takes journal) where
  pub part_journal : (keys : List (List ℕ)) (o : ObjectState) → LeadsTo (new_object plan.workers room keys kinds.Pool) (on_object place items) o → IsPartJournal room journal
  part_journal keys (states.Pool n) (log, same, follows, ends) =
      follows_from events.Pool answered.Pool part_next pool_releases pool_acquires (λ e r. refl) (λ e r. refl) (part_start room) journal (part_log part log)
      (are ∙ (told_on_part place part items ∙ (ap (flat_map (by_part part)) same ∙ from_part_log part log)))
      (part_follows laws part plan.workers (pool.start plan.workers room) (part_start room) log (length-replicate plan.workers (empty room), length-replicate plan.workers (empty room))
      (log_callers plan.workers (on_object place items) log same (callers_on plan place items all)) (there plan.workers part (empty room) within, there plan.workers part (empty room) within) follows) keeps
  part_journal keys o leads = absurd leads
