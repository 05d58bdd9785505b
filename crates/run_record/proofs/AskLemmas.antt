-- Which calls on maps and atomics a call of a workload is made of.
use Rattle.std.proofs.Common.{◌≡◌, ℕ, List, [], ◌∷◌, ◌++◌, map, Some, None, refl, sym, subst}
use Rattle.sync_types.specs.declared.atomic_object.AtomicCall.{AtomicCall}
use Rattle.sync_types.specs.declared.atomic_object.AtomicCall.TheVariants.{Add}
use Rattle.sync_types.specs.declared.atomic_object.Number.TheVariants.{Int64}
use Rattle.script_calls.specs.declared.call.Call.{Call}
use Rattle.script_calls.specs.declared.call.Operation.TheVariants as operations
use Rattle.sync_model.specs.declared.item.Item.{Item}
use Rattle.sync_model.specs.declared.item.SharedCall.{SharedCall}
use Rattle.sync_model.specs.declared.item.SharedCall.TheVariants as calls
use Rattle.sync_model.specs.declared.item.SharedReply.{SharedReply}
use Rattle.sync_model.specs.declared.item.SharedReply.TheVariants as answers
use Rattle.sync_types.specs.declared.map_object.MapCall.{MapCall}
use Rattle.sync_types.specs.Renaming.{renamed_call}
use Rattle.protocols.specs.GroupStages.{group_event, group_meaning}
use Rattle.protocols.specs.declared.wait_group.GroupStage.TheVariants as group_stage
use Rattle.protocols.specs.declared.step.Step.{Step}
use Rattle.starts_core.specs.declared.protocol.StartsStage.TheVariants as stage
use Rattle.starts_core.specs.StartsStages.{starts_event, starts_meaning}
use Rattle.workload.specs.Keys.{keys_in, key_number}
use Rattle.workload.specs.Plan.{Plan}
use Rattle.run_record.specs.declared.entered.ObjectEvent.{ObjectEvent}
use Rattle.run_record.specs.declared.entered.ObjectEvent.TheVariants as event
use Rattle.run_record.specs.declared.entered.ObjectReply.{ObjectReply}
use Rattle.run_record.specs.declared.entered.ObjectReply.TheVariants as reply
use Rattle.run_record.specs.declared.made.Made.{Made}
use Rattle.run_record.specs.declared.made.Made.TheVariants.{Shared, Entered}
use Rattle.run_record.specs.Calls.{SpellsCall}
use Rattle.run_record.specs.Limits.{told}
use Rattle.run_record.specs.Parts.{Part, Places, stages}
use Rattle.run_record.specs.Record.{shared_in}
use Rattle.run_record.specs.StartsKind.{opening, closing}
use Rattle.run_record.proofs.CallParts.{HoldsOfParts, holds_of_call, of_fly, of_opening, of_closing}
use Rattle.run_record.proofs.EachItem.{EachOf, through, of_entries, of_stages}
use Rattle.run_record.proofs.Having.{Each}

module _ (P : SharedCall → Type 0) where
  -- a call on a map or an atomic is such a one
  abbrev pub Asks : Made → Type 0
  Asks (Shared x) = P x.call
  Asks (Entered object entry) = Unit {0}

  -- each of the part is
  abbrev pub AsksOnly : {O : Type 0} → Part O → Type 0
  AsksOnly part = EachOf Asks part

  by_made : (made : List Item) → Each (λ (t : SharedCall × SharedReply). P t.0) (map told made) → Each Asks (map Shared made)
  by_made [] each = tt
  by_made (x ∷ made) each = (each.0, by_made made each.1)

  pub by_places : (made : List (SharedCall × SharedReply)) (items : List Made) → Each (λ (t : SharedCall × SharedReply). P t.0) made → Places made items → Each Asks items
  by_places made items each (xs, is, are) = subst (Each Asks) (sym is) (by_made xs (subst (Each (λ (t : SharedCall × SharedReply). P t.0)) (sym are) each))

  module _ {E R : Type 0} (event : E → ObjectEvent) (reply : R → ObjectReply) (object : ℕ) where
    by_stages : {G O : Type 0} (event_of : G → ℕ → E) (meaning : G → R → Step G O) (from : G) → AsksOnly (stages event reply event_of meaning object from)
    by_stages event_of meaning from = of_stages Asks event reply object event_of meaning from (λ entry. tt)

  -- what stands before a script asks nothing, nor what stands behind it
  pub by_opening : (plan : Plan) (worker : ℕ) → AsksOnly (opening plan worker)
  by_opening plan worker = of_opening (λ O part. AsksOnly part) (through Asks) plan worker (λ object. by_stages event.Starts reply.Starts object starts_event starts_meaning stage.WaitStart)

  pub by_closing : (plan : Plan) (worker : ℕ) → AsksOnly (closing plan worker)
  by_closing plan worker = of_closing (λ O part. AsksOnly part) (through Asks) plan worker
      (λ object. by_stages event.WaitGroup reply.WaitGroup object group_event group_meaning group_stage.Done) (λ object. by_stages event.Starts reply.Starts object starts_event starts_meaning stage.End)

  -- such are the calls of cursors and atomics
  module _ (begins : (m : ℕ) → P (calls.Begin m)) (steps : (begin : ℕ) → P (calls.Next begin)) (atomics : (a : ℕ) (call : AtomicCall) → P (calls.Atomic a call)) where
    shown_asked : (begin : ℕ) (shown : List (ℕ × ℕ)) → Each (λ (t : SharedCall × SharedReply). P t.0) (map (λ (pair : ℕ × ℕ). (calls.Next begin, answers.Shown (Some pair))) shown ++ (calls.Next begin, answers.Shown None) ∷ [])
    shown_asked begin [] = (steps begin, tt)
    shown_asked begin (pair ∷ shown) = (steps begin, shown_asked begin shown)

    abbrev asked : HoldsOfParts (λ O part. AsksOnly part)
    asked = record {
      through = through Asks;
      mutex = λ object stage. by_stages event.Mutex reply.Mutex object _ _ stage;
      rw_mutex = λ object stage. by_stages event.RwMutex reply.RwMutex object _ _ stage;
      writes = λ object items answer locks. subst (Each Asks) (sym locks.1) (of_entries Asks event.RwMutex reply.RwMutex object (λ entry. tt) locks.0);
      cond = λ object stage. by_stages event.Cond reply.Cond object _ _ stage;
      wait_group = λ object stage. by_stages event.WaitGroup reply.WaitGroup object _ _ stage;
      once = λ object stage. by_stages event.Once reply.Once object _ _ stage;
      func = λ object stage. by_stages event.OnceFunc reply.OnceFunc object _ _ stage;
      value = λ object stage. by_stages event.OnceValue reply.OnceValue object _ _ stage;
      pool = λ object stage. by_stages event.Pool reply.Pool object _ _ stage;
      sema = λ object stage. by_stages event.Sema reply.Sema object _ _ stage;
      added = λ a amount items answer spelt. by_places _ items (atomics a (Add (Int64 amount)), tt) spelt.1;
      atomic = λ a call items answer spelt. by_places _ items (atomics a call, tt) spelt.1;
      range = λ keys m begin items answer spelt. by_places _ items (begins m, shown_asked begin spelt.0) spelt.2;
    }

    pub by_call : (plan : Plan) (worker before : ℕ) (call : Call) → ((m : ℕ) (op : MapCall (List ℕ)) → call.operation ≡ operations.Map op → P (calls.Map m (renamed_call (key_number (keys_in plan.scripts)) op)))
        → AsksOnly (SpellsCall plan worker before call)
    by_call plan worker before call keyed =
        holds_of_call (λ O part. AsksOnly part) asked plan worker before call (λ m op is items answer spelt. by_places _ items (keyed m op is, tt) spelt.1)
        (λ object started is. by_stages event.Starts reply.Starts object starts_event starts_meaning (stage.Start started))
        (λ object atomic amount key there is called. of_fly (λ O part. AsksOnly part) (through Asks) _ _ amount _ (λ stage. by_stages event.Flight reply.Flight _ _ _ stage) (asked.added _ amount))

-- where nothing is asked, there are no calls on maps and atomics
pub none_asked : (items : List Made) → Each (Asks (λ call. ⊥)) items → shared_in items ≡ []
none_asked [] each = refl
none_asked (Shared x ∷ items) each = absurd each.0
none_asked (Entered object entry ∷ items) each = none_asked items each.1
