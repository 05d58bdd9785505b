-- The log of a pool falls into the logs of its parts.
use Rattle.std.proofs.Common.{◌≡◌, ◌≢◌, ℕ, ◌<◌, ◌==◌, Bool, true, false, cond, List, [], ◌∷◌, ◌++◌, map, filter, flat_map, length, Some, inl, inr, refl, sym, ap, ◌∙◌, subst}
use Rattle.std.specs.List.{AllByRecursion}
use Rattle.std.proofs.lemmas.Bool.Decides.{eqb_tells}
use Rattle.sync_model.specs.declared.journal.Deed.TheVariants.{Event}
use Rattle.sync_model.specs.Log as log
use Rattle.pool_core.specs.PartLaws.{about, HasPart}
use Rattle.pool_core.specs.PartMachine.{PartState, part_next}
use Rattle.pool_core.specs.PoolMachine as pool
use Rattle.pool_core.specs.declared.pool_event.PoolEvent.{PoolEvent}
use Rattle.pool_core.specs.declared.pool_event.PoolEvent.TheVariants as pool_events
use Rattle.pool_core.specs.declared.pool_event.PoolReply.{PoolReply}
use Rattle.run_record.specs.declared.entered.ObjectEvent.TheVariants as events
use Rattle.run_record.specs.declared.entered.ObjectReply.TheVariants as answered
use Rattle.step_runner.specs.declared.turns.item.Deed.{Deed}
use Rattle.step_runner.specs.declared.turns.item.Item.{Item}
use Rattle.step_runner.specs.LeadsTo.{on_object, told_in, told_by}
use Rattle.scheduled_record.proofs.Journals.{logged}
use Rattle.scheduled_record.proofs.OnObjects.{Told}
use Rattle.scheduled_record.proofs.OnParts.{is_about, part_deed, part_told}

abbrev pub PoolLog : Type 0
PoolLog = List (log.Entry (PoolEvent ℕ) (PoolReply ℕ))

-- the part's own log
abbrev pub part_log : ℕ → PoolLog → PoolLog
part_log part all = filter (λ e. is_about part e.caller e.event) all

-- what pool_core says of parts
pub record PartLaws : Type 0 where
  pub one : (state : pool.PoolState ℕ) (caller part : ℕ) (event : PoolEvent ℕ) (own : PartState ℕ) → caller < pool.callers_of state → about caller event ≡ Some part → HasPart state part own
      → ((pool.next state caller event).1 ≡ (part_next own caller event).1) × HasPart (pool.next state caller event).0 part (part_next own caller event).0
  pub others : (state : pool.PoolState ℕ) (caller part other : ℕ) (event : PoolEvent ℕ) (own : PartState ℕ) → about caller event ≡ Some part → other ≢ part → HasPart state other own → HasPart (pool.next state caller event).0 other own
  pub sweep : (state : pool.PoolState ℕ) (caller part : ℕ) (own : PartState ℕ) → caller < pool.callers_of state → HasPart state part own
      → ((pool.next state caller pool_events.Sweep).1 ≡ (part_next own caller pool_events.Sweep).1) × HasPart (pool.next state caller pool_events.Sweep).0 part (part_next own caller pool_events.Sweep).0
  pub callers : (state : pool.PoolState ℕ) (caller callers : ℕ) (event : PoolEvent ℕ) → length state.primary ≡ callers → length state.victims ≡ callers
      → (length (pool.next state caller event).0.primary ≡ callers) × (length (pool.next state caller event).0.victims ≡ callers)

module _ (laws : PartLaws) (part workers : ℕ) where
  -- what an event does with the part, if it is about it
  record Steps (state : pool.PoolState ℕ) (own : PartState ℕ) (caller : ℕ) (event : PoolEvent ℕ) (b : Bool) : Type 0 where
    answers : b ≡ true → (pool.next state caller event).1 ≡ (part_next own caller event).1
    behind : HasPart (pool.next state caller event).0 part (cond b (part_next own caller event).0 own)

  about_one : (state : pool.PoolState ℕ) (own : PartState ℕ) (caller p : ℕ) (event : PoolEvent ℕ) → caller < pool.callers_of state → HasPart state part own → about caller event ≡ Some p → Steps state own caller event (p == part)
  about_one state own caller p event within has is = elim (eqb_tells p part) [
    | inl same ↦ subst (λ (b : Bool). Steps state own caller event b) (sym same.0) (let step = laws.one state caller part event own within (is ∙ ap (λ (n : ℕ). Some n) same.1) has in record { answers = λ yes. step.0; behind = step.1 })
    | inr differ ↦ subst (λ (b : Bool). Steps state own caller event b) (sym differ.0) (record { answers = λ yes. absurd (no yes); behind = laws.others state caller p part event own is (λ same. differ.1 (sym same)) has })
  ] where
    no : false ≡ true → ⊥
    no e = cc

  step_of : (state : pool.PoolState ℕ) (own : PartState ℕ) (caller : ℕ) (event : PoolEvent ℕ) → caller < pool.callers_of state → HasPart state part own → Steps state own caller event (is_about part caller event)
  step_of state own caller (pool_events.Put item) within has = about_one state own caller caller (pool_events.Put item) within has refl
  step_of state own caller pool_events.LookOwn within has = about_one state own caller caller pool_events.LookOwn within has refl
  step_of state own caller (pool_events.LookOther p) within has = about_one state own caller p (pool_events.LookOther p) within has refl
  step_of state own caller (pool_events.LookVictim p) within has = about_one state own caller p (pool_events.LookVictim p) within has refl
  step_of state own caller pool_events.Sweep within has = let step = laws.sweep state caller part own within has in record { answers = λ yes. step.0; behind = step.1 }

  -- each caller is one of the pool's
  abbrev pub AreCallers : PoolLog → Type 0
  AreCallers all = AllByRecursion (λ e. e.caller < workers) all

  pub part_follows : (state : pool.PoolState ℕ) (own : PartState ℕ) (all : PoolLog) → (length state.primary ≡ workers) × (length state.victims ≡ workers) → AreCallers all → HasPart state part own → log.Follows pool.next state all → log.Follows part_next own (part_log part all)
  part_follows state own [] count callers has follows = tt
  part_follows state own (e ∷ all) count callers has follows = chosen (is_about part e.caller e.event) (step_of state own e.caller e.event (subst (λ (n : ℕ). e.caller < n) (sym count.0) callers.0) has)
      (λ next has_next. part_follows (pool.next state e.caller e.event).0 next all (laws.callers state e.caller workers e.event count.0 count.1) callers.1 has_next follows.1) where
        chosen : (b : Bool) → Steps state own e.caller e.event b → ((next : PartState ℕ) → HasPart (pool.next state e.caller e.event).0 part next → log.Follows part_next next (part_log part all)) → log.Follows part_next own (cond b (e ∷ part_log part all) (part_log part all))
        chosen true steps rest = (sym (steps.answers refl) ∙ follows.0, rest (part_next own e.caller e.event).0 steps.behind)
        chosen false steps rest = rest own steps.behind

-- ---- what is done on a part

abbrev pub by_part : ℕ → ℕ × Deed → List Told
by_part part x = part_deed part x.0 x.1

pub told_on_part : (place part : ℕ) (items : List Item) → flat_map (part_told place part) items ≡ flat_map (by_part part) (map told_in (on_object place items))
told_on_part place part [] = refl
told_on_part place part (item ∷ items) = chosen (item.object == place) (told_on_part place part items) where
  chosen : (b : Bool) → flat_map (part_told place part) items ≡ flat_map (by_part part) (map told_in (on_object place items))
      → cond b (part_deed part item.caller item.deed) [] ++ flat_map (part_told place part) items ≡ flat_map (by_part part) (map told_in (cond b (item ∷ on_object place items) (on_object place items)))
  chosen true rest = ap (λ (l : List Told). part_deed part item.caller item.deed ++ l) rest
  chosen false rest = rest

pub from_part_log : (part : ℕ) (all : PoolLog) → flat_map (by_part part) (map (told_by events.Pool answered.Pool) all) ≡ map (logged events.Pool answered.Pool pool.next) (part_log part all)
from_part_log part [] = refl
from_part_log part (e ∷ all) = chosen (is_about part e.caller e.event) (from_part_log part all) where
  chosen : (b : Bool) → flat_map (by_part part) (map (told_by events.Pool answered.Pool) all) ≡ map (logged events.Pool answered.Pool pool.next) (part_log part all)
      → cond {A = List Told} b ((e.caller, Event (events.Pool e.event) (answered.Pool e.reply)) ∷ []) [] ++ flat_map (by_part part) (map (told_by events.Pool answered.Pool) all) ≡ map (logged events.Pool answered.Pool pool.next) (cond b (e ∷ part_log part all) (part_log part all))
  chosen true rest = ap (λ (l : List Told). (e.caller, Event (events.Pool e.event) (answered.Pool e.reply)) ∷ l) rest
  chosen false rest = rest

-- the callers of a log are those of its items
pub log_callers : (workers : ℕ) (made : List Item) (all : PoolLog) → map told_in made ≡ map (told_by events.Pool answered.Pool) all → AllByRecursion (λ (item : Item). item.caller < workers) made → AllByRecursion (λ e. e.caller < workers) all
log_callers workers [] [] same each = tt
log_callers workers [] (e ∷ all) same each = absurd cc
log_callers workers (item ∷ made) [] same each = absurd cc
log_callers workers (item ∷ made) (e ∷ all) same each =
    let head : told_in item ≡ told_by events.Pool answered.Pool e = cc in
    let tail : map told_in made ≡ map (told_by events.Pool answered.Pool) all = cc in
    (subst (λ (x : ℕ × Deed). x.0 < workers) head each.0, log_callers workers made all tail each.1)
