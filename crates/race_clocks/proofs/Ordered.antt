-- The rows of the table of edges, each by its channel.
use Rattle.std.proofs.Common.{◌≡◌, ◌⊎◌, inl, inr, ℕ, ℤ, negsuc, ◌<◌, Bool, true, false, ◌==◌, ◌&&◌, not, ◌≢◌, List, [], ◌∷◌, ◌++◌, Option, Some, slice_get, refl, sym, ap, ◌∙◌}
use Rattle.std.specs.Prelude.{All}
use Rattle.std.specs.List.{list_any}
use Rattle.std.proofs.lemmas.Bool.{false≢true, and_parts, and_from, eq-eqb, eqb-true, ne_eqb, cases_Bool}
use Rattle.std.proofs.lemmas.List.Folds.{list_any_none}
use Rattle.std.proofs.lemmas.List.Sums.{fold-append}
use Rattle.script_calls.specs.declared.call.Call.{Call}
use Rattle.wait_cores.specs.NotifyMachine as notify
use Rattle.wait_cores.specs.declared.notify.NotifyPlace.TheVariants as places
use Rattle.workload.specs.Plan.{Plan}
use Rattle.step_runner.specs.declared.trace.TraceItem.{TraceItem}
use Rattle.step_runner.specs.declared.turns.item.Deed.{Deed}
use Rattle.step_runner.specs.declared.turns.item.Item.{Item}
use Rattle.race_clocks.specs.Channels.{Channel, MutexUnlock, WriterUnlock, ReaderUnlock, Notice, Lowering, FunctionEnd, PutItem, Start, Atomic, MapKey, gives, takes, hands_on, sets}
use Rattle.race_clocks.specs.Deeds.{unlocks_mutex, locks_mutex, unlocks_as_writer, unlocks_as_reader, locks_rw_mutex, is_writers_call, leaves_cond, lowers_count, passes_count, ends_function, knows_function, starts_worker, enters_atomic, finds_atomic, finds_in_map}
use Rattle.race_clocks.specs.Seen.{NumberedPool, is_waiting, is_notified, cond_by, cond_behind, notifies, pool_behind, is_kept_put, takes_put, map_behind, enters_key}
use Rattle.race_clocks.specs.HappensBefore.{done_before, Stands, Before}
use Rattle.race_clocks.specs.Rows.{item, Makes, earlier_of, IsMutexUnlock, free, woke, handed, IsMutexLock, at_once, tried, resumed, writer_unlock, reader_unlock, IsRwLock, reader_at_once, reader_tried, writer_at_once, writer_tried, writer_resumed, left, IsWritersCall, lock, try_lock, leaving, added, IsGroupReturn, gave_back, IsWeightHad, landed, IsFlightKnown, leads, IsOnceEnd, once, once_func, once_value, IsOnceReturn, once_left, once_func_left, once_value_left, put, start_of}
use Rattle.race_clocks.proofs.Turns.{here, Found, found, Kept, not_replaced, met}

mutex_unlocks : {d : Deed} → IsMutexUnlock d → unlocks_mutex d ≡ true
mutex_unlocks free = refl
mutex_unlocks (woke ticket) = refl
mutex_unlocks (handed ticket) = refl

mutex_locks : {d : Deed} → IsMutexLock d → locks_mutex d ≡ true
mutex_locks (at_once now) = refl
mutex_locks tried = refl
mutex_locks (resumed now) = refl

rw_locks : {d : Deed} → IsRwLock d → locks_rw_mutex d ≡ true
rw_locks reader_at_once = refl
rw_locks reader_tried = refl
rw_locks (writer_at_once now) = refl
rw_locks writer_tried = refl
rw_locks (writer_resumed now) = refl
rw_locks left = refl

as_writer : {call : Option Call} → IsWritersCall call → is_writers_call call ≡ true
as_writer (lock place) = refl
as_writer (try_lock place) = refl

group_returns : {d : Deed} → IsGroupReturn d → passes_count d ≡ true
group_returns at_once = refl
group_returns left = refl

once_ends : {d : Deed} → IsOnceEnd d → ends_function d ≡ true
once_ends (once sum) = refl
once_ends (once_func code) = refl
once_ends (once_value value) = refl

once_returns : {d : Deed} → IsOnceReturn d → knows_function d ≡ true
once_returns (once sum) = refl
once_returns (once_left sum) = refl
once_returns (once_func code) = refl
once_returns (once_func_left code) = refl
once_returns (once_value value) = refl
once_returns (once_value_left value) = refl

weight_had : {d : Deed} → IsWeightHad d → passes_count d ≡ true
weight_had (at_once weight) = refl
weight_had (tried weight) = refl
weight_had left = refl

flight_known : {d : Deed} → IsFlightKnown d → knows_function d ≡ true
flight_known (leads key) = refl
flight_known (left value) = refl

-- whoever waited before an item and is notified behind it was notified by it
told : (plan : Plan) (place worker : ℕ) (before : List Item) (it : Item) → notify.place_of (cond_behind plan place before) worker ≡ places.Waiting
    → notify.place_of (cond_behind plan place (before ++ it ∷ [])) worker ≡ places.Notified → notifies plan place worker before it ≡ true
told plan place worker before it waits notified = and_from _ _ (ap is_waiting waits) (ap is_notified (ap (λ s. notify.place_of s worker) (sym (fold-append (cond_by place) (notify.start plan.workers) before (it ∷ []))) ∙ notified))

module _ (plan : Plan) (trace : List TraceItem) (i j o w v : ℕ) (d e : Deed) (earlier : i < j) (one : Makes trace i o w d) (two : Makes trace j o v e) where
  pub mutex_row : IsMutexUnlock d → IsMutexLock e → Before plan trace i j
  mutex_row unlock locks = met plan trace i j o w o v d e earlier one two (MutexUnlock o) (not_replaced plan trace (MutexUnlock o) i j refl) (here o (unlocks_mutex d) (mutex_unlocks unlock)) (here o (locks_mutex e) (mutex_locks locks))

  pub writer_row : d ≡ writer_unlock → IsRwLock e → Before plan trace i j
  writer_row unlock locks = met plan trace i j o w o v d e earlier one two (WriterUnlock o) (not_replaced plan trace (WriterUnlock o) i j refl) (here o (unlocks_as_writer d) (ap unlocks_as_writer unlock)) (here o (locks_rw_mutex e) (rw_locks locks))

  pub reader_row : d ≡ reader_unlock → IsRwLock e → IsWritersCall two.turn.call → Before plan trace i j
  reader_row unlock locks call = met plan trace i j o w o v d e earlier one two (ReaderUnlock o) (not_replaced plan trace (ReaderUnlock o) i j refl) (here o (unlocks_as_reader d) (ap unlocks_as_reader unlock))
      (and_from ((o == o) && locks_rw_mutex e) (is_writers_call two.turn.call) (here o (locks_rw_mutex e) (rw_locks locks)) (as_writer call))

  pub group_row : (n : ℕ) → d ≡ added (negsuc n) → IsGroupReturn e → Before plan trace i j
  group_row n adds returns = met plan trace i j o w o v d e earlier one two (Lowering o) (not_replaced plan trace (Lowering o) i j refl) (here o (lowers_count d) (ap lowers_count adds)) (here o (passes_count e) (group_returns returns))

  pub once_row : IsOnceEnd d → IsOnceReturn e → Before plan trace i j
  once_row ends returns = met plan trace i j o w o v d e earlier one two (FunctionEnd o) (not_replaced plan trace (FunctionEnd o) i j refl) (here o (ends_function d) (once_ends ends)) (here o (knows_function e) (once_returns returns))

  pub weight_row : (weight : ℕ) → d ≡ gave_back weight → IsWeightHad e → Before plan trace i j
  weight_row weight gives had = met plan trace i j o w o v d e earlier one two (Lowering o) (not_replaced plan trace (Lowering o) i j refl) (here o (lowers_count d) (ap lowers_count gives)) (here o (passes_count e) (weight_had had))

  pub flight_row : (value : ℤ) (shared : Bool) → d ≡ landed value shared → IsFlightKnown e → Before plan trace i j
  flight_row value shared lands known = met plan trace i j o w o v d e earlier one two (FunctionEnd o) (not_replaced plan trace (FunctionEnd o) i j refl) (here o (ends_function d) (ap ends_function lands)) (here o (knows_function e) (flight_known known))

  pub notice_row : notify.place_of (cond_behind plan o (earlier_of trace i o w d one)) v ≡ places.Waiting → notify.place_of (cond_behind plan o (earlier_of trace i o w d one ++ item o w d ∷ [])) v ≡ places.Notified → e ≡ leaving → Before plan trace i j
  notice_row waits notified leaves = met plan trace i j o w o v d e earlier one two (Notice o v) (not_replaced plan trace (Notice o v) i j refl)
      (told plan o v (earlier_of trace i o w d one) (item o w d) waits notified) (and_from ((o == o) && (v == v)) (leaves_cond e) (here o (v == v) (eq-eqb v v refl)) (ap leaves_cond leaves))

  pub put_row : (value number : ℕ) → d ≡ put value → number ≡ (pool_behind plan o (earlier_of trace i o w d one)).count → takes_put number (pool_behind plan o (earlier_of trace j o v e two)) v e ≡ true → Before plan trace i j
  put_row value number puts is takes = met plan trace i j o w o v d e earlier one two (PutItem o number) (not_replaced plan trace (PutItem o number) i j refl)
      (here o (is_kept_put number seen d) (ap (is_kept_put number seen) puts ∙ here_put)) (here o (takes_put number (pool_behind plan o (earlier_of trace j o v e two)) v e) takes)
    where
      seen : NumberedPool
      seen = pool_behind plan o (earlier_of trace i o w d one)

      here_put : is_kept_put number seen (put value) ≡ true
      here_put = and_from (true && (seen.count == number)) true (eq-eqb seen.count number (sym is)) refl

  -- an entry on an atomic, where no turn between makes one
  pub atomic_row : enters_atomic d ≡ true → finds_atomic e ≡ true → ((k p u : ℕ) (f : Deed) → i < k → k < j → Makes trace k p u f → p ≡ o → enters_atomic f ≡ true → ⊥) → Before plan trace i j
  atomic_row enters finds none = met plan trace i j o w o v d e earlier one two (Atomic o) kept (here o (enters_atomic d) enters) (here o (finds_atomic e) finds) where
    kept : Kept plan trace (Atomic o) i j
    kept = λ k x after before at. by k x after before at (cases_Bool (hands_on plan (done_before trace k) x (Atomic o))) where
      by : (k : ℕ) (x : TraceItem) → i < k → k < j → slice_get trace k ≡ Some x → (hands_on plan (done_before trace k) x (Atomic o) ≡ true) ⊎ (hands_on plan (done_before trace k) x (Atomic o) ≡ false) → sets plan (done_before trace k) x (Atomic o) ≡ false
      by k x after before at (inl e) = absurd (at_item (found (λ seen it. gives plan seen it (Atomic o)) (done_before trace k) x.made e)) where
        at_item : Found (λ seen it. gives plan seen it (Atomic o)) (done_before trace k) x.made → ⊥
        at_item f = let parts = and_parts (f.it.object == o) (enters_atomic f.it.deed) f.passes in
            none k f.it.object f.it.caller f.it.deed after before (record { turn = x; at = at; front = f.front; back = f.back; made = f.is_made }) (eqb-true f.it.object o parts.0) parts.1
      by k x after before at (inr e) = e

  -- the same of a key
  pub key_row : (key : List ℕ) → enters_key key (map_behind o (earlier_of trace i o w d one)) d ≡ true → finds_in_map key e ≡ true
      → ((k p u : ℕ) (f : Deed) → i < k → k < j → (m : Makes trace k p u f) → p ≡ o → enters_key key (map_behind o (earlier_of trace k p u f m)) f ≡ true → ⊥) → Before plan trace i j
  key_row key enters finds none = met plan trace i j o w o v d e earlier one two (MapKey o key) kept (here o (enters_key key (map_behind o (earlier_of trace i o w d one)) d) enters) (here o (finds_in_map key e) finds) where
    kept : Kept plan trace (MapKey o key) i j
    kept = λ k x after before at. by k x after before at (cases_Bool (hands_on plan (done_before trace k) x (MapKey o key))) where
      by : (k : ℕ) (x : TraceItem) → i < k → k < j → slice_get trace k ≡ Some x → (hands_on plan (done_before trace k) x (MapKey o key) ≡ true) ⊎ (hands_on plan (done_before trace k) x (MapKey o key) ≡ false) → sets plan (done_before trace k) x (MapKey o key) ≡ false
      by k x after before at (inl e) = absurd (at_item (found (λ seen it. gives plan seen it (MapKey o key)) (done_before trace k) x.made e)) where
        at_item : Found (λ seen it. gives plan seen it (MapKey o key)) (done_before trace k) x.made → ⊥
        at_item f = let parts = and_parts (f.it.object == o) (enters_key key (map_behind o (done_before trace k ++ f.front)) f.it.deed) f.passes in
            none k f.it.object f.it.caller f.it.deed after before (record { turn = x; at = at; front = f.front; back = f.back; made = f.is_made }) (eqb-true f.it.object o parts.0) parts.1
      by k x after before at (inr e) = e

module _ (plan : Plan) (trace : List TraceItem) (i j p o w v : ℕ) (d e : Deed) (earlier : i < j) (one : Makes trace i p w d) (two : Makes trace j o v e) where
  pub start_row : d ≡ start_of v → All (λ (it : Item). it.caller ≢ v) (earlier_of trace j o v e two) → Before plan trace i j
  start_row starts none = met plan trace i j p w o v d e earlier one two (Start v) (not_replaced plan trace (Start v) i j refl) (ap (starts_worker v) starts ∙ here v true refl) (here v (not (list_any (λ other. other.caller == v) seen)) (ap not nobody)) where
    seen : List Item
    seen = earlier_of trace j o v e two

    nobody : list_any (λ (other : Item). other.caller == v) seen ≡ false
    nobody = list_any_none (λ (other : Item). other.caller == v) seen (λ k d within. ne_eqb _ v (none k d within))

-- behind the next entry, what an entry handed on isn't there
pub forgotten : (plan : Plan) (trace : List TraceItem) (channel : Channel) (i k j : ℕ) (x : TraceItem) → i < k → k < j → slice_get trace k ≡ Some x → sets plan (done_before trace k) x channel ≡ true → Stands plan trace channel i j → ⊥
forgotten plan trace channel i k j x after before at is stands = false≢true (sym (stands.kept k x after before at) ∙ is)
