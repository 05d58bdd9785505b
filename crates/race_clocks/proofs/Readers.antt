-- A reader's unlock is not before a later `rlock`.
use Rattle.std.proofs.Common.{◌≡◌, ◌≢◌, inl, inr, ℕ, Bool, true, false, ◌==◌, ◌&&◌, List, [], ◌∷◌, ◌++◌, Option, Some, slice_get, refl, sym, ap, ◌∙◌, subst, arith}
use Rattle.std.specs.Prelude.{Contains, cond}
use Rattle.std.proofs.lemmas.Bool.{false≢true, and_parts}
use Rattle.std.proofs.lemmas.Option.{same_Some}
use Rattle.script_calls.specs.declared.call.Call.{Call}
use Rattle.workload.specs.Plan.{Plan}
use Rattle.step_runner.specs.declared.trace.TraceItem.{TraceItem}
use Rattle.step_runner.specs.declared.turns.item.Item.{Item}
use Rattle.race_clocks.specs.Channels.{Channel, MutexUnlock, WriterUnlock, ReaderUnlock, Notice, Lowering, FunctionEnd, PutItem, Start, Atomic, MapKey, gives, takes, hands_on, takes_in}
use Rattle.race_clocks.specs.Deeds.{unlocks_mutex, unlocks_as_writer, locks_rw_mutex, is_writers_call, lowers_count, ends_function, starts_worker, enters_atomic}
use Rattle.race_clocks.specs.Seen.{is_told, cond_made, cond_behind, pool_behind, is_kept_put, map_behind, enters_key}
use Rattle.race_clocks.specs.HappensBefore.{done_before, Meets, Edge, Before}
use Rattle.race_clocks.specs.Rows.{reader_unlock, IsReadersCall, r_lock, try_r_lock, EachDoes}
use Rattle.race_clocks.proofs.Order.{before_earlier}
use Rattle.race_clocks.proofs.Quiet.{untold, within}
use Rattle.race_clocks.proofs.Turns.{Found, found}

module _ (plan : Plan) (earlier : List Item) (it : Item) (is : it.deed ≡ reader_unlock) where
  never : (a b : Bool) → b ≡ false → (a && b) ≡ true → (channel : Channel) → (lock : ℕ) × (channel ≡ ReaderUnlock lock)
  never a b not both channel = absurd (false≢true (sym not ∙ (and_parts a b both).1))

  pub just_reader : (channel : Channel) → gives plan earlier it channel ≡ true → (lock : ℕ) × (channel ≡ ReaderUnlock lock)
  just_reader (MutexUnlock o) e = never (it.object == o) (unlocks_mutex it.deed) (ap unlocks_mutex is) e (MutexUnlock o)
  just_reader (WriterUnlock o) e = never (it.object == o) (unlocks_as_writer it.deed) (ap unlocks_as_writer is) e (WriterUnlock o)
  just_reader (ReaderUnlock o) e = (o, refl)
  just_reader (Notice o worker) e = absurd (false≢true (sym (
      ap (λ s. is_told worker (cond_behind plan o earlier) (cond (it.object == o) s (cond_behind plan o earlier))) (ap (cond_made (cond_behind plan o earlier) it.caller) is) ∙ untold worker (cond_behind plan o earlier) (it.object == o)
      ) ∙ e))
  just_reader (Lowering o) e = never (it.object == o) (lowers_count it.deed) (ap lowers_count is) e (Lowering o)
  just_reader (FunctionEnd o) e = never (it.object == o) (ends_function it.deed) (ap ends_function is) e (FunctionEnd o)
  just_reader (PutItem o number) e = never (it.object == o) (is_kept_put number (pool_behind plan o earlier) it.deed) (ap (is_kept_put number (pool_behind plan o earlier)) is) e (PutItem o number)
  just_reader (Start worker) e = absurd (false≢true (sym (ap (starts_worker worker) is) ∙ e))
  just_reader (Atomic o) e = never (it.object == o) (enters_atomic it.deed) (ap enters_atomic is) e (Atomic o)
  just_reader (MapKey o key) e = never (it.object == o) (enters_key key (map_behind o earlier) it.deed) (ap (enters_key key (map_behind o earlier)) is) e (MapKey o key)

hands_just : (plan : Plan) (earlier : List Item) (turn : TraceItem) → EachDoes (λ d. d ≡ reader_unlock) turn → (channel : Channel) → hands_on plan earlier turn channel ≡ true → (lock : ℕ) × (channel ≡ ReaderUnlock lock)
hands_just plan earlier turn each channel is = at_item (found (λ before it. gives plan before it channel) earlier turn.made is) where
  at_item : Found (λ before it. gives plan before it channel) earlier turn.made → (lock : ℕ) × (channel ≡ ReaderUnlock lock)
  at_item f = just_reader plan (earlier ++ f.front) f.it (each f.it (subst (λ made. Contains made f.it) (sym f.is_made) (within f.front f.it f.back))) channel f.passes

not_writers : {call : Option Call} → IsReadersCall call → is_writers_call call ≡ false
not_writers (r_lock place) = refl
not_writers (try_r_lock place) = refl

pub takes_none : (plan : Plan) (earlier : List Item) (turn : TraceItem) → IsReadersCall turn.call → (lock : ℕ) → takes_in plan earlier turn (ReaderUnlock lock) ≡ true → ⊥
takes_none plan earlier turn call lock is = at_item (found (λ before it. takes plan before it turn.call (ReaderUnlock lock)) earlier turn.made is) where
  at_item : Found (λ before it. takes plan before it turn.call (ReaderUnlock lock)) earlier turn.made → ⊥
  at_item f = false≢true (sym (not_writers call) ∙ (and_parts ((f.it.object == lock) && locks_rw_mutex f.it.deed) (is_writers_call turn.call) f.passes).1)

pub no_edge : (plan : Plan) (trace : List TraceItem) (i j : ℕ) (x y : TraceItem) → slice_get trace i ≡ Some x → slice_get trace j ≡ Some y → x.worker ≢ y.worker → EachDoes (λ d. d ≡ reader_unlock) x → IsReadersCall y.call → Edge plan trace i j → ⊥
no_edge plan trace i j x y at_x at_y apart each call edge = by edge.meets where
  first : edge.first ≡ x
  first = same_Some edge.first x (sym edge.at_first ∙ at_x)

  second : edge.second ≡ y
  second = same_Some edge.second y (sym edge.at_second ∙ at_y)

  by_channel : (channel : Channel) → takes_in plan (done_before trace j) y channel ≡ true → (lock : ℕ) × (channel ≡ ReaderUnlock lock) → ⊥
  by_channel channel takes (lock, is) = takes_none plan (done_before trace j) y call lock (ap (takes_in plan (done_before trace j) y) (sym is) ∙ takes)

  by : Meets plan trace i j edge.first edge.second → ⊥
  by (inl same) = apart (ap (λ (t : TraceItem). t.worker) (sym first) ∙ same ∙ ap (λ (t : TraceItem). t.worker) second)
  by (inr (channel, takes, stands)) = by_channel channel (ap (λ t. takes_in plan (done_before trace j) t channel) (sym second) ∙ takes)
      (hands_just plan (done_before trace i) x each channel (ap (λ t. hands_on plan (done_before trace i) t channel) (sym (same_Some stands.giver x (sym stands.at ∙ at_x))) ∙ stands.gives))

pub not_before : (plan : Plan) (x y : TraceItem) → x.worker ≢ y.worker → EachDoes (λ d. d ≡ reader_unlock) x → IsReadersCall y.call → Before plan (x ∷ y ∷ []) 0 1 → ⊥
not_before plan x y apart each call ([], edge) = no_edge plan (x ∷ y ∷ []) 0 1 x y refl refl apart each call edge
not_before plan x y apart each call (k ∷ path, (leads, edge)) = let one = before_earlier plan (x ∷ y ∷ []) 0 k (path, leads) in let two = edge.earlier in omega (arith, one, two)
