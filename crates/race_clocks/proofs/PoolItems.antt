-- A look takes the item of just the put whose number it takes.
use Rattle.std.proofs.Common.{◌≡◌, ℕ, ◌+◌, ◌==◌, Bool, true, false, List, [], ◌∷◌, ◌++◌, length, Option, Some, None, slice_get, refl, sym, ap, ◌∙◌, append_assoc, arith}
use Rattle.std.specs.Prelude.{cond}
use Rattle.std.specs.List.{fold}
use Rattle.std.proofs.lemmas.Bool.{false≢true, eq-eqb, eqb-true}
use Rattle.std.proofs.lemmas.List.{append-nil}
use Rattle.std.proofs.lemmas.Option.{none-some}
use Rattle.pool_core.specs.PoolMachine.{PoolState, start, next}
use Rattle.pool_core.specs.declared.pool_event.PoolEvent.{PoolEvent}
use Rattle.pool_core.specs.declared.pool_event.PoolEvent.TheVariants as pool_events
use Rattle.pool_core.specs.declared.pool_event.PoolReply.{PoolReply}
use Rattle.pool_core.specs.declared.pool_event.PoolReply.TheVariants as pool_replies
use Rattle.run_record.specs.declared.entered.ObjectEvent.TheVariants as events
use Rattle.run_record.specs.declared.entered.ObjectReply.{ObjectReply}
use Rattle.step_runner.specs.declared.turns.item.Deed.{Deed}
use Rattle.step_runner.specs.declared.turns.item.Deed.TheVariants as deeds
use Rattle.step_runner.specs.declared.turns.item.Item.{Item}
use Rattle.workload.specs.Plan.{Plan}
use Rattle.workload.specs.Puts.{puts_at}
use Rattle.race_clocks.specs.PoolItems.{kept_made, kept_by, kept_behind, put_by, puts_into}
use Rattle.race_clocks.specs.Seen.{NumberedPool, numbered, is_put, pool_step, pool_made, pool_by, pool_behind, is_item, takes_put}
use Rattle.race_clocks.proofs.PoolNames.{pool_with, event_with, reply_with, of_pool, renamed, started_empty}

at_end : (before rest : List ℕ) (value : ℕ) → slice_get (before ++ value ∷ rest) (length before) ≡ Some value
at_end [] rest value = refl
at_end (x ∷ before) rest value = at_end before rest value

one_longer : (before : List ℕ) (value : ℕ) → length (before ++ value ∷ []) ≡ length before + 1
one_longer [] value = refl
one_longer (x ∷ before) value = let more = one_longer before value in omega (arith, more)

module _ (puts : List ℕ) where
  -- the numbered pool is the pool, once each number stands for its put
  abbrev Same : PoolState ℕ → PoolState ℕ → Type 0
  Same real told = pool_with Some real ≡ pool_with (slice_get puts) told

  abbrev AreAlike : ℕ → PoolEvent ℕ → Type 0
  AreAlike count event = event_with Some event ≡ event_with (slice_get puts) (numbered count event)

  pub both_step : (real told : PoolState ℕ) (count caller : ℕ) (event : PoolEvent ℕ) → Same real told → AreAlike count event → of_pool Some (next real caller event) ≡ of_pool (slice_get puts) (next told caller (numbered count event))
  both_step real told count caller event same alike =
      sym (renamed Some real caller event) ∙ ap (λ s. next s caller (event_with Some event)) same ∙ ap (next (pool_with (slice_get puts) told) caller) alike ∙ renamed (slice_get puts) told caller (numbered count event)

  pub look_alike : (count : ℕ) (event : PoolEvent ℕ) → is_put event ≡ false → AreAlike count event
  look_alike count (pool_events.Put item) not = absurd (false≢true (sym not))
  look_alike count pool_events.LookOwn not = refl
  look_alike count (pool_events.LookOther part) not = refl
  look_alike count (pool_events.LookVictim part) not = refl
  look_alike count pool_events.Sweep not = refl

  -- how the pools, and what was put, go on by an item
  record GoesOn (before put : List ℕ) (told : NumberedPool) (real : PoolState ℕ) : Type 0 where
    same : Same real told.pool
    count : length (before ++ put) ≡ told.count

  by_event : (before rest : List ℕ) (told : NumberedPool) (real : PoolState ℕ) (caller : ℕ) (event : PoolEvent ℕ) (answer : ObjectReply) → puts ≡ (before ++ put_by (deeds.Entered (events.Pool event) answer)) ++ rest → length before ≡ told.count → Same real told.pool
      → GoesOn before (put_by (deeds.Entered (events.Pool event) answer)) (pool_made told caller (deeds.Entered (events.Pool event) answer)) (kept_made real caller (deeds.Entered (events.Pool event) answer))
  by_event before rest told real caller (pool_events.Put value) answer is count same = record {
    same = ap (λ r. r.0) (both_step real told.pool told.count caller (pool_events.Put value) same alike);
    count = one_longer before value ∙ ap (λ n. n + 1) count;
  } where
    alike : AreAlike told.count (pool_events.Put value)
    alike = ap pool_events.Put (sym (ap (slice_get puts) (sym count) ∙ ap (λ ps. slice_get ps (length before)) (is ∙ append_assoc before (value ∷ []) rest) ∙ at_end before rest value))
  by_event before rest told real caller event answer is count same = record {
    same = ap (λ r. r.0) (both_step real told.pool told.count caller event same (look_alike told.count event refl));
    count = ap length (append-nil before) ∙ count;
  }

  by_deed : (before rest : List ℕ) (told : NumberedPool) (real : PoolState ℕ) (caller : ℕ) (deed : Deed) → puts ≡ (before ++ put_by deed) ++ rest → length before ≡ told.count → Same real told.pool
      → GoesOn before (put_by deed) (pool_made told caller deed) (kept_made real caller deed)
  by_deed before rest told real caller (deeds.Entered (events.Pool event) answer) is count same = by_event before rest told real caller event answer is count same
  by_deed before rest told real caller deed is count same = record { same = same; count = ap length (append-nil before) ∙ count }

  by_place : (here : Bool) (before rest : List ℕ) (told : NumberedPool) (real : PoolState ℕ) (caller : ℕ) (deed : Deed) → puts ≡ (before ++ cond here (put_by deed) []) ++ rest → length before ≡ told.count → Same real told.pool
      → GoesOn before (cond here (put_by deed) []) (cond here (pool_made told caller deed) told) (cond here (kept_made real caller deed) real)
  by_place true before rest told real caller deed is count same = by_deed before rest told real caller deed is count same
  by_place false before rest told real caller deed is count same = record { same = same; count = ap length (append-nil before) ∙ count }

  pub still_same : (place : ℕ) (items : List Item) (before : List ℕ) (told : NumberedPool) (real : PoolState ℕ) → puts ≡ before ++ puts_into place items → length before ≡ told.count → Same real told.pool
      → Same (fold (kept_by place) real items) (fold (pool_by place) told items).pool
  still_same place [] before told real is count same = same
  still_same place (it ∷ items) before told real is count same = further (by_place (it.object == place) before (puts_into place items) told real it.caller it.deed apart count same) (still_same place items) where
    put : List ℕ
    put = cond (it.object == place) (put_by it.deed) []

    apart : puts ≡ (before ++ put) ++ puts_into place items
    apart = is ∙ sym (append_assoc before put (puts_into place items))

    further : GoesOn before put (pool_by place told it) (kept_by place real it)
        → ((before : List ℕ) (told : NumberedPool) (real : PoolState ℕ) → puts ≡ before ++ puts_into place items → length before ≡ told.count → Same real told.pool → Same (fold (kept_by place) real items) (fold (pool_by place) told items).pool)
        → Same (fold (kept_by place) (kept_by place real it) items) (fold (pool_by place) (pool_by place told it) items).pool
    further on rest = rest (before ++ put) (pool_by place told it) (kept_by place real it) apart on.count on.same

got : PoolReply (Option ℕ) → Option ℕ
got (pool_replies.Item o) = o
got reply = None

-- a look that is answered an item takes the put of a number, and that put's item is this one
record IsPutOf (puts : List ℕ) (reply : PoolReply ℕ) (value : ℕ) : Type 0 where
  number : ℕ
  takes : is_item number reply ≡ true
  item : slice_get puts number ≡ Some value

put_of : (puts : List ℕ) (reply : PoolReply ℕ) (value : ℕ) → pool_replies.Item (Some value) ≡ reply_with (slice_get puts) reply → IsPutOf puts reply value
unfolding got
put_of puts (pool_replies.Item number) value e = record { number = number; takes = eq-eqb number number refl; item = sym (ap got e) }
put_of puts reply value e = absurd (none-some value (sym (ap got e)))

pools_same : (plan : Plan) (place : ℕ) (earlier : List Item) → pool_with Some (kept_behind plan place earlier) ≡ pool_with (slice_get (puts_into place earlier)) (pool_behind plan place earlier).pool
pools_same plan place earlier = still_same (puts_into place earlier) place earlier [] (record { pool = start plan.workers room; count = 0 }) (start plan.workers room) refl refl (started_empty Some plan.workers room ∙ sym (started_empty (slice_get (puts_into place earlier)) plan.workers room)) where
  room : ℕ
  room = puts_at place plan.scripts

pub its_put : (plan : Plan) (place caller value : ℕ) (earlier : List Item) (event : PoolEvent ℕ) (answer : ObjectReply) → is_put event ≡ false → (next (kept_behind plan place earlier) caller event).1 ≡ pool_replies.Item value
    → (number : ℕ) × (takes_put number (pool_behind plan place earlier) caller (deeds.Entered (events.Pool event) answer) ≡ true) × (slice_get (puts_into place earlier) number ≡ Some value)
its_put plan place caller value earlier event answer looks is = by (put_of (puts_into place earlier) (pool_step told caller event).1 value
    (sym (ap (reply_with Some) is) ∙ ap (λ r. r.1) (both_step (puts_into place earlier) (kept_behind plan place earlier) told.pool told.count caller event (pools_same plan place earlier) (look_alike (puts_into place earlier) told.count event looks))))
  where
    told : NumberedPool
    told = pool_behind plan place earlier

    by : IsPutOf (puts_into place earlier) (pool_step told caller event).1 value → (number : ℕ) × (takes_put number told caller (deeds.Entered (events.Pool event) answer) ≡ true) × (slice_get (puts_into place earlier) number ≡ Some value)
    by p = (p.number, p.takes, p.item)

-- and the other way round: a look that takes the put of a number is answered that put's item
record IsAnswered (puts : List ℕ) (number : ℕ) (reply : PoolReply ℕ) : Type 0 where
  value : ℕ
  is : reply ≡ pool_replies.Item value
  item : slice_get puts number ≡ Some value

holds : PoolReply (Option ℕ) → Bool
holds (pool_replies.Item o) = true
holds reply = false

answered_by : (puts : List ℕ) (number : ℕ) (reply : PoolReply ℕ) → reply_with Some reply ≡ pool_replies.Item (slice_get puts number) → IsAnswered puts number reply
unfolding got holds
answered_by puts number (pool_replies.Item value) e = record { value = value; is = refl; item = sym (ap got e) }
answered_by puts number reply e = absurd (false≢true (ap holds e))

numbered_by : (puts : List ℕ) (number : ℕ) (told : PoolReply ℕ) → is_item number told ≡ true → reply_with (slice_get puts) told ≡ pool_replies.Item (slice_get puts number)
numbered_by puts number (pool_replies.Item n) e = ap (λ m. pool_replies.Item (slice_get puts m)) (eqb-true n number e)
numbered_by puts number reply e = absurd (false≢true e)

pub its_item : (plan : Plan) (place caller number : ℕ) (earlier : List Item) (event : PoolEvent ℕ) (answer : ObjectReply) → is_put event ≡ false → takes_put number (pool_behind plan place earlier) caller (deeds.Entered (events.Pool event) answer) ≡ true
    → (value : ℕ) × ((next (kept_behind plan place earlier) caller event).1 ≡ pool_replies.Item value) × (slice_get (puts_into place earlier) number ≡ Some value)
its_item plan place caller number earlier event answer looks takes = by (answered_by (puts_into place earlier) number (next (kept_behind plan place earlier) caller event).1 (
    ap (λ r. r.1) (both_step (puts_into place earlier) (kept_behind plan place earlier) (pool_behind plan place earlier).pool (pool_behind plan place earlier).count caller event (pools_same plan place earlier) (look_alike (puts_into place earlier) (pool_behind plan place earlier).count event looks))
    ∙ numbered_by (puts_into place earlier) number (pool_step (pool_behind plan place earlier) caller event).1 takes
    )) where
      by : IsAnswered (puts_into place earlier) number (next (kept_behind plan place earlier) caller event).1 → (value : ℕ) × ((next (kept_behind plan place earlier) caller event).1 ≡ pool_replies.Item value) × (slice_get (puts_into place earlier) number ≡ Some value)
      by a = (a.value, a.is, a.item)
