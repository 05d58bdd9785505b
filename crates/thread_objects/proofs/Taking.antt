-- A column from which the last pass was taken, or to which one was added.
use Rattle.std.proofs.Common.{◌≡◌, ℕ, ◌+◌, ◌<◌, ◌≤◌, List, [], ◌∷◌, Option, Some, None, slice_get, refl, sym, subst, arith}
use Rattle.std.specs.Global.{Vec}
use Rattle.std.specs.Prelude.{◌^◌, MatchOption, IsSome, vec_len, vec_capacity}
use Rattle.ruled_object.specs.declared.object.Object.{Object}
use Rattle.ruled_object.specs.declared.pass.Pass.{Pass}
use Rattle.run_record.specs.Journals.{IsStops}
use Rattle.thread_objects.specs.declared.column.AnyColumn.{AnyColumn}
use Rattle.thread_objects.specs.declared.column.AnyColumn.TheVariants as columns
use Rattle.thread_objects.specs.declared.object.AnyObject.{AnyObject}
use Rattle.thread_objects.specs.declared.object.AnyObject.TheVariants as objects
use Rattle.thread_objects.specs.declared.pass.AnyPass.{AnyPass}
use Rattle.thread_objects.specs.declared.parts.stop.NoEvent.{NoEvent}
use Rattle.thread_objects.specs.declared.parts.stop.StopCore.{StopCore}
use Rattle.thread_objects.specs.Columns.{AreHalting, AreSeated, ColumnOf, IsColumnOf}
use Rattle.thread_objects.specs.Dealing.{IsWithout, HasLast, HasRoomFor, Takes, Adds}
use Rattle.thread_objects.specs.EachKind.{Kind, own_in}
use Rattle.thread_objects.specs.Passes.{SeatOf, IsSeatAt}
use Rattle.thread_objects.specs.Seats.{IsSeat}
use Rattle.thread_objects.specs.StopKind.{stop, stop_pass, stop_column}
use Rattle.thread_objects.specs.MutexKind.{mutex}
use Rattle.thread_objects.specs.RwMutexKind.{rw_mutex}
use Rattle.thread_objects.specs.CondKind.{cond}
use Rattle.thread_objects.specs.WaitGroupKind.{wait_group}
use Rattle.thread_objects.specs.OnceKind.{once}
use Rattle.thread_objects.specs.OnceFuncKind.{once_func}
use Rattle.thread_objects.specs.OnceValueKind.{once_value}
use Rattle.thread_objects.specs.SemaKind.{sema}
use Rattle.thread_objects.specs.FlightKind.{flight}
use Rattle.thread_objects.specs.PoolPartKind.{pool_part}
use Rattle.thread_objects.specs.StartsKind.{starts}
use Rattle.thread_objects.proofs.ColumnLists.{in_front, last_at}
use Rattle.thread_objects.proofs.ColumnLemmas.{seat_at, without_last, with_last}
use Rattle.thread_objects.proofs.StopColumns.{halting_with}

-- of one kind
module _ {M N S E R H W : Type 0} (begins : ℕ → S → Type 0) (out : W) (move : W → E → R → W) (at : H → N → Type 0) (home : H) (workers count : ℕ) (o : Object M N S E R H) (ps : Vec (Pass S N E R)) where
  abbrev Column : ℕ → Vec (Pass S N E R) → Type 0
  Column n qs = AreSeated begins out move at home workers n o qs.items × (workers ≤ vec_capacity qs)

  some_in : AreSeated begins out move at home workers (count + 1) o ps.items → 0 < vec_len ps
  some_in seated = omega (arith, ps.ok.0, seated.sized)

  taken_in : (new : Option (Vec (Pass S N E R))) (pass : Option (Pass S N E R)) → Column (count + 1) ps → MatchOption new ⊥ (λ qs. MatchOption pass ⊥ (λ p. IsWithout ps qs p))
      → MatchOption pass ⊥ (λ p. IsSeat begins out move at home workers count o p) × MatchOption new ⊥ (λ qs. Column count qs)
  taken_in None pass column takes = absurd takes
  taken_in (Some qs) None column takes = absurd takes
  taken_in (Some qs) (Some p) column takes = (
    seat_at begins out move at home workers o (count + 1) count ps.items p column.0 (last_at ps.items qs.items p count takes.0 column.0.sized),
    (without_last begins out move at home workers o ps.items qs.items p count takes.0 column.0, subst (λ room. workers ≤ room) (sym takes.1) column.1),
  )

  room_in : (pass : Option (Pass S N E R)) → Column count ps → count < workers → MatchOption pass ⊥ (λ p. IsSeat begins out move at home workers count o p) → (vec_len ps < vec_capacity ps) × IsSome pass
  room_in None column below seat = absurd seat
  room_in (Some p) column below seat = (omega (arith, ps.ok.0, column.0.sized, column.1, below), refl)

  added_in : (new : Option (Vec (Pass S N E R))) (pass : Option (Pass S N E R)) → Column count ps → MatchOption pass ⊥ (λ p. IsSeat begins out move at home workers count o p) → MatchOption new ⊥ (λ qs. MatchOption pass ⊥ (λ p. IsWithout qs ps p)) → MatchOption new ⊥ (λ qs. Column (count + 1) qs)
  added_in None pass column seat adds = absurd adds
  added_in (Some qs) None column seat adds = absurd adds
  added_in (Some qs) (Some p) column seat adds = (
    subst (λ (xs : List (Pass S N E R)). AreSeated begins out move at home workers (count + 1) o xs) (sym adds.0) (with_last begins out move at home workers o ps.items p count column.0 seat),
    subst (λ room. workers ≤ room) adds.1 column.1,
  )

-- of Stop, whose passes did nothing but halt it
module _ {N H : Type 0} (at : H → N → Type 0) (home : H) (workers count : ℕ) (o : Object StopCore N (Unit {0}) NoEvent NoEvent H) (ps : Vec (Pass (Unit {0}) N NoEvent NoEvent)) where
  abbrev Halting : ℕ → Vec (Pass (Unit {0}) N NoEvent NoEvent) → Type 0
  Halting n qs = ColumnOf at home workers n stop o qs × AreHalting qs.items

  stop_taken : (new : Option (Vec (Pass (Unit {0}) N NoEvent NoEvent))) (pass : Option (Pass (Unit {0}) N NoEvent NoEvent)) → Halting (count + 1) ps → MatchOption new ⊥ (λ qs. MatchOption pass ⊥ (λ p. IsWithout ps qs p))
      → MatchOption pass ⊥ (λ p. SeatOf at home workers count stop o p × IsStops (own_in stop p)) × MatchOption new ⊥ (λ qs. Halting count qs)
  stop_taken None pass column takes = absurd takes
  stop_taken (Some qs) None column takes = absurd takes
  stop_taken (Some qs) (Some p) column takes =
      let each = taken_in stop.begins stop.out stop.stands at home workers count o ps (Some qs) (Some p) column.0 takes in (
        (each.0, column.1 count p (last_at ps.items qs.items p count takes.0 column.0.0.sized)),
        (each.1, λ worker pass here. column.1 worker pass (subst (λ (xs : List (Pass (Unit {0}) N NoEvent NoEvent)). slice_get xs worker ≡ Some pass) (sym takes.0) (in_front qs.items (p ∷ []) worker pass here))),
      )

  stop_added : (new : Option (Vec (Pass (Unit {0}) N NoEvent NoEvent))) (pass : Option (Pass (Unit {0}) N NoEvent NoEvent)) → Halting count ps → MatchOption pass ⊥ (λ p. SeatOf at home workers count stop o p × IsStops (own_in stop p)) → MatchOption new ⊥ (λ qs. MatchOption pass ⊥ (λ p. IsWithout qs ps p)) → MatchOption new ⊥ (λ qs. Halting (count + 1) qs)
  stop_added None pass column seat adds = absurd adds
  stop_added (Some qs) None column seat adds = absurd adds
  stop_added (Some qs) (Some p) column seat adds =
      (added_in stop.begins stop.out stop.stands at home workers count o ps (Some qs) (Some p) column.0 seat.0 adds, halting_with ps.items qs.items p adds.0 column.1 seat.1)

  stop_room : (pass : Option (Pass (Unit {0}) N NoEvent NoEvent)) → Halting count ps → count < workers → MatchOption pass ⊥ (λ p. SeatOf at home workers count stop o p × IsStops (own_in stop p)) → (vec_len ps < vec_capacity ps) × IsSome pass
  stop_room None column below seat = absurd seat
  stop_room (Some p) column below seat = room_in stop.begins stop.out stop.stands at home workers count o ps (Some p) column.0 below seat.0

-- of whatever kind
module _ {N H : Type 0} (at : H → N → Type 0) (home : H) (workers count : ℕ) where
  pub has_last : (object : AnyObject N H) (column : AnyColumn N) → IsColumnOf at home workers (count + 1) object column → HasLast column
  has_last objects.Shared (columns.None n) is = omega (arith, is)
  has_last (objects.Stop o) (columns.Stop ps) is = some_in stop.begins stop.out stop.stands at home workers count o ps is.0.0
  has_last object (columns.None n) is = absurd is
  has_last object column is = search some_in

  -- what holds of an object's column when a pass is taken or added
  abbrev Deals : AnyObject N H → AnyColumn N → Type 0
  Deals object old = ((new : AnyColumn N) (pass : AnyPass N) → IsColumnOf at home workers (count + 1) object old → Takes old new pass → IsSeatAt at home workers count object pass × IsColumnOf at home workers count object new)
      × ((pass : AnyPass N) → count < workers → workers < 2 ^ 32 → IsColumnOf at home workers count object old → IsSeatAt at home workers count object pass → HasRoomFor old pass)
      × ((new : AnyColumn N) (pass : AnyPass N) → IsColumnOf at home workers count object old → IsSeatAt at home workers count object pass → Adds old new pass → IsColumnOf at home workers (count + 1) object new)

  module _ {M S E R W : Type 0} (kind : Kind S E R W) (o : Object M N S E R H) (ps : Vec (Pass S N E R)) where
    each : ((new : AnyColumn N) (pass : AnyPass N) → ColumnOf at home workers (count + 1) kind o ps → MatchOption (kind.column new) ⊥ (λ qs. MatchOption (kind.pass pass) ⊥ (λ p. IsWithout ps qs p)) → MatchOption (kind.pass pass) ⊥ (λ p. SeatOf at home workers count kind o p) × MatchOption (kind.column new) ⊥ (λ qs. ColumnOf at home workers count kind o qs))
        × ((pass : AnyPass N) → count < workers → workers < 2 ^ 32 → ColumnOf at home workers count kind o ps → MatchOption (kind.pass pass) ⊥ (λ p. SeatOf at home workers count kind o p) → (vec_len ps < vec_capacity ps) × IsSome (kind.pass pass))
        × ((new : AnyColumn N) (pass : AnyPass N) → ColumnOf at home workers count kind o ps → MatchOption (kind.pass pass) ⊥ (λ p. SeatOf at home workers count kind o p) → MatchOption (kind.column new) ⊥ (λ qs. MatchOption (kind.pass pass) ⊥ (λ p. IsWithout qs ps p)) → MatchOption (kind.column new) ⊥ (λ qs. ColumnOf at home workers (count + 1) kind o qs))
    each = (
      λ new pass. taken_in kind.begins kind.out kind.stands at home workers count o ps (kind.column new) (kind.pass pass),
      λ pass below few column. room_in kind.begins kind.out kind.stands at home workers count o ps (kind.pass pass) column below,
      λ new pass. added_in kind.begins kind.out kind.stands at home workers count o ps (kind.column new) (kind.pass pass),
    )

  deals : (object : AnyObject N H) (old : AnyColumn N) → Deals object old
  deals objects.Shared (columns.None n) = (λ new pass is takes. (takes.1, takes.0 count is), λ pass below few is seat. (omega (arith, below, few, is), seat), λ new pass is seat adds. adds count is)
  deals (objects.Stop o) (columns.Stop ps) = (
    λ new pass. stop_taken at home workers count o ps (stop_column new) (stop_pass pass),
    λ pass below few column. stop_room at home workers count o ps (stop_pass pass) column below,
    λ new pass. stop_added at home workers count o ps (stop_column new) (stop_pass pass),
  )
  deals (objects.Mutex o) (columns.Mutex ps) = each mutex o ps
  deals (objects.RwMutex o) (columns.RwMutex ps) = each rw_mutex o ps
  deals (objects.Cond o) (columns.Cond ps) = each cond o ps
  deals (objects.WaitGroup o) (columns.WaitGroup ps) = each wait_group o ps
  deals (objects.Once o) (columns.Once ps) = each once o ps
  deals (objects.OnceFunc o) (columns.OnceFunc ps) = each once_func o ps
  deals (objects.OnceValue o) (columns.OnceValue ps) = each once_value o ps
  deals (objects.Sema o) (columns.Sema ps) = each sema o ps
  deals (objects.Flight o) (columns.Flight ps) = each flight o ps
  deals (objects.PoolPart o) (columns.PoolPart ps) = each pool_part o ps
  deals (objects.Starts o) (columns.Starts ps) = each starts o ps
  deals object old = (λ new pass is takes. absurd is, λ pass below few is seat. absurd is, λ new pass is seat adds. absurd is)

  pub taken : (object : AnyObject N H) (old new : AnyColumn N) (pass : AnyPass N) → IsColumnOf at home workers (count + 1) object old → Takes old new pass → IsSeatAt at home workers count object pass × IsColumnOf at home workers count object new
  taken object old = (deals object old).0

  pub has_room : (object : AnyObject N H) (column : AnyColumn N) (pass : AnyPass N) → count < workers → workers < 2 ^ 32 → IsColumnOf at home workers count object column → IsSeatAt at home workers count object pass → HasRoomFor column pass
  has_room object column = (deals object column).1

  pub added : (object : AnyObject N H) (old new : AnyColumn N) (pass : AnyPass N) → IsColumnOf at home workers count object old → IsSeatAt at home workers count object pass → Adds old new pass → IsColumnOf at home workers (count + 1) object new
  added object old = (deals object old).2
