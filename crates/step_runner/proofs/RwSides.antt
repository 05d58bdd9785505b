-- A writer stays no reader of a reader/writer mutex, and a reader no writer.
use Rattle.std.proofs.Common.{◌≡◌, ◌≢◌, ℕ, Bool, true, false, not, ◌||◌, List, [], ◌∷◌, ◌++◌, cond, refl, sym, ap, ◌∙◌, subst}
use Rattle.std.specs.Prelude.{nat_lt, ◌==◌, if◌then◌else◌}
use Rattle.std.proofs.lemmas.Bool.{eqb-true}
use Rattle.std.proofs.lemmas.List.Folds.{list_any-append}
use Rattle.mutex_core.specs.MutexMachine as mutex
use Rattle.mutex_core.specs.Moves as mutex_moves
use Rattle.mutex_core.specs.declared.event.MutexEvent.{MutexEvent}
use Rattle.mutex_core.specs.declared.event.MutexEvent.TheVariants as mutex_event
use Rattle.mutex_core.specs.declared.place.Place.{Place as MutexPlace}
use Rattle.mutex_core.specs.declared.place.Place.TheVariants as mutex_place
use Rattle.mutex_core.specs.declared.reply.MutexReply.{MutexReply}
use Rattle.mutex_core.specs.declared.reply.MutexReply.TheVariants as mutex_reply
use Rattle.mutex_core.specs.declared.reply.Arrival.TheVariants as mutex_arrival
use Rattle.mutex_core.specs.declared.reply.Resumption.TheVariants as mutex_resumption
use Rattle.rw_core.specs.RwMachine as rw
use Rattle.rw_core.specs.declared.event.RwEvent.{RwEvent}
use Rattle.rw_core.specs.declared.event.RwEvent.TheVariants as event
use Rattle.rw_core.specs.declared.place.Place.{Place as RwPlace}
use Rattle.rw_core.specs.declared.place.Place.TheVariants as rw_place
use Rattle.rw_core.specs.declared.reply.RwReply.{RwReply}
use Rattle.rw_core.specs.declared.writer.Writer.{Writer}
use Rattle.rw_core.specs.declared.writer.Writer.TheVariants as writer
use Rattle.step_runner.specs.Within.{IsNoReader, IsNoWriter}
use Rattle.step_runner.specs.MachinesStand.{MutexStands}

-- ---- lists of callers

other_eq : (x c : ℕ) → x ≢ c → (x == c) ≡ false
other_eq x c apart = by_test (x == c) refl
  where
    by_test : (b : Bool) → (x == c) ≡ b → b ≡ false
    by_test true is = absurd (apart (eqb-true x c is))
    by_test false is = refl

or_false : (a b : Bool) → a ≡ false → b ≡ false → (a || b) ≡ false
or_false true b is e = is
or_false false b is e = e

join : (x : ℕ) (xs ys : List ℕ) → rw.is_among x xs ≡ false → rw.is_among x ys ≡ false → rw.is_among x (xs ++ ys) ≡ false
join x xs ys first later = list_any-append (λ other. x == other) xs ys ∙ or_false (rw.is_among x xs) (rw.is_among x ys) first later

one : (x c : ℕ) → (x == c) ≡ false → rw.is_among x (c ∷ []) ≡ false
one x c is = or_false (x == c) false is refl

either_first : (a b : Bool) → (a || b) ≡ false → a ≡ false
either_first true b e = e
either_first false b e = refl

either_second : (a b : Bool) → (a || b) ≡ false → b ≡ false
either_second true b e = absurd cc
either_second false b e = e

kept_less : (x y : ℕ) (rest : List ℕ) (b : Bool) → (x == y) ≡ false → rw.is_among x rest ≡ false → rw.is_among x (cond b (y ∷ rest) rest) ≡ false
kept_less x y rest true first later = or_false (x == y) (rw.is_among x rest) first later
kept_less x y rest false first later = later

less : (x c : ℕ) (xs : List ℕ) → rw.is_among x xs ≡ false → rw.is_among x (rw.without c xs) ≡ false
less x c [] is = refl
less x c (y ∷ xs) is = kept_less x y (rw.without c xs) (not (c == y)) (either_first (x == y) (rw.is_among x xs) is) (less x c xs (either_second (x == y) (rw.is_among x xs) is))

by_if : (P : rw.State → Type 0) (b : Bool) (y z : rw.State × RwReply) → P y.0 → P z.0 → P (if b then y else z).0
by_if P true y z py pz = py
by_if P false y z py pz = pz

-- ---- no reader

module _ (x c : ℕ) where
  announced_reads : (one two : RwReply) (s : rw.State) → IsNoReader x s → IsNoReader x (rw.announced c one two s).0
  announced_reads one two s is = by_if (IsNoReader x) (s.readers == 0) (record s { writer = writer.Holding }, one) (record s { writer = writer.Waiting c }, two) is is

  arrived_reads : (y : mutex.State × MutexReply) (s : rw.State) → IsNoReader x s → IsNoReader x (rw.write_arrived y c s).0
  arrived_reads (inner, mutex_reply.Arrived mutex_arrival.Acquired) s is = announced_reads _ _ (record s { inner = inner }) is
  arrived_reads (inner, r) s is = is

  resumed_reads : (y : mutex.State × MutexReply) (s : rw.State) → IsNoReader x s → IsNoReader x (rw.write_resumed y c s).0
  resumed_reads (inner, mutex_reply.Resumed mutex_resumption.Acquired) s is = announced_reads _ _ (record s { inner = inner }) is
  resumed_reads (inner, r) s is = is

  tried_reads : (y : mutex.State × MutexReply) (s : rw.State) → IsNoReader x s → IsNoReader x (rw.write_tried y s).0
  tried_reads (inner, mutex_reply.Tried true) s is = by_if (IsNoReader x) (s.readers == 0) _ _ is is
  tried_reads (inner, r) s is = is

  last_reads : (w : Writer) (s : rw.State) → IsNoReader x s → IsNoReader x (rw.last_read w s)
  last_reads writer.Nobody s is = is
  last_reads (writer.Waiting caller) s is = is
  last_reads writer.Holding s is = is

  -- only its own arrival makes it one
  reads_at : (e : RwEvent) (p : RwPlace) (s : rw.State) → (e ≡ event.ReadArrive → x ≢ c) → IsNoReader x s → IsNoReader x (rw.at_place e p c s).0
  reads_at event.ReadArrive rw_place.Out s apart is = by_if (IsNoReader x) (rw.is_announced s.writer) _ _ (join x s.queue (c ∷ []) is.0 (one x c (other_eq x c (apart refl))), is.1) is
  reads_at event.ReadArrive p s apart is = is
  reads_at event.ReadTry rw_place.Out s apart is = by_if (IsNoReader x) (rw.is_announced s.writer) _ _ is is
  reads_at event.ReadTry p s apart is = is
  reads_at event.ReadUnlock p s apart is = by_if (IsNoReader x) (s.readers == 0) _ _ is (by_if (IsNoReader x) (s.readers == 1) _ _ (last_reads s.writer s is) is)
  reads_at (event.WriteArrive now) rw_place.Out s apart is = arrived_reads (mutex.next s.inner c (mutex_event.Arrive now)) s is
  reads_at (event.WriteArrive now) p s apart is = is
  reads_at event.WriteTry rw_place.Out s apart is = tried_reads (mutex.next s.inner c mutex_event.Try) s is
  reads_at event.WriteTry p s apart is = is
  reads_at (event.WriteWoken now) rw_place.Woken s apart is = resumed_reads (mutex.next s.inner c (mutex_event.Woken now)) s is
  reads_at (event.WriteWoken now) rw_place.Handed s apart is = resumed_reads (mutex.next s.inner c (mutex_event.Woken now)) s is
  reads_at (event.WriteWoken now) p s apart is = is
  reads_at event.WriteUnlock p s apart is = by_if (IsNoReader x) (rw.is_holding s.writer) _ _ (refl, join x s.admitted s.queue is.1 is.0) is
  reads_at event.Leave rw_place.Granted s apart is = is
  reads_at event.Leave rw_place.Admitted s apart is = (is.0, less x c s.admitted is.1)
  reads_at event.Leave p s apart is = is

  pub reads_after : (e : RwEvent) (s : rw.State) → (e ≡ event.ReadArrive → x ≢ c) → IsNoReader x s → IsNoReader x (rw.next s c e).0
  reads_after e s apart is = by_if (IsNoReader x) (nat_lt c s.callers) (rw.at_place e (rw.place_of s c) c s) (rw.still s) (reads_at e (rw.place_of s c) s apart is) is

-- ---- no writer

-- an event of a writer is another's
abbrev pub ApartFor : RwEvent → ℕ → ℕ → Type 0
ApartFor event.ReadArrive x c = Unit {0}
ApartFor event.ReadTry x c = Unit {0}
ApartFor event.ReadUnlock x c = Unit {0}
ApartFor event.Leave x c = Unit {0}
ApartFor e x c = x ≢ c

module _ (law : MutexStands) (x c : ℕ) where
  -- another's event leaves it out at the inner mutex
  inner_out : (m : mutex.State) (e : MutexEvent) → mutex.IsValid m → x ≢ c → mutex.place_of m x ≡ mutex_place.Out → mutex.place_of (mutex.next m c e).0 x ≡ mutex_place.Out
  inner_out m e valid apart out = law.unmoved m x c e valid apart (by_test (mutex_moves.tells x (mutex.next m c e).1) refl) ∙ out
    where
      by_test : (b : Bool) → mutex_moves.tells x (mutex.next m c e).1 ≡ b → b ≡ false
      by_test true told = let clash : mutex_place.Out ≡ mutex_place.Waiting = sym out ∙ (law.told m x c e valid told).1 in cc
      by_test false told = refl

  announced_writes : (one two : RwReply) (s : rw.State) → x ≢ c → IsNoWriter x s → IsNoWriter x (rw.announced c one two s).0
  announced_writes one two s apart is = by_if (IsNoWriter x) (s.readers == 0) (record s { writer = writer.Holding }, one) (record s { writer = writer.Waiting c }, two) (is.0, (refl, is.1.1)) (is.0, (other_eq x c apart, is.1.1))

  arrived_writes : (y : mutex.State × MutexReply) (s : rw.State) → x ≢ c → mutex.place_of y.0 x ≡ mutex_place.Out → IsNoWriter x s → IsNoWriter x (rw.write_arrived y c s).0
  arrived_writes (inner, mutex_reply.Arrived mutex_arrival.Acquired) s apart out is = announced_writes _ _ (record s { inner = inner }) apart (is.0, (is.1.0, out))
  arrived_writes (inner, r) s apart out is = (is.0, (is.1.0, out))

  resumed_writes : (y : mutex.State × MutexReply) (s : rw.State) → x ≢ c → mutex.place_of y.0 x ≡ mutex_place.Out → IsNoWriter x s → IsNoWriter x (rw.write_resumed y c s).0
  resumed_writes (inner, mutex_reply.Resumed mutex_resumption.Acquired) s apart out is = announced_writes _ _ (record s { inner = inner }) apart (is.0, (is.1.0, out))
  resumed_writes (inner, r) s apart out is = (is.0, (is.1.0, out))

  tried_writes : (y : mutex.State × MutexReply) (s : rw.State) → mutex.place_of y.0 x ≡ mutex_place.Out → IsNoWriter x s → IsNoWriter x (rw.write_tried y s).0
  tried_writes (inner, mutex_reply.Tried true) s out is = by_if (IsNoWriter x) (s.readers == 0) _ _ (is.0, (refl, out)) is
  tried_writes (inner, r) s out is = is

  last_writes : (w : Writer) (s : rw.State) → s.writer ≡ w → IsNoWriter x s → IsNoWriter x (rw.last_read w s)
  last_writes writer.Nobody s at is = is
  last_writes (writer.Waiting caller) s at is =
      let apart : (x == caller) ≡ false = ap (rw.waits_as x) (sym at) ∙ is.1.0 in
      (join x s.granted (caller ∷ []) is.0 (one x caller apart), (refl, is.1.1))
  last_writes writer.Holding s at is = is

  writes_at : (e : RwEvent) (p : RwPlace) (s : rw.State) → ApartFor e x c → mutex.IsValid s.inner → IsNoWriter x s → IsNoWriter x (rw.at_place e p c s).0
  writes_at event.ReadArrive rw_place.Out s apart valid is = by_if (IsNoWriter x) (rw.is_announced s.writer) _ _ is is
  writes_at event.ReadArrive p s apart valid is = is
  writes_at event.ReadTry rw_place.Out s apart valid is = by_if (IsNoWriter x) (rw.is_announced s.writer) _ _ is is
  writes_at event.ReadTry p s apart valid is = is
  writes_at event.ReadUnlock p s apart valid is = by_if (IsNoWriter x) (s.readers == 0) _ _ is (by_if (IsNoWriter x) (s.readers == 1) _ _ (last_writes s.writer s refl is) is)
  writes_at (event.WriteArrive now) rw_place.Out s apart valid is = arrived_writes (mutex.next s.inner c (mutex_event.Arrive now)) s apart (inner_out s.inner (mutex_event.Arrive now) valid apart is.1.1) is
  writes_at (event.WriteArrive now) p s apart valid is = is
  writes_at event.WriteTry rw_place.Out s apart valid is = tried_writes (mutex.next s.inner c mutex_event.Try) s (inner_out s.inner mutex_event.Try valid apart is.1.1) is
  writes_at event.WriteTry p s apart valid is = is
  writes_at (event.WriteWoken now) rw_place.Woken s apart valid is = resumed_writes (mutex.next s.inner c (mutex_event.Woken now)) s apart (inner_out s.inner (mutex_event.Woken now) valid apart is.1.1) is
  writes_at (event.WriteWoken now) rw_place.Handed s apart valid is = resumed_writes (mutex.next s.inner c (mutex_event.Woken now)) s apart (inner_out s.inner (mutex_event.Woken now) valid apart is.1.1) is
  writes_at (event.WriteWoken now) p s apart valid is = is
  writes_at event.WriteUnlock p s apart valid is = by_if (IsNoWriter x) (rw.is_holding s.writer) _ _ (is.0, (refl, inner_out s.inner mutex_event.Unlock valid apart is.1.1)) is
  writes_at event.Leave rw_place.Granted s apart valid is = (less x c s.granted is.0, is.1)
  writes_at event.Leave rw_place.Admitted s apart valid is = is
  writes_at event.Leave p s apart valid is = is

  pub writes_after : (e : RwEvent) (s : rw.State) → ApartFor e x c → mutex.IsValid s.inner → IsNoWriter x s → IsNoWriter x (rw.next s c e).0
  writes_after e s apart valid is = by_if (IsNoWriter x) (nat_lt c s.callers) (rw.at_place e (rw.place_of s c) c s) (rw.still s) (writes_at e (rw.place_of s c) s apart valid is) is

-- ---- where they stand

-- where a writer may stand, and where a reader
abbrev pub WriterPlace : RwPlace → Type 0
WriterPlace rw_place.Admitted = ⊥
WriterPlace p = Unit {0}

abbrev pub ReaderPlace : RwPlace → Type 0
ReaderPlace rw_place.Out = Unit {0}
ReaderPlace rw_place.Queued = Unit {0}
ReaderPlace rw_place.Admitted = Unit {0}
ReaderPlace p = ⊥

abbrev placed_by : Bool → Bool → Bool → Bool → MutexPlace → RwPlace
placed_by a g w q inner = if a then rw_place.Admitted else if g then rw_place.Granted else if w then rw_place.Waiting else if q then rw_place.Queued else rw.place_at inner

writer_by : (g w q : Bool) (inner : MutexPlace) → WriterPlace (placed_by false g w q inner)
writer_by true w q inner = tt
writer_by false true q inner = tt
writer_by false false true inner = tt
writer_by false false false mutex_place.Out = tt
writer_by false false false mutex_place.Waiting = tt
writer_by false false false mutex_place.Woken = tt
writer_by false false false mutex_place.Handed = tt

pub no_reader : (x : ℕ) (m : rw.State) → IsNoReader x m → WriterPlace (rw.place_of m x)
no_reader x m is =
    let rest = writer_by (rw.is_among x m.granted) (rw.waits_as x m.writer) (rw.is_among x m.queue) (mutex.place_of m.inner x) in
    subst (λ (a : Bool). WriterPlace (placed_by a (rw.is_among x m.granted) (rw.waits_as x m.writer) (rw.is_among x m.queue) (mutex.place_of m.inner x))) (sym is.1) rest

reader_by : (a q : Bool) → ReaderPlace (placed_by a false false q mutex_place.Out)
reader_by true q = tt
reader_by false true = tt
reader_by false false = tt

pub no_writer : (x : ℕ) (m : rw.State) → IsNoWriter x m → ReaderPlace (rw.place_of m x)
no_writer x m is =
    subst (λ (g : Bool). ReaderPlace (placed_by (rw.is_among x m.admitted) g (rw.waits_as x m.writer) (rw.is_among x m.queue) (mutex.place_of m.inner x))) (sym is.0)
    (subst (λ (w : Bool). ReaderPlace (placed_by (rw.is_among x m.admitted) false w (rw.is_among x m.queue) (mutex.place_of m.inner x))) (sym is.1.0)
    (subst (λ (p : MutexPlace). ReaderPlace (placed_by (rw.is_among x m.admitted) false false (rw.is_among x m.queue) p)) (sym is.1.1) (reader_by (rw.is_among x m.admitted) (rw.is_among x m.queue))))

-- one that is out is neither
out_by : (a g w q : Bool) (inner : MutexPlace) → placed_by a g w q inner ≡ rw_place.Out → ((q ≡ false) × (a ≡ false)) × ((g ≡ false) × ((w ≡ false) × (inner ≡ mutex_place.Out)))
out_by true g w q inner is = absurd cc
out_by false true w q inner is = absurd cc
out_by false false true q inner is = absurd cc
out_by false false false true inner is = absurd cc
out_by false false false false mutex_place.Out is = ((refl, refl), (refl, (refl, refl)))
out_by false false false false mutex_place.Waiting is = absurd cc
out_by false false false false mutex_place.Woken is = absurd cc
out_by false false false false mutex_place.Handed is = absurd cc

pub out_sides : (x : ℕ) (m : rw.State) → rw.place_of m x ≡ rw_place.Out → IsNoReader x m × IsNoWriter x m
out_sides x m is = out_by (rw.is_among x m.admitted) (rw.is_among x m.granted) (rw.waits_as x m.writer) (rw.is_among x m.queue) (mutex.place_of m.inner x) is
