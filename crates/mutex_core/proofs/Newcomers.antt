-- A newcomer at an open mutex has it at once, whatever its moment.
use Rattle.std.proofs.Common.{◌≡◌, ℕ, Bool, true, false, [], ◌∷◌, ◌++◌, refl, sym, ap, ◌∙◌}
use Rattle.std.specs.Prelude.{nat_lt, if◌then◌else◌}
use Rattle.mutex_core.specs.declared.event.MutexEvent.TheVariants.{Arrive}
use Rattle.mutex_core.specs.declared.place.Place.{Place}
use Rattle.mutex_core.specs.declared.place.Place.TheVariants as place
use Rattle.mutex_core.specs.declared.reply.MutexReply.{MutexReply}
use Rattle.mutex_core.specs.declared.reply.MutexReply.TheVariants.{Arrived}
use Rattle.mutex_core.specs.declared.reply.Arrival.TheVariants.{Acquired, Queued}
use Rattle.mutex_core.specs.MutexMachine.{State, still, is_open, arrived, at_place, place_of, next}

abbrev Came : Type 0
Came = State × MutexReply

entered : (s : State) (caller now : ℕ) → is_open s ≡ true → ◌≡◌ {A = Came} (arrived s caller now) (record s { locked = true }, Arrived Acquired)
entered s caller now free = ap (λ (yes : Bool). if yes then (record s { locked = true }, Arrived Acquired) else (record s { queue = s.queue ++ record { caller = caller; arrival = now; asked = false } ∷ [] }, Arrived (Queued caller))) free

at_any : (s : State) (caller now other : ℕ) → is_open s ≡ true → (p : Place) → ◌≡◌ {A = Came} (at_place (Arrive now) p caller s) (at_place (Arrive other) p caller s)
at_any s caller now other free place.Out = entered s caller now free ∙ sym (entered s caller other free)
at_any s caller now other free place.Waiting = refl
at_any s caller now other free place.Woken = refl
at_any s caller now other free place.Handed = refl

pub any_moment : (s : State) (caller now other : ℕ) → is_open s ≡ true → next s caller (Arrive now) ≡ next s caller (Arrive other)
any_moment s caller now other free = ap (λ (came : Came). if nat_lt caller s.callers then came else still s) (at_any s caller now other free (place_of s caller))

unqueued_at : (s : State) (caller now ticket : ℕ) → is_open s ≡ true → (p : Place) → (at_place (Arrive now) p caller s).1 ≡ Arrived (Queued ticket) → ⊥
unqueued_at s caller now ticket free place.Out is = let has = ap (λ (came : Came). came.1) (entered s caller now free) in cc
unqueued_at s caller now ticket free place.Waiting is = cc
unqueued_at s caller now ticket free place.Woken is = cc
unqueued_at s caller now ticket free place.Handed is = cc

guarded : (s : State) (ticket : ℕ) (may : Bool) (came : Came) → (came.1 ≡ Arrived (Queued ticket) → ⊥) → (if may then came else still s).1 ≡ Arrived (Queued ticket) → ⊥
guarded s ticket true came never is = never is
guarded s ticket false came never is = cc

pub unqueued : (s : State) (caller now ticket : ℕ) → is_open s ≡ true → (next s caller (Arrive now)).1 ≡ Arrived (Queued ticket) → ⊥
unqueued s caller now ticket free is = guarded s ticket (nat_lt caller s.callers) (at_place (Arrive now) (place_of s caller) caller s) (unqueued_at s caller now ticket free (place_of s caller)) is

pub acquires_at_once : (s : State) (caller now : ℕ) → is_open s ≡ true → nat_lt caller s.callers ≡ true → place_of s caller ≡ place.Out → (next s caller (Arrive now)).1 ≡ Arrived Acquired
acquires_at_once s caller now free may out =
    ap (λ (yes : Bool). (if yes then at_place (Arrive now) (place_of s caller) caller s else still s).1) may
    ∙ (ap (λ (p : Place). (at_place (Arrive now) p caller s).1) out ∙ ap (λ (came : Came). came.1) (entered s caller now free))

-- who acquires it on arrival found it open
by_free : (free : Bool) (x y z : Came) → (y.1 ≡ Arrived Acquired → ⊥) → (if free then x else y).1 ≡ Arrived Acquired → ◌≡◌ {A = Came} (if free then x else z) (if free then x else y)
by_free true x y z queued is = refl
by_free false x y z queued is = absurd (queued is)

acquired_at : (s : State) (caller now other : ℕ) (p : Place) → (at_place (Arrive now) p caller s).1 ≡ Arrived Acquired → ◌≡◌ {A = Came} (at_place (Arrive other) p caller s) (at_place (Arrive now) p caller s)
acquired_at s caller now other place.Out is = by_free (is_open s) _ _ _ (λ e. cc) is
acquired_at s caller now other place.Waiting is = refl
acquired_at s caller now other place.Woken is = refl
acquired_at s caller now other place.Handed is = refl

by_guard : (may : Bool) (x y z : Came) → (x.1 ≡ Arrived Acquired → ◌≡◌ {A = Came} y x) → (if may then x else z).1 ≡ Arrived Acquired → ◌≡◌ {A = Came} (if may then y else z) (if may then x else z)
by_guard true x y z same is = same is
by_guard false x y z same is = refl

pub acquired : (s : State) (caller now other : ℕ) → (next s caller (Arrive now)).1 ≡ Arrived Acquired → ◌≡◌ {A = State × MutexReply} (next s caller (Arrive other)) (next s caller (Arrive now))
acquired s caller now other is = by_guard (nat_lt caller s.callers) (at_place (Arrive now) (place_of s caller) caller s) (at_place (Arrive other) (place_of s caller) caller s) _ (acquired_at s caller now other (place_of s caller)) is
