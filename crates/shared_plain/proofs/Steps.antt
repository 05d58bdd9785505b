-- Each event is answered as the one-thread objects answer its call.
use Rattle.std.proofs.Common.{◌≡◌, ℕ, zero, suc, Bool, true, false, cond, List, [], ◌∷◌, map, length, set, slice_get, Option, Some, None, refl, sym, ap, ◌∙◌}
use Rattle.std.proofs.lemmas.Bool.{lt-ltb}
use Rattle.std.proofs.lemmas.List.{map-set, set-get_or}
use Rattle.std.specs.Prelude.{nat_lt}
use Rattle.std.proofs.lemmas.Option.{get_or_from_slice_get, slice_get_within}
use Rattle.std.specs.FinMap.{empty}
use Rattle.sync_types.specs.declared.atomic_object.AtomicCall.{AtomicCall}
use Rattle.sync_types.specs.declared.atomic_object.Number.{Number}
use Rattle.sync_types.specs.declared.atomic_object.Number.TheVariants.{Bool as Truth}
use Rattle.sync_types.specs.declared.map_object.MapCall.{MapCall}
use Rattle.sync_types.specs.declared.map_object.MapCall.TheVariants.{Load, Store, LoadOrStore, LoadAndDelete, Delete, Swap, CompareAndSwap, CompareAndDelete, Clear}
use Rattle.sync_types.specs.SequentialMap.{map_after}
use Rattle.sync_types.specs.SequentialAtomic.{kind_of, is_atomic_call, atomic_after}
use Rattle.sync_model.specs.SharedHistory.{map_at, number_at, shared_after}
use Rattle.shared_plain.specs.declared.event.Event.{Event}
use Rattle.shared_plain.specs.declared.event.Event.TheVariants.{Map, Begin, Next, Atomic}
use Rattle.shared_plain.specs.declared.event.Answered.{Answered}
use Rattle.shared_plain.specs.Slots.{map_of, keyed_after, slots_after, has_slot}
use Rattle.shared_plain.specs.PlainMachine.{Holdings, contents_of, call_of, map_next, number_after, atomic_next, next}
use Rattle.shared_plain.proofs.SlotMaps.{after_call}

-- of two answers one is given
given : {A : Type 0} (b : Bool) (x : A) (y : A) → cond b (Some x) None ≡ Some y → b ≡ true
given true x y e = refl
given false x y e = (cc)

ungiven : {A : Type 0} (b : Bool) (x : A) → cond b (Some x) None ≡ None → b ≡ false
ungiven true x e = (cc)
ungiven false x e = refl

pub some_is : {A : Type 0} (x y : A) → Some x ≡ Some y → x ≡ y
some_is x y e = (cc)

-- what a list has there, written back, changes nothing
set_back : {A : Type 0} (xs : List A) (i : ℕ) (x : A) → slice_get xs i ≡ Some x → set xs i x ≡ xs
set_back xs i x at_i = ap (set xs i) (sym (get_or_from_slice_get xs i x x at_i)) ∙ set-get_or xs i x

-- a key without a slot
none_there : (call : MapCall ℕ) (key : ℕ) (slots : List (Option ℕ)) → nat_lt key (length slots) ≡ false → keyed_after call key (slice_get slots key) slots ≡ slots
none_there call key slots past = by_found (slice_get slots key) refl
  where
    by_found : (found : Option (Option ℕ)) → slice_get slots key ≡ found → keyed_after call key found slots ≡ slots
    by_found None at_key = refl
    by_found (Some held) at_key = let inside = lt-ltb key (length slots) (slice_get_within slots key held at_key) in let f : true ≡ false = sym inside ∙ past in (cc)

slots_stay : (call : MapCall ℕ) (slots : List (Option ℕ)) → has_slot call slots ≡ false → slots_after call slots ≡ slots
slots_stay (Load key) slots past = none_there (Load key) key slots past
slots_stay (Store key value) slots past = none_there (Store key value) key slots past
slots_stay (LoadOrStore key value) slots past = none_there (LoadOrStore key value) key slots past
slots_stay (LoadAndDelete key) slots past = none_there (LoadAndDelete key) key slots past
slots_stay (Delete key) slots past = none_there (Delete key) key slots past
slots_stay (Swap key value) slots past = none_there (Swap key value) key slots past
slots_stay (CompareAndSwap key old value) slots past = none_there (CompareAndSwap key old value) key slots past
slots_stay (CompareAndDelete key old) slots past = none_there (CompareAndDelete key old) key slots past
slots_stay Clear slots past = (cc)

mapped : {A B : Type 0} (f : A → B) (xs : List A) (i : ℕ) (x : A) → slice_get xs i ≡ Some x → slice_get (map f xs) i ≡ Some (f x)
mapped f [] i x e = (cc)
mapped f (y ∷ ys) zero x e = ap (λ (z : _). Some (f z)) (some_is y x e)
mapped f (y ∷ ys) (suc i) x e = mapped f ys i x e

pub map_there : (h : Holdings) (m : ℕ) (slots : List (Option ℕ)) → slice_get h.maps m ≡ Some slots → map_at (contents_of h) m ≡ map_of slots
map_there h m slots at_m = get_or_from_slice_get (map map_of h.maps) m (map_of slots) empty (mapped map_of h.maps m slots at_m)

-- a call on a map that is answered
map_made : (h : Holdings) (m : ℕ) (call : MapCall ℕ) (found : Option (List (Option ℕ))) (answered : Answered) → slice_get h.maps m ≡ found → (map_next h m call found).1 ≡ Some answered
    → contents_of (map_next h m call found).0 ≡ record (contents_of h) { maps = set (map map_of h.maps) m (map_after call (map_at (contents_of h) m)) }
map_made h m call None answered at_m is = (cc)
map_made h m call (Some slots) answered at_m is =
    let has : has_slot call slots ≡ true = given (has_slot call slots) _ answered is in
    let there : map_of (slots_after call slots) ≡ map_after call (map_at (contents_of h) m) = after_call call slots has ∙ ap (map_after call) (sym (map_there h m slots at_m)) in
    let maps : map map_of (set h.maps m (slots_after call slots)) ≡ set (map map_of h.maps) m (map_after call (map_at (contents_of h) m)) =
    map-set map_of h.maps m (slots_after call slots) ∙ ap (set (map map_of h.maps) m) there in
    λ i. record { maps = maps i; numbers = h.numbers }

-- a call on an atomic that is answered
atomic_made : (h : Holdings) (a : ℕ) (call : AtomicCall) (found : Option Number) (answered : Answered) → slice_get h.numbers a ≡ found → (atomic_next h a call found).1 ≡ Some answered
    → contents_of (atomic_next h a call found).0 ≡ record (contents_of h) { numbers = set h.numbers a (atomic_after call (number_at (contents_of h) a)) }
atomic_made h a call None answered at_a is = (cc)
atomic_made h a call (Some held) answered at_a is =
    let has : is_atomic_call (kind_of held) call ≡ true = given (is_atomic_call (kind_of held) call) _ answered is in
    let there : number_at (contents_of h) a ≡ held = get_or_from_slice_get h.numbers a held (Truth false) at_a in
    let now : number_after call held ≡ atomic_after call (number_at (contents_of h) a) = ap (λ (b : Bool). cond b (atomic_after call held) held) has ∙ ap (atomic_after call) (sym there) in
    λ i. record { maps = map map_of h.maps; numbers = set h.numbers a (now i) }

-- an event that is answered leaves what its call does
pub made : (h : Holdings) (caller : ℕ) (event : Event) (answered : Answered) → (next h caller event).1 ≡ Some answered → contents_of (next h caller event).0 ≡ shared_after (call_of event) (contents_of h)
made h caller (Map m call) answered is = map_made h m call (slice_get h.maps m) answered refl is
made h caller (Begin m) answered is = refl
made h caller (Next m begin from) answered is = refl
made h caller (Atomic a call) answered is = atomic_made h a call (slice_get h.numbers a) answered refl is

-- a call that isn't answered leaves an atomic as it was, since its type hasn't the call
atomic_unfit : (h : Holdings) (a : ℕ) (call : AtomicCall) (found : Option Number) → slice_get h.numbers a ≡ found → (atomic_next h a call found).1 ≡ None → (atomic_next h a call found).0 ≡ h
atomic_unfit h a call None at_a is = refl
atomic_unfit h a call (Some held) at_a is = λ i. record { maps = h.maps; numbers = (ap (λ (b : Bool). set h.numbers a (cond b (atomic_after call held) held)) (ungiven (is_atomic_call (kind_of held) call) _ is) ∙ set_back h.numbers a held at_a) i }

map_unfit : (h : Holdings) (m : ℕ) (call : MapCall ℕ) (found : Option (List (Option ℕ))) → slice_get h.maps m ≡ found → (map_next h m call found).1 ≡ None → (map_next h m call found).0 ≡ h
map_unfit h m call None at_m is = refl
map_unfit h m call (Some slots) at_m is = λ i. record { maps = (ap (set h.maps m) (slots_stay call slots (ungiven (has_slot call slots) _ is)) ∙ set_back h.maps m slots at_m) i; numbers = h.numbers }

-- an event that isn't answered changes nothing
pub unmade : (h : Holdings) (caller : ℕ) (event : Event) → (next h caller event).1 ≡ None → (next h caller event).0 ≡ h
unmade h caller (Map m call) is = map_unfit h m call (slice_get h.maps m) refl is
unmade h caller (Begin m) is = refl
unmade h caller (Next m begin from) is = refl
unmade h caller (Atomic a call) is = atomic_unfit h a call (slice_get h.numbers a) refl is
