-- What fits at the start fits for ever, and is answered.
use Rattle.std.proofs.Common.{◌≡◌, ℕ, zero, suc, Bool, true, false, ◌&&◌, cond, List, [], ◌∷◌, map, length, length-set, get_or, replicate, slice_get, Option, Some, None, is_some, refl, sym, ap, ◌∙◌}
use Rattle.std.proofs.Math.Seq.{map-set_same}
use Rattle.std.specs.Prelude.{nat_lt, ◌<◌, ◌≤◌}
use Rattle.std.specs.FinMap.{get}
use Rattle.std.specs.Option.{option_map_or}
use Rattle.std.proofs.Common.{arith}
use Rattle.std.proofs.lemmas.Bool.{lt-ltb}
use Rattle.sync_model.specs.Shared.{IsMapCall}
use Rattle.std.proofs.lemmas.List.{length-map, length-replicate}
use Rattle.std.proofs.lemmas.Option.{get_or_from_slice_get}
use Rattle.sync_model.specs.declared.journal.Deed.{Deed}
use Rattle.sync_model.specs.declared.journal.Deed.TheVariants.{Event as Did, Refused, Halt}
use Rattle.sync_types.specs.declared.atomic_object.AtomicCall.{AtomicCall}
use Rattle.sync_types.specs.declared.atomic_object.AtomicCall.TheVariants as calls
use Rattle.sync_types.specs.declared.atomic_object.AtomicKind.{AtomicKind}
use Rattle.sync_types.specs.declared.atomic_object.AtomicKind.TheVariants as kinds
use Rattle.sync_types.specs.declared.atomic_object.Number.{Number}
use Rattle.sync_types.specs.declared.atomic_object.Number.TheVariants.{Int32, Int64, Uint32, Uint64, Bool as Truth}
use Rattle.sync_model.specs.declared.item.SharedReply.TheVariants as replies
use Rattle.sync_types.specs.declared.map_object.MapCall.{MapCall}
use Rattle.sync_model.specs.Journal.{state_next, state_after}
use Rattle.sync_types.specs.SequentialMap.{map_key, map_reply, is_map_entry}
use Rattle.sync_types.specs.SequentialAtomic.{kind_of, sum, bits_of_both, bits_of_either, is_same, is_of, has_bits, atomic_reply, is_atomic_entry}
use Rattle.shared_plain.specs.declared.event.Event.{Event}
use Rattle.shared_plain.specs.declared.event.Event.TheVariants.{Map, Begin, Next, Atomic}
use Rattle.shared_plain.specs.declared.event.Answered.{Answered}
use Rattle.sync_model.specs.EndsOfHistory.{HasKeysBelow}
use Rattle.shared_plain.specs.Fits.{has_room, has_kind, fits_in, fits}
use Rattle.shared_plain.specs.PlainHistory.{Step}
use Rattle.shared_plain.specs.PlainMachine.{Holdings, contents_of, first_holdings, map_next, cursor_next, atomic_next, number_after, next}
use Rattle.sync_types.specs.KeyCalls.{key_after}
use Rattle.shared_plain.specs.Slots.{map_of, keyed_after, slots_at, slots_after, next_pair}
use Rattle.shared_plain.proofs.Cursors.{cursor_within}
use Rattle.shared_plain.proofs.Replies.{replied}
use Rattle.shared_plain.proofs.SlotMaps.{answer, get-map_of}

is_kind : (kind : AtomicKind) (number : Number) → is_of kind number ≡ true → kind_of number ≡ kind
is_kind kinds.Int32 (Int32 z) e = refl
is_kind kinds.Int64 (Int64 z) e = refl
is_kind kinds.Uint32 (Uint32 n) e = refl
is_kind kinds.Uint64 (Uint64 n) e = refl
is_kind kinds.Bool (Truth b) e = refl
is_kind kind number e = (cc)

sum_kind : (a b : Number) → kind_of (sum a b) ≡ kind_of a
sum_kind (Int32 a) (Int32 b) = refl
sum_kind (Int64 a) (Int64 b) = refl
sum_kind (Uint32 a) (Uint32 b) = refl
sum_kind (Uint64 a) (Uint64 b) = refl
sum_kind a b = refl

both_kind : (a b : Number) → kind_of (bits_of_both a b) ≡ kind_of a
both_kind (Int32 a) (Int32 b) = refl
both_kind (Int64 a) (Int64 b) = refl
both_kind (Uint32 a) (Uint32 b) = refl
both_kind (Uint64 a) (Uint64 b) = refl
both_kind a b = refl

either_kind : (a b : Number) → kind_of (bits_of_either a b) ≡ kind_of a
either_kind (Int32 a) (Int32 b) = refl
either_kind (Int64 a) (Int64 b) = refl
either_kind (Uint32 a) (Uint32 b) = refl
either_kind (Uint64 a) (Uint64 b) = refl
either_kind a b = refl

one_of : (b : Bool) (x y : Number) (kind : AtomicKind) → (b ≡ true → kind_of x ≡ kind) → kind_of y ≡ kind → kind_of (cond b x y) ≡ kind
one_of true x y kind first second = first refl
one_of false x y kind first second = second

and_second : (a b : Bool) → (a && b) ≡ true → b ≡ true
and_second true b e = e
and_second false b e = (cc)

-- an atomic's type stays
same_kind : (call : AtomicCall) (held : Number) → kind_of (number_after call held) ≡ kind_of held
same_kind calls.Load held = refl
same_kind (calls.Store v) held = one_of (is_of (kind_of held) v) v held (kind_of held) (is_kind (kind_of held) v) refl
same_kind (calls.Swap v) held = one_of (is_of (kind_of held) v) v held (kind_of held) (is_kind (kind_of held) v) refl
same_kind (calls.Add v) held = one_of (has_bits (kind_of held) && is_of (kind_of held) v) (sum held v) held (kind_of held) (λ _. sum_kind held v) refl
same_kind (calls.And v) held = one_of (has_bits (kind_of held) && is_of (kind_of held) v) (bits_of_both held v) held (kind_of held) (λ _. both_kind held v) refl
same_kind (calls.Or v) held = one_of (has_bits (kind_of held) && is_of (kind_of held) v) (bits_of_either held v) held (kind_of held) (λ _. either_kind held v) refl
same_kind (calls.CompareAndSwap old new) held = one_of (is_of (kind_of held) old && is_of (kind_of held) new) (cond (is_same held old) new held) held (kind_of held)
    (λ e. one_of (is_same held old) new held (kind_of held) (λ _. is_kind (kind_of held) new (and_second (is_of (kind_of held) old) (is_of (kind_of held) new) e)) refl) refl

-- a map's slots stay as many
keyed_length : (call : MapCall ℕ) (key : ℕ) (found : Option (Option ℕ)) (slots : List (Option ℕ)) → length (keyed_after call key found slots) ≡ length slots
keyed_length call key None slots = refl
keyed_length call key (Some held) slots = length-set slots key (key_after call held)

same_length : (call : MapCall ℕ) (key : Option ℕ) (slots : List (Option ℕ)) → length (slots_at call key slots) ≡ length slots
same_length call None slots = length-replicate (length slots) None
same_length call (Some key) slots = keyed_length call key (slice_get slots key) slots

-- the maps' limits and the atomics' types are the same
pub record IsLike (old new : Holdings) : Type 0 where
  pub keys : map (λ slots. length slots) new.maps ≡ map (λ slots. length slots) old.maps
  pub kinds_are : map kind_of new.numbers ≡ map kind_of old.numbers

map_like : (h : Holdings) (m : ℕ) (call : MapCall ℕ) (found : Option (List (Option ℕ))) → slice_get h.maps m ≡ found → IsLike h (map_next h m call found).0
map_like h m call None at_m = record { keys = refl; kinds_are = refl }
map_like h m call (Some slots) at_m = record {
  keys = map-set_same (λ (l : List (Option ℕ)). length l) h.maps m (slots_after call slots) [] (same_length call (map_key call) slots ∙ sym (ap (λ (l : List (Option ℕ)). length l) (get_or_from_slice_get h.maps m slots [] at_m)));
  kinds_are = refl;
}

atomic_like : (h : Holdings) (a : ℕ) (call : AtomicCall) (found : Option Number) → slice_get h.numbers a ≡ found → IsLike h (atomic_next h a call found).0
atomic_like h a call None at_a = record { keys = refl; kinds_are = refl }
atomic_like h a call (Some held) at_a = record {
  keys = refl;
  kinds_are = map-set_same kind_of h.numbers a (number_after call held) held (same_kind call held ∙ sym (ap kind_of (get_or_from_slice_get h.numbers a held held at_a)));
}

like_next : (h : Holdings) (caller : ℕ) (event : Event) → IsLike h (next h caller event).0
like_next h caller (Map m call) = map_like h m call (slice_get h.maps m) refl
like_next h caller (Begin m) = record { keys = refl; kinds_are = refl }
like_next h caller (Next m begin from) = record { keys = refl; kinds_are = refl }
like_next h caller (Atomic a call) = atomic_like h a call (slice_get h.numbers a) refl

like_step : (h : Holdings) (caller : ℕ) (deed : Deed Event (Option Answered)) → IsLike h (state_next next h caller deed)
like_step h caller (Did event reply) = like_next h caller event
like_step h caller (Refused event misuse) = record { keys = refl; kinds_are = refl }
like_step h caller (Halt misuse) = record { keys = refl; kinds_are = refl }

-- after any journal
pub like_after : (h : Holdings) (journal : List Step) → IsLike h (state_after next h journal)
like_after h [] = record { keys = refl; kinds_are = refl }
like_after h (x ∷ xs) = let one = like_step h x.caller x.deed in let rest = like_after (state_next next h x.caller x.deed) xs in record { keys = rest.keys ∙ one.keys; kinds_are = rest.kinds_are ∙ one.kinds_are }

abbrev mapped : {A B : Type 0} (f : A → B) → Option A → Option B
mapped f None = None
mapped f (Some x) = Some (f x)

get_map : {A B : Type 0} (f : A → B) (xs : List A) (i : ℕ) (found : Option A) → slice_get xs i ≡ found → slice_get (map f xs) i ≡ mapped f found
get_map f [] i None e = refl
get_map f [] i (Some y) e = (cc)
get_map f (x ∷ xs) zero None e = (cc)
get_map f (x ∷ xs) zero (Some y) e = let same : x ≡ y = (cc) in ap (λ z. Some (f z)) same
get_map f (x ∷ xs) (suc i) found e = get_map f xs i found e

chosen : {A : Type 0} (b : Bool) (x : A) → b ≡ true → cond b (Some x) None ≡ Some x
chosen true x e = refl
chosen false x e = (cc)

map_fits : (h : Holdings) (m : ℕ) (call : MapCall ℕ) (found : Option (List (Option ℕ))) → has_room call (mapped (λ slots. length slots) found) ≡ true → (answered : Answered) × ((map_next h m call found).1 ≡ Some answered)
map_fits h m call None fit = (cc)
map_fits h m call (Some slots) fit = (answer (replies.Map (map_reply call (map_of slots))) (is_map_entry call (map_of slots)), chosen _ (answer (replies.Map (map_reply call (map_of slots))) (is_map_entry call (map_of slots))) fit)

atomic_fits : (h : Holdings) (a : ℕ) (call : AtomicCall) (found : Option Number) → has_kind call (mapped kind_of found) ≡ true → (answered : Answered) × ((atomic_next h a call found).1 ≡ Some answered)
atomic_fits h a call None fit = (cc)
atomic_fits h a call (Some held) fit = (answer (replies.Atomic (atomic_reply call held)) (is_atomic_entry call held), chosen _ (answer (replies.Atomic (atomic_reply call held)) (is_atomic_entry call held)) fit)

cursor_fits : (from : ℕ) (found : Option (List (Option ℕ))) → is_some (mapped (λ (slots : List (Option ℕ)). length slots) found) ≡ true → (answered : Answered) × (cursor_next from found ≡ Some answered)
cursor_fits from None fit = (cc)
cursor_fits from (Some slots) fit = (answer (replies.Shown (next_pair from slots)) false, refl)

pub fitting : (h : Holdings) (caller : ℕ) (event : Event) → fits h event ≡ true → (answered : Answered) × ((next h caller event).1 ≡ Some answered)
fitting h caller (Map m call) fit = map_fits h m call (slice_get h.maps m) (sym (ap (has_room call) (get_map (λ slots. length slots) h.maps m (slice_get h.maps m) refl)) ∙ fit)
fitting h caller (Begin m) fit = (answer replies.Begun false, chosen _ (answer replies.Begun false) (sym (ap (nat_lt m) (length-map h.maps (λ (slots : List (Option ℕ)). length slots))) ∙ fit))
fitting h caller (Next m begin from) fit = cursor_fits from (slice_get h.maps m) (sym (ap is_some (get_map (λ slots. length slots) h.maps m (slice_get h.maps m) refl)) ∙ fit)
fitting h caller (Atomic a call) fit = atomic_fits h a call (slice_get h.numbers a) (sym (ap (has_kind call) (get_map kind_of h.numbers a (slice_get h.numbers a) refl)) ∙ fit)

-- what fits at the start is answered behind any journal
pub fits_for_ever : (h : Holdings) (journal : List Step) (caller : ℕ) (event : Event) → fits h event ≡ true → (answered : Answered) × ((next (state_after next h journal) caller event).1 ≡ Some answered)
fits_for_ever h journal caller event fit =
    let like = like_after h journal in fitting (state_after next h journal) caller event ((λ i. fits_in (like.keys i) (like.kinds_are i) event) ∙ fit)

keys_at_start : (maps keys m : ℕ) → m < maps → slice_get (map (λ (slots : List (Option ℕ)). length slots) (replicate maps (replicate keys None))) m ≡ Some keys
keys_at_start zero keys m below = absurd (omega arith)
keys_at_start (suc maps) keys zero below = ap (λ (k : ℕ). Some k) (length-replicate keys None)
keys_at_start (suc maps) keys (suc m) below = keys_at_start maps keys m (omega arith)

room : (call : MapCall ℕ) (keys : ℕ) (key : Option ℕ) → ((k : ℕ) → key ≡ Some k → k < keys) → option_map_or (λ k. nat_lt k keys) key true ≡ true
room call keys None inside = refl
room call keys (Some k) inside = lt-ltb k keys (inside k refl)

-- a call on a map that is there, on a key that it takes, fits at the start
pub map_call_fits : (start : Holdings) (maps keys : ℕ) (are : List AtomicKind) (m : ℕ) (call : MapCall ℕ) → start ≡ first_holdings maps keys are → m < maps → IsMapCall (λ key. key < keys) call → fits start (Map m call) ≡ true
map_call_fits start maps keys are m call begun below takes =
    ap (λ (h : Holdings). fits h (Map m call)) begun ∙ (ap (has_room call) (keys_at_start maps keys m below) ∙ room call keys (map_key call) takes.key)

keys_of_all : (maps keys m : ℕ) (slots : ℕ) → slice_get (map (λ (slots : List (Option ℕ)). length slots) (replicate maps (replicate keys None))) m ≡ Some slots → slots ≡ keys
keys_of_all zero keys m slots at = (cc)
keys_of_all (suc maps) keys zero slots at = let same : (λ (l : List (Option ℕ)). length l) (replicate keys None) ≡ slots = (cc) in sym same ∙ length-replicate keys None
keys_of_all (suc maps) keys (suc m) slots at = keys_of_all maps keys m slots at

-- a cursor over maps of the keys below some number shows no other key
event_within : (h : Holdings) (caller : ℕ) (event : Event) (answered : Answered) (key value keys : ℕ) → ((m k : ℕ) → slice_get (map (λ slots. length slots) h.maps) m ≡ Some k → k ≡ keys)
    → (next h caller event).1 ≡ Some answered → answered.reply ≡ replies.Shown (Some (key, value)) → key < keys
event_within h caller (Map m call) answered key value keys all is reply = let r = replied h caller (Map m call) answered is in (cc)
event_within h caller (Begin m) answered key value keys all is reply = let r = replied h caller (Begin m) answered is in (cc)
event_within h caller (Next m b from) answered key value keys all is reply =
    cursor_within from (slice_get h.maps m) answered key value keys (λ slots at_m. all m (length slots) (get_map (λ slots. length slots) h.maps m (Some slots) at_m)) is reply
event_within h caller (Atomic a call) answered key value keys all is reply = let r = replied h caller (Atomic a call) answered is in (cc)

pub shown_fits : (start : Holdings) (journal : List Step) (caller : ℕ) (event : Event) (answered : Answered) (key value maps keys : ℕ) (are : List AtomicKind) → start ≡ first_holdings maps keys are
    → (next (state_after next start journal) caller event).1 ≡ Some answered → answered.reply ≡ replies.Shown (Some (key, value)) → key < keys
shown_fits start journal caller event answered key value maps keys are begun is reply =
    let like = like_after start journal in
    event_within (state_after next start journal) caller event answered key value keys
    (λ m k at. keys_of_all maps keys m k (ap (λ (h : Holdings). slice_get (map (λ slots. length slots) h.maps) m) (sym begun) ∙ (ap (λ (l : List ℕ). slice_get l m) (sym like.keys) ∙ at))) is reply

none_there : {A : Type 0} (xs : List A) (i : ℕ) → i < length xs → slice_get xs i ≡ None → ⊥
none_there [] i below e = absurd (omega arith)
none_there (x ∷ xs) zero below e = (cc)
none_there (x ∷ xs) (suc i) below e = none_there xs i (omega arith) e

-- a step of a cursor over a map that is there fits at the start
pub next_fits : (start : Holdings) (m b from : ℕ) → m < length start.maps → fits start (Next m b from) ≡ true
next_fits start m b from below = by_found (slice_get start.maps m) refl
  where
    by_found : (found : Option (List (Option ℕ))) → slice_get start.maps m ≡ found → is_some (slice_get (map (λ slots. length slots) start.maps) m) ≡ true
    by_found None at_m = absurd (none_there start.maps m below at_m)
    by_found (Some slots) at_m = ap is_some (get_map (λ slots. length slots) start.maps m (Some slots) at_m)

-- there are as many maps after any journal
pub maps_stay : (start : Holdings) (journal : List Step) → length (state_after next start journal).maps ≡ length start.maps
maps_stay start journal =
    let all = state_after next start journal in
    sym (length-map all.maps (λ (slots : List (Option ℕ)). length slots)) ∙ (ap (λ (l : List ℕ). length l) (like_after start journal).keys ∙ length-map start.maps (λ (slots : List (Option ℕ)). length slots))

read_mapped : {A B : Type 0} (f : A → B) (xs : List A) (i : ℕ) (d : A) → get_or (map f xs) i (f d) ≡ f (get_or xs i d)
read_mapped f [] i d = refl
read_mapped f (x ∷ xs) zero d = refl
read_mapped f (x ∷ xs) (suc i) d = read_mapped f xs i d

slot_within : (slots : List (Option ℕ)) (key value : ℕ) → get_or slots key None ≡ Some value → key < length slots
slot_within [] key value is = (cc)
slot_within (slot ∷ slots) zero value is = omega arith
slot_within (slot ∷ slots) (suc key) value is = let rest = slot_within slots key value is in omega arith

-- the slots of a map at the start
abbrev first_slots : ℕ → ℕ → ℕ → List (Option ℕ)
first_slots maps keys m = get_or (replicate maps (replicate keys None)) m []

slots_at_start : (maps keys m : ℕ) → length (first_slots maps keys m) ≤ keys
slots_at_start zero keys m = omega arith
slots_at_start (suc maps) keys zero = let slots : List (Option ℕ) = replicate keys None in let all : length slots ≡ keys = length-replicate keys None in omega arith
slots_at_start (suc maps) keys (suc m) = slots_at_start maps keys m

-- no map has a key that isn't below the limit
pub keys_stay_below : (start : Holdings) (journal : List Step) (maps keys : ℕ) (are : List AtomicKind) → start ≡ first_holdings maps keys are → HasKeysBelow keys (contents_of (state_after next start journal))
keys_stay_below start journal maps keys are begun m key value is =
    let h = state_after next start journal in
    let slots : List (Option ℕ) = get_or h.maps m [] in
    let there : get_or slots key None ≡ Some value = sym (get-map_of slots key) ∙ (sym (ap (λ held. get held key) (read_mapped map_of h.maps m [])) ∙ is) in
    let many : length slots ≡ length (first_slots maps keys m) =
    sym (read_mapped (λ (l : List (Option ℕ)). length l) h.maps m []) ∙ (ap (λ (l : List ℕ). get_or l m 0) (like_after start journal).keys
    ∙ (read_mapped (λ (l : List (Option ℕ)). length l) start.maps m [] ∙ ap (λ (s : Holdings). length (get_or s.maps m [])) begun)) in
    let inside = slot_within slots key value there in
    let most = slots_at_start maps keys m in
    omega arith
