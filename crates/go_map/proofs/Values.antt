-- What maps have is below 2^63, since it came by calls whose values are.
use Rattle.std.proofs.Common.{◌≡◌, ℕ, zero, suc, ◌<◌, ◌^◌, Bool, true, false, cond, List, [], ◌∷◌, ◌++◌, Option, Some, None, get_or, take, replicate, is_some, length, set, length-set, slice_get, IfSome, refl, sym, ap, ◌∙◌, subst, arith, inl, inr}
use Rattle.std.specs.Cmp.{nat_cmp_total}
use Rattle.std.specs.FinMap.{FinMap, empty, get, insert, remove, get-empty, get-insert, get-remove}
use Rattle.std.specs.Ordering.{nat_cmp, eq_by_cmp}
use Rattle.std.proofs.lemmas.Bool.{cases_eq, cases_lt}
use Rattle.std.proofs.lemmas.List.{get_or_past, get_or-set_same, get_or-set_other}
use Rattle.std.proofs.lemmas.Option.{none-some, same_Some}
use Rattle.sync_model.specs.declared.item.Item.{Item}
use Rattle.sync_model.specs.declared.item.SharedCall.{SharedCall}
use Rattle.sync_model.specs.declared.item.SharedCall.TheVariants as calls
use Rattle.sync_model.specs.declared.item.SharedEntry.{SharedEntry}
use Rattle.sync_model.specs.declared.item.SharedReply.{SharedReply}
use Rattle.sync_model.specs.declared.item.SharedReply.TheVariants as replies
use Rattle.sync_types.specs.declared.atomic_object.AtomicKind.{AtomicKind}
use Rattle.sync_types.specs.declared.map_object.MapCall.{MapCall}
use Rattle.sync_types.specs.declared.map_object.MapCall.TheVariants.{Load, Store, LoadOrStore, LoadAndDelete, Delete, Swap, CompareAndSwap, CompareAndDelete, Clear}
use Rattle.sync_types.specs.declared.map_object.MapReply.{MapReply}
use Rattle.sync_types.specs.SequentialMap.{has_value, settled, map_reply, map_after}
use Rattle.sync_model.specs.Shared.{Called, state_of}
use Rattle.sync_model.specs.SharedHistory.{Contents, first_contents, map_at, contents_after, contents_at, shared_after}
use Rattle.table_rule.specs.Values.{AreSmall, HasSmallValues, IsInRange, AreInRange}
use Rattle.shared_table.specs.declared.note.SharedNote.{SharedNote}
use Rattle.shared_table.specs.declared.table.SharedTable.{SharedTable}
use Rattle.shared_table.specs.Notes.{front_by, own_by, seen_by}
use Rattle.shared_table.specs.Tables.{first_of, kinds_of, maps_of}
use Rattle.go_map.specs.Maps.{MakesCall}
use Rattle.go_map.specs.Ranges.{KeepsRangeLaw}
use Rattle.go_map.specs.Values.{IsSmallReply}

-- values that are below 2^63, each by its place
pub small_each : (values : List ℕ) → ((i value : ℕ) → slice_get values i ≡ Some value → value < 2 ^ 63) → AreSmall values
small_each [] each = tt
small_each (value ∷ values) each = (each 0 value refl, small_each values (λ i x at. each (suc i) x at))

-- a map all of whose values are below 2^63
abbrev Small : FinMap nat_cmp ℕ → Type 0
Small m = (key value : ℕ) → get m key ≡ Some value → value < 2 ^ 63

inserted : (m : FinMap nat_cmp ℕ) (key value : ℕ) → value < 2 ^ 63 → Small m → Small (insert m key value)
inserted m key value fits small q v at = by_test (eq_by_cmp nat_cmp q key) (sym (get-insert nat_cmp_total m key value q) ∙ at)
  where
    by_test : (b : Bool) → cond b (Some value) (get m q) ≡ Some v → v < 2 ^ 63
    by_test true is = subst (λ n. n < 2 ^ 63) (same_Some value v is) fits
    by_test false is = small q v is

removed : (m : FinMap nat_cmp ℕ) (key : ℕ) → Small m → Small (remove m key)
removed m key small q v at = by_test (eq_by_cmp nat_cmp q key) (sym (get-remove nat_cmp_total m key q) ∙ at)
  where
    by_test : (b : Bool) → cond b None (get m q) ≡ Some v → v < 2 ^ 63
    by_test true is = absurd (none-some v is)
    by_test false is = small q v is

either : (b : Bool) (m n : FinMap nat_cmp ℕ) → Small m → Small n → Small (cond b m n)
either true m n first second = first
either false m n first second = second

emptied : Small empty
emptied key value at = absurd (none-some value (sym (get-empty nat_cmp key) ∙ at))

-- so is it after a call with such values
stays_small : (call : MapCall ℕ) (m : FinMap nat_cmp ℕ) → HasSmallValues call → Small m → Small (map_after call m)
stays_small (Load key) m fits small = small
stays_small (Store key value) m fits small = inserted m key value fits.0 small
stays_small (LoadOrStore key value) m fits small = either (is_some (get m key)) m (insert m key value) small (inserted m key value fits.0 small)
stays_small (LoadAndDelete key) m fits small = removed m key small
stays_small (Delete key) m fits small = removed m key small
stays_small (Swap key value) m fits small = inserted m key value fits.0 small
stays_small (CompareAndSwap key old new) m fits small = either (has_value old (get m key)) (insert m key new) m (inserted m key new fits.1.0 small) small
stays_small (CompareAndDelete key old) m fits small = either (has_value old (get m key)) (remove m key) m (removed m key small) small
stays_small Clear m fits small = emptied

-- one map of many is replaced
one_replaced : (maps : List (FinMap nat_cmp ℕ)) (m n : ℕ) (new : FinMap nat_cmp ℕ) → Small new → Small (get_or maps n empty) → Small (get_or (set maps m new) n empty)
one_replaced maps m n new fits small = elim (cases_eq n m) [
  | inl same ↦ elim (cases_lt m (length maps)) [
    | inl below ↦ subst Small (sym (ap (λ i. get_or (set maps m new) i empty) same ∙ get_or-set_same maps m new empty below)) fits
    | inr past ↦ subst Small (sym (get_or_past (set maps m new) n empty (let long = length-set maps m new in omega arith))) emptied
  ]
  | inr ne ↦ subst Small (sym (get_or-set_other maps m n new empty ne)) small
]

-- the same of all maps
abbrev AllSmall : Contents → Type 0
AllSmall contents = (m : ℕ) → Small (map_at contents m)

after_one : (call : SharedCall) (contents : Contents) → IsInRange call → AllSmall contents → AllSmall (shared_after call contents)
after_one (calls.Map m call) contents fits small = λ n. one_replaced contents.maps m n (map_after call (map_at contents m)) (stays_small call (map_at contents m) fits (small m)) (small n)
after_one (calls.Begin m) contents fits small = small
after_one (calls.Next begin) contents fits small = small
after_one (calls.Atomic a call) contents fits small = small

after_all : (contents : Contents) (entries : List SharedEntry) → AreInRange entries → AllSmall contents → AllSmall (contents_after contents entries)
after_all contents [] fit small = small
after_all contents (entry ∷ later) fit small = after_all (shared_after entry.call contents) later fit.1 (after_one entry.call contents fit.0 small)

first_so : (n : ℕ) (entries : List SharedEntry) → AreInRange entries → AreInRange (take n entries)
first_so zero entries fit = tt
first_so (suc n) [] fit = tt
first_so (suc n) (entry ∷ later) fit = (fit.0, first_so n later fit.1)

at_start : (n m : ℕ) → Small (get_or (replicate n empty) m empty)
at_start zero m = emptied
at_start (suc n) zero = emptied
at_start (suc n) (suc m) = at_start n m

-- at each moment of a history in range
small_then : (maps : ℕ) (kinds : List AtomicKind) (history : List SharedEntry) (n : ℕ) → AreInRange history → AllSmall (contents_at (first_contents maps kinds) history n)
small_then maps kinds history n fit = after_all (first_contents maps kinds) (take n history) (first_so n history fit) (at_start maps)

-- what a call answers that has such a map
if_small : (held : Option ℕ) → ((value : ℕ) → held ≡ Some value → value < 2 ^ 63) → IfSome held (λ value. value < 2 ^ 63)
if_small None small = tt
if_small (Some value) small = small value refl

settled_small : (held : Option ℕ) (value : ℕ) → value < 2 ^ 63 → ((there : ℕ) → held ≡ Some there → there < 2 ^ 63) → IsSmallReply (settled held value)
settled_small None value fits small = fits
settled_small (Some there) value fits small = small there refl

answers_small : (call : MapCall ℕ) (m : FinMap nat_cmp ℕ) → HasSmallValues call → Small m → IsSmallReply (map_reply call m)
answers_small (Load key) m fits small = if_small (get m key) (small key)
answers_small (Store key value) m fits small = tt
answers_small (LoadOrStore key value) m fits small = settled_small (get m key) value fits.0 (small key)
answers_small (LoadAndDelete key) m fits small = if_small (get m key) (small key)
answers_small (Delete key) m fits small = tt
answers_small (Swap key value) m fits small = if_small (get m key) (small key)
answers_small (CompareAndSwap key old new) m fits small = tt
answers_small (CompareAndDelete key old) m fits small = tt
answers_small Clear m fits small = tt

abbrev IsSmallShared : SharedReply → Type 0
IsSmallShared (replies.Map reply) = IsSmallReply reply
IsSmallShared (replies.Begun) = Unit {0}
IsSmallShared (replies.Shown shown) = Unit {0}
IsSmallShared (replies.Atomic reply) = Unit {0}

pub small_reply : (table : SharedTable) (m : ℕ) (call : MapCall ℕ) (reply : MapReply) (old new : SharedNote) → HasSmallValues call → MakesCall table m call reply old new → IsSmallReply reply
small_reply table m call reply old new fits makes =
    let called = makes.1 in
    subst IsSmallShared (sym called.answer) (answers_small call _ fits (small_then (maps_of table) (kinds_of table) (seen_by new) called.item.place makes.2.values m))

-- the last of a list
last_at : (items : List Item) (x : Item) → slice_get (items ++ x ∷ []) (length items) ≡ Some x
last_at [] x = refl
last_at (y ∷ items) x = last_at items x

-- what a step of a walk shows
pub small_shown : (table : SharedTable) (m b : ℕ) (shown : Option (ℕ × ℕ)) (old new : SharedNote) → KeepsRangeLaw table m b new → Called (first_of table) (calls.Next b) (replies.Shown shown) 0 (state_of own_by front_by seen_by old) (state_of own_by front_by seen_by new) → IfSome shown (λ pair. pair.1 < 2 ^ 63)
small_shown table m b None old new law called = tt
small_shown table m b (Some pair) old new law called =
    let number : called.becomes.number ≡ law.holding.number = ap (λ h. h.number) (same_Some called.becomes law.holding (sym called.own_new ∙ law.own)) in
    let mine = law.lawful.mine called.becomes called.own_new ∙ called.items in
    let at = ap (λ c. slice_get (law.lawful.calls c) (length called.was.items)) (sym number) ∙ ap (λ items. slice_get items (length called.was.items)) mine ∙ last_at called.was.items called.item in
    let so = law.range (length called.was.items) called.item (Some pair) (record { at = at; call = called.is_call; reply = called.is_reply }) in
    small_then (maps_of table) (kinds_of table) (seen_by new) so.1.moment law.lawful.values m pair.0 pair.1 so.1.is
