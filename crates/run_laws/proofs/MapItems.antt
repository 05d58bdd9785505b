-- What the items of a script's calls make of one key of a map.
use Rattle.std.proofs.Common.{◌≡◌, inl, inr, ℕ, suc, ◌+◌, ◌==◌, Bool, true, false, cond, List, [], ◌∷◌, ◌++◌, length, Option, Some, None, slice_get, refl, sym, ap, ◌∙◌}
use Rattle.std.specs.Prelude.{◌&&◌, ◌||◌, not, Ok}
use Rattle.std.specs.Cmp.Lexicographic.{slice_cmp, nat_list_cmp_total}
use Rattle.std.specs.FinMap.{get}
use Rattle.std.specs.List.{list_any, list_all}
use Rattle.std.specs.Option.{option_map_or}
use Rattle.std.specs.Ordering.{nat_cmp, eq_by_cmp}
use Rattle.std.specs.Str.{bytes_eq}
use Rattle.std.proofs.lemmas.Bool.{false≢true, cases_Bool, eqb-true, eqb-false, eq-eqb, ne_eqb, not-true, and_parts, and_from}
use Rattle.std.proofs.lemmas.List.Folds.{list_all-append}
use Rattle.std.proofs.lemmas.Map.Text.{is_eq-slice_cmp}
use Rattle.sync_model.specs.declared.answer.Answer.TheVariants.{Done}
use Rattle.script_calls.specs.declared.call.Call.{Call}
use Rattle.script_calls.specs.declared.call.Operation.{Operation}
use Rattle.script_calls.specs.declared.call.Operation.TheVariants as operations
use Rattle.script_calls.specs.declared.call.Reply.{Reply}
use Rattle.sync_model.specs.declared.item.Item.{Item}
use Rattle.sync_model.specs.declared.item.SharedCall.{SharedCall}
use Rattle.sync_model.specs.declared.item.SharedCall.TheVariants as calls
use Rattle.sync_types.specs.declared.map_object.MapCall.{MapCall}
use Rattle.sync_types.specs.Renaming.{renamed_call}
use Rattle.sync_types.specs.SequentialMap.{map_key}
use Rattle.sync_model.specs.SharedLaws.{is_on_key}
use Rattle.protocols.specs.Spelling.{CallAnswer}
use Rattle.workload.specs.declared.object.ObjectKind.TheVariants as kinds
use Rattle.workload.specs.declared.object.ObjectLine.{ObjectLine}
use Rattle.workload.specs.Draft.{all_keys}
use Rattle.workload.specs.Keys.{keys_in, key_number, key_name}
use Rattle.workload.specs.Plan.{Plan}
use Rattle.run_record.specs.declared.made.Made.{Made}
use Rattle.run_record.specs.Lines.{SpeltCall, AreSpelt}
use Rattle.run_record.specs.Objects.{is_map, map_number}
use Rattle.run_record.specs.Record.{shared_in, object_number}
use Rattle.run_laws.specs.Locks.{has_plain_objects}
use Rattle.workload.specs.OwnMaps.{NamedMap, after_operation, after_script}
use Rattle.run_laws.specs.Owners.{is_on_name, uses_key}
use Rattle.run_laws.proofs.AddItems.{no_entries_shared}
use Rattle.run_laws.proofs.DoneLines.{calls_in, items_in, shared_append, shared_map}
use Rattle.run_laws.proofs.NamedKeys.{one_number}
use Rattle.run_laws.proofs.Numbered.{numbers_apart}
use Rattle.run_laws.proofs.OneKey.{value_renamed, key_renamed, key_left}
use Rattle.sync_types.specs.KeyCalls.{key_after}
use Rattle.run_laws.proofs.PlainCalls.{PlainCall, on_map, on_range, on_atomic, on_test, on_mutex, IsOfKind, is_cursors, list_all_at, plain_call}
use Rattle.run_laws.proofs.Weaving.{shared_key_after, key_along, off_key}

-- whether a call is on no map
abbrev pub is_no_map : SharedCall → Bool
is_no_map (calls.Map m call) = false
is_no_map (calls.Begin m) = true
is_no_map (calls.Next begin) = true
is_no_map (calls.Atomic a call) = true

abbrev is_map_operation : Operation → Bool
is_map_operation (operations.Map call) = true
is_map_operation operation = false

-- the items of a call: one call on a map, or none on any
pub data MapItems (plan : Plan) (call : Call) (items : List Item) : Type 0 where
  one_call : (op : MapCall (List ℕ)) (x : Item) → IsOfKind plan call.object kinds.Map → call.operation ≡ operations.Map op → items ≡ x ∷ []
      → x.call ≡ calls.Map (map_number plan.objects call.object) (renamed_call (key_number (keys_in plan.scripts)) op) → MapItems plan call items
  no_call : is_map_operation call.operation ≡ false → list_all (λ (x : Item). is_no_map x.call) items ≡ true → MapItems plan call items

cursors_are_none : (items : List Item) → list_all (λ (x : Item). is_cursors x.call) items ≡ true → list_all (λ (x : Item). is_no_map x.call) items ≡ true
cursors_are_none [] all = refl
cursors_are_none (x ∷ items) all = let both = and_parts (is_cursors x.call) (list_all (λ (y : Item). is_cursors y.call) items) all in and_from (is_no_map x.call) (list_all (λ (y : Item). is_no_map y.call) items) (none x.call both.0) (cursors_are_none items both.1) where
  none : (call : SharedCall) → is_cursors call ≡ true → is_no_map call ≡ true
  none (calls.Map m call) is = absurd (false≢true is)
  none (calls.Begin m) is = refl
  none (calls.Next begin) is = refl
  none (calls.Atomic a call) is = refl

pub map_items : (plan : Plan) (call : Call) (items : List Made) (answer : CallAnswer (Reply ℕ)) → PlainCall plan call items answer → MapItems plan call (shared_in items)
map_items plan call items answer (on_map op kind asks one) = one_call op one.item kind asks (ap shared_in one.are) one.asks
map_items plan call items answer (on_range kind asks cursor) = no_call (ap is_map_operation asks) (ap (list_all (λ (x : Item). is_no_map x.call)) (ap shared_in cursor.are ∙ shared_map cursor.made) ∙ cursors_are_none cursor.made cursor.asks)
map_items plan call items answer (on_atomic type op kind asks one) = no_call (ap is_map_operation asks) (ap (list_all (λ (x : Item). is_no_map x.call)) (ap shared_in one.are) ∙ ap (λ (c : SharedCall). is_no_map c && true) one.asks)
map_items plan call items answer (on_test type value passes kind asks one) = no_call (ap is_map_operation asks) (ap (list_all (λ (x : Item). is_no_map x.call)) (ap shared_in one.are) ∙ ap (λ (c : SharedCall). is_no_map c && true) one.asks)
map_items plan call items answer (on_mutex op kind asks (given, (entries, are, spelt), gives)) = no_call (ap is_map_operation asks) (ap (list_all (λ (x : Item). is_no_map x.call)) (ap shared_in are ∙ no_entries_shared (object_number call.object) entries))

or_false : (a b : Bool) → (a || b) ≡ false → (a ≡ false) × (b ≡ false)
or_false true b is = absurd (false≢true (sym is))
or_false false b is = (refl, is)

-- what an operation leaves at its key
abbrev pub op_value : Operation → Option ℕ → Option ℕ
op_value (operations.Map op) was = key_after op was
op_value operation was = was

-- what a call leaves at the key, by name
pub named_op : (key : List ℕ) (operation : Operation) (m : NamedMap) → get (after_operation operation m) key ≡ cond (is_on_name key operation) (op_value operation (get m key)) (get m key)
named_op key (operations.Map op) m = key_left nat_list_cmp_total key op m ∙ ap (λ (b : Bool). cond b (key_after op (get m key)) (get m key)) (alike (map_key op)) where
  alike : (o : Option (List ℕ)) → option_map_or (λ other. eq_by_cmp (slice_cmp nat_cmp) key other) o true ≡ option_map_or (bytes_eq key) o true
  alike (Some other) = is_eq-slice_cmp key other
  alike None = refl
named_op key operation m = refl

pub named_call : (place : ℕ) (key : List ℕ) (call : Call) (m : NamedMap) → get (cond (call.object == place) (after_operation call.operation m) m) key ≡ cond (uses_key place key call) (op_value call.operation (get m key)) (get m key)
named_call place key call m = by_object (call.object == place) where
  by_object : (b : Bool) → get (cond b (after_operation call.operation m) m) key ≡ cond (b && is_on_name key call.operation) (op_value call.operation (get m key)) (get m key)
  by_object true = named_op key call.operation m
  by_object false = refl

both_ways : (b : Bool) (v : Option ℕ) → cond b v v ≡ v
both_ways true v = refl
both_ways false v = refl

module _ (plan : Plan) (place : ℕ) (object : ObjectLine) (at : slice_get plan.objects place ≡ Some object) (kind : object.kind ≡ kinds.Map) (key : List ℕ) (known : list_any (bytes_eq key) (all_keys plan.scripts) ≡ true)
    (named : (name : List ℕ) → list_any (bytes_eq name) (all_keys plan.scripts) ≡ true → key_name (keys_in plan.scripts) (key_number (keys_in plan.scripts) name) ≡ name) where
  -- the key of a call is one of the workload's
  abbrev pub IsKeyed : Call → Type 0
  IsKeyed call = (op : MapCall (List ℕ)) (name : List ℕ) → call.operation ≡ operations.Map op → map_key op ≡ Some name → list_any (bytes_eq name) (all_keys plan.scripts) ≡ true

  abbrev number_of_key : ℕ
  number_of_key = key_number (keys_in plan.scripts) key

  one_place : (other : ℕ) → IsOfKind plan other kinds.Map → (map_number plan.objects other == map_number plan.objects place) ≡ (other == place)
  one_place other (it, at_other, is_a_map) = elim (cases_Bool (other == place)) [
    | inl e ↦ eq-eqb (map_number plan.objects other) (map_number plan.objects place) (ap (map_number plan.objects) (eqb-true other place e)) ∙ sym e
    | inr e ↦ ne_eqb (map_number plan.objects other) (map_number plan.objects place) (numbers_apart (λ (o : ObjectLine). is_map o.kind) plan.objects other place it object at_other at (ap is_map is_a_map) (ap is_map kind) (eqb-false other place e)) ∙ sym e
  ]

  one_key : (o : Option (List ℕ)) → ((name : List ℕ) → o ≡ Some name → list_any (bytes_eq name) (all_keys plan.scripts) ≡ true)
      → option_map_or (λ name. key_number (keys_in plan.scripts) name == number_of_key) o true ≡ option_map_or (bytes_eq key) o true
  one_key (Some name) all = one_number plan.scripts named key name known (all name refl)
  one_key None all = refl

  -- a call on a map is on the key, by number, exactly where it is by name
  on_key : (call : Call) (op : MapCall (List ℕ)) → IsOfKind plan call.object kinds.Map → call.operation ≡ operations.Map op → IsKeyed call
      → is_on_key (map_number plan.objects place) number_of_key (calls.Map (map_number plan.objects call.object) (renamed_call (key_number (keys_in plan.scripts)) op)) ≡ uses_key place key call
  on_key call op is_a_map asks keyed = ap (λ (b : Bool). b && option_map_or (λ q. q == number_of_key) (map_key (renamed_call (key_number (keys_in plan.scripts)) op)) true) (one_place call.object is_a_map)
      ∙ (ap (λ (b : Bool). (call.object == place) && b) (key_renamed (key_number (keys_in plan.scripts)) (λ q. q == number_of_key) op ∙ one_key (map_key op) (λ name is. keyed op name asks is))
      ∙ ap (λ (o : Operation). (call.object == place) && is_on_name key o) (sym asks))

  -- and by number
  no_key : (call : SharedCall) → is_no_map call ≡ true → is_on_key (map_number plan.objects place) number_of_key call ≡ false
  no_key (calls.Map m call) is = absurd (false≢true is)
  no_key (calls.Begin m) is = refl
  no_key (calls.Next begin) is = refl
  no_key (calls.Atomic a call) is = refl

  no_change : (items : List Item) (was : Option ℕ) → list_all (λ (x : Item). is_no_map x.call) items ≡ true → key_along (map_number plan.objects place) number_of_key was items ≡ was
  no_change [] was all = refl
  no_change (x ∷ items) was all = let both = and_parts (is_no_map x.call) (list_all (λ (y : Item). is_no_map y.call) items) all in
      ap (λ (v : Option ℕ). key_along (map_number plan.objects place) number_of_key v items) (off_key (map_number plan.objects place) number_of_key x.call was (no_key x.call both.0)) ∙ no_change items was both.1

  item_call : (call : Call) (items : List Item) (was : Option ℕ) → MapItems plan call items → IsKeyed call → key_along (map_number plan.objects place) number_of_key was items ≡ cond (uses_key place key call) (op_value call.operation was) was
  item_call call items was (one_call op x is_a_map asks are is) keyed =
      ap (key_along (map_number plan.objects place) number_of_key was) are
      ∙ (ap (λ (c : SharedCall). shared_key_after (map_number plan.objects place) number_of_key c was) is
      ∙ (ap (λ (b : Bool). cond b (key_after (renamed_call (key_number (keys_in plan.scripts)) op) was) was) (on_key call op is_a_map asks keyed)
      ∙ (ap (λ (v : Option ℕ). cond (uses_key place key call) v was) (value_renamed (key_number (keys_in plan.scripts)) op was)
      ∙ ap (λ (o : Operation). cond (uses_key place key call) (op_value o was) was) (sym asks))))
  item_call call items was (no_call none all) keyed = no_change items was all ∙ sym (by_operation call.operation none (call.object == place)) where
    by_operation : (operation : Operation) → is_map_operation operation ≡ false → (b : Bool) → cond (b && is_on_name key operation) (op_value operation was) was ≡ was
    by_operation (operations.Map op) none b = absurd (false≢true (sym none))
    by_operation operation none b = both_ways (b && false) was

  module _ (plain : has_plain_objects plan ≡ true) (worker : ℕ) where
    pub items_of_call : (before : ℕ) (call : SpeltCall) (spelt : List SpeltCall) → AreSpelt plan worker before (call ∷ spelt) → MapItems plan call.call (shared_in call.items)
    items_of_call before call spelt are = map_items plan call.call call.items (Done (Ok call.reply)) (plain_call plan plain worker before call.call call.items (Done (Ok call.reply)) are.0)

    along_append : (was : Option ℕ) (xs ys : List Item) → key_along (map_number plan.objects place) number_of_key was (xs ++ ys) ≡ key_along (map_number plan.objects place) number_of_key (key_along (map_number plan.objects place) number_of_key was xs) ys
    along_append was [] ys = refl
    along_append was (x ∷ xs) ys = along_append (shared_key_after (map_number plan.objects place) number_of_key x.call was) xs ys

    -- what the items of a script leave at the key is what its calls leave there in a map of their own
    pub script_along : (before : ℕ) (spelt : List SpeltCall) (m : NamedMap) → AreSpelt plan worker before spelt → ((i : ℕ) (call : Call) → slice_get (calls_in spelt) i ≡ Some call → IsKeyed call)
        → key_along (map_number plan.objects place) number_of_key (get m key) (shared_in (items_in spelt)) ≡ get (after_script place m (calls_in spelt)) key
    script_along before [] m are keyed = refl
    script_along before (call ∷ spelt) m are keyed =
        ap (key_along (map_number plan.objects place) number_of_key (get m key)) (shared_append call.items (items_in spelt))
        ∙ (along_append (get m key) (shared_in call.items) (shared_in (items_in spelt))
        ∙ (ap (λ (v : Option ℕ). key_along (map_number plan.objects place) number_of_key v (shared_in (items_in spelt))) (item_call call.call (shared_in call.items) (get m key) (items_of_call before call spelt are) (keyed 0 call.call refl) ∙ sym (named_call place key call.call m))
        ∙ script_along (before + length (shared_in call.items)) spelt (cond (call.call.object == place) (after_operation call.call.operation m) m) are.1 (λ i c is. keyed (suc i) c is)))

    -- and where no call is on the key no item is
    abbrev is_off : Item → Bool
    is_off x = not (is_on_key (map_number plan.objects place) number_of_key x.call)

    call_off : (call : Call) (items : List Item) → MapItems plan call items → IsKeyed call → uses_key place key call ≡ false → list_all is_off items ≡ true
    call_off call items (one_call op x is_a_map asks are is) keyed off = ap (list_all is_off) are
        ∙ ap (λ (b : Bool). not b && true) (ap (is_on_key (map_number plan.objects place) number_of_key) is ∙ (on_key call op is_a_map asks keyed ∙ off))
    call_off call items (no_call none all) keyed off = each items all where
      each : (items : List Item) → list_all (λ (x : Item). is_no_map x.call) items ≡ true → list_all is_off items ≡ true
      each [] all = refl
      each (x ∷ items) all = let both = and_parts (is_no_map x.call) (list_all (λ (y : Item). is_no_map y.call) items) all in
          and_from (is_off x) (list_all is_off items) (ap not (no_key x.call both.0)) (each items both.1)

    pub script_off : (before : ℕ) (spelt : List SpeltCall) → AreSpelt plan worker before spelt → ((i : ℕ) (call : Call) → slice_get (calls_in spelt) i ≡ Some call → IsKeyed call)
        → list_any (uses_key place key) (calls_in spelt) ≡ false → list_all is_off (shared_in (items_in spelt)) ≡ true
    script_off before [] are keyed off = refl
    script_off before (call ∷ spelt) are keyed off =
        let none = or_false (uses_key place key call.call) (list_any (uses_key place key) (calls_in spelt)) off in
        ap (list_all is_off) (shared_append call.items (items_in spelt)) ∙ (list_all-append is_off (shared_in call.items) (shared_in (items_in spelt))
        ∙ and_from (list_all is_off (shared_in call.items)) (list_all is_off (shared_in (items_in spelt))) (call_off call.call (shared_in call.items) (items_of_call before call spelt are) (keyed 0 call.call refl) none.0)
        (script_off (before + length (shared_in call.items)) spelt are.1 (λ i c is. keyed (suc i) c is) none.1))

    pub item_off : (items : List Item) (i : ℕ) (x : Item) → list_all is_off items ≡ true → slice_get items i ≡ Some x → is_on_key (map_number plan.objects place) number_of_key x.call ≡ false
    item_off items i x all at_item = not-true (is_on_key (map_number plan.objects place) number_of_key x.call) (list_all_at is_off items i x all at_item)
