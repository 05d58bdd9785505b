-- A map whose keys each belong to one worker is, at the end of a run that is done, the workers' own maps together.
use Rattle.std.proofs.Common.{◌≡◌, ◌⊎◌, inl, inr, ℕ, zero, suc, ◌+◌, ◌<◌, ◌≤◌, ◌==◌, Bool, true, false, ◌||◌, cond, List, [], ◌∷◌, map, length, Option, Some, None, slice_get, refl, sym, ap, ◌∙◌, subst, arith}
use Rattle.std.specs.Prelude.{◌&&◌, is_some}
use Rattle.std.specs.Cmp.{nat_cmp_total}
use Rattle.std.specs.Cmp.Lexicographic.{slice_cmp, nat_list_cmp_total}
use Rattle.std.specs.FinMap.{FinMap, empty, entries, find, get, get-empty, get-entries, get-from_entries, same_map, nat_cmp-IsAntisymmetric, slice_cmp-IsAntisymmetric}
use Rattle.std.specs.List.{list_any, list_all, flat_map}
use Rattle.std.specs.Option.{option_map_or}
use Rattle.std.specs.Ordering.{nat_cmp}
use Rattle.std.specs.Str.{bytes_eq}
use Rattle.std.proofs.lemmas.Bool.{false≢true, cases_Bool, cases_lt, and_parts, ne_eqb}
use Rattle.std.proofs.lemmas.Option.{none-some, same_Some, slice_get_within, slice_get_past}
use Rattle.std.proofs.lemmas.Slice.Eq.{bytes_eq-Decides}
use Rattle.script_calls.specs.declared.call.Call.{Call}
use Rattle.script_calls.specs.declared.call.Operation.{Operation}
use Rattle.script_calls.specs.declared.call.Operation.TheVariants as operations
use Rattle.sync_model.specs.declared.item.Item.{Item}
use Rattle.sync_model.specs.declared.item.SharedCall.{SharedCall}
use Rattle.sync_model.specs.declared.item.SharedCall.TheVariants as calls
use Rattle.sync_model.specs.declared.item.SharedEntry.{SharedEntry}
use Rattle.sync_types.specs.declared.map_object.MapCall.{MapCall}
use Rattle.sync_types.specs.declared.map_object.MapCall.TheVariants.{Load, Store, LoadOrStore, LoadAndDelete, Delete, Swap, CompareAndSwap, CompareAndDelete, Clear}
use Rattle.script_calls.specs.declared.outcome.Outcome.TheVariants.{Done}
use Rattle.script_calls.specs.declared.outcome.Report.{Report}
use Rattle.sync_types.specs.Renaming.{renamed_call}
use Rattle.sync_types.specs.SequentialMap.{map_key}
use Rattle.sync_model.specs.SharedHistory.{Contents, map_at, value_at, contents_after, shared_after}
use Rattle.workload.specs.declared.object.ObjectKind.TheVariants as kinds
use Rattle.workload.specs.declared.object.ObjectLine.{ObjectLine}
use Rattle.workload.specs.Draft.{all_keys}
use Rattle.workload.specs.Keys.{keys_in, number_in, key_number, key_name}
use Rattle.workload.specs.Plan.{Plan}
use Rattle.run_record.specs.Explains.{Explains}
use Rattle.run_record.specs.Lines.{SpeltCall, Line, script_of, AreSpelt}
use Rattle.run_record.specs.Objects.{contents_of, map_number, named}
use Rattle.run_record.specs.Record.{Record, shared_in}
use Rattle.run_laws.specs.Locks.{has_plain_objects}
use Rattle.workload.specs.OwnMaps.{NamedMap, after_operation, after_script, map_of, union_of}
use Rattle.run_laws.specs.Owners.{is_on_name, uses_key, AreApart}
use Rattle.run_laws.proofs.DoneLines.{Plainly, calls_in, items_in, shared_append, script_at, calls_at, line_at}
use Rattle.run_laws.proofs.EachOf.{Each, each_at, each_both}
use Rattle.run_laws.proofs.KeyAtEnd.{Facts, scripted, map_there, starts_empty, own_value, no_value}
use Rattle.run_laws.proofs.MapItems.{MapItems, one_call, no_call, is_no_map, map_items, op_value, named_call}
use Rattle.run_laws.proofs.NamedFind.{find_none, find_one, entry_found, number_at_key, find_named, find_unnamed}
use Rattle.run_laws.proofs.NamedKeys.{key_of_call}
use Rattle.run_laws.proofs.OneKey.{value_renamed, key_renamed}
use Rattle.sync_types.specs.KeyCalls.{key_after}
use Rattle.run_laws.proofs.PlainCalls.{plain_call}
use Rattle.run_laws.proofs.Weaving.{shared_key_after, value_after_call, maps_one}

-- a call that is on another key leaves nothing where nothing was; so does a `clear`
none_stays : {K : Type 0} (test : K → Bool) (op : MapCall K) → ((name : K) → map_key op ≡ Some name → test name ≡ false) → cond (option_map_or test (map_key op) true) (key_after op None) None ≡ None
none_stays test (Load name) off = ap (λ (b : Bool). cond b (key_after (Load name) None) None) (off name refl)
none_stays test (Store name value) off = ap (λ (b : Bool). cond b (key_after (Store name value) None) None) (off name refl)
none_stays test (LoadOrStore name value) off = ap (λ (b : Bool). cond b (key_after (LoadOrStore name value) None) None) (off name refl)
none_stays test (LoadAndDelete name) off = ap (λ (b : Bool). cond b (key_after (LoadAndDelete name) None) None) (off name refl)
none_stays test (Delete name) off = ap (λ (b : Bool). cond b (key_after (Delete name) None) None) (off name refl)
none_stays test (Swap name value) off = ap (λ (b : Bool). cond b (key_after (Swap name value) None) None) (off name refl)
none_stays test (CompareAndSwap name old new) off = ap (λ (b : Bool). cond b (key_after (CompareAndSwap name old new) None) None) (off name refl)
none_stays test (CompareAndDelete name old) off = ap (λ (b : Bool). cond b (key_after (CompareAndDelete name old) None) None) (off name refl)
none_stays test Clear off = refl

-- nothing stands at a key, where no call leaves anything there
after_none : (m key : ℕ) (history : List SharedEntry) (contents : Contents) → m < length contents.maps → value_at contents m key ≡ None → ((i : ℕ) (e : SharedEntry) → slice_get history i ≡ Some e → shared_key_after m key e.call None ≡ None)
    → value_at (contents_after contents history) m key ≡ None
after_none m key [] contents within none stays = none
after_none m key (e ∷ history) contents within none stays = after_none m key history (shared_after e.call contents) (maps_one m key e.call contents within)
    (value_after_call m key e.call contents within ∙ (ap (shared_key_after m key e.call) none ∙ stays 0 e refl)) (λ i x at. stays (suc i) x at)

-- nor in a map that a script makes alone
module _ (place : ℕ) (key : List ℕ) where
  abbrev LeavesNone : Call → Type 0
  LeavesNone call = cond (uses_key place key call) (op_value call.operation None) None ≡ None

  script_none : (script : List Call) (m : NamedMap) → get m key ≡ None → ((i : ℕ) (call : Call) → slice_get script i ≡ Some call → LeavesNone call) → get (after_script place m script) key ≡ None
  script_none [] m none stays = none
  script_none (call ∷ script) m none stays = script_none script (cond (call.object == place) (after_operation call.operation m) m)
      (named_call place key call m ∙ (ap (λ (v : Option ℕ). cond (uses_key place key call) (op_value call.operation v) v) none ∙ stays 0 call refl)) (λ i x at. stays (suc i) x at)

  -- a script that doesn't use the key
  unused_none : (script : List Call) → list_any (uses_key place key) script ≡ false → get (map_of place script) key ≡ None
  unused_none script unused = script_none script empty (get-empty (slice_cmp nat_cmp) key) (λ i call at. ap (λ (b : Bool). cond b (op_value call.operation None) None) (unused_at script i call unused at)) where
    unused_at : (script : List Call) (i : ℕ) (call : Call) → list_any (uses_key place key) script ≡ false → slice_get script i ≡ Some call → uses_key place key call ≡ false
    unused_at [] i call unused at = absurd (none-some call at)
    unused_at (x ∷ script) zero call unused at = ap (uses_key place key) (sym (same_Some x call at)) ∙ first (uses_key place key x) unused where
      first : (b : Bool) → (b || list_any (uses_key place key) script) ≡ false → b ≡ false
      first true is = absurd (false≢true (sym is))
      first false is = refl
    unused_at (x ∷ script) (suc i) call unused at = unused_at script i call (rest (uses_key place key x) unused) at where
      rest : (b : Bool) → (b || list_any (uses_key place key) script) ≡ false → list_any (uses_key place key) script ≡ false
      rest true is = absurd (false≢true (sym is))
      rest false is = is

  -- a key that isn't the workload's
  unnamed_none : (script : List Call) → ((i : ℕ) (call : Call) (op : MapCall (List ℕ)) (name : List ℕ) → slice_get script i ≡ Some call → call.operation ≡ operations.Map op → map_key op ≡ Some name → bytes_eq key name ≡ false)
      → get (map_of place script) key ≡ None
  unnamed_none script unnamed = script_none script empty (get-empty (slice_cmp nat_cmp) key) (λ i call at. by_operation (call.object == place) call.operation (λ op name asks has. unnamed i call op name at asks has)) where
    by_operation : (b : Bool) (operation : Operation) → ((op : MapCall (List ℕ)) (name : List ℕ) → operation ≡ operations.Map op → map_key op ≡ Some name → bytes_eq key name ≡ false)
        → cond (b && is_on_name key operation) (op_value operation None) None ≡ None
    by_operation false operation off = refl
    by_operation true (operations.Map op) off = none_stays (bytes_eq key) op (λ name has. off op name refl has)
    by_operation true operation off = refl

  -- the script that uses the key, if one does
  user : (scripts : List (List Call)) → ((w : ℕ) × (script : List Call) × (slice_get scripts w ≡ Some script) × (list_any (uses_key place key) script ≡ true)) ⊎ ((i : ℕ) (script : List Call) → slice_get scripts i ≡ Some script → list_any (uses_key place key) script ≡ false)
  user [] = inr (λ i script at. absurd (none-some script at))
  user (x ∷ scripts) = by_first (cases_Bool (list_any (uses_key place key) x)) (user scripts) where
    by_first : (list_any (uses_key place key) x ≡ true) ⊎ (list_any (uses_key place key) x ≡ false)
        → ((w : ℕ) × (script : List Call) × (slice_get scripts w ≡ Some script) × (list_any (uses_key place key) script ≡ true)) ⊎ ((i : ℕ) (script : List Call) → slice_get scripts i ≡ Some script → list_any (uses_key place key) script ≡ false)
        → ((w : ℕ) × (script : List Call) × (slice_get (x ∷ scripts) w ≡ Some script) × (list_any (uses_key place key) script ≡ true)) ⊎ ((i : ℕ) (script : List Call) → slice_get (x ∷ scripts) i ≡ Some script → list_any (uses_key place key) script ≡ false)
    by_first (inl uses) rest = inl (zero, x, refl, uses)
    by_first (inr unused) (inl (w, script, at, uses)) = inl (suc w, script, at, uses)
    by_first (inr unused) (inr none) = inr each where
      each : (i : ℕ) (script : List Call) → slice_get (x ∷ scripts) i ≡ Some script → list_any (uses_key place key) script ≡ false
      each zero script at = ap (list_any (uses_key place key)) (sym (same_Some x script at)) ∙ unused
      each (suc i) script at = none i script at

module _ (plan : Plan) (r : Record) (left : Report) (explains : Explains plan (Done left) r) (plainly : Plainly plan) (script_lines : map script_of explains.lines ≡ plan.scripts) (facts : Facts r) (plain : has_plain_objects plan ≡ true)
    (among : (name : List ℕ) → list_any (bytes_eq name) (keys_in plan.scripts) ≡ list_any (bytes_eq name) (all_keys plan.scripts))
    (named_so : (name : List ℕ) → list_any (bytes_eq name) (all_keys plan.scripts) ≡ true → key_name (keys_in plan.scripts) (key_number (keys_in plan.scripts) name) ≡ name)
    (numbered : (name : List ℕ) (n : ℕ) → number_in (keys_in plan.scripts) name ≡ Some n → slice_get (keys_in plan.scripts) n ≡ Some name)
    (placed : (name : List ℕ) (n : ℕ) → slice_get (keys_in plan.scripts) n ≡ Some name → number_in (keys_in plan.scripts) name ≡ Some n)
    (place : ℕ) (object : ObjectLine) (at : slice_get plan.objects place ≡ Some object) (kind : object.kind ≡ kinds.Map) where
  abbrev contents : FinMap nat_cmp ℕ
  contents = map_at (contents_after (contents_of plan) r.history) (map_number plan.objects place)

  -- the key of each call is one of the workload's
  known_in : (worker : ℕ) (line : Line) → slice_get explains.lines worker ≡ Some line → (i : ℕ) (call : Call) (op : MapCall (List ℕ)) (name : List ℕ) → slice_get (calls_in line.spelt) i ≡ Some call → call.operation ≡ operations.Map op → map_key op ≡ Some name
      → list_any (bytes_eq name) (all_keys plan.scripts) ≡ true
  known_in worker line is i call op name in_script asks has = key_of_call plan.scripts worker i (script_of line) call op name (scripted plan r left explains plainly script_lines facts plain named_so place object at kind worker line is)
      (ap (λ (l : List Call). slice_get l i) (script_at plan r left explains plainly worker line is) ∙ in_script) asks has

  -- no call leaves anything at a number that is no key's
  module _ (number : ℕ) (past : length (keys_in plan.scripts) ≤ number) where
    abbrev LeavesNoneHere : Item → Type 0
    LeavesNoneHere x = shared_key_after (map_number plan.objects place) number x.call None ≡ None

    no_map_none : (call : SharedCall) → is_no_map call ≡ true → shared_key_after (map_number plan.objects place) number call None ≡ None
    no_map_none (calls.Map m call) is = absurd (false≢true is)
    no_map_none (calls.Begin m) is = refl
    no_map_none (calls.Next begin) is = refl
    no_map_none (calls.Atomic a call) is = refl

    of_call : (call : Call) (items : List Item) → MapItems plan call items → ((op : MapCall (List ℕ)) (name : List ℕ) → call.operation ≡ operations.Map op → map_key op ≡ Some name → list_any (bytes_eq name) (all_keys plan.scripts) ≡ true) → Each LeavesNoneHere items
    of_call call items (no_call none all) known = each items all where
      each : (items : List Item) → list_all (λ (x : Item). is_no_map x.call) items ≡ true → Each LeavesNoneHere items
      each [] all = tt
      each (x ∷ items) all = let both = and_parts (is_no_map x.call) (list_all (λ (y : Item). is_no_map y.call) items) all in (no_map_none x.call both.0, each items both.1)
    of_call call items (one_call op x is_a_map asks are is) known = subst (Each LeavesNoneHere) (sym are) (ap (λ (c : SharedCall). shared_key_after (map_number plan.objects place) number c None) is ∙ by_number (map_number plan.objects call.object == map_number plan.objects place), tt) where
      another : (name : List ℕ) → map_key op ≡ Some name → (key_number (keys_in plan.scripts) name == number) ≡ false
      another name has = let within = slice_get_within (keys_in plan.scripts) (key_number (keys_in plan.scripts) name) name (number_at_key (keys_in plan.scripts) numbered placed name (among name ∙ known op name asks has)) in
          ne_eqb (key_number (keys_in plan.scripts) name) number (λ e. omega (arith, e, within, past))

      by_number : (b : Bool) → cond (b && option_map_or (λ k. k == number) (map_key (renamed_call (key_number (keys_in plan.scripts)) op)) true) (key_after (renamed_call (key_number (keys_in plan.scripts)) op) None) None ≡ None
      by_number false = refl
      by_number true = ap (λ (b : Bool). cond b (key_after (renamed_call (key_number (keys_in plan.scripts)) op) None) None) (key_renamed (key_number (keys_in plan.scripts)) (λ k. k == number) op)
          ∙ (ap (λ (v : Option ℕ). cond (option_map_or (λ name. key_number (keys_in plan.scripts) name == number) (map_key op) true) v None) (value_renamed (key_number (keys_in plan.scripts)) op None)
          ∙ none_stays (λ name. key_number (keys_in plan.scripts) name == number) op another)

    of_script : (worker before : ℕ) (spelt : List SpeltCall) → AreSpelt plan worker before spelt → ((i : ℕ) (call : Call) (op : MapCall (List ℕ)) (name : List ℕ) → slice_get (calls_in spelt) i ≡ Some call → call.operation ≡ operations.Map op → map_key op ≡ Some name
        → list_any (bytes_eq name) (all_keys plan.scripts) ≡ true) → Each LeavesNoneHere (shared_in (items_in spelt))
    of_script worker before [] are known = tt
    of_script worker before (call ∷ spelt) are known = subst (Each LeavesNoneHere) (sym (shared_append call.items (items_in spelt)))
        (each_both LeavesNoneHere (shared_in call.items) (shared_in (items_in spelt))
        (of_call call.call (shared_in call.items) (map_items plan call.call call.items _ (plain_call plan plain worker before call.call call.items _ are.0)) (λ op name asks has. known 0 call.call op name refl asks has))
        (of_script worker (before + length (shared_in call.items)) spelt are.1 (λ i c op name in_script asks has. known (suc i) c op name in_script asks has)))

    nothing_past : get contents number ≡ None
    nothing_past = after_none (map_number plan.objects place) number r.history (contents_of plan) (map_there plan r left explains plainly script_lines facts plain named_so place object at kind) (starts_empty plan r left explains plainly script_lines facts plain named_so place object at kind number) (λ i e is.
        let made = facts.call i e is in
        let line = line_at plan r left explains plainly e.caller made.0 made.1 made.2 in
        let listed : slice_get (shared_in (items_in line.0.spelt)) made.0 ≡ Some made.1 = ap (λ (l : List Item). slice_get l made.0) (sym (calls_at plan r left explains plainly e.caller line.0 line.1)) ∙ made.2 in
        subst (λ (call : SharedCall). shared_key_after (map_number plan.objects place) number call None ≡ None) made.5
        (each_at LeavesNoneHere (shared_in (items_in line.0.spelt)) made.0 made.1 (of_script e.caller 0 line.0.spelt (explains.are.each e.caller line.0 line.1).calls (known_in e.caller line.0 line.1)) listed))

  -- so each entry's key is a number of a key
  all_within : (i : ℕ) (e : ℕ × ℕ) → slice_get (entries contents) i ≡ Some e → e.0 < length (keys_in plan.scripts)
  all_within i e is = by_order (cases_lt e.0 (length (keys_in plan.scripts))) where
    by_order : (e.0 < length (keys_in plan.scripts)) ⊎ (length (keys_in plan.scripts) ≤ e.0) → e.0 < length (keys_in plan.scripts)
    by_order (inl within) = within
    by_order (inr past) = absurd (false≢true (sym (ap is_some (sym (get-entries contents e.0) ∙ nothing_past e.0 past)) ∙ entry_found nat_cmp_total (entries contents) i e is))

  -- by each name the two maps have the same
  same_at : AreApart plan place → (name : List ℕ) → get (named (keys_in plan.scripts) contents) name ≡ get (union_of place plan.scripts) name
  same_at apart name = get-from_entries nat_list_cmp_total (map (λ entry. (key_name (keys_in plan.scripts) entry.0, entry.1)) (entries contents)) name
      ∙ (by_known (cases_Bool (list_any (bytes_eq name) (all_keys plan.scripts))) ∙ sym (get-from_entries nat_list_cmp_total (flat_map (λ script. entries (map_of place script)) plan.scripts) name)) where
        by_user : list_any (bytes_eq name) (all_keys plan.scripts) ≡ true
            → ((w : ℕ) × (script : List Call) × (slice_get plan.scripts w ≡ Some script) × (list_any (uses_key place name) script ≡ true)) ⊎ ((i : ℕ) (script : List Call) → slice_get plan.scripts i ≡ Some script → list_any (uses_key place name) script ≡ false)
            → get contents (key_number (keys_in plan.scripts) name) ≡ find (slice_cmp nat_cmp) name (flat_map (λ script. entries (map_of place script)) plan.scripts)
        by_user known (inl (w, script, is, uses)) =
            let owned = apart name w script is uses in
            own_value plan r left explains plainly script_lines facts plain named_so place object at kind name known w owned script is
            ∙ sym (find_one (slice_cmp nat_cmp) name (map_of place) plan.scripts w script is (λ i other in_scripts unequal. unused_none place name other (owned i other in_scripts unequal)))
        by_user known (inr none) =
            no_value plan r left explains plainly script_lines facts plain named_so place object at kind name known (length plan.scripts) (λ other script is unequal. none other script is) (slice_get_past plan.scripts (length plan.scripts) (omega arith))
            ∙ sym (find_none (slice_cmp nat_cmp) name (map_of place) plan.scripts (λ i script is. unused_none place name script (none i script is)))

        by_known : (list_any (bytes_eq name) (all_keys plan.scripts) ≡ true) ⊎ (list_any (bytes_eq name) (all_keys plan.scripts) ≡ false)
            → find (slice_cmp nat_cmp) name (map (λ entry. (key_name (keys_in plan.scripts) entry.0, entry.1)) (entries contents)) ≡ find (slice_cmp nat_cmp) name (flat_map (λ script. entries (map_of place script)) plan.scripts)
        by_known (inl known) = find_named (keys_in plan.scripts) numbered placed name (among name ∙ known) (entries contents) all_within
            ∙ (sym (get-entries contents (key_number (keys_in plan.scripts) name)) ∙ by_user known (user place name plan.scripts))
        by_known (inr unknown) = find_unnamed (keys_in plan.scripts) numbered placed name (among name ∙ unknown) (entries contents) all_within
            ∙ sym (find_none (slice_cmp nat_cmp) name (map_of place) plan.scripts (λ w script is. unnamed_none place name script (λ i call op other in_script asks has. another other (key_of_call plan.scripts w i script call op other is in_script asks has)))) where
              another : (other : List ℕ) → list_any (bytes_eq other) (all_keys plan.scripts) ≡ true → bytes_eq name other ≡ false
              another other known = by_bytes (cases_Bool (bytes_eq name other)) where
                by_bytes : (bytes_eq name other ≡ true) ⊎ (bytes_eq name other ≡ false) → bytes_eq name other ≡ false
                by_bytes (inl same) = absurd (false≢true (sym unknown ∙ subst (λ (n : List ℕ). list_any (bytes_eq n) (all_keys plan.scripts) ≡ true) (sym ((bytes_eq-Decides name other).0 same)) known))
                by_bytes (inr unequal) = unequal

  pub union_at_end : AreApart plan place → named (keys_in plan.scripts) contents ≡ union_of place plan.scripts
  union_at_end apart = same_map nat_list_cmp_total (slice_cmp-IsAntisymmetric nat_cmp-IsAntisymmetric) _ _ (same_at apart)
