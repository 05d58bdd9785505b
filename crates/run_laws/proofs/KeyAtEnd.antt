-- What a map has at the end of a run that is done, at a key that belongs to one worker.
use Rattle.std.proofs.Common.{◌≡◌, ◌≢◌, inl, inr, ℕ, ◌+◌, ◌<◌, ◌≤◌, Bool, true, false, cond, List, map, length, Option, Some, None, slice_get, refl, sym, ap, ◌∙◌, subst, arith}
use Rattle.std.specs.Prelude.{count_by}
use Rattle.std.specs.Cmp.Lexicographic.{slice_cmp}
use Rattle.std.specs.FinMap.{FinMap, empty, get, get-empty}
use Rattle.std.specs.List.{list_any}
use Rattle.std.specs.Option.{option_map}
use Rattle.std.specs.Ordering.{nat_cmp}
use Rattle.std.specs.Str.{bytes_eq}
use Rattle.std.proofs.lemmas.Bool.{cases_Bool}
use Rattle.std.proofs.lemmas.List.{length-replicate, get_or-replicate}
use Rattle.std.proofs.lemmas.Option.{none-some, same_Some, slice_get-map}
use Rattle.script_calls.specs.declared.call.Call.{Call}
use Rattle.sync_model.specs.declared.item.Item.{Item}
use Rattle.sync_model.specs.declared.item.SharedCall.{SharedCall}
use Rattle.sync_model.specs.declared.item.SharedEntry.{SharedEntry}
use Rattle.sync_types.specs.declared.map_object.MapCall.{MapCall}
use Rattle.script_calls.specs.declared.outcome.Outcome.TheVariants.{Done}
use Rattle.script_calls.specs.declared.outcome.Report.{Report}
use Rattle.sync_types.specs.SequentialMap.{map_after, is_map_entry}
use Rattle.sync_model.specs.SharedHistory.{value_at, contents_after}
use Rattle.sync_model.specs.SharedLaws.{is_on_key}
use Rattle.workload.specs.declared.object.ObjectKind.TheVariants as kinds
use Rattle.workload.specs.declared.object.ObjectLine.{ObjectLine}
use Rattle.workload.specs.Draft.{all_keys}
use Rattle.workload.specs.Keys.{keys_in, key_number, key_name}
use Rattle.workload.specs.Plan.{Plan}
use Rattle.run_record.specs.Explains.{Explains}
use Rattle.run_record.specs.Lines.{Line, script_of}
use Rattle.run_record.specs.Objects.{contents_of, is_map, map_number}
use Rattle.run_record.specs.Record.{Record, calls_of, shared_in}
use Rattle.run_laws.specs.Locks.{has_plain_objects}
use Rattle.workload.specs.OwnMaps.{map_of}
use Rattle.run_laws.specs.Owners.{IsOwnedBy}
use Rattle.run_laws.proofs.DoneLines.{Plainly, calls_in, items_in, script_at, calls_at, calls_past, line_at}
use Rattle.run_laws.proofs.MapItems.{IsKeyed, script_along, script_off, item_off}
use Rattle.run_laws.proofs.NamedKeys.{key_of_call}
use Rattle.run_laws.proofs.Numbered.{number_within}
use Rattle.run_laws.proofs.Weaving.{key_along, value_at_end, Left, woven}

-- what the laws of shared histories say of a record
pub record Facts (r : Record) : Type 0 where
  pub call : (n : ℕ) (e : SharedEntry) → slice_get r.history n ≡ Some e
      → (j : ℕ) × (x : Item) × (slice_get (calls_of r e.caller) j ≡ Some x) × (x.entry ≡ true) × (x.place ≡ n) × (x.call ≡ e.call) × (x.reply ≡ e.reply)
  pub entry : (c j : ℕ) (x : Item) → slice_get (calls_of r c) j ≡ Some x → x.entry ≡ true
      → (e : SharedEntry) × (slice_get r.history x.place ≡ Some e) × (e.caller ≡ c) × (e.call ≡ x.call) × (e.reply ≡ x.reply)
  pub below : (c i j : ℕ) (x y : Item) → i < j → slice_get (calls_of r c) i ≡ Some x → slice_get (calls_of r c) j ≡ Some y → x.entry ≡ true → x.place < y.place
  pub order : (c i j : ℕ) (x y : Item) → i < j → slice_get (calls_of r c) i ≡ Some x → slice_get (calls_of r c) j ≡ Some y → x.place ≤ y.place
  pub only : (held : FinMap nat_cmp ℕ) (call : MapCall ℕ) → is_map_entry call held ≡ false → map_after call held ≡ held

module _ (plan : Plan) (r : Record) (left : Report) (explains : Explains plan (Done left) r) (plainly : Plainly plan) (script_lines : map script_of explains.lines ≡ plan.scripts) (facts : Facts r) (plain : has_plain_objects plan ≡ true)
    (named : (name : List ℕ) → list_any (bytes_eq name) (all_keys plan.scripts) ≡ true → key_name (keys_in plan.scripts) (key_number (keys_in plan.scripts) name) ≡ name)
    (place : ℕ) (object : ObjectLine) (at : slice_get plan.objects place ≡ Some object) (kind : object.kind ≡ kinds.Map) where
  pub scripted : (worker : ℕ) (line : Line) → slice_get explains.lines worker ≡ Some line → slice_get plan.scripts worker ≡ Some (script_of line)
  scripted worker line is = ap (λ (l : List (List Call)). slice_get l worker) (sym script_lines) ∙ (slice_get-map script_of explains.lines worker ∙ ap (option_map script_of) is)

  -- the map is there from the start, and empty
  pub map_there : map_number plan.objects place < length (contents_of plan).maps
  map_there = let within = number_within (λ (o : ObjectLine). is_map o.kind) plan.objects place object at (ap is_map kind) in
      omega (arith, within, length-replicate (count_by (λ (o : ObjectLine). is_map o.kind) plan.objects) (empty {X = ℕ} {R = nat_cmp}))

  pub starts_empty : (key : ℕ) → value_at (contents_of plan) (map_number plan.objects place) key ≡ None
  starts_empty key = ap (λ (m : FinMap nat_cmp ℕ). get m key) (get_or-replicate (count_by (λ (o : ObjectLine). is_map o.kind) plan.objects) (map_number plan.objects place) empty empty (number_within (λ (o : ObjectLine). is_map o.kind) plan.objects place object at (ap is_map kind)))
      ∙ get-empty nat_cmp key

  -- all that a worker did is left to be done at the start
  all_left : (worker key : ℕ) → Left (map_number plan.objects place) key (contents_of plan) r.history map_there worker 0 (calls_of r worker)
  all_left worker key = record {
    from = λ i x is. omega arith;
    order = λ i j x y before is_x is_y. elim (cases_Bool x.entry) [
      | inl e ↦ let low = facts.below worker i j x y before is_x is_y e in omega (arith, low, ap (λ (b : Bool). cond b (x.place + 1) x.place) e)
      | inr e ↦ let low = facts.order worker i j x y before is_x is_y in omega (arith, low, ap (λ (b : Bool). cond b (x.place + 1) x.place) e)
    ];
    all = λ k e from is mine. let made = facts.call k e is in (made.0, made.1, subst (λ c. slice_get (calls_of r c) made.0 ≡ Some made.1) mine made.2, made.3, made.4);
    place = λ i x is. (explains.lawful.shared.sound worker i x is).place;
    sound = λ i x is. (explains.lawful.shared.sound worker i x is).entry;
    entry = λ i x is entered. let made = facts.entry worker i x is entered in (made.0, made.1, made.3);
  }

  module _ (key : List ℕ) (known : list_any (bytes_eq key) (all_keys plan.scripts) ≡ true) where
    keyed : (worker : ℕ) (line : Line) → slice_get explains.lines worker ≡ Some line → (i : ℕ) (call : Call) → slice_get (calls_in line.spelt) i ≡ Some call → IsKeyed plan place object at kind key known named call
    keyed worker line is i call in_script op name asks has = key_of_call plan.scripts worker i (script_of line) call op name (scripted worker line is)
        (ap (λ (l : List Call). slice_get l i) (script_at plan r left explains plainly worker line is) ∙ in_script) asks has

    module _ (worker : ℕ) (owned : IsOwnedBy plan place worker key) where
      others_off : (k : ℕ) (e : SharedEntry) → slice_get r.history k ≡ Some e → e.caller ≢ worker → is_on_key (map_number plan.objects place) (key_number (keys_in plan.scripts) key) e.call ≡ false
      others_off k e is apart =
          let made = facts.call k e is in
          let line = line_at plan r left explains plainly e.caller made.0 made.1 made.2 in
          let listed : slice_get (shared_in (items_in line.0.spelt)) made.0 ≡ Some made.1 = ap (λ (l : List Item). slice_get l made.0) (sym (calls_at plan r left explains plainly e.caller line.0 line.1)) ∙ made.2 in
          let unused = ap (list_any _) (sym (script_at plan r left explains plainly e.caller line.0 line.1)) ∙ owned e.caller (script_of line.0) (scripted e.caller line.0 line.1) apart in
          let off = script_off plan place object at kind key known named plain e.caller 0 line.0.spelt (explains.are.each e.caller line.0 line.1).calls (keyed e.caller line.0 line.1) unused in
          subst (λ (call : SharedCall). is_on_key (map_number plan.objects place) (key_number (keys_in plan.scripts) key) call ≡ false) made.5
          (item_off plan place object at kind key known named plain e.caller (shared_in (items_in line.0.spelt)) made.0 made.1 off listed)

      -- it is what the worker's own calls make of it
      along_own : value_at (contents_after (contents_of plan) r.history) (map_number plan.objects place) (key_number (keys_in plan.scripts) key)
          ≡ key_along (map_number plan.objects place) (key_number (keys_in plan.scripts) key) None (calls_of r worker)
      along_own =
          let m = map_number plan.objects place in
          let n = key_number (keys_in plan.scripts) key in
          sym (value_at_end m n (contents_of plan) r.history map_there) ∙ (sym (woven m n (contents_of plan) r.history map_there facts.only worker others_off (calls_of r worker) 0 (all_left worker n) (omega arith))
          ∙ ap (λ (v : Option ℕ). key_along m n v (calls_of r worker)) (starts_empty n))

      -- as they make it alone
      pub own_value : (script : List Call) → slice_get plan.scripts worker ≡ Some script → value_at (contents_after (contents_of plan) r.history) (map_number plan.objects place) (key_number (keys_in plan.scripts) key) ≡ get (map_of place script) key
      own_value script is = by_line (slice_get explains.lines worker) refl where
        by_line : (o : Option Line) → slice_get explains.lines worker ≡ o → value_at (contents_after (contents_of plan) r.history) (map_number plan.objects place) (key_number (keys_in plan.scripts) key) ≡ get (map_of place script) key
        by_line None none = absurd (none-some script (sym (ap (option_map script_of) none) ∙ (sym (slice_get-map script_of explains.lines worker) ∙ (ap (λ (l : List (List Call)). slice_get l worker) script_lines ∙ is))))
        by_line (Some line) some =
            let calls : calls_in line.spelt ≡ script = sym (script_at plan r left explains plainly worker line some) ∙ same_Some (script_of line) script (sym (scripted worker line some) ∙ is) in
            along_own ∙ (ap (key_along (map_number plan.objects place) (key_number (keys_in plan.scripts) key) None) (calls_at plan r left explains plainly worker line some)
            ∙ (ap (λ (v : Option ℕ). key_along (map_number plan.objects place) (key_number (keys_in plan.scripts) key) v (shared_in (items_in line.spelt))) (sym (get-empty (slice_cmp nat_cmp) key))
            ∙ (script_along plan place object at kind key known named plain worker 0 line.spelt empty (explains.are.each worker line some).calls (keyed worker line some) ∙ ap (λ (l : List Call). get (map_of place l) key) calls)))

      -- and none, where there is no such worker
      pub no_value : slice_get plan.scripts worker ≡ None → value_at (contents_after (contents_of plan) r.history) (map_number plan.objects place) (key_number (keys_in plan.scripts) key) ≡ None
      no_value is = along_own ∙ ap (key_along (map_number plan.objects place) (key_number (keys_in plan.scripts) key) None) (calls_past plan r left explains plainly worker (by_line (slice_get explains.lines worker) refl)) where
        by_line : (o : Option Line) → slice_get explains.lines worker ≡ o → slice_get explains.lines worker ≡ None
        by_line None none = none
        by_line (Some line) some = absurd (none-some (script_of line) (sym is ∙ scripted worker line some))
