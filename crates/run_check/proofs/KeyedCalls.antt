-- Each call on a map that a text tells is by a key of the workload: a line names a call of a script. So no map ever has another key.
use Rattle.std.proofs.Common.{◌≡◌, ◌≢◌, ◌⊎◌, inl, inr, ℕ, zero, suc, ◌+◌, ◌<◌, ◌≤◌, Bool, true, false, ◌||◌, ◌==◌, cond, List, [], ◌∷◌, map, length, replicate, get_or, set, Option, Some, None, slice_get, refl, sym, ap, ◌∙◌, subst, arith}
use Rattle.std.specs.List.{flat_map, list_any, position_from}
use Rattle.std.specs.Option.{option_map, option_map_or, option_to_list}
use Rattle.std.specs.Ordering.{nat_cmp}
use Rattle.std.specs.FinMap.{FinMap, empty, get, get-empty}
use Rattle.std.specs.Str.{bytes_eq}
use Rattle.std.proofs.lemmas.Bool.{cases_lt, eqb-false, eqb-true, false≢true}
use Rattle.std.proofs.lemmas.List.{get_or-replicate, get_or_past, length-map, length-replicate}
use Rattle.std.proofs.lemmas.List.Folds.{list_any-append}
use Rattle.std.proofs.lemmas.Option.{get_or_from_slice_get, none-some, same_Some, slice_get-map, slice_get_cases, slice_get_within}
use Rattle.std.proofs.lemmas.Slice.Eq.{bytes_eq-Decides}
use Rattle.script_calls.specs.declared.call.Call.{Call}
use Rattle.script_calls.specs.declared.call.ComposedCall.TheVariants.{IfEqual, WaitFor}
use Rattle.script_calls.specs.declared.call.Operation.{Operation}
use Rattle.script_calls.specs.declared.call.Operation.TheVariants as operations
use Rattle.sync_types.specs.declared.atomic_object.AtomicKind.{AtomicKind}
use Rattle.sync_types.specs.declared.map_object.MapCall.{MapCall}
use Rattle.sync_types.specs.declared.map_object.MapCall.TheVariants.{Load, Store, LoadOrStore, LoadAndDelete, Delete, Swap, CompareAndSwap, CompareAndDelete, Clear}
use Rattle.sync_types.specs.declared.map_object.MapReply.{MapReply}
use Rattle.sync_types.specs.declared.map_object.MapReply.TheVariants as found
use Rattle.sync_types.specs.Renaming.{renamed_call}
use Rattle.sync_types.specs.SequentialMap.{map_after, map_key, map_reply}
use Rattle.sync_model.specs.declared.item.Item.{Item}
use Rattle.sync_model.specs.declared.item.SharedCall.{SharedCall}
use Rattle.sync_model.specs.declared.item.SharedCall.TheVariants as calls
use Rattle.sync_model.specs.declared.item.SharedEntry.{SharedEntry}
use Rattle.sync_model.specs.declared.item.SharedReply.{SharedReply}
use Rattle.sync_model.specs.declared.item.SharedReply.TheVariants as answers
use Rattle.sync_model.specs.declared.journal.Deed.{Deed}
use Rattle.sync_model.specs.SharedHistory.{Contents, contents_at, first_contents, map_at, shared_after, value_at}
use Rattle.workload.specs.declared.object.ObjectKind.{ObjectKind}
use Rattle.workload.specs.declared.object.ObjectKind.TheVariants as kinds
use Rattle.workload.specs.declared.object.ObjectLine.{ObjectLine}
use Rattle.workload.specs.Draft.{all_keys, keys_of, operation_keys}
use Rattle.workload.specs.Keys.{key_number, keys_in, number_in}
use Rattle.workload.specs.Plan.{Plan}
use Rattle.run_record.specs.declared.entered.ObjectEvent.{ObjectEvent}
use Rattle.run_record.specs.declared.entered.ObjectReply.{ObjectReply}
use Rattle.run_record.specs.declared.made.Made.{Made}
use Rattle.run_record.specs.declared.made.Made.TheVariants.{Shared, Entered}
use Rattle.run_record.specs.Record.{calls_of, shared_in}
use Rattle.record_text.specs.declared.item_line.ItemLine.{ItemLine}
use Rattle.record_text.specs.declared.item_line.PlacedReply.{PlacedReply}
use Rattle.record_text.specs.declared.item_line.Said.{Said}
use Rattle.record_text.specs.declared.item_line.Said.TheVariants as said
use Rattle.record_text.specs.Told.{Told, items_of}
use Rattle.run_check.specs.declared.told.along.Along.{Along}
use Rattle.run_check.specs.declared.told.placing.Asked.{Asked}
use Rattle.run_check.specs.declared.told.sketch.Sketch.{Sketch}
use Rattle.run_check.specs.declared.told.sketch.Sketch.TheVariants as sketches
use Rattle.run_check.specs.Deeds.{deed_told}
use Rattle.run_check.specs.ToldItems.{Kept, Sketched, along_behind, along_start, asked_at, asked_by, asked_on, entered, kept_by, list_told, made_of, may_be_of, ranged_by, replied, script_call, sketch_told, sketched_before, speaker_of, worker_told}
use Rattle.run_check.specs.Replies.{reply_told}
use Rattle.record_clauses.specs.Account.{Account, Claim, ToldItem, made_in, record_of}
use Rattle.run_check.specs.Items.{told_item, unmarked_item, unmarked_made}
use Rattle.run_check.specs.Tells.{Tells}
use Rattle.run_check.proofs.ToldLists.{mapped}

-- ---- the key of a call of a script

or_first : (a b : Bool) → a ≡ true → (a || b) ≡ true
or_first true b is = refl
or_first false b is = absurd cc

or_second : (a b : Bool) → b ≡ true → (a || b) ≡ true
or_second true b is = refl
or_second false b is = is

module _ {A : Type 0} where
  among_all : {B : Type 0} (f : A → List B) (p : B → Bool) (xs : List A) (i : ℕ) (x : A) → slice_get xs i ≡ Some x → list_any p (f x) ≡ true → list_any p (flat_map f xs) ≡ true
  among_all f p [] i x at any = absurd (none-some x at)
  among_all f p (y ∷ ys) zero x at any = list_any-append p (f y) (flat_map f ys) ∙ or_first (list_any p (f y)) (list_any p (flat_map f ys)) (ap (λ (z : A). list_any p (f z)) (same_Some y x at) ∙ any)
  among_all f p (y ∷ ys) (suc i) x at any = list_any-append p (f y) (flat_map f ys) ∙ or_second (list_any p (f y)) (list_any p (flat_map f ys)) (among_all f p ys i x at any)

  script_at : (scripts : List (List A)) (worker i : ℕ) (x : A) → slice_get (get_or scripts worker []) i ≡ Some x → (script : List A) × (slice_get scripts worker ≡ Some script) × (slice_get script i ≡ Some x)
  script_at [] worker i x at = absurd (none-some x at)
  script_at (script ∷ scripts) zero i x at = (script, refl, at)
  script_at (script ∷ scripts) (suc worker) i x at = script_at scripts worker i x at

position_of : (p : List ℕ → Bool) (from : ℕ) (names : List (List ℕ)) → list_any p names ≡ true → (n : ℕ) × (position_from p from names ≡ Some n)
position_of p from [] any = absurd (false≢true any)
position_of p from (name ∷ names) any =
    elim (p name) as (λ b. (b || list_any p names) ≡ true → (n : ℕ) × (cond b (Some from) (position_from p (from + 1) names) ≡ Some n)) [
      | true ↦ λ t. (from, refl)
      | false ↦ λ rest. position_of p (from + 1) names rest
    ] any

number_within : (keys : List (List ℕ)) (name : List ℕ) → ((number : ℕ) → number_in keys name ≡ Some number → slice_get keys number ≡ Some name) → list_any (bytes_eq name) keys ≡ true → key_number keys name < length keys
number_within keys name at any =
    let place = position_of (bytes_eq name) 0 keys any in
    let is : key_number keys name ≡ place.0 = ap (λ (o : Option ℕ). option_map_or (λ n. n) o 0) place.1 in
    omega (arith, slice_get_within keys place.0 name (at place.0 place.1))

module _ (keys : List (List ℕ)) where
  numbered : (name : List ℕ) (key : ℕ) → key_number keys name < length keys → Some (key_number keys name) ≡ Some key → key < length keys
  numbered name key within is = subst (λ n. n < length keys) (same_Some (key_number keys name) key is) within

  key_of : (call : MapCall (List ℕ)) → ((name : List ℕ) → map_key call ≡ Some name → key_number keys name < length keys) → (key : ℕ) → map_key (renamed_call (key_number keys) call) ≡ Some key → key < length keys
  key_of (Load name) known key is = numbered name key (known name refl) is
  key_of (Store name value) known key is = numbered name key (known name refl) is
  key_of (LoadOrStore name value) known key is = numbered name key (known name refl) is
  key_of (LoadAndDelete name) known key is = numbered name key (known name refl) is
  key_of (Delete name) known key is = numbered name key (known name refl) is
  key_of (Swap name value) known key is = numbered name key (known name refl) is
  key_of (CompareAndSwap name old new) known key is = numbered name key (known name refl) is
  key_of (CompareAndDelete name old) known key is = numbered name key (known name refl) is
  key_of Clear known key is = absurd (none-some key is)

key_among : (operation : Operation) (call : MapCall (List ℕ)) (name : List ℕ) → operation ≡ operations.Map call → map_key call ≡ Some name → list_any (bytes_eq name) (operation_keys operation) ≡ true
key_among operation call name is at =
    ap (λ (o : Operation). list_any (bytes_eq name) (operation_keys o)) is ∙ ap (λ (key : Option (List ℕ)). list_any (bytes_eq name) (option_to_list key)) at ∙ or_first (bytes_eq name name) false ((bytes_eq-Decides name name).1 refl)

-- what is used of the numbers of keys
pub record AreNumbered (plan : Plan) : Type 0 where
  pub among : (name : List ℕ) → list_any (bytes_eq name) (keys_in plan.scripts) ≡ list_any (bytes_eq name) (all_keys plan.scripts)
  pub number : (name : List ℕ) (number : ℕ) → number_in (keys_in plan.scripts) name ≡ Some number → slice_get (keys_in plan.scripts) number ≡ Some name

-- an operation on a map is by a key that the workload has
abbrev IsNamed : Plan → Operation → Type 0
IsNamed plan operation = (call : MapCall (List ℕ)) → operation ≡ operations.Map call → (key : ℕ) → map_key (renamed_call (key_number (keys_in plan.scripts)) call) ≡ Some key → key < length (keys_in plan.scripts)

scripted : (plan : Plan) → AreNumbered plan → (worker i : ℕ) (call : Call) → slice_get (get_or plan.scripts worker []) i ≡ Some call → IsNamed plan call.operation
scripted plan are worker i call at op is key has = key_of (keys_in plan.scripts) op known key has where
  known : (name : List ℕ) → map_key op ≡ Some name → key_number (keys_in plan.scripts) name < length (keys_in plan.scripts)
  known name of =
      let script = script_at plan.scripts worker i call at in
      let any = among_all (flat_map keys_of) (bytes_eq name) plan.scripts worker script.0 script.1 (among_all keys_of (bytes_eq name) script.0 i call script.2 (key_among call.operation op name is of)) in
      number_within (keys_in plan.scripts) name (are.number name) (are.among name ∙ any)

-- ---- the calls that lines tell

-- a call on a map is by a key of so many
abbrev pub KnowsKey : ℕ → SharedCall → Type 0
KnowsKey keys (calls.Map m call) = (key : ℕ) → map_key call ≡ Some key → key < keys
KnowsKey keys (calls.Begin m) = Unit {0}
KnowsKey keys (calls.Next begin) = Unit {0}
KnowsKey keys (calls.Atomic a call) = Unit {0}

module _ (keys : ℕ) where
  abbrev KnownMade : Made → Type 0
  KnownMade (Shared x) = KnowsKey keys x.call
  KnownMade (Entered object entry) = Unit {0}

  abbrev KnownSketch : Sketch → Type 0
  KnownSketch (sketches.Shared call reply place) = KnowsKey keys call
  KnownSketch (sketches.Entered object number deed) = Unit {0}

  abbrev KnownAsked : Option Asked → Type 0
  KnownAsked None = Unit {0}
  KnownAsked (Some asked) = KnowsKey keys asked.call

  abbrev AllSketched : List Sketched → Type 0
  AllSketched [] = Unit {0}
  AllSketched (s ∷ items) = KnownSketch s.sketch × AllSketched items

  abbrev AllKnown : List Made → Type 0
  AllKnown [] = Unit {0}
  AllKnown (m ∷ list) = KnownMade m × AllKnown list

  known_replied : (place : ℕ) (word : PlacedReply) (asked : Option Asked) (sketch : Sketch) → KnownAsked asked → replied place word asked ≡ Some sketch → KnownSketch sketch
  known_replied place word None sketch known is = absurd cc
  known_replied place word (Some asked) sketch known is =
      let (answer, told, same) = mapped (λ (a : SharedReply). sketches.Shared asked.call a place) (reply_told asked.kind asked.call word) sketch is in subst KnownSketch same known

  known_deed : (object number : ℕ) (deed : Option (Deed ObjectEvent ObjectReply)) (sketch : Sketch) → option_map (sketches.Entered object number) deed ≡ Some sketch → KnownSketch sketch
  known_deed object number deed sketch is = let (one, told, same) = mapped (sketches.Entered object number) deed sketch is in subst KnownSketch same tt

  known_if : (may : Bool) (one : Option Sketch) (sketch : Sketch) → (one ≡ Some sketch → KnownSketch sketch) → cond may one None ≡ Some sketch → KnownSketch sketch
  known_if true one sketch known is = known is
  known_if false one sketch known is = absurd cc

  known_made : (worker : ℕ) (front : List ℕ) (sketch : Sketch) → KnownSketch sketch → KnownMade (made_of worker front sketch)
  known_made worker front (sketches.Shared call reply place) known = known
  known_made worker front (sketches.Entered object number deed) known = tt

  known_unmarked : (m : Made) → KnownMade (unmarked_made m) → KnownMade m
  known_unmarked (Shared x) known = known
  known_unmarked (Entered object entry) known = tt

  known_items : (worker : ℕ) (items : List Sketched) (list : List ToldItem) → map (told_item worker) items ≡ map unmarked_item list → AllSketched items → AllKnown (made_in list)
  known_items worker items [] same all = tt
  known_items worker [] (x ∷ list) same all = absurd cc
  known_items worker (s ∷ items) (x ∷ list) same all =
      let first : told_item worker s ≡ unmarked_item x = cc in
      let rest : map (told_item worker) items ≡ map unmarked_item list = cc in
      (known_unmarked x.made (subst KnownMade (ap (λ (t : ToldItem). t.made) first) (known_made worker s.front s.sketch all.0)), known_items worker items list rest all.1)

  known_shared : (list : List Made) → AllKnown list → (i : ℕ) (x : Item) → slice_get (shared_in list) i ≡ Some x → KnowsKey keys x.call
  known_shared [] all i x at = absurd cc
  known_shared (Shared y ∷ list) all zero x at = subst (λ (z : Item). KnowsKey keys z.call) (let same : y ≡ x = cc in same) all.0
  known_shared (Shared y ∷ list) all (suc i) x at = known_shared list all.1 i x at
  known_shared (Entered object entry ∷ list) all i x at = known_shared list all.1 i x at

module _ (plan : Plan) (are : AreNumbered plan) where
  abbrev count : ℕ
  count = length (keys_in plan.scripts)

  known_on : (place : ℕ) (kind : ObjectKind) (operation : Operation) → IsNamed plan operation → KnownAsked count (asked_on plan place kind operation)
  known_on place kinds.Map (operations.Map call) named = named call refl
  known_on place (kinds.Atomic type) (operations.Atomic call) named = tt
  known_on place (kinds.Atomic type) (operations.Composed (IfEqual value passes)) named = tt
  known_on place (kinds.Cond mutex) (operations.Composed (WaitFor atomic value tries)) named = tt
  known_on place (kinds.Once atomic delta) operations.Once named = tt
  known_on place (kinds.Flight atomic delta) (operations.Fly key) named = tt
  known_on place kind operation named = tt

  known_at : (object : Option ObjectLine) (call : Call) → IsNamed plan call.operation → KnownAsked count (asked_at plan object call)
  known_at None call named = tt
  known_at (Some object) call named = known_on call.object object.kind call.operation named

  known_by : (call : Option Call) → ((one : Call) → call ≡ Some one → IsNamed plan one.operation) → KnownAsked count (asked_by plan call)
  known_by None named = tt
  known_by (Some call) named = known_at (slice_get plan.objects call.object) call (named call refl)

  module _ (kept : Kept) (worker : ℕ) where
    named_script : (index : Option ℕ) (call : Call) → script_call plan worker index ≡ Some call → IsNamed plan call.operation
    named_script None call is = absurd (none-some call is)
    named_script (Some index) call is = scripted plan are worker index call is

    known_sketch : (along : Along) (index : Option ℕ) (what : Said) (sketch : Sketch) → sketch_told plan kept worker along index what ≡ Some sketch → KnownSketch count sketch
    known_sketch along index (said.Call place word) sketch is = known_replied count place word (asked_by plan (script_call plan worker index)) sketch (known_by (script_call plan worker index) (named_script index)) is
    known_sketch along index (said.Begin reach) sketch is =
        let (m, told, same) = mapped (λ (m : ℕ). sketches.Shared (calls.Begin m) answers.Begun reach) (ranged_by plan (script_call plan worker index)) sketch is in subst (KnownSketch count) same tt
    known_sketch along index (said.Next reach shown) sketch is = subst (KnownSketch count) (same_Some (sketches.Shared (calls.Next along.begin) (answers.Shown shown) reach) sketch is) tt
    known_sketch along index (said.Entered object number event answer) sketch is =
        known_if count (may_be_of index event) (entered (speaker_of plan kept object worker along.sum) object number event answer) sketch
        (known_deed count object number (deed_told (speaker_of plan kept object worker along.sum) event answer) sketch) is

    known_list : (along : Along) (lines : List ItemLine) (items : List Sketched) → list_told plan kept worker along lines ≡ Some items → AllSketched count items
    known_list along [] items is = subst (AllSketched count) (same_Some [] items is) tt
    known_list along (line ∷ lines) items is =
        by (known_list (along_behind along line.said) lines) (sketch_told plan kept worker along line.index line.said) refl (list_told plan kept worker (along_behind along line.said) lines) refl is
      where
        by : ((later : List Sketched) → list_told plan kept worker (along_behind along line.said) lines ≡ Some later → AllSketched count later)
            → (one : Option Sketch) → sketch_told plan kept worker along line.index line.said ≡ one → (more : Option (List Sketched)) → list_told plan kept worker (along_behind along line.said) lines ≡ more
            → sketched_before line one more ≡ Some items → AllSketched count items
        by each None told more rest all = absurd cc
        by each (Some sketch) told None rest all = absurd cc
        by each (Some sketch) told (Some more) rest all =
            subst (AllSketched count) (same_Some (record { index = line.index; front = line.front; sketch = sketch } ∷ more) items all) (known_sketch along line.index line.said sketch told, each more rest)

-- each call of a claim that a text tells
pub told_known : (told : Told) (claim : Claim) → Tells told claim → AreNumbered told.plan → (account : Account) (worker i : ℕ) (x : Item) → slice_get (calls_of (record_of claim account) worker) i ≡ Some x → KnowsKey (length (keys_in told.plan.scripts)) x.call
told_known told claim tells are account worker i x at = by (slice_get_cases claim.lists worker).1 where
  by : ((list : List ToldItem) × (worker < length claim.lists) × (slice_get claim.lists worker ≡ Some list) × (get_or claim.lists worker list ≡ list)) ⊎ ((length claim.lists ≤ worker) × (slice_get claim.lists worker ≡ None)) → KnowsKey (length (keys_in told.plan.scripts)) x.call
  by (inl (list, within, there, read)) =
      let (items, is, same) = mapped (λ (ss : List Sketched). map (told_item worker) ss) (worker_told told.plan told.items worker) (map unmarked_item list) (tells.lists worker list there) in
      let known = known_items (length (keys_in told.plan.scripts)) worker items list same (known_list told.plan are (kept_by told.items told.plan.workers) worker along_start (items_of told.items worker) items is) in
      let made : get_or (map made_in claim.lists) worker [] ≡ made_in list = get_or_from_slice_get (map made_in claim.lists) worker (made_in list) [] (slice_get-map made_in claim.lists worker ∙ ap (λ (o : Option (List ToldItem)). option_map made_in o) there) in
      known_shared (length (keys_in told.plan.scripts)) (made_in list) known i x (subst (λ (ms : List Made). slice_get (shared_in ms) i ≡ Some x) made at)
  by (inr (past, none)) =
      let long = length-map claim.lists made_in in
      let made : get_or (map made_in claim.lists) worker [] ≡ [] = get_or_past (map made_in claim.lists) worker [] (omega (arith, past, long)) in
      absurd (none-some x (subst (λ (ms : List Made). slice_get (shared_in ms) i ≡ Some x) made at))

-- ---- the keys that maps have

abbrev found_in : MapReply → Option ℕ
found_in (found.Found value) = value
found_in found.Done = None
found_in (found.Settled value loaded) = None
found_in (found.Compared is) = None

set_at : {A : Type 0} (xs : List A) (i j : ℕ) (y d : A) → (get_or (set xs i y) j d ≡ y) ⊎ (get_or (set xs i y) j d ≡ get_or xs j d)
set_at [] i j y d = inr refl
set_at (x ∷ xs) zero zero y d = inl refl
set_at (x ∷ xs) zero (suc j) y d = inr refl
set_at (x ∷ xs) (suc i) zero y d = inr refl
set_at (x ∷ xs) (suc i) (suc j) y d = set_at xs i j y d

-- maps have keys of so many alone
abbrev pub HaveKeys : ℕ → Contents → Type 0
HaveKeys keys contents = (m key value : ℕ) → value_at contents m key ≡ Some value → key < keys

abbrev pub LeaveOthers : Type 0
LeaveOthers = (m : FinMap nat_cmp ℕ) (call : MapCall ℕ) (key other : ℕ) → map_key call ≡ Some key → other ≢ key → map_reply (Load other) (map_after call m) ≡ map_reply (Load other) m

abbrev pub OnlyClears : Type 0
OnlyClears = (call : MapCall ℕ) → map_key call ≡ None → call ≡ Clear

module _ (keys : ℕ) (leaves : LeaveOthers) (clears : OnlyClears) where
  keys_after : (m : FinMap nat_cmp ℕ) (call : MapCall ℕ) → ((k : ℕ) → map_key call ≡ Some k → k < keys) → ((key value : ℕ) → get m key ≡ Some value → key < keys) → (key value : ℕ) → get (map_after call m) key ≡ Some value → key < keys
  keys_after m call is within key value there = by_key (map_key call) refl where
    by_key : (o : Option ℕ) → map_key call ≡ o → key < keys
    by_key None none = absurd (none-some value (sym (get-empty nat_cmp key) ∙ subst (λ (c : MapCall ℕ). get (map_after c m) key ≡ Some value) (clears call none) there))
    by_key (Some k) has = by_same (k == key) refl where
      by_same : (b : Bool) → (k == key) ≡ b → key < keys
      by_same true same = subst (λ (n : ℕ). n < keys) (eqb-true k key same) (is k has)
      by_same false other = within key value (sym (ap found_in (leaves m call k key has (λ same. eqb-false k key other (sym same)))) ∙ there)

  keys_stay : (call : SharedCall) (contents : Contents) → KnowsKey keys call → HaveKeys keys contents → HaveKeys keys (shared_after call contents)
  keys_stay (calls.Map n call) contents is within = λ m key value there. elim (set_at contents.maps n m (map_after call (map_at contents n)) empty) [
    | inl new ↦ keys_after (map_at contents n) call is (within n) key value (sym (ap (λ held. get held key) new) ∙ there)
    | inr same ↦ within m key value (sym (ap (λ held. get held key) same) ∙ there)
  ]
  keys_stay (calls.Begin n) contents is within = within
  keys_stay (calls.Next begin) contents is within = within
  keys_stay (calls.Atomic a call) contents is within = within

  keys_along : (n : ℕ) (contents : Contents) (history : List SharedEntry) → ((k : ℕ) (entry : SharedEntry) → slice_get history k ≡ Some entry → KnowsKey keys entry.call) → HaveKeys keys contents → HaveKeys keys (contents_at contents history n)
  keys_along zero contents history known within = within
  keys_along (suc n) contents [] known within = within
  keys_along (suc n) contents (entry ∷ later) known within = keys_along n (shared_after entry.call contents) later (λ k one at. known (suc k) one at) (keys_stay entry.call contents (known 0 entry refl) within)

  none_first : (many : ℕ) (types : List AtomicKind) (m key : ℕ) → value_at (first_contents many types) m key ≡ None
  none_first many types m key = elim (cases_lt m many) [
    | inl there ↦ ap (λ held. get held key) (get_or-replicate many m empty empty there) ∙ get-empty nat_cmp key
    | inr past ↦ ap (λ held. get held key) (get_or_past (replicate many empty) m empty (let long = length-replicate many (empty {X = ℕ} {R = nat_cmp}) in omega arith)) ∙ get-empty nat_cmp key
  ]

  pub keys_at : (many : ℕ) (types : List AtomicKind) (history : List SharedEntry) → ((k : ℕ) (entry : SharedEntry) → slice_get history k ≡ Some entry → KnowsKey keys entry.call) → (n : ℕ) → HaveKeys keys (contents_at (first_contents many types) history n)
  keys_at many types history known n = keys_along n (first_contents many types) history known (λ m key value there. absurd (none-some value (sym (none_first many types m key) ∙ there)))
