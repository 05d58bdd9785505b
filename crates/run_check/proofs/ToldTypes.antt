-- The replies of a line's calls on maps and atomics are of the types that the calls of the script ask for.
use Rattle.std.proofs.Common.{◌≡◌, ◌⊎◌, inl, inr, ℕ, suc, ◌<◌, ◌≤◌, true, false, List, [], ◌∷◌, ◌++◌, map, length, get_or, Option, Some, None, slice_get, refl, sym, ap, ◌∙◌, subst, arith}
use Rattle.std.specs.List.{AllByRecursion, flat_map}
use Rattle.std.specs.Option.{option_map, option_map_or}
use Rattle.std.proofs.lemmas.List.{get_or_past, length-map}
use Rattle.std.proofs.lemmas.Option.{get_or_from_slice_get, none-some, same_Some, slice_get-map, slice_get_cases}
use Rattle.script_calls.specs.declared.call.Call.{Call}
use Rattle.script_calls.specs.declared.call.ComposedCall.TheVariants.{IfEqual, WaitFor}
use Rattle.script_calls.specs.declared.call.Operation.{Operation}
use Rattle.script_calls.specs.declared.call.Operation.TheVariants as operations
use Rattle.script_calls.specs.declared.outcome.Outcome.{Outcome}
use Rattle.sync_types.specs.declared.atomic_object.AtomicCall.{AtomicCall}
use Rattle.sync_types.specs.declared.atomic_object.AtomicCall.TheVariants.{Add, Load}
use Rattle.sync_types.specs.declared.atomic_object.AtomicKind.{AtomicKind}
use Rattle.sync_types.specs.declared.atomic_object.AtomicKind.TheVariants as types
use Rattle.sync_types.specs.declared.atomic_object.Number.TheVariants as numbers
use Rattle.sync_types.specs.declared.map_object.MapCall.{MapCall}
use Rattle.sync_types.specs.Renaming.{renamed_call}
use Rattle.sync_types.specs.SequentialAtomic.{kind_of, zero_of}
use Rattle.sync_model.specs.declared.item.Item.{Item}
use Rattle.sync_model.specs.declared.item.SharedCall.{SharedCall}
use Rattle.sync_model.specs.declared.item.SharedCall.TheVariants as calls
use Rattle.sync_model.specs.declared.item.SharedEntry.{SharedEntry}
use Rattle.sync_model.specs.declared.item.SharedReply.{SharedReply}
use Rattle.sync_model.specs.SharedCalls.{Lawful}
use Rattle.sync_model.specs.SharedHistory.{Contents, contents_at, map_at, number_at}
use Rattle.workload.specs.declared.object.ObjectKind.{ObjectKind}
use Rattle.workload.specs.declared.object.ObjectKind.TheVariants as kinds
use Rattle.workload.specs.declared.object.ObjectLine.{ObjectLine}
use Rattle.workload.specs.Keys.{key_number, keys_in}
use Rattle.workload.specs.Plan.{Plan, has_among, is_on, is_target, may_hold, refers}
use Rattle.workload.specs.Readable.{IsReadable}
use Rattle.run_record.specs.declared.made.Made.{Made}
use Rattle.run_record.specs.declared.made.Made.TheVariants.{Shared, Entered}
use Rattle.run_record.specs.Explains.{AreLines, IsRecordOf}
use Rattle.run_record.specs.Lines.{Line, SpeltCall, items_of}
use Rattle.run_record.specs.Objects.{atomic_number, contents_of, map_number, types_of}
use Rattle.run_record.specs.Record.{Record, calls_of, list_of, shared_in}
use Rattle.run_cuts.specs.CallsAlong.{calls_along}
use Rattle.shared_checks.specs.Placing.{IsOn}
use Rattle.record_text.proofs.OwnWords.{each_both, each_mono, each_split}
use Rattle.run_check.specs.declared.told.placing.Asked.{Asked}
use Rattle.run_check.specs.ToldItems.{asked_at, asked_by, asked_on, ranged_by, script_call, type_at as type_told, type_of}
use Rattle.run_check.proofs.OnObjects.{all_at, an_atomic, flown, get_map, int64, is_good, referred, script_good, spelt_is_on, type_at, valid_parts, zero_kind}
use Rattle.run_check.proofs.ToldCalls.{FitsCall, FitsIn, line_fits}
use Rattle.run_check.proofs.ToldHeld.{IsAnswered, KeepsTypes, answer_is, hold_at, hold_zeros, map_is, replied_64}
use Rattle.run_check.proofs.ToldPlaces.{AllOf}
use Rattle.run_check.proofs.ToldReplies.{SharedReplyIs}
use Rattle.run_check.proofs.ToldSums.{Has64}

-- each entry of a history is a call of its caller
abbrev pub EntriesAreCalls : Type 0
EntriesAreCalls = (start : Contents) (history : List SharedEntry) (calls : ℕ → List Item) (n : ℕ) (entry : SharedEntry) → Lawful start history calls → slice_get history n ≡ Some entry
    → (j : ℕ) × (x : Item) × (slice_get (calls entry.caller) j ≡ Some x) × (x.entry ≡ true) × (x.place ≡ n) × (x.call ≡ entry.call) × (x.reply ≡ entry.reply)

-- the call is the one that the script's call makes, and its reply is one of such; a step of a cursor is asked nothing here
abbrev pub CallFits : Plan → Option Call → SharedCall → SharedReply → Type 0
CallFits plan call (calls.Map m c) reply = (asked : Asked) × (asked_by plan call ≡ Some asked) × (asked.call ≡ calls.Map m c) × SharedReplyIs asked.kind (calls.Map m c) reply
CallFits plan call (calls.Atomic a c) reply = (asked : Asked) × (asked_by plan call ≡ Some asked) × (asked.call ≡ calls.Atomic a c) × SharedReplyIs asked.kind (calls.Atomic a c) reply
CallFits plan call (calls.Begin m) reply = ranged_by plan call ≡ Some m
CallFits plan call (calls.Next begin) reply = Unit {0}

abbrev pub TypeFits : Plan → Option Call → Made → Type 0
TypeFits plan call (Shared x) = CallFits plan call x.call x.reply
TypeFits plan call (Entered object entry) = Unit {0}

-- ---- the type that a call of a script asks for

module _ (plan : Plan) where
  declared_type : (place : ℕ) (object : ObjectLine) (type : AtomicKind) → slice_get plan.objects place ≡ Some object → object.kind ≡ kinds.Atomic type → kind_of (number_at (contents_of plan) (atomic_number plan.objects place)) ≡ type
  declared_type place object type at is =
      let a = atomic_number plan.objects place in
      let there = get_map zero_of (flat_map (λ (o : ObjectLine). types_of o.kind) plan.objects) a type (type_at plan.objects place object type at is) in
      ap kind_of (get_or_from_slice_get (contents_of plan).numbers a (zero_of type) (numbers.Bool false) there) ∙ zero_kind type

  told_type : (place : ℕ) (object : ObjectLine) (type : AtomicKind) → slice_get plan.objects place ≡ Some object → object.kind ≡ kinds.Atomic type → type ≡ type_told plan.objects place
  told_type place object type at is = sym (ap (λ (o : Option ObjectLine). option_map_or (λ (x : ObjectLine). type_of x.kind) o types.Int64) at ∙ ap type_of is)

  -- where the asked call is on an atomic, the type that this has is the asked one
  abbrev IsAskedType : Asked → Type 0
  IsAskedType asked = (a : ℕ) (c : AtomicCall) → asked.call ≡ calls.Atomic a c → kind_of (number_at (contents_of plan) a) ≡ asked.kind

  abbrev asks : (place : ℕ) → AtomicKind → AtomicCall → Asked
  asks place type call = record { call = calls.Atomic (atomic_number plan.objects place) call; kind = type }

  on_atomic : (place : ℕ) (type : AtomicKind) (call : AtomicCall) (asked : Asked) → kind_of (number_at (contents_of plan) (atomic_number plan.objects place)) ≡ type → Some (asks place type call) ≡ Some asked → IsAskedType asked
  on_atomic place type call asked has found a c same =
      let one : asks place type call ≡ asked = same_Some (asks place type call) asked found in
      let atomics : calls.Atomic (atomic_number plan.objects place) call ≡ calls.Atomic a c = ap (λ (x : Asked). x.call) one ∙ same in
      let number : atomic_number plan.objects place ≡ a = cc in
      ap (λ (n : ℕ). kind_of (number_at (contents_of plan) n)) (sym number) ∙ has ∙ ap (λ (x : Asked). x.kind) one

  on_map : (place : ℕ) (call : MapCall (List ℕ)) (asked : Asked) → asked_on plan place kinds.Map (operations.Map call) ≡ Some asked → IsAskedType asked
  on_map place call asked found a c same =
      let named = renamed_call (key_number (keys_in plan.scripts)) call in
      let made : Asked = record { call = calls.Map (map_number plan.objects place) named; kind = types.Int64 } in
      let atomics : calls.Map (map_number plan.objects place) named ≡ calls.Atomic a c = ap (λ (x : Asked). x.call) (same_Some made asked found) ∙ same in
      absurd cc

  asked_type : (place : ℕ) (object : ObjectLine) (kind : ObjectKind) (operation : Operation) (asked : Asked) → slice_get plan.objects place ≡ Some object → object.kind ≡ kind → has_among plan.objects kind operation ≡ true → refers plan.objects kind ≡ true
      → asked_on plan place kind operation ≡ Some asked → IsAskedType asked
  asked_type place object kinds.Map (operations.Map call) asked at is has refer found = on_map place call asked found
  asked_type place object (kinds.Atomic type) (operations.Atomic call) asked at is has refer found = on_atomic place type call asked (declared_type place object type at is) found
  asked_type place object (kinds.Atomic type) (operations.Composed (IfEqual value passes)) asked at is has refer found =
      on_atomic place (type_told plan.objects place) Load asked (declared_type place object type at is ∙ told_type place object type at is) found
  asked_type place object (kinds.Cond mutex) (operations.Composed (WaitFor atomic value tries)) asked at is has refer found =
      let (held, there, may) = referred plan (may_hold value) (slice_get plan.objects atomic) has in
      let (type, of) = an_atomic plan value held.kind may in
      on_atomic atomic (type_told plan.objects atomic) Load asked (declared_type atomic held type there of ∙ told_type atomic held type there of) found
  asked_type place object (kinds.Once atomic delta) operations.Once asked at is has refer found =
      let (held, there, target) = referred plan (is_target (kinds.Once atomic delta)) (slice_get plan.objects atomic) refer in
      on_atomic atomic types.Int64 (Add (numbers.Int64 delta)) asked (declared_type atomic held types.Int64 there (int64 plan atomic delta held.kind target)) found
  asked_type place object (kinds.Flight atomic delta) (operations.Fly key) asked at is has refer found =
      let (held, there, target) = referred plan (is_target (kinds.Flight atomic delta)) (slice_get plan.objects atomic) refer in
      on_atomic atomic types.Int64 (Add (numbers.Int64 delta)) asked (declared_type atomic held types.Int64 there (flown plan atomic delta held.kind target)) found
  asked_type place object kind operation asked at is has refer found = absurd (none-some asked found)

  module _ (readable : IsReadable plan) where
    of_object : (call : Call) (asked : Asked) (found : Option ObjectLine) → slice_get plan.objects call.object ≡ found → is_on plan.objects found call ≡ true → asked_at plan found call ≡ Some asked → IsAskedType asked
    of_object call asked None at good is = absurd (none-some asked is)
    of_object call asked (Some object) at good is =
        asked_type call.object object object.kind call.operation asked at refl good (all_at plan (λ (o : ObjectLine). refers plan.objects o.kind) plan.objects call.object object (valid_parts plan readable).1 at) is

    of_script : (worker place : ℕ) (asked : Asked) (found : Option Call) → slice_get (get_or plan.scripts worker []) place ≡ found → asked_by plan found ≡ Some asked → IsAskedType asked
    of_script worker place asked None at is = absurd (none-some asked is)
    of_script worker place asked (Some call) at is =
        of_object call asked (slice_get plan.objects call.object) refl (all_at plan (is_good plan) (get_or plan.scripts worker []) place call (script_good plan plan.scripts worker (valid_parts plan readable).0) at) is

    of_index : (worker : ℕ) (index : Option ℕ) (asked : Asked) → asked_by plan (script_call plan worker index) ≡ Some asked → IsAskedType asked
    of_index worker None asked is = absurd (none-some asked is)
    of_index worker (Some place) asked is = of_script worker place asked (slice_get (get_or plan.scripts worker []) place) refl is

-- ---- the calls of a line

-- a call is answered by what the maps and atomics contain
abbrev Answered : Contents → Made → Type 0
Answered start (Shared x) = IsAnswered start x.call x.reply
Answered start (Entered object entry) = Unit {0}

all_answered : (start : Contents) (items : List Made) → ((j : ℕ) (x : Item) → slice_get (shared_in items) j ≡ Some x → IsAnswered start x.call x.reply) → AllByRecursion (Answered start) items
all_answered start [] each = tt
all_answered start (Shared x ∷ items) each = (each 0 x refl, all_answered start items (λ j y at. each (suc j) y at))
all_answered start (Entered object entry ∷ items) each = (tt, all_answered start items each)

module _ (keeps : KeepsTypes) (entered : EntriesAreCalls) (plan : Plan) (outcome : Outcome) (r : Record) (readable : IsReadable plan) (lawful : IsRecordOf plan r) (lines : List Line) (are : AreLines plan r outcome lines) where
  list_is : (worker : ℕ) (line : Line) → slice_get lines worker ≡ Some line → list_of r worker ≡ items_of line
  list_is worker line there =
      ap (λ (ls : List (List Made)). get_or ls worker []) (sym are.lists)
      ∙ get_or_from_slice_get (map items_of lines) worker (items_of line) [] (slice_get-map items_of lines worker ∙ ap (option_map items_of) there)

  -- each call of a worker is on what is there
  call_on : (worker j : ℕ) (x : Item) → slice_get (calls_of r worker) j ≡ Some x → IsOn (contents_of plan) x.call
  call_on worker j x at = by (slice_get_cases lines worker).1 where
    by : ((line : Line) × (worker < length lines) × (slice_get lines worker ≡ Some line) × (get_or lines worker line ≡ line)) ⊎ ((length lines ≤ worker) × (slice_get lines worker ≡ None)) → IsOn (contents_of plan) x.call
    by (inl (line, within, there, read)) =
        spelt_is_on plan worker j line x readable (are.runs worker line there) (are.each worker line there) (ap (λ (l : List Made). slice_get (shared_in l) j) (sym (list_is worker line there)) ∙ at)
    by (inr (past, none)) =
        let count : length (map items_of lines) ≡ length lines = length-map lines items_of in
        let empty : list_of r worker ≡ [] = ap (λ (ls : List (List Made)). get_or ls worker []) (sym are.lists) ∙ get_or_past (map items_of lines) worker [] (omega (arith, past, count)) in
        absurd (none-some x (ap (λ (l : List Made). slice_get (shared_in l) j) (sym empty) ∙ at))

  entry_on : (n : ℕ) (entry : SharedEntry) → slice_get r.history n ≡ Some entry → IsOn (contents_of plan) entry.call
  entry_on n entry at =
      let (j, x, there, marked, place, call, reply) = entered (contents_of plan) r.history (calls_of r) n entry lawful.shared at in
      subst (IsOn (contents_of plan)) call (call_on entry.caller j x there)

  answered : (worker j : ℕ) (x : Item) → slice_get (calls_of r worker) j ≡ Some x → IsAnswered (contents_of plan) x.call x.reply
  answered worker j x at = record {
    contents = contents_at (contents_of plan) r.history x.place;
    holds = hold_at keeps (contents_of plan) (contents_of plan) r.history x.place entry_on (hold_zeros (contents_of plan) (flat_map (λ (o : ObjectLine). types_of o.kind) plan.objects) refl);
    on = call_on worker j x at;
    is = (lawful.shared.sound worker j x at).reply;
  }

  line_answered : (worker : ℕ) (line : Line) → slice_get lines worker ≡ Some line → AllByRecursion (Answered (contents_of plan)) (items_of line)
  line_answered worker line there = all_answered (contents_of plan) (items_of line) (λ j x at. answered worker j x (ap (λ (l : List Made). slice_get (shared_in l) j) (list_is worker line there) ∙ at))

  call_fits : (worker : ℕ) (index : Option ℕ) (call : SharedCall) (reply : SharedReply) → FitsCall (asked_by plan (script_call plan worker index)) (ranged_by plan (script_call plan worker index)) call → IsAnswered (contents_of plan) call reply
      → CallFits plan (script_call plan worker index) call reply
  call_fits worker index (calls.Map m c) reply (asked, is, same) answer = (asked, is, same, subst (SharedReplyIs asked.kind (calls.Map m c)) (sym answer.is) (map_is c (map_at answer.contents m)))
  call_fits worker index (calls.Atomic a c) reply (asked, is, same) answer =
      (asked, is, same, subst (SharedReplyIs asked.kind (calls.Atomic a c)) (sym answer.is) (answer_is keeps (contents_of plan) asked.kind a c reply (of_index plan readable worker index asked is a c same) answer))
  call_fits worker index (calls.Begin m) reply fits answer = fits
  call_fits worker index (calls.Next begin) reply fits answer = tt

  type_fits : (worker : ℕ) (index : Option ℕ) (made : Made) → FitsIn plan (script_call plan worker index) made → Answered (contents_of plan) made → TypeFits plan (script_call plan worker index) made
  type_fits worker index (Shared x) fits answer = call_fits worker index x.call x.reply fits answer
  type_fits worker index (Entered object entry) fits answer = tt

  all_fit : (worker : ℕ) (items : List Made) (indices : List (Option ℕ)) → AllOf plan worker (FitsIn plan) items indices → AllByRecursion (Answered (contents_of plan)) items → AllOf plan worker (TypeFits plan) items indices
  all_fit worker [] [] fit each = tt
  all_fit worker [] (index ∷ indices) fit each = absurd fit
  all_fit worker (made ∷ items) [] fit each = absurd fit
  all_fit worker (made ∷ items) (index ∷ indices) fit each = (type_fits worker index made fit.0 each.0, all_fit worker items indices fit.1 each.1)

  -- each call on a map or an atomic in a line is the one that the script's call makes, and its reply is of the type
  pub line_calls : (worker : ℕ) (line : Line) → slice_get lines worker ≡ Some line → AllOf plan worker (TypeFits plan) (line.first ++ (flat_map (λ (s : SpeltCall). s.items) line.spelt ++ line.last)) (calls_along line)
  line_calls worker line there =
      let spelt = flat_map (λ (s : SpeltCall). s.items) line.spelt in
      let first = each_split (Answered (contents_of plan)) line.first (spelt ++ (line.last ++ line.halts)) (line_answered worker line there) in
      let later = each_split (Answered (contents_of plan)) spelt (line.last ++ line.halts) first.1 in
      let last = each_split (Answered (contents_of plan)) line.last line.halts later.1 in
      all_fit worker (line.first ++ (spelt ++ line.last)) (calls_along line) (line_fits plan worker line (are.each worker line there) (are.runs worker line there))
      (each_both (Answered (contents_of plan)) line.first (spelt ++ line.last) first.0 (each_both (Answered (contents_of plan)) spelt line.last later.0 last.0))

  has_64 : (made : Made) → Answered (contents_of plan) made → Has64 made
  has_64 (Shared x) answer = λ z is. replied_64 keeps (contents_of plan) x.call x.reply z answer is
  has_64 (Entered object entry) answer = tt

  -- each sum that is replied in a line has 64 bits
  pub line_64 : (worker : ℕ) (line : Line) → slice_get lines worker ≡ Some line → AllByRecursion Has64 (items_of line)
  line_64 worker line there = each_mono (Answered (contents_of plan)) Has64 has_64 (items_of line) (line_answered worker line there)
