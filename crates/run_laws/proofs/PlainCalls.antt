-- What the items of a call are, of a workload whose objects are maps, atomics and mutexes alone.
use Rattle.std.proofs.Common.{◌≡◌, ℕ, zero, suc, Bool, true, false, List, [], ◌∷◌, ◌++◌, map, Option, Some, None, slice_get, refl, sym, ap, ◌∙◌}
use Rattle.std.specs.Prelude.{◌&&◌, unwrap_or, Ok}
use Rattle.std.specs.List.{list_all}
use Rattle.std.proofs.lemmas.Bool.{false≢true, and_parts}
use Rattle.std.proofs.lemmas.Option.{none-some}
use Rattle.sync_model.specs.declared.answer.Answer.TheVariants.{Done}
use Rattle.sync_types.specs.declared.atomic_object.AtomicCall.{AtomicCall}
use Rattle.sync_types.specs.declared.atomic_object.AtomicCall.TheVariants.{Load}
use Rattle.sync_types.specs.declared.atomic_object.AtomicKind.{AtomicKind}
use Rattle.sync_types.specs.declared.atomic_object.AtomicReply.TheVariants.{Compared}
use Rattle.sync_types.specs.declared.atomic_object.Number.{Number}
use Rattle.script_calls.specs.declared.call.Call.{Call}
use Rattle.script_calls.specs.declared.call.ComposedCall.TheVariants.{IfEqual}
use Rattle.script_calls.specs.declared.call.Operation.{Operation}
use Rattle.script_calls.specs.declared.call.Operation.TheVariants as operations
use Rattle.script_calls.specs.declared.call.Reply.{Reply}
use Rattle.script_calls.specs.declared.call.Reply.TheVariants as replies
use Rattle.sync_model.specs.declared.item.Item.{Item}
use Rattle.sync_model.specs.declared.item.SharedCall.{SharedCall}
use Rattle.sync_model.specs.declared.item.SharedCall.TheVariants as calls
use Rattle.sync_model.specs.declared.item.SharedReply.{SharedReply}
use Rattle.sync_model.specs.declared.item.SharedReply.TheVariants as answers
use Rattle.sync_types.specs.declared.lock_call.MutexCall.{MutexCall}
use Rattle.sync_types.specs.declared.map_object.MapCall.{MapCall}
use Rattle.sync_types.specs.Renaming.{renamed_call}
use Rattle.protocols.specs.Spelling.{CallAnswer}
use Rattle.workload.specs.declared.object.ObjectKind.{ObjectKind}
use Rattle.workload.specs.declared.object.ObjectKind.TheVariants as kinds
use Rattle.workload.specs.declared.object.ObjectLine.{ObjectLine}
use Rattle.workload.specs.Keys.{keys_in, key_number}
use Rattle.workload.specs.Plan.{Plan}
use Rattle.run_record.specs.declared.made.Made.{Made}
use Rattle.run_record.specs.declared.made.Made.TheVariants.{Shared}
use Rattle.run_record.specs.Calls.{call_on, call_at, SpellsCall}
use Rattle.run_record.specs.MutexKind.{mutex_call}
use Rattle.run_record.specs.Objects.{map_number, atomic_number}
use Rattle.run_record.specs.Parts.{Places, with_outcome}
use Rattle.run_record.specs.Record.{object_number}
use Rattle.run_record.specs.Tests.{holds}
use Rattle.run_laws.specs.Locks.{is_plain, has_plain_objects}

pub list_all_at : {A : Type 0} (p : A → Bool) (xs : List A) (i : ℕ) (x : A) → list_all p xs ≡ true → slice_get xs i ≡ Some x → p x ≡ true
list_all_at p [] i x all at = absurd (none-some x at)
list_all_at {A} p (y ∷ xs) zero x all at = ap p (ap (λ (o : Option A). unwrap_or o y) (sym at)) ∙ (and_parts (p y) (list_all p xs) all).0
list_all_at p (y ∷ xs) (suc i) x all at = list_all_at p xs i x (and_parts (p y) (list_all p xs) all).1 at

-- the object at a place is of this kind
abbrev pub IsOfKind : Plan → ℕ → ObjectKind → Type 0
IsOfKind plan place kind = (object : ObjectLine) × (slice_get plan.objects place ≡ Some object) × (object.kind ≡ kind)

-- the item of a call on a map or an atomic
pub record OneItem (call : SharedCall) (items : List Made) (answer : CallAnswer (Reply ℕ)) : Type 0 where
  pub item : Item
  pub reply : Reply ℕ
  pub are : items ≡ Shared item ∷ []
  pub asks : item.call ≡ call
  pub answers : answer ≡ Done (Ok reply)

-- a call of a cursor
abbrev pub is_cursors : SharedCall → Bool
is_cursors (calls.Map m call) = false
is_cursors (calls.Begin m) = true
is_cursors (calls.Next begin) = true
is_cursors (calls.Atomic a call) = false

-- the items of a `range`
pub record CursorItems (items : List Made) (answer : CallAnswer (Reply ℕ)) : Type 0 where
  pub made : List Item
  pub reply : Reply ℕ
  pub are : items ≡ map Shared made
  pub asks : list_all (λ (x : Item). is_cursors x.call) made ≡ true
  pub answers : answer ≡ Done (Ok reply)

pub data PlainCall (plan : Plan) (call : Call) (items : List Made) (answer : CallAnswer (Reply ℕ)) : Type 0 where
  on_map : (m : MapCall (List ℕ)) → IsOfKind plan call.object kinds.Map → call.operation ≡ operations.Map m
      → OneItem (calls.Map (map_number plan.objects call.object) (renamed_call (key_number (keys_in plan.scripts)) m)) items answer → PlainCall plan call items answer
  on_range : IsOfKind plan call.object kinds.Map → call.operation ≡ operations.Range → CursorItems items answer → PlainCall plan call items answer
  on_atomic : (type : AtomicKind) (a : AtomicCall) → IsOfKind plan call.object (kinds.Atomic type) → call.operation ≡ operations.Atomic a
      → OneItem (calls.Atomic (atomic_number plan.objects call.object) a) items answer → PlainCall plan call items answer
  on_test : (type : AtomicKind) (value : Number) (passes : ℕ) → IsOfKind plan call.object (kinds.Atomic type) → call.operation ≡ operations.Composed (IfEqual value passes)
      → OneItem (calls.Atomic (atomic_number plan.objects call.object) Load) items answer → PlainCall plan call items answer
  on_mutex : (m : MutexCall) → IsOfKind plan call.object kinds.Mutex → call.operation ≡ operations.Mutex m → mutex_call (object_number call.object) m items answer → PlainCall plan call items answer

-- what was asked and answered
abbrev told : Item → SharedCall × SharedReply
told x = (x.call, x.reply)

abbrev step_showing : ℕ → ℕ × ℕ → SharedCall × SharedReply
step_showing begin pair = (calls.Next begin, answers.Shown (Some pair))

-- what a place of one call has
one_place : (call : SharedCall) (reply : SharedReply) (made : List Item) → map told made ≡ (call, reply) ∷ [] → (x : Item) × (made ≡ x ∷ []) × (x.call ≡ call)
one_place call reply [] is = absurd (none-some (call, reply) (ap (λ (l : List (SharedCall × SharedReply)). slice_get l 0) is))
one_place call reply (x ∷ []) is = (x, refl, ap (λ (o : Option (SharedCall × SharedReply)). (unwrap_or o (call, reply)).0) (ap (λ (l : List (SharedCall × SharedReply)). slice_get l 0) is))
one_place call reply (x ∷ (y ∷ made)) is = absurd (none-some (y.call, y.reply) (sym (ap (λ (l : List (SharedCall × SharedReply)). slice_get l 1) is)))

one_item : (call : SharedCall) (reply : SharedReply) (given : Reply ℕ) (items : List Made) (answer : CallAnswer (Reply ℕ)) → Places ((call, reply) ∷ []) items → answer ≡ Done (Ok given) → OneItem call items answer
one_item call reply given items answer (made, is, are) gives =
    let one = one_place call reply made are in
    record { item = one.0; reply = given; are = is ∙ ap (λ (xs : List Item). map Shared xs) one.1; asks = one.2; answers = gives }

cursors_alone : (made : List (SharedCall × SharedReply)) (items : List Item) → list_all (λ (t : SharedCall × SharedReply). is_cursors t.0) made ≡ true → map told items ≡ made → list_all (λ (x : Item). is_cursors x.call) items ≡ true
cursors_alone made items all are = mapped items ∙ (ap (λ (l : List (SharedCall × SharedReply)). list_all (λ (t : SharedCall × SharedReply). is_cursors t.0) l) are ∙ all) where
  mapped : (items : List Item) → list_all (λ (x : Item). is_cursors x.call) items ≡ list_all (λ (t : SharedCall × SharedReply). is_cursors t.0) (map told items)
  mapped [] = refl
  mapped (x ∷ items) = ap (λ (b : Bool). is_cursors x.call && b) (mapped items)

shown_cursors : (m begin : ℕ) (shown : List (ℕ × ℕ)) → list_all (λ (t : SharedCall × SharedReply). is_cursors t.0) (map (step_showing begin) shown ++ (calls.Next begin, answers.Shown None) ∷ []) ≡ true
shown_cursors m begin [] = refl
shown_cursors m begin (pair ∷ shown) = shown_cursors m begin shown

module _ (plan : Plan) (plain : has_plain_objects plan ≡ true) (worker before : ℕ) (call : Call) (items : List Made) (answer : CallAnswer (Reply ℕ)) where
  by_kind : (object : ObjectLine) (kind : ObjectKind) (operation : Operation) → slice_get plan.objects call.object ≡ Some object → object.kind ≡ kind → is_plain kind ≡ true → call.operation ≡ operation
      → call_on plan worker before call.object kind operation items answer → PlainCall plan call items answer
  by_kind object kinds.Map (operations.Map m) at is plain asks (reply, places, gives) = on_map m (object, at, is) asks (one_item _ (answers.Map reply) (replies.Map reply) items answer places gives)
  by_kind object kinds.Map operations.Range at is plain asks (shown, pairs, (made, are, calls_are), sorted, gives) = on_range (object, at, is) asks
      (record { made = made; reply = replies.Pairs pairs; are = are; asks = cursors_alone _ made (shown_cursors (map_number plan.objects call.object) before shown) calls_are; answers = gives })
  by_kind object (kinds.Atomic type) (operations.Atomic a) at is plain asks (reply, places, gives) = on_atomic type a (object, at, is) asks (one_item _ (answers.Atomic reply) (replies.Atomic reply) items answer places gives)
  by_kind object (kinds.Atomic type) (operations.Composed (IfEqual value passes)) at is plain asks (met, (got, (reply, places, gives), reads), tells) =
      on_test type value passes (object, at, is) asks (one_item _ (answers.Atomic reply) (replies.Atomic (Compared (holds value (replies.Atomic reply)))) items answer places
      (tells ∙ ap (with_outcome (λ (found : Bool). let told : Reply ℕ = replies.Atomic (Compared found) in told)) (reads ∙ ap (with_outcome (holds value)) gives)))
  by_kind object kinds.Mutex (operations.Mutex m) at is plain asks spelt = on_mutex m (object, at, is) asks spelt
  by_kind object kinds.RwMutex operation at is plain asks spelt = absurd (false≢true plain)
  by_kind object (kinds.Cond mutex) operation at is plain asks spelt = absurd (false≢true plain)
  by_kind object (kinds.WaitGroup start) operation at is plain asks spelt = absurd (false≢true plain)
  by_kind object (kinds.Once atomic delta) operation at is plain asks spelt = absurd (false≢true plain)
  by_kind object (kinds.OnceFunc code) operation at is plain asks spelt = absurd (false≢true plain)
  by_kind object (kinds.OnceValue value) operation at is plain asks spelt = absurd (false≢true plain)
  by_kind object kinds.Pool operation at is plain asks spelt = absurd (false≢true plain)
  by_kind object (kinds.Sema size) operation at is plain asks spelt = absurd (false≢true plain)
  by_kind object (kinds.Flight atomic delta) operation at is plain asks spelt = absurd (false≢true plain)
  by_kind object kind operation at is plain asks spelt = absurd spelt

  by_object : (object : Option ObjectLine) → slice_get plan.objects call.object ≡ object → call_at plan worker before call.object object call.operation items answer → PlainCall plan call items answer
  by_object None at spelt = absurd spelt
  by_object (Some object) at spelt = by_kind object object.kind call.operation at refl (list_all_at (λ (o : ObjectLine). is_plain o.kind) plan.objects call.object object plain at) refl spelt

  pub plain_call : SpellsCall plan worker before call items answer → PlainCall plan call items answer
  plain_call spelt = by_object (slice_get plan.objects call.object) refl spelt
