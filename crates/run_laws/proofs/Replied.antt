-- What calls on maps and atomics are, and what they reply.
use Rattle.std.proofs.Common.{◌≡◌, ℕ, Bool, List, [], ◌∷◌, ◌++◌, map, length, Some, slice_get, Ok, refl, ap, ◌∙◌, subst}
use Rattle.std.specs.Prelude.{IsSortedByKey}
use Rattle.std.specs.Cmp.Lexicographic.{slice_cmp}
use Rattle.std.specs.Ordering.{nat_cmp}
use Rattle.sync_types.specs.declared.atomic_object.AtomicCall.{AtomicCall}
use Rattle.sync_types.specs.declared.atomic_object.AtomicCall.TheVariants.{Load}
use Rattle.sync_types.specs.declared.atomic_object.AtomicReply.TheVariants.{Compared}
use Rattle.sync_types.specs.declared.atomic_object.Number.{Number}
use Rattle.script_calls.specs.declared.call.Call.{Call}
use Rattle.script_calls.specs.declared.call.Operation.{Operation}
use Rattle.script_calls.specs.declared.call.Reply.{Reply}
use Rattle.script_calls.specs.declared.call.Reply.TheVariants as replies
use Rattle.sync_types.specs.declared.map_object.MapCall.{MapCall}
use Rattle.sync_types.specs.Renaming.{renamed_call}
use Rattle.sync_types.specs.SequentialAtomic.{atomic_reply, is_same}
use Rattle.sync_types.specs.SequentialMap.{map_reply}
use Rattle.sync_model.specs.declared.answer.Answer.TheVariants.{Done}
use Rattle.sync_model.specs.declared.item.Item.{Item}
use Rattle.sync_model.specs.declared.item.SharedCall.{SharedCall}
use Rattle.sync_model.specs.declared.item.SharedCall.TheVariants as calls
use Rattle.sync_model.specs.declared.item.SharedReply.{SharedReply}
use Rattle.sync_model.specs.declared.item.SharedReply.TheVariants as answers
use Rattle.sync_model.specs.SharedHistory.{Contents, IsReply, contents_at, map_at, number_at}
use Rattle.protocols.specs.Spelling.{CallAnswer}
use Rattle.workload.specs.declared.object.ObjectKind.{ObjectKind}
use Rattle.workload.specs.declared.object.ObjectLine.{ObjectLine}
use Rattle.workload.specs.Keys.{keys_in, key_name, key_number}
use Rattle.workload.specs.Plan.{Plan}
use Rattle.run_record.specs.declared.made.Made.{Made}
use Rattle.run_record.specs.declared.made.Made.TheVariants.{Shared}
use Rattle.run_record.specs.AtomicKind.{atomic_call}
use Rattle.run_record.specs.Calls.{call_at, call_on, SpellsCall}
use Rattle.run_record.specs.Explains.{IsRecordOf}
use Rattle.run_record.specs.MapKind.{map_call, range_call}
use Rattle.run_record.specs.Objects.{contents_of}
use Rattle.run_record.specs.Parts.{Places, with_outcome}
use Rattle.run_record.specs.Record.{Record, list_of, calls_of, shared_in}
use Rattle.run_record.specs.Tests.{holds, if_equal_call}
use Rattle.run_laws.proofs.DoneLines.{shared_append}
use Rattle.run_laws.proofs.LinesOneWay.{reply_in}

-- a call by its object's kind and its operation
pub spelt_on : (plan : Plan) (worker before : ℕ) (object : ObjectLine) (call : Call) (kind : ObjectKind) (operation : Operation) (items : List Made) (answer : CallAnswer (Reply ℕ))
    → slice_get plan.objects call.object ≡ Some object → object.kind ≡ kind → call.operation ≡ operation → SpellsCall plan worker before call items answer → call_on plan worker before call.object kind operation items answer
spelt_on plan worker before object call kind operation items answer there is called spelt =
    subst (λ o. call_on plan worker before call.object kind o items answer) called
    (subst (λ k. call_on plan worker before call.object k call.operation items answer) is
    (subst (λ o. call_at plan worker before call.object o call.operation items answer) there spelt))

-- what was asked and answered
abbrev told : Item → SharedCall × SharedReply
told x = (x.call, x.reply)

one_told : (given : SharedCall × SharedReply) (made : List Item) → map told made ≡ given ∷ [] → (x : Item) × (made ≡ x ∷ []) × (told x ≡ given)
one_told given [] is = absurd cc
one_told given (x ∷ []) is = (x, refl, cc)
one_told given (x ∷ (y ∷ made)) is = absurd cc

first_behind : (xs ys : List Item) (x : Item) → slice_get (xs ++ x ∷ ys) (length xs) ≡ Some x
first_behind [] ys x = refl
first_behind (y ∷ xs) ys x = first_behind xs ys x

-- a call is answered as by the objects for one thread at its place
module _ (plan : Plan) (r : Record) (lawful : IsRecordOf plan r) (worker : ℕ) (earlier later items : List Made) (whole : list_of r worker ≡ earlier ++ (items ++ later)) where
  abbrev there : Item → Contents
  there x = contents_at (contents_of plan) r.history x.place

  pub replied : (x : Item) → items ≡ Shared x ∷ [] → IsReply x.call x.reply (there x)
  replied x are =
      let own : calls_of r worker ≡ shared_in earlier ++ x ∷ shared_in later =
      ap shared_in whole ∙ (shared_append earlier (items ++ later) ∙ ap (λ (l : List Made). shared_in earlier ++ shared_in (l ++ later)) are) in
      let at = ap (λ (l : List Item). slice_get l (length (shared_in earlier))) own ∙ first_behind (shared_in earlier) (shared_in later) x in
      (lawful.shared.sound worker (length (shared_in earlier)) x at).reply

  placed : (call : SharedCall) (reply : SharedReply) → Places ((call, reply) ∷ []) items → (x : Item) × (items ≡ Shared x ∷ []) × (x.call ≡ call) × IsReply call reply (there x)
  placed call reply (made, are, asked) =
      let one = one_told (call, reply) made asked in
      let x = one.0 in
      let items_are : items ≡ Shared x ∷ [] = are ∙ ap (λ (l : List Item). map Shared l) one.1 in
      let asks = ap (λ (t : SharedCall × SharedReply). t.0) one.2 in
      let answers = ap (λ (t : SharedCall × SharedReply). t.1) one.2 in
      (x, items_are, asks, subst (λ a. IsReply call a (there x)) answers (subst (λ c. IsReply c x.reply (there x)) asks (replied x items_are)))

  pub map_replies : (m : ℕ) (of : MapCall (List ℕ)) (answer : Reply ℕ) → map_call (keys_in plan.scripts) m of items (Done (Ok answer))
      → (x : Item) × (items ≡ Shared x ∷ []) × (x.call ≡ calls.Map m (renamed_call (key_number (keys_in plan.scripts)) of))
      × (answer ≡ replies.Map (map_reply (renamed_call (key_number (keys_in plan.scripts)) of) (map_at (there x) m)))
  map_replies m of answer (reply, places, is) =
      let one = placed (calls.Map m (renamed_call (key_number (keys_in plan.scripts)) of)) (answers.Map reply) places in
      let right = one.3 in
      (one.0, one.1, one.2, (cc))

  pub atomic_replies : (a : ℕ) (of : AtomicCall) (answer : Reply ℕ) → atomic_call a of items (Done (Ok answer))
      → (x : Item) × (items ≡ Shared x ∷ []) × (x.call ≡ calls.Atomic a of) × (answer ≡ replies.Atomic (atomic_reply of (number_at (there x) a)))
  atomic_replies a of answer (reply, places, is) =
      let one = placed (calls.Atomic a of) (answers.Atomic reply) places in
      let right = one.3 in
      (one.0, one.1, one.2, (cc))

  pub test_replies : (a : ℕ) (value : Number) (answer : Reply ℕ) → if_equal_call a value items (Done (Ok answer))
      → (x : Item) × (items ≡ Shared x ∷ []) × (x.call ≡ calls.Atomic a Load) × (answer ≡ replies.Atomic (Compared (is_same (number_at (there x) a) value)))
  test_replies a value answer (met, (got, (reply, places, is_got), is_met), is) =
      let one = atomic_replies a Load (replies.Atomic reply) (reply, places, refl) in
      let told : Bool → Reply ℕ = λ found. replies.Atomic (Compared found) in
      (one.0, one.1, one.2, ap (reply_in answer) (is ∙ ap (with_outcome told) (is_met ∙ ap (with_outcome (holds value)) is_got)) ∙ ap (λ (r : Reply ℕ). told (holds value r)) one.3)

pub range_sorts : (keys : List (List ℕ)) (m begin : ℕ) (items : List Made) (pairs : List (ℕ × ℕ)) → range_call keys m begin items (Done (Ok (replies.Pairs pairs)))
    → IsSortedByKey (λ pair. key_name keys pair.0) (slice_cmp nat_cmp) pairs
range_sorts keys m begin items pairs (shown, replied, places, sorted, is) =
    let same : replied ≡ pairs = cc in
    subst (IsSortedByKey (λ (pair : ℕ × ℕ). key_name keys pair.0) (slice_cmp nat_cmp)) same sorted.1
