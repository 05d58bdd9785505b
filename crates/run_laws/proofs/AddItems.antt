-- The adds to an int64 that a script's items are, where all calls on it are adds.
use Rattle.std.proofs.Common.{◌≡◌, ◌⊎◌, inl, inr, ℕ, zero, suc, ◌+◌, ◌<◌, ◌==◌, ℤ, Bool, true, false, cond, List, [], ◌∷◌, length, get_or, Option, Some, slice_get, refl, sym, ap, ◌∙◌, subst, arith}
use Rattle.std.specs.Prelude.{slice_set, sum_by, unwrap_or, Ok}
use Rattle.std.specs.List.{list_all}
use Rattle.std.proofs.lemmas.Bool.{false≢true, and_parts, cases_Bool, eqb-true, eqb-false, eq-eqb, ne_eqb}
use Rattle.std.proofs.lemmas.List.{get_or-set_same, get_or-set_other, length-set}
use Rattle.std.proofs.lemmas.List.Sums.{sum_by-append, sum_by-cons}
use Rattle.std.proofs.lemmas.Option.{none-some}
use Rattle.sync_model.specs.declared.answer.Answer.TheVariants.{Done}
use Rattle.sync_types.specs.declared.atomic_object.AtomicCall.{AtomicCall}
use Rattle.sync_types.specs.declared.atomic_object.AtomicCall.TheVariants.{Load, Store, Swap, Add, And, Or, CompareAndSwap}
use Rattle.sync_types.specs.declared.atomic_object.AtomicKind.TheVariants as types
use Rattle.sync_types.specs.declared.atomic_object.Number.{Number}
use Rattle.sync_types.specs.declared.atomic_object.Number.TheVariants.{Int64, Bool as Truth}
use Rattle.script_calls.specs.declared.call.Call.{Call}
use Rattle.script_calls.specs.declared.call.ComposedCall.TheVariants.{IfEqual}
use Rattle.script_calls.specs.declared.call.Operation.{Operation}
use Rattle.script_calls.specs.declared.call.Operation.TheVariants as operations
use Rattle.script_calls.specs.declared.call.Reply.{Reply}
use Rattle.sync_model.specs.declared.item.Item.{Item}
use Rattle.sync_model.specs.declared.item.SharedCall.{SharedCall}
use Rattle.sync_model.specs.declared.item.SharedCall.TheVariants as calls
use Rattle.sync_model.specs.declared.item.SharedEntry.{SharedEntry}
use Rattle.sync_types.specs.SequentialAtomic.{atomic_after}
use Rattle.sync_model.specs.SharedHistory.{Contents, number_at, is_entry, shared_after, contents_after}
use Rattle.sync_model.specs.declared.journal.Entry.{Entry}
use Rattle.mutex_core.specs.declared.event.MutexEvent.{MutexEvent}
use Rattle.mutex_core.specs.declared.reply.MutexReply.{MutexReply}
use Rattle.protocols.specs.Spelling.{CallAnswer}
use Rattle.workload.specs.declared.object.ObjectKind.TheVariants as kinds
use Rattle.workload.specs.declared.object.ObjectLine.{ObjectLine}
use Rattle.workload.specs.Plan.{Plan}
use Rattle.run_record.specs.declared.made.Made.{Made}
use Rattle.run_record.specs.Lines.{SpeltCall, AreSpelt}
use Rattle.run_record.specs.Objects.{is_atomic, atomic_number}
use Rattle.run_record.specs.Record.{shared_in, object_number}
use Rattle.run_laws.specs.Adds.{amount_of, is_add}
use Rattle.run_laws.specs.Locks.{has_plain_objects}
use Rattle.run_laws.proofs.AddedUp.{of_bits, bits_of, add_bits, call_bits}
use Rattle.run_laws.proofs.DoneLines.{calls_in, items_in, shared_append, shared_map}
use Rattle.run_laws.proofs.EachOf.{Each, each_both}
use Rattle.run_laws.proofs.LockLines.{entered}
use Rattle.run_laws.proofs.Numbered.{numbers_apart}
use Rattle.run_laws.proofs.PlainCalls.{PlainCall, on_map, on_range, on_atomic, on_test, on_mutex, IsOfKind, is_cursors, plain_call, list_all_at}

-- the bits that a call on an atomic adds
abbrev pub bits_added : AtomicCall → ℕ
bits_added (Add (Int64 amount)) = bits_of amount
bits_added call = 0

-- those that a call adds to atomic number a
abbrev pub shared_bits : ℕ → SharedCall → ℕ
shared_bits a (calls.Map m call) = 0
shared_bits a (calls.Begin m) = 0
shared_bits a (calls.Next begin) = 0
shared_bits a (calls.Atomic b call) = cond (b == a) (bits_added call) 0

abbrev is_int64_add : AtomicCall → Bool
is_int64_add (Add (Int64 amount)) = true
is_int64_add call = false

-- it is an add, where it is on atomic number a
abbrev pub AddsTo : ℕ → SharedCall → Type 0
AddsTo a (calls.Map m call) = Unit {0}
AddsTo a (calls.Begin m) = Unit {0}
AddsTo a (calls.Next begin) = Unit {0}
AddsTo a (calls.Atomic b call) = (b == a) ≡ true → is_int64_add call ≡ true

abbrev pub AllAdd : ℕ → List Item → Type 0
AllAdd a xs = Each (λ x. AddsTo a x.call) xs

-- an int64 after a history in which it is only added to
module _ (a : ℕ) where
  after_one : (n : ℕ) (call : SharedCall) (contents : Contents) → a < length contents.numbers → number_at contents a ≡ of_bits n → AddsTo a call
      → (a < length (shared_after call contents).numbers) × (number_at (shared_after call contents) a ≡ of_bits (n + shared_bits a call))
  after_one n (calls.Map m call) contents within is adds = (within, is ∙ ap of_bits (omega arith))
  after_one n (calls.Begin m) contents within is adds = (within, is ∙ ap of_bits (omega arith))
  after_one n (calls.Next begin) contents within is adds = (within, is ∙ ap of_bits (omega arith))
  after_one n (calls.Atomic b call) contents within is adds =
      (omega (arith, within, length-set contents.numbers b (atomic_after call (number_at contents b))), by_number (cases_Bool (b == a))) where
        added : (call : AtomicCall) (held : Number) → held ≡ of_bits n → is_int64_add call ≡ true → atomic_after call held ≡ of_bits (n + bits_added call)
        added (Add (Int64 amount)) held is add = ap (λ (h : Number). atomic_after (Add (Int64 amount)) h) is ∙ add_bits n amount
        added (Add other) held is add = absurd (false≢true add)
        added Load held is add = absurd (false≢true add)
        added (Store value) held is add = absurd (false≢true add)
        added (Swap value) held is add = absurd (false≢true add)
        added (And value) held is add = absurd (false≢true add)
        added (Or value) held is add = absurd (false≢true add)
        added (CompareAndSwap old new) held is add = absurd (false≢true add)

        by_number : ((b == a) ≡ true) ⊎ ((b == a) ≡ false) → number_at (shared_after (calls.Atomic b call) contents) a ≡ of_bits (n + cond (b == a) (bits_added call) 0)
        by_number (inl e) =
            let same = eqb-true b a e in
            let here : number_at contents b ≡ of_bits n = ap (number_at contents) same ∙ is in
            subst (λ m. get_or (slice_set contents.numbers b (atomic_after call (number_at contents b))) m (Truth false) ≡ atomic_after call (number_at contents b)) same (get_or-set_same contents.numbers b (atomic_after call (number_at contents b)) (Truth false) (omega (arith, same, within)))
            ∙ (added call (number_at contents b) here (adds e) ∙ ap (λ (t : Bool). of_bits (n + cond t (bits_added call) 0)) (sym e))
        by_number (inr e) = get_or-set_other contents.numbers b a (atomic_after call (number_at contents b)) (Truth false) (λ same. eqb-false b a e (sym same))
            ∙ (is ∙ (ap of_bits (omega arith) ∙ ap (λ (t : Bool). of_bits (n + cond t (bits_added call) 0)) (sym e)))

  pub after_all : (history : List SharedEntry) (n : ℕ) (contents : Contents) → a < length contents.numbers → number_at contents a ≡ of_bits n → ((i : ℕ) (e : SharedEntry) → slice_get history i ≡ Some e → AddsTo a e.call)
      → number_at (contents_after contents history) a ≡ of_bits (n + sum_by (λ e. shared_bits a e.call) history)
  after_all [] n contents within is adds = is ∙ ap of_bits (omega arith)
  after_all (e ∷ history) n contents within is adds =
      let one = after_one n e.call contents within is (adds 0 e refl) in
      after_all history (n + shared_bits a e.call) (shared_after e.call contents) one.0 one.1 (λ i x at. adds (suc i) x at) ∙ ap of_bits (omega (arith, sum_by-cons (λ (x : SharedEntry). shared_bits a x.call) e history))

  -- each add is an entry
  pub entries_add : (call : SharedCall) (contents : Contents) → AddsTo a call → is_entry call contents ≡ false → shared_bits a call ≡ 0
  entries_add (calls.Map m call) contents adds none = refl
  entries_add (calls.Begin m) contents adds none = refl
  entries_add (calls.Next begin) contents adds none = refl
  entries_add (calls.Atomic b call) contents adds none = elim (cases_Bool (b == a)) [
    | inl e ↦ absurd (unentered call (adds e) none)
    | inr e ↦ ap (λ (t : Bool). cond t (bits_added call) 0) e
  ] where
    unentered : (call : AtomicCall) → is_int64_add call ≡ true → is_entry (calls.Atomic b call) contents ≡ false → ⊥
    unentered (Add (Int64 amount)) add none = false≢true (sym none)
    unentered (Add other) add none = false≢true (sym none)
    unentered Load add none = false≢true add
    unentered (Store value) add none = false≢true add
    unentered (Swap value) add none = false≢true add
    unentered (And value) add none = false≢true add
    unentered (Or value) add none = false≢true add
    unentered (CompareAndSwap old new) add none = false≢true add

abbrev is_atomics : SharedCall → Bool
is_atomics (calls.Map m call) = false
is_atomics (calls.Begin m) = false
is_atomics (calls.Next begin) = false
is_atomics (calls.Atomic a call) = true

pub no_entries_shared : (o : ℕ) (entries : List (Entry MutexEvent MutexReply)) → shared_in (entered o entries) ≡ []
no_entries_shared o [] = refl
no_entries_shared o (x ∷ entries) = no_entries_shared o entries

-- the items of calls that are adds, where they are on the int64 at a place
module _ (plan : Plan) (place : ℕ) (object : ObjectLine) (at : slice_get plan.objects place ≡ Some object) (kind : object.kind ≡ kinds.Atomic types.Int64) where
  -- the call is an add, where it is on the int64
  abbrev IsAddAt : Call → Type 0
  IsAddAt call = cond (call.object == place) (is_add call.operation) true ≡ true

  -- what the items of a call add is what the call adds
  abbrev AddsAlike : Call → List Item → Type 0
  AddsAlike call items = AllAdd (atomic_number plan.objects place) items × (sum_by (λ x. shared_bits (atomic_number plan.objects place) x.call) items ≡ call_bits place call)

  no_bits : (call : Call) → amount_of call.operation ≡ [] → call_bits place call ≡ 0
  no_bits call none = by_object (call.object == place) where
    by_object : (b : Bool) → sum_by bits_of (cond b (amount_of call.operation) []) ≡ 0
    by_object true = ap (λ (l : List ℤ). sum_by bits_of l) none
    by_object false = refl

  -- another atomic has another number
  another_number : (call : Call) (type : _) → IsOfKind plan call.object (kinds.Atomic type) → (call.object == place) ≡ false → (atomic_number plan.objects call.object == atomic_number plan.objects place) ≡ false
  another_number call type (other, at_other, kind_other) apart = ne_eqb _ _ (numbers_apart (λ (o : ObjectLine). is_atomic o.kind) plan.objects call.object place other object at_other at (ap is_atomic kind_other) (ap is_atomic kind) (eqb-false call.object place apart))

  of_atomic : (call : Call) (op : AtomicCall) (x : Item) → call.operation ≡ operations.Atomic op → x.call ≡ calls.Atomic (atomic_number plan.objects call.object) op
      → ((call.object == place) ≡ false → (atomic_number plan.objects call.object == atomic_number plan.objects place) ≡ false) → IsAddAt call → AddsAlike call (x ∷ [])
  of_atomic call op x asks is another adds = by_object (cases_Bool (call.object == place)) where
    one : (w : ℕ) → shared_bits (atomic_number plan.objects place) x.call ≡ w → sum_by (λ (y : Item). shared_bits (atomic_number plan.objects place) y.call) (x ∷ []) ≡ w
    one w e = omega (arith, e, sum_by-cons (λ (y : Item). shared_bits (atomic_number plan.objects place) y.call) x [])

    is_an_add : (op : AtomicCall) → is_add (operations.Atomic op) ≡ true → is_int64_add op ≡ true
    is_an_add (Add (Int64 amount)) add = refl
    is_an_add (Add other) add = absurd (false≢true add)
    is_an_add Load add = absurd (false≢true add)
    is_an_add (Store value) add = absurd (false≢true add)
    is_an_add (Swap value) add = absurd (false≢true add)
    is_an_add (And value) add = absurd (false≢true add)
    is_an_add (Or value) add = absurd (false≢true add)
    is_an_add (CompareAndSwap old new) add = absurd (false≢true add)

    op_bits : (op : AtomicCall) → is_int64_add op ≡ true → bits_added op ≡ sum_by bits_of (amount_of (operations.Atomic op))
    op_bits (Add (Int64 amount)) add = omega arith
    op_bits (Add other) add = absurd (false≢true add)
    op_bits Load add = absurd (false≢true add)
    op_bits (Store value) add = absurd (false≢true add)
    op_bits (Swap value) add = absurd (false≢true add)
    op_bits (And value) add = absurd (false≢true add)
    op_bits (Or value) add = absurd (false≢true add)
    op_bits (CompareAndSwap old new) add = absurd (false≢true add)

    by_object : ((call.object == place) ≡ true) ⊎ ((call.object == place) ≡ false) → AddsAlike call (x ∷ [])
    by_object (inl e) =
        let add : is_int64_add op ≡ true = is_an_add op (ap is_add (sym asks) ∙ (ap (λ (b : Bool). cond b (is_add call.operation) true) (sym e) ∙ adds)) in
        let same : (atomic_number plan.objects call.object == atomic_number plan.objects place) ≡ true = eq-eqb _ _ (ap (atomic_number plan.objects) (eqb-true call.object place e)) in (
          (subst (AddsTo (atomic_number plan.objects place)) (sym is) (λ number. add), tt),
          one (call_bits place call) (ap (shared_bits (atomic_number plan.objects place)) is ∙ (ap (λ (b : Bool). cond b (bits_added op) 0) same ∙ (op_bits op add
              ∙ (ap (λ (o : Operation). sum_by bits_of (amount_of o)) (sym asks) ∙ ap (λ (b : Bool). sum_by bits_of (cond b (amount_of call.operation) [])) (sym e))))),
        )
    by_object (inr e) =
        let apart = another e in (
          (subst (AddsTo (atomic_number plan.objects place)) (sym is) (λ number. absurd (false≢true (sym apart ∙ number))), tt),
          one (call_bits place call) (ap (shared_bits (atomic_number plan.objects place)) is ∙ (ap (λ (b : Bool). cond b (bits_added op) 0) apart ∙ ap (λ (b : Bool). sum_by bits_of (cond b (amount_of call.operation) [])) (sym e))),
        )

  -- a test of another atomic adds nothing
  of_test : (call : Call) (value : Number) (passes : ℕ) (x : Item) → call.operation ≡ operations.Composed (IfEqual value passes) → x.call ≡ calls.Atomic (atomic_number plan.objects call.object) Load
      → ((call.object == place) ≡ false → (atomic_number plan.objects call.object == atomic_number plan.objects place) ≡ false) → IsAddAt call → AddsAlike call (x ∷ [])
  of_test call value passes x asks is another adds = by_object (cases_Bool (call.object == place)) where
    by_object : ((call.object == place) ≡ true) ⊎ ((call.object == place) ≡ false) → AddsAlike call (x ∷ [])
    by_object (inl e) = absurd (false≢true (ap is_add (sym asks) ∙ (ap (λ (b : Bool). cond b (is_add call.operation) true) (sym e) ∙ adds)))
    by_object (inr e) =
        let apart = another e in
        let none : shared_bits (atomic_number plan.objects place) x.call ≡ call_bits place call = ap (shared_bits (atomic_number plan.objects place)) is
        ∙ (ap (λ (b : Bool). cond b (bits_added Load) 0) apart ∙ ap (λ (b : Bool). sum_by bits_of (cond b (amount_of call.operation) [])) (sym e)) in (
          (subst (AddsTo (atomic_number plan.objects place)) (sym is) (λ number. absurd (false≢true (sym apart ∙ number))), tt),
          omega (arith, none, sum_by-cons (λ (y : Item). shared_bits (atomic_number plan.objects place) y.call) x []),
        )

  -- a call on a map adds nothing
  of_map : (call : Call) (items : List Item) → amount_of call.operation ≡ [] → ((i : ℕ) (x : Item) → slice_get items i ≡ Some x → (b : ℕ) (op : AtomicCall) → x.call ≡ calls.Atomic b op → ⊥) → AddsAlike call items
  of_map call items none others = (all items others, nothing items others ∙ sym (no_bits call none)) where
    adds_none : (y : SharedCall) → ((b : ℕ) (op : AtomicCall) → y ≡ calls.Atomic b op → ⊥) → AddsTo (atomic_number plan.objects place) y × (shared_bits (atomic_number plan.objects place) y ≡ 0)
    adds_none (calls.Map m call) other = (tt, refl)
    adds_none (calls.Begin m) other = (tt, refl)
    adds_none (calls.Next begin) other = (tt, refl)
    adds_none (calls.Atomic b op) other = absurd (other b op refl)

    all : (xs : List Item) → ((i : ℕ) (x : Item) → slice_get xs i ≡ Some x → (b : ℕ) (op : AtomicCall) → x.call ≡ calls.Atomic b op → ⊥) → AllAdd (atomic_number plan.objects place) xs
    all [] others = tt
    all (x ∷ xs) others = ((adds_none x.call (others 0 x refl)).0, all xs (λ i y. others (suc i) y))

    nothing : (xs : List Item) → ((i : ℕ) (x : Item) → slice_get xs i ≡ Some x → (b : ℕ) (op : AtomicCall) → x.call ≡ calls.Atomic b op → ⊥) → sum_by (λ x. shared_bits (atomic_number plan.objects place) x.call) xs ≡ 0
    nothing [] others = refl
    nothing (x ∷ xs) others = let here = (adds_none x.call (others 0 x refl)).1 in let rest = nothing xs (λ i y. others (suc i) y) in
        omega (arith, here, rest, sum_by-cons (λ (y : Item). shared_bits (atomic_number plan.objects place) y.call) x xs)

  alike_at : (call : Call) (items : List Item) (made : List Made) → shared_in made ≡ items → AddsAlike call items → AddsAlike call (shared_in made)
  alike_at call items made is alike = subst (AddsAlike call) (sym is) alike

  call_alike : (call : Call) (items : List Made) (answer : CallAnswer (Reply ℕ)) → PlainCall plan call items answer → IsAddAt call → AddsAlike call (shared_in items)
  call_alike call items answer (on_map m is_map asks one) adds = alike_at call (one.item ∷ []) items (ap shared_in one.are) (of_map call (one.item ∷ []) (ap amount_of asks) others) where
    others : (i : ℕ) (x : Item) → slice_get (one.item ∷ []) i ≡ Some x → (b : ℕ) (op : AtomicCall) → x.call ≡ calls.Atomic b op → ⊥
    others zero x at b op is = false≢true (ap is_atomics (sym one.asks ∙ (ap (λ (o : Option Item). (unwrap_or o x).call) at ∙ is)))
    others (suc i) x at b op is = none-some x at
  call_alike call items answer (on_range is_map asks cursor) adds = alike_at call cursor.made items (ap shared_in cursor.are ∙ shared_map cursor.made) (of_map call cursor.made (ap amount_of asks) others) where
    others : (i : ℕ) (x : Item) → slice_get cursor.made i ≡ Some x → (b : ℕ) (op : AtomicCall) → x.call ≡ calls.Atomic b op → ⊥
    others i x at b op is = false≢true (ap is_cursors (sym is) ∙ list_all_at (λ (y : Item). is_cursors y.call) cursor.made i x cursor.asks at)
  call_alike call items answer (on_atomic type op is_atomic_at asks one) adds = alike_at call (one.item ∷ []) items (ap shared_in one.are) (of_atomic call op one.item asks one.asks (another_number call type is_atomic_at) adds)
  call_alike call items answer (on_test type value passes is_atomic_at asks one) adds =
      alike_at call (one.item ∷ []) items (ap shared_in one.are) (of_test call value passes one.item asks one.asks (another_number call type is_atomic_at) adds)
  call_alike call items answer (on_mutex m is_mutex asks (given, (entries, are, spelt), gives)) adds = alike_at call [] items (ap shared_in are ∙ no_entries_shared (object_number call.object) entries)
      (of_map call [] (ap amount_of asks) (λ i x at b op is. none-some x at))

  module _ (plain : has_plain_objects plan ≡ true) (worker : ℕ) where
    -- so do the items of a whole script
    pub script_alike : (before : ℕ) (spelt : List SpeltCall) → AreSpelt plan worker before spelt → list_all (λ call. cond (call.object == place) (is_add call.operation) true) (calls_in spelt) ≡ true
        → AllAdd (atomic_number plan.objects place) (shared_in (items_in spelt)) × (sum_by (λ x. shared_bits (atomic_number plan.objects place) x.call) (shared_in (items_in spelt)) ≡ sum_by (call_bits place) (calls_in spelt))
    script_alike before [] are adds = (tt, refl)
    script_alike before (call ∷ spelt) are adds =
        let both = and_parts (cond (call.call.object == place) (is_add call.call.operation) true) _ adds in
        let here = call_alike call.call call.items (Done (Ok call.reply)) (plain_call plan plain worker before call.call call.items (Done (Ok call.reply)) are.0) both.0 in
        let rest = script_alike (before + length (shared_in call.items)) spelt are.1 both.1 in
        let bits : Item → ℕ = λ x. shared_bits (atomic_number plan.objects place) x.call in
        subst (λ (l : List Item). AllAdd (atomic_number plan.objects place) l × (sum_by bits l ≡ sum_by (call_bits place) (calls_in (call ∷ spelt)))) (sym (shared_append call.items (items_in spelt))) (
          each_both (λ (x : Item). AddsTo (atomic_number plan.objects place) x.call) (shared_in call.items) (shared_in (items_in spelt)) here.0 rest.0,
          sum_by-append bits (shared_in call.items) (shared_in (items_in spelt)) ∙ (ap (λ n. n + sum_by bits (shared_in (items_in spelt))) here.1 ∙ (ap (λ n. call_bits place call.call + n) rest.1 ∙ sym (sum_by-cons (call_bits place) call.call (calls_in spelt)))),
        )
