-- What a `waitfor` names: the atomic that it loads, which may hold its value.
use Rattle.std.proofs.Common.{◌≡◌, ℕ, ◌-◌, true, false, eqb, List, Option, Some, None, refl, sym, ap, subst, ◌∙◌, arith}
use Rattle.std.specs.Prelude.{slice_get}
use Rattle.std.specs.Option.{option_map_or}
use Rattle.std.proofs.lemmas.Bool.{eqb-true}
use Rattle.sync_types.specs.Name.{is_name}
use Rattle.sync_types.specs.SequentialAtomic.{is_of}
use Rattle.sync_types.specs.declared.atomic_object.AtomicKind.{AtomicKind}
use Rattle.sync_types.specs.declared.atomic_object.Number.{Number}
use Rattle.script_calls.specs.declared.call.ComposedCall.TheVariants.{WaitFor}
use Rattle.script_calls.specs.declared.call.Operation.{Operation}
use Rattle.script_calls.specs.declared.call.Operation.TheVariants as operations
use Rattle.workload.specs.declared.object.Declared.{Declared}
use Rattle.workload.specs.declared.object.ObjectKind.{ObjectKind}
use Rattle.workload.specs.declared.object.ObjectKind.TheVariants as kinds
use Rattle.workload.specs.declared.object.ObjectLine.{ObjectLine}
use Rattle.workload.specs.Plan.{has_call, second_of, may_hold}
use Rattle.workload.specs.Draft.{Draft, declared, names_second, tries_of}
use Rattle.workload.proofs.Passing.{both}
use Rattle.workload.proofs.DraftLemmas.{found_at}

-- no object alone has a `waitfor`
not_alone : (kind : ObjectKind) (a : ℕ) (v : Number) (n : ℕ) → has_call kind (operations.Composed (WaitFor a v n)) ≡ true → ⊥
not_alone kinds.Map a v n h = cc
not_alone kind a v n h = cc

-- an operation that an object has alone names no second one, and makes no waits
pub alone_second : (kind : ObjectKind) (o : Operation) → has_call kind o ≡ true → (second_of o ≡ None) × (tries_of o ≡ 0)
alone_second kind (operations.Composed (WaitFor a v n)) h = absurd (not_alone kind a v n h)
alone_second kind o h = (refl, refl)

-- so there is no second name
pub no_second : (d : Draft) (o : Operation) (second : Option (List ℕ)) → second_of o ≡ None → names_second d o second ≡ true → second ≡ None
no_second d o None none h = refl
no_second d o (Some name) none h = absurd (at (declared d name) (both (is_name name) _ h).1)
  where
    at : (found : Option Declared) → option_map_or (λ f. option_map_or (λ place. eqb f.place place) (second_of o) false) found false ≡ true → ⊥
    at None h = cc
    at (Some found) h = nowhere found.place (second_of o) none h
      where
        nowhere : (there : ℕ) (r : Option ℕ) → r ≡ None → option_map_or (λ place. eqb there place) r false ≡ true → ⊥
        nowhere there None none h = cc
        nowhere there (Some place) none h = cc

-- what a `waitfor` of an atomic and a value names
pub record Awaits (d : Draft) (atomic : ℕ) (value : Number) (second : Option (List ℕ)) : Type 0 where
  pub name : List ℕ
  pub is : second ≡ Some name
  pub named : is_name name ≡ true
  pub kind : AtomicKind
  pub found : declared d name ≡ Some (record { place = atomic; kind = kinds.Atomic kind })
  pub fits : is_of kind value ≡ true

-- an object that may hold a number is an atomic of its type
atomic_is : (v : Number) (kind : ObjectKind) → may_hold v kind ≡ true → (k : AtomicKind) × (kind ≡ kinds.Atomic k) × (is_of k v ≡ true)
atomic_is v (kinds.Atomic k) h = (k, refl, h)
atomic_is v kind h = absurd cc

-- so is the one at a place that may hold it
pub held : (objects : List ObjectLine) (a : ℕ) (v : Number) → option_map_or (λ object. may_hold v object.kind) (slice_get objects a) false ≡ true
    → (o : ObjectLine) × (slice_get objects a ≡ Some o) × (k : AtomicKind) × (o.kind ≡ kinds.Atomic k) × (is_of k v ≡ true)
held objects a v h = at (slice_get objects a) refl h
  where
    at : (there : Option ObjectLine) → slice_get objects a ≡ there → option_map_or (λ object. may_hold v object.kind) there false ≡ true
        → (o : ObjectLine) × (slice_get objects a ≡ Some o) × (k : AtomicKind) × (o.kind ≡ kinds.Atomic k) × (is_of k v ≡ true)
    at None is h = absurd cc
    at (Some o) is h = let atomic = atomic_is v o.kind h in (o, is, atomic.0, atomic.1, atomic.2)

declared_as : (found : Declared) (a : ℕ) (k : AtomicKind) → found.place ≡ a → found.kind ≡ kinds.Atomic k → Some found ≡ Some (record { place = a; kind = kinds.Atomic k })
declared_as found a k place kind = ap (λ (p : ℕ). Some (record { place = p; kind = found.kind })) place ∙ ap (λ (x : ObjectKind). Some (record { place = a; kind = x })) kind

-- a second name of a `waitfor` that its cond has is that of such an atomic
pub awaits : (d : Draft) (a : ℕ) (v : Number) (n : ℕ) (second : Option (List ℕ)) → option_map_or (λ object. may_hold v object.kind) (slice_get d.plan.objects a) false ≡ true → names_second d (operations.Composed (WaitFor a v n)) second ≡ true → Awaits d a v second
awaits d a v n None on named = absurd cc
awaits d a v n (Some name) on named =
    let parts = both (is_name name) _ named in
    at (declared d name) refl parts.0 parts.1
  where
    at : (o : Option Declared) → declared d name ≡ o → is_name name ≡ true → option_map_or (λ f. eqb f.place a) o false ≡ true → Awaits d a v (Some name)
    at None is word h = absurd cc
    at (Some found) is word h =
        let place = eqb-true found.place a h in
        let there = found_at 0 name d.plan.objects found is in
        let here : found.place - 0 ≡ a = omega (arith, place) in
        let object : slice_get d.plan.objects a ≡ Some there.0 = ap (slice_get d.plan.objects) (sym here) ∙ there.2 in
        let holds : may_hold v there.0.kind ≡ true = subst (λ (o : Option ObjectLine). option_map_or (λ object. may_hold v object.kind) o false ≡ true) object on in
        let atomic = atomic_is v found.kind (subst (λ (k : ObjectKind). may_hold v k ≡ true) there.3 holds) in
        record {
          name = name;
          is = refl;
          named = word;
          kind = atomic.0;
          found = is ∙ declared_as found a atomic.0 place atomic.1;
          fits = atomic.2;
        }
