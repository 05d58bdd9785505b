-- Calls on objects that there are, along a history.
use Rattle.std.proofs.Common.{◌≡◌, ◌⊎◌, inl, inr, ℕ, zero, suc, ◌<◌, false, List, [], ◌∷◌, length, take, Some, slice_get, refl, sym, ap, ◌∙◌, subst}
use Rattle.std.proofs.lemmas.Bool.{cases_eq}
use Rattle.std.proofs.lemmas.List.{get_or-set_same, get_or-set_other}
use Rattle.std.proofs.lemmas.Option.{none-some}
use Rattle.sync_types.specs.declared.atomic_object.Number.{Number}
use Rattle.sync_types.specs.declared.atomic_object.Number.TheVariants.{Bool as Truth}
use Rattle.sync_types.specs.SequentialAtomic.{kind_of, is_atomic_call, atomic_after}
use Rattle.sync_model.specs.declared.item.SharedCall.{SharedCall}
use Rattle.sync_model.specs.declared.item.SharedCall.TheVariants.{Map, Begin, Next, Atomic}
use Rattle.sync_model.specs.declared.item.SharedEntry.{SharedEntry}
use Rattle.sync_model.specs.SharedHistory.{Contents, number_at, shared_after, contents_after, contents_at}
use Rattle.sync_model.proofs.Histories.{maps_after, numbers_after}
use Rattle.shared_checks.specs.Placing.{IsOn}
use Rattle.shared_checks.proofs.AtomicTypes.{after_type}

-- an atomic has the type that it had
kind_stays : (contents : Contents) (call : SharedCall) (a : ℕ) → IsOn contents call → a < length contents.numbers → kind_of (number_at (shared_after call contents) a) ≡ kind_of (number_at contents a)
kind_stays contents (Map m call) a on inside = refl
kind_stays contents (Begin m) a on inside = refl
kind_stays contents (Next begin) a on inside = refl
kind_stays contents (Atomic b call) a on inside = by (cases_eq a b) where
  new : Number
  new = atomic_after call (number_at contents b)

  by : (a ≡ b) ⊎ (a ≡ b → ⊥) → kind_of (number_at (shared_after (Atomic b call) contents) a) ≡ kind_of (number_at contents a)
  by (inl same) = subst (λ k. kind_of (number_at (shared_after (Atomic b call) contents) k) ≡ kind_of (number_at contents k)) (sym same)
      (ap kind_of (get_or-set_same contents.numbers b new (Truth false) on.0) ∙ after_type call (number_at contents b) on.1)
  by (inr other) = ap kind_of (get_or-set_other contents.numbers b a new (Truth false) other)

on_after : (contents : Contents) (call other : SharedCall) → IsOn contents call → IsOn contents other → IsOn (shared_after call contents) other
on_after contents call (Map m k) on there = subst (λ n. m < n) (sym (maps_after call contents)) there
on_after contents call (Begin m) on there = subst (λ n. m < n) (sym (maps_after call contents)) there
on_after contents call (Next begin) on there = tt
on_after contents call (Atomic a k) on there = (subst (λ n. a < n) (sym (numbers_after call contents)) there.0, ap (λ kind. is_atomic_call kind k) (kind_stays contents call a on there.0) ∙ there.1)

on_along : (contents : Contents) (history : List SharedEntry) (other : SharedCall) → ((n : ℕ) (entry : SharedEntry) → slice_get history n ≡ Some entry → IsOn contents entry.call) → IsOn contents other → IsOn (contents_after contents history) other
on_along contents [] other each there = there
on_along contents (entry ∷ later) other each there = on_along (shared_after entry.call contents) later other
    (λ n x at. on_after contents entry.call x.call (each 0 entry refl) (each (suc n) x at)) (on_after contents entry.call other (each 0 entry refl) there)

pub taken : {A : Type 0} (n : ℕ) (xs : List A) (i : ℕ) (x : A) → slice_get (take n xs) i ≡ Some x → slice_get xs i ≡ Some x
taken zero xs i x at = absurd (none-some x at)
taken (suc n) [] i x at = absurd (none-some x at)
taken (suc n) (y ∷ xs) zero x at = at
taken (suc n) (y ∷ xs) (suc i) x at = taken n xs i x at

pub on_at : (start : Contents) (history : List SharedEntry) (n : ℕ) (call : SharedCall) → ((k : ℕ) (entry : SharedEntry) → slice_get history k ≡ Some entry → IsOn start entry.call) → IsOn start call → IsOn (contents_at start history n) call
on_at start history n call each there = on_along start (take n history) call (λ k entry at. each k entry (taken n history k entry at)) there
