-- One pass of a worker's is used, and the others stay.
use Rattle.std.proofs.Common.{◌≡◌, ◌≢◌, ℕ, Bool, true, false, ◌==◌, List, length, ◌<◌, get_or, Option, Some, slice_get, refl, sym, ap, ◌∙◌, subst, arith}
use Rattle.std.proofs.lemmas.Bool.{eq-eqb, eqb-true, false≢true}
use Rattle.std.proofs.lemmas.List.{get_or-set_same, get_or-set_other, length-set}
use Rattle.std.proofs.lemmas.Option.{get_or_from_slice_get, slice_get-get_or, slice_get_within, same_Some}
use Rattle.std.specs.Prelude.{slice_set}
use Rattle.sync_model.specs.Front.{Front}
use Rattle.sync_model.specs.Note.{Holding}
use Rattle.protocols.specs.Spelling.{CallAnswer}
use Rattle.run_record.specs.Parts.{Part}
use Rattle.thread_objects.specs.declared.object.AnyObject.{AnyObject}
use Rattle.thread_objects.specs.declared.pass.AnyPass.{AnyPass}
use Rattle.thread_objects.specs.declared.pass.AnyPass.TheVariants as passes
use Rattle.thread_objects.specs.Desks.{AreSeats}
use Rattle.thread_objects.specs.ByKind.{own_of}
use Rattle.thread_objects.specs.Passes.{IsSeatAt, owns_of}
use Rattle.thread_objects.specs.Working.{Works, desk_at, desk_with}
use Rattle.thread_runner.proofs.Working.{among}

module _ {N : Type 0} (all : List (AnyPass N)) (number : ℕ) (d is : AnyPass N) (within : number < length all) where
  abbrev was : AnyPass N
  was = get_or all number d

  at : slice_get all number ≡ Some was
  at = slice_get-get_or all number d within

  before : owns_of all number ≡ own_of was
  before = ap (λ (p : AnyPass N). own_of p) (get_or_from_slice_get all number was passes.None at)

  after : owns_of (slice_set all number is) number ≡ own_of is
  after = ap (λ (p : AnyPass N). own_of p) (get_or-set_same all number is passes.None within)

  same : (object : ℕ) → (number == object) ≡ false → owns_of (slice_set all number is) object ≡ owns_of all object
  same object other = ap (λ (p : AnyPass N). own_of p) (get_or-set_other all number object is passes.None (λ e. false≢true (sym other ∙ eq-eqb number object (sym e))))

  -- what is done with one pass is done with it among all
  pub in_slot : {K O : Type 0} (part : Part O) (owner : K → Option Holding) (front : K → Front) (old new : K) (answer : CallAnswer O)
      → Works part (desk_at owner front number (own_of was) old) answer (desk_at owner front number (own_of is) new)
      → Works part (desk_with owner front (owns_of all) old) answer (desk_with owner front (owns_of (slice_set all number is)) new)
  in_slot part owner front old new answer works = among part owner front number (own_of was) (own_of is) (owns_of all) (owns_of (slice_set all number is)) old new answer before after same works

module _ {N H : Type 0} (at_home : H → N → Type 0) (home : H) (workers worker : ℕ) (objects : List (AnyObject N H)) (all : List (AnyPass N)) (number : ℕ) (object : AnyObject N H) (is : AnyPass N) (here : slice_get objects number ≡ Some object) (seat : IsSeatAt at_home home workers worker object is) (seats : AreSeats at_home home workers worker objects all) where
  abbrev Sits : AnyObject N H → AnyPass N → Type 0
  Sits o p = IsSeatAt at_home home workers worker o p

  within_all : number < length all
  within_all = omega (arith, slice_get_within objects number object here, seats.count)

  abbrev changed : List (AnyPass N)
  changed = slice_set all number is

  sits_here : (o : AnyObject N H) (p : AnyPass N) → slice_get objects number ≡ Some o → slice_get changed number ≡ Some p → Sits o p
  sits_here o p object_at pass_at =
      let same_object : object ≡ o = same_Some object o (sym here ∙ object_at) in
      let same_pass : is ≡ p = sym (get_or-set_same all number is p within_all) ∙ get_or_from_slice_get changed number p p pass_at in
      subst (λ (x : AnyObject N H). Sits x p) same_object (subst (λ (x : AnyPass N). Sits object x) same_pass seat)

  sits_elsewhere : (other : ℕ) (o : AnyObject N H) (p : AnyPass N) → other ≢ number → slice_get objects other ≡ Some o → slice_get changed other ≡ Some p → Sits o p
  sits_elsewhere other o p apart object_at pass_at =
      let within : other < length all = omega (arith, slice_get_within objects other o object_at, seats.count) in
      let kept : get_or all other p ≡ p = sym (get_or-set_other all number other is p apart) ∙ get_or_from_slice_get changed other p p pass_at in
      seats.each other o p object_at (slice_get-get_or all other p within ∙ ap (λ (x : AnyPass N). Some x) kept)

  sits : (other : ℕ) (o : AnyObject N H) (p : AnyPass N) (same : Bool) → (number == other) ≡ same → slice_get objects other ≡ Some o → slice_get changed other ≡ Some p → Sits o p
  sits other o p true same object_at pass_at =
      let at_it : number ≡ other = eqb-true number other same in
      sits_here o p (ap (λ (k : ℕ). slice_get objects k) at_it ∙ object_at) (ap (λ (k : ℕ). slice_get changed k) at_it ∙ pass_at)
  sits other o p false same object_at pass_at = sits_elsewhere other o p (λ e. false≢true (sym same ∙ eq-eqb number other (sym e))) object_at pass_at

  -- where a pass is replaced by another seat at its object, all are seats
  pub seats_kept : AreSeats at_home home workers worker objects changed
  seats_kept = record { count = length-set all number is ∙ seats.count; each = λ other o p. sits other o p (number == other) refl }
