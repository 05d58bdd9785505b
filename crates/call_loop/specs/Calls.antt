-- What one call of a running object did.
use Rattle.std.specs.Prelude.{◌≡◌, ℕ, Bool, true, false, List, Result, Ok, Err, refl}
use mathlib.Core.Path.{sym, subst}
use Rattle.sync_types.specs.declared.misuse.Misuse.{Misuse}
use Rattle.sync_model.specs.declared.answer.Answer.{Answer}
use Rattle.sync_model.specs.declared.answer.Answer.TheVariants.{Done, Halted}
use Rattle.sync_model.specs.declared.journal.Deed.{Deed}
use Rattle.sync_model.specs.Front.{Front}
use Rattle.ruled_object.specs.declared.pass.Pass.{Pass}
use Rattle.ruled_object.specs.Growth.{Placed, deeds_of, Grows, MeetsHalt}
use Rattle.protocols.specs.Spelling.{CallAnswer}

-- The call made these events, one after the other, and no others. `from` is the front of the caller's note before, and `to` the front after.
-- `spells` says which events a call of this kind may make and what it then answers, and `timely` which moments they may have.
pub record Did {S N E R A : Type 0} (next : S → ℕ → E → S × R) (halts : Bool) (start : S) (spells : List (Deed E R) → Answer A → Type 0) (timely : List (Deed E R) → Type 0) (old : Pass S N E R) (from : Front) (answer : Answer A) (new : Pass S N E R) (to : Front) : Type 0 where
  pub entries : List (Placed E R)
  -- each is the machine's at its place, behind all that the caller had seen
  pub grows : Grows next halts start old from entries new to
  -- they are the events of the call, in order, and it answers by them
  pub spelt : spells (deeds_of entries) answer
  -- it answers Halted exactly where the journal has a halt before the last one's place, and then by the first one's misuse
  pub halted : MeetsHalt entries answer
  -- their moments are the clock's
  pub moments : timely (deeds_of entries)

module _ {O W : Type 0} where
  -- where a call that answers this leaves its caller: out, but for an outcome that leaves it elsewhere
  abbrev pub left_in : W → (O → W) → CallAnswer O → W
  left_in out left (Done (Ok outcome)) = left outcome
  left_in out left (Done (Err misuse)) = out
  left_in out left (Halted misuse) = out

module _ {O : Type 0} where
  -- a call that isn't halted gives only such results
  abbrev pub IsGiven : (Result O Misuse → Bool) → CallAnswer O → Type 0
  IsGiven gives (Done given) = gives given ≡ true
  IsGiven gives (Halted misuse) = Unit {0}

  -- whether the call takes in what earlier ones left: by such an outcome alone
  abbrev pub has_gained : (O → Bool) → CallAnswer O → Bool
  has_gained gains (Done (Ok outcome)) = gains outcome
  has_gained gains (Done (Err misuse)) = false
  has_gained gains (Halted misuse) = false

-- where every outcome leaves its caller out, every call does
pub left_out : {O W : Type 0} (out : W) (answer : CallAnswer O) → left_in out (λ outcome. out) answer ≡ out
left_out out (Done (Ok outcome)) = refl
left_out out (Done (Err misuse)) = refl
left_out out (Halted misuse) = refl

module _ {A B : Type 0} where
  -- an answer told in other words: Halted stays what it is
  abbrev pub told : (A → B) → Answer A → Answer B
  told words (Done given) = Done (words given)
  told words (Halted misuse) = Halted misuse

  pub halt_told : {E R : Type 0} (words : A → B) (answer : Answer A) (entries : List (Placed E R)) → MeetsHalt entries answer → MeetsHalt entries (told words answer)
  halt_told words (Done given) entries meets = meets
  halt_told words (Halted misuse) entries meets = meets

-- what a call did by one spelling it did by another one, where that says the same in other words
pub retold : {S N E R A B : Type 0} (next : S → ℕ → E → S × R) (halts : Bool) (start : S) (spells : List (Deed E R) → Answer A → Type 0) (timely : List (Deed E R) → Type 0) (spells_so : List (Deed E R) → Answer B → Type 0) (timely_so : List (Deed E R) → Type 0) (words : A → B) (old new : Pass S N E R) (from to : Front) (answer : Answer A) (result : Answer B)
    → ((deeds : List (Deed E R)) → spells deeds answer → spells_so deeds (told words answer)) → ((deeds : List (Deed E R)) → timely deeds → timely_so deeds) → result ≡ told words answer
    → Did next halts start spells timely old from answer new to → Did next halts start spells_so timely_so old from result new to
retold next halts start spells timely spells_so timely_so words old new from to answer result spelt moments is did = record {
  entries = did.entries;
  grows = did.grows;
  spelt = subst (λ a. spells_so (deeds_of did.entries) a) (sym is) (spelt _ did.spelt);
  halted = subst (λ a. MeetsHalt did.entries a) (sym is) (halt_told words answer did.entries did.halted);
  moments = moments _ did.moments;
}
