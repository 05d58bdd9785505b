-- What a call did on an object that its caller has one pass to.
use Rattle.std.specs.Prelude.{ℕ, Bool, List, []}
use Rattle.sync_model.specs.declared.answer.Answer.{Answer}
use Rattle.sync_model.specs.declared.journal.Deed.{Deed}
use Rattle.sync_model.specs.Front.{Front}
use Rattle.ruled_object.specs.declared.pass.Pass.{Pass}
use Rattle.ruled_object.specs.Growth.{Placed, Grows, MeetsHalt, deeds_of}

-- the front of a caller whose note carries nothing but the number of its last event
abbrev pub no_front : ℕ → Front
no_front time = record { counts = []; time = time }

-- The call made the events of a call that is spelt so, and no others, each the machine's at its place. It answers Halted exactly where the journal has a halt before the last one's place.
pub record Made {S N E R A : Type 0} (next : S → ℕ → E → S × R) (halts : Bool) (start : S) (spells : List (Deed E R) → Answer A → Type 0) (old : Pass S N E R) (answer : Answer A) (new : Pass S N E R) : Type 0 where
  pub entries : List (Placed E R)
  pub time : ℕ
  pub grows : Grows next halts start old (no_front 0) entries new (no_front time)
  pub spelt : spells (deeds_of entries) answer
  pub halted : MeetsHalt entries answer
