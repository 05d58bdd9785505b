-- What one event does to the cell in the slot.
use Rattle.std.specs.Prelude.{◌≡◌, ℕ, ◌<◌, Bool, true, false}
use Rattle.sync_model.specs.declared.answer.Answer.{Answer}
use Rattle.sync_model.specs.declared.answer.Answer.TheVariants.{Done, Halted}
use Rattle.sync_model.specs.declared.journal.Deed.{Deed}
use Rattle.sync_model.specs.declared.journal.Deed.TheVariants.{Event, Refused}
use Rattle.sync_model.specs.Front.{Front, AtLeast, SameCounts}
use Rattle.sync_model.specs.Journal.{halt_next, is_such, state_next, Right}
use Rattle.ruled_object.specs.declared.cell.Cell.{Cell}

-- an event with its answer, as the journal has it
abbrev pub deed_of : {E R : Type 0} → E → Answer R → Deed E R
deed_of e (Done r) = Event e r
deed_of e (Halted m) = Refused e m

-- A deed of a caller that is right at this cell with this word, and the cell and the word after it. `known` is the front that the caller's note then has.
-- An acquiring event's front is at least what releasing ones left, and a releasing one leaves its front. No other deed leaves any counts. Each deed has a number past those of the deeds before it, and leaves it.
pub record Acts {S N E R : Type 0} (next : S → ℕ → E → S × R) (halts : Bool) (frees takes : E → R → Bool) (front : N → Front) (tells : S → ℕ) (means : S → ℕ → S) (caller : ℕ) (deed : Deed E R) (known : Front) (word : ℕ) (old : Cell S N) (left_word : ℕ) (new : Cell S N) : Type 0 where
  pub right : Right next halts (means old.state word) old.halted caller deed
  pub state : means new.state left_word ≡ state_next next (means old.state word) caller deed
  pub told : left_word ≡ tells (means new.state left_word)
  pub halted : new.halted ≡ halt_next old.halted deed
  pub more : AtLeast (front new.note).counts (front old.note).counts
  pub left : is_such frees deed ≡ true → AtLeast (front new.note).counts known.counts
  pub taken : is_such takes deed ≡ true → AtLeast known.counts (front old.note).counts
  pub kept : is_such frees deed ≡ false → SameCounts (front new.note) (front old.note)
  pub later : (front old.note).time < known.time
  pub clock : (front new.note).time ≡ known.time
