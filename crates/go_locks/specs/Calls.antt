-- What one call of a running lock did.
use Rattle.std.specs.Prelude.{ℕ, true, List}
use Rattle.sync_model.specs.declared.answer.Answer.{Answer}
use Rattle.sync_model.specs.declared.journal.Deed.{Deed}
use Rattle.sync_model.specs.Front.{Front}
use Rattle.ruled_object.specs.declared.pass.Pass.{Pass}
use Rattle.call_loop.specs.Calls as running

-- The call made the events of a call that is spelt so, one after the other, and no others, at moments of its clock. Each is the machine's at its place. It answers Halted exactly where the journal has a halt before the last one's place.
abbrev pub Did : {S N E R A : Type 0} → (S → ℕ → E → S × R) → S → (List (Deed E R) → Answer A → Type 0) → (List (Deed E R) → Type 0) → Pass S N E R → Front → Answer A → Pass S N E R → Front → Type 0
Did next start spells clocked old from answer new to = running.Did next true start spells clocked old from answer new to
