-- A pass is renewed as often as its caller likes.
use Rattle.std.specs.Prelude.{ℕ}
use Rattle.ruled_object.specs.declared.pass.Pass.{Pass}
use Rattle.ruled_object.specs.Renewals.{IsRenewed}

-- the same pass, however many calls it is good for
abbrev pub IsSame : {S N E R : Type 0} → Pass S N E R → Pass S N E R → Type 0
IsSame old new = (calls : ℕ) × IsRenewed calls old new
