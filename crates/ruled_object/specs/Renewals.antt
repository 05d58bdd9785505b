-- A pass that is made good for new calls.
use Rattle.std.specs.Prelude.{◌≡◌, ℕ}
use Rattle.ruled_object.specs.declared.pass.Pass.{Pass}

-- the same pass, good for so many calls from now on
abbrev pub IsRenewed : {S N E R : Type 0} → ℕ → Pass S N E R → Pass S N E R → Type 0
IsRenewed calls old new = new ≡ record old { left = calls }
