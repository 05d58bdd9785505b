-- An answer that isn't the one that was wanted.
use Rattle.std.proofs.Common.{◌≡◌, Bool, true, false, Result, Ok, Err}
use Rattle.sync_types.specs.declared.misuse.Misuse.{Misuse}
use Rattle.sync_model.specs.declared.answer.Answer.{Answer}
use Rattle.sync_model.specs.declared.answer.Answer.TheVariants.{Done, Halted}

pub halted_is_other : {A : Type 0} (answer : Answer A) (misuse : Misuse) (value : A) → answer ≡ Halted misuse → answer ≡ Done value → ⊥
halted_is_other answer misuse value halted done = cc

pub failed_is_other : (answer : Answer Bool) (tried : Bool) → answer ≡ Done tried → tried ≡ false → answer ≡ Done true → ⊥
failed_is_other answer tried done failed succeeded = cc

pub misused_is_other : (answer : Answer (Result (Unit {0}) Misuse)) (given : Result (Unit {0}) Misuse) (misuse : Misuse) → answer ≡ Done given → given ≡ Err misuse → answer ≡ Done (Ok tt) → ⊥
misused_is_other answer given misuse done misused ok = cc
