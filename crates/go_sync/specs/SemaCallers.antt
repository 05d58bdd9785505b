-- What one call of a semaphore's caller did.
use Rattle.std.specs.Prelude.{◌≡◌, ℕ, true, Option, Some, None}
use Rattle.sync_model.specs.declared.answer.Answer.{Answer}
use Rattle.sema_core.specs.SemaMachine.{next}
use Rattle.sync_outside.specs.declared.clock.Clock.{Ghosts}
use Rattle.weighted_sema.specs.SemaCalls.{SemaDeeds}
use Rattle.weighted_sema.specs.Semas.{start_of, IsSemaLawful, IsWeightOf}
use Rattle.go_sync.specs.declared.semaphore.SemaCaller.{SemaCaller}
use Rattle.go_sync.specs.Made.{Made}

module _ {C A : Type 0} {clock : Ghosts C} where
  -- The caller made the events of a call that is spelt so, and no others, each the machine's at its place; it is still at its semaphore, and what it has now seen follows the machine.
  pub record Makes (spells : SemaDeeds → Answer A → Type 0) (old : SemaCaller C clock) (answer : Answer A) (new : SemaCaller C clock) : Type 0 where
    pub semaphore : new.semaphore ≡ old.semaphore
    pub at : new.clock ≡ old.clock
    pub did : Made next true (start_of old.semaphore.now.sema) spells old.pass answer new.pass
    pub lawful : IsSemaLawful old.semaphore.now.sema new.pass

  -- it made such a call exactly where callers may come for the weight, 1 up to the semaphore's size, and else nothing was done
  abbrev pub MakesOf : ℕ → (SemaDeeds → Answer A → Type 0) → SemaCaller C clock → Option (Answer A) → SemaCaller C clock → Type 0
  MakesOf weight spells old (Some answer) new = IsWeightOf old.semaphore.now.sema weight × Makes spells old answer new
  MakesOf weight spells old None new = (IsWeightOf old.semaphore.now.sema weight → ⊥) × (new ≡ old)
