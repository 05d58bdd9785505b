-- What a writer's unlock does for the readers that wait.
use Rattle.std.specs.Prelude.{◌≡◌, [], length}
use Rattle.std.specs.List.{AllByRecursion}
use Rattle.rw_core.specs.declared.place.Place.TheVariants.{Admitted}
use Rattle.rw_core.specs.RwMachine.{State, place_of}

-- all that waited are admitted, and hold the lock with nobody else
pub record Admits (old new : State) : Type 0 where
  pub admitted : AllByRecursion (λ reader. place_of new reader ≡ Admitted) old.queue
  pub queue : new.queue ≡ []
  pub readers : new.readers ≡ length old.queue
