-- What a thread did with its job once it was told whether to do it.
use Rattle.std.specs.Prelude.{◌≡◌, Bool, true, false, List, [], ◌∷◌, ◌++◌}
use Rattle.sync_outside.specs.declared.starting.Fate.{Fate}
use Rattle.sync_outside.specs.declared.starting.Fate.TheVariants.{Done, Kept}

-- told to go it did the job, and else it kept it
abbrev pub Fares : {W O : Type 0} → (W → O → Type 0) → W → Bool → Fate W O → Type 0
Fares gives job go (Done result) = (go ≡ true) × gives job result
Fares gives job go (Kept kept) = (go ≡ false) × (kept ≡ job)

-- the jobs of threads that were started one by one, the last job first
abbrev pub owed : {H W : Type 0} → (H → W) → List H → List W
owed job_of [] = []
owed job_of (handle ∷ handles) = owed job_of handles ++ job_of handle ∷ []
