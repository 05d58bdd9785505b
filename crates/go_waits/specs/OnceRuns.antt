-- Which events `do_once` makes, and how it answers by them.
use Rattle.std.specs.Prelude.{◌≡◌, ◌⊎◌, [], ◌∷◌, Result}
use Rattle.sync_model.specs.declared.answer.Answer.{Answer}
use Rattle.sync_model.specs.declared.answer.Answer.TheVariants.{Done, Halted}
use Rattle.sync_model.specs.declared.journal.Deed.TheVariants.{Event, Refused}
use Rattle.wait_cores.specs.declared.once.OnceEvent.TheVariants.{Begin, End}
use Rattle.wait_cores.specs.declared.once.OnceReply.TheVariants as reply
use Rattle.go_waits.specs.declared.once_begun.OnceBegun.TheVariants as begun
use Rattle.go_waits.specs.declared.once_run.OnceRun.{OnceRun}
use Rattle.go_waits.specs.declared.once_run.OnceRun.TheVariants.{Ran, Already}
use Rattle.go_waits.specs.OnceCalls.{OnceDeeds, Begins}

-- The function ran exactly where the beginning was answered that it runs. Then the call ends it, keeps what is to be kept of what the function came to, and answers what it came to.
abbrev pub Runs : {T E : Type 0} → (Result Unit E → T) → (Result Unit E → Type 0) → OnceDeeds T → Answer (OnceRun E) → Type 0
Runs kept result deeds (Done (Ran outcome)) = result outcome × (deeds ≡ Event Begin reply.Run ∷ (Event (End (kept outcome)) reply.Ended ∷ []))
Runs {T} kept result deeds (Done Already) = (value : T) × Begins deeds (Done (begun.Already value))
Runs {T} {E} kept result deeds (Halted misuse) = ((outcome : Result Unit E) × result outcome × (deeds ≡ Event Begin reply.Run ∷ (Refused (End (kept outcome)) misuse ∷ []))) ⊎ Begins {T = T} deeds (Halted misuse)

-- the same of a once that keeps nothing, as Go's
abbrev pub Does : {E : Type 0} → (Result Unit E → Type 0) → OnceDeeds (Unit {0}) → Answer (OnceRun E) → Type 0
Does result = Runs (λ outcome. tt) result
