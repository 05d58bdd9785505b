-- When a call of a once may call its function.
use Rattle.std.specs.Prelude.{◌≡◌, [], ◌∷◌, List}
use Rattle.sync_model.specs.declared.journal.Deed.TheVariants.{Event}
use Rattle.sync_model.specs.Front.{Front}
use Rattle.wait_cores.specs.declared.once.OnceEvent.{OnceEvent}
use Rattle.wait_cores.specs.declared.once.OnceEvent.TheVariants.{Begin}
use Rattle.wait_cores.specs.declared.once.OnceReply.{OnceReply}
use Rattle.wait_cores.specs.declared.once.OnceReply.TheVariants.{Run}
use Rattle.ruled_object.specs.Growth.{Placed, deeds_of}
use Rattle.go_waits.specs.declared.once.Once.{Once}
use Rattle.go_waits.specs.OnceCalls.{RunsOnce}
use Rattle.go_waits.specs.Onces.{OncePass, OnceGrows, IsRunnerOf}
use Rattle.go_sync.specs.Made.{no_front}

-- The pass shows that its caller, which came with `old`, runs the function: its one event since was a beginning that was answered so, nobody else's was so far as it has seen, and it hasn't ended the function.
pub record MayRun {T N H : Type 0} (once : Once T N H) (old runner : OncePass T N) : Type 0 where
  pub runs : IsRunnerOf once runner
  pub alone : RunsOnce runner
  pub front : Front
  pub entries : List (Placed (OnceEvent T) (OnceReply T))
  pub grows : OnceGrows once old (no_front 0) entries runner front
  pub deeds : deeds_of entries ≡ Event Begin Run ∷ []
