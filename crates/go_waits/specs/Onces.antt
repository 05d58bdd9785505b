-- What contracts see of a running Once and of the passes to it.
use Rattle.std.specs.Prelude.{◌≡◌, ℕ, Bool, true, false, List}
use Rattle.sync_model.specs.declared.journal.Entry.{Entry}
use Rattle.sync_model.specs.Front.{Front}
use Rattle.wait_cores.specs.declared.once.OnceEvent.{OnceEvent}
use Rattle.wait_cores.specs.declared.once.OnceReply.{OnceReply}
use Rattle.wait_cores.specs.OnceEdges.{once_releases, once_acquires}
use Rattle.wait_cores.specs.OnceMachine.{OnceState, next}
use Rattle.wait_cores.specs.OnceStanding.{waits_after, runs_after}
use Rattle.ruled_object.specs.declared.pass.Pass.{Pass}
use Rattle.ruled_object.specs.Gathered as gathered
use Rattle.ruled_object.specs.Growth.{Placed, Grows, IsLawful}
use Rattle.ruled_object.specs.Passes as object
use Rattle.ruled_object.specs.Standing.{stand_by}
use Rattle.protocols.specs.OnceStages.{once_stands}
use Rattle.call_loop.specs.Between.{IsBetween, AreAllBetween, AreNewBetween}
use Rattle.go_waits.specs.declared.once.Once.{Once}

-- an entry of a once's journal
abbrev pub OnceMade : Type 0 → Type 0
OnceMade T = Entry (OnceEvent T) (OnceReply T)

-- what was done on a once, in its one order
abbrev pub OnceJournal : Type 0 → Type 0
OnceJournal T = List (OnceMade T)

-- the pass of a caller
abbrev pub OncePass : Type 0 → Type 0 → Type 0
OncePass T N = Pass (OnceState T) N (OnceEvent T) (OnceReply T)

module _ {T : Type 0} where
  -- whether a caller waits, and whether it runs the function, by its own entries
  abbrev pub waits_by : OnceJournal T → Bool
  waits_by own = stand_by false (λ waits event reply. waits_after waits reply) own

  abbrev pub runs_by : OnceJournal T → Bool
  runs_by own = stand_by false (λ runs event reply. runs_after runs reply) own

module _ {T N H : Type 0} where
  -- how many callers it has, and the state that its machine started from
  abbrev pub callers_of : Once T N H → ℕ
  callers_of once = object.callers_of once.object

  abbrev pub start_of : Once T N H → OnceState T
  start_of once = object.start_of once.object

  -- it is the home of the note that the once was made with
  abbrev pub IsHomeOf : (H → N → Type 0) → Once T N H → H → Type 0
  IsHomeOf at once home = object.IsHomeOf at once.object home

  -- it is the pass of a caller of this once that is between two calls: by its own entries it neither waits nor runs the function
  abbrev pub IsPassOf : Once T N H → OncePass T N → Type 0
  IsPassOf once pass = IsBetween (false, false) once_stands once.object pass

  -- it is the pass of the caller of this once that is to run the function, or runs it
  pub record IsRunnerOf (once : Once T N H) (pass : OncePass T N) : Type 0 where
    pub of : object.IsPassOf once.object pass
    pub runs : stand_by (false, false) once_stands (object.own_by pass) ≡ (false, true)

  -- all passes of the once, in order of number, each between two calls
  abbrev pub AreAllPasses : Once T N H → List (OncePass T N) → Type 0
  AreAllPasses once passes = AreAllBetween (false, false) once_stands once.object passes

  -- all passes of a new once, each good for so many calls. Nothing was done yet
  abbrev pub AreNew : Once T N H → ℕ → List (OncePass T N) → Type 0
  AreNew once calls passes = AreNewBetween (false, false) once_stands once.object calls passes

  -- the caller made these entries, in order and no others; the fronts along them never fall
  abbrev pub OnceGrows : Once T N H → OncePass T N → Front → List (Placed (OnceEvent T) (OnceReply T)) → OncePass T N → Front → Type 0
  OnceGrows once old from es new to = Grows next true (start_of once) old from es new to

  -- what a pass shows of the journal follows the machine, keeps the edge law, and has of its caller what the pass has
  abbrev pub IsOnceLawful : Once T N H → OncePass T N → Type 0
  IsOnceLawful once pass = IsLawful next true once_releases once_acquires (start_of once) pass

  -- the caller halted the once by this entry
  abbrev pub OnceHalts : Once T N H → OncePass T N → OnceMade T → OncePass T N → Type 0
  OnceHalts once old e new = object.Adds next true once_releases once_acquires (start_of once) old e new

  -- the journal is all that the passes' callers did on the once
  abbrev pub IsOnceWhole : Once T N H → OnceJournal T → List (OncePass T N) → Type 0
  IsOnceWhole once journal passes = gathered.IsWhole next true once_releases once_acquires (start_of once) journal passes

  -- the same, and each pass has seen all of it
  abbrev pub IsOnceSeen : Once T N H → OnceJournal T → List (OncePass T N) → Type 0
  IsOnceSeen once journal passes = gathered.IsSeen next true once_releases once_acquires (start_of once) journal passes
