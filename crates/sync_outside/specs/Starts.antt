-- What becomes of jobs that are started together, and the counts of who starts them.
use Rattle.std.specs.Prelude.{◌≡◌, ℕ, ◌-◌, ◌==◌, List, Bool, true, false, if◌then◌else◌}
use Rattle.std.specs.List.{AllZip}
use Rattle.sync_outside.specs.declared.spawner.Started.{Started}
use Rattle.sync_outside.specs.declared.spawner.Started.TheVariants.{Done, Refused, Memory}
use Rattle.sync_outside.specs.Faults.{Rose, RoseBy, raised, raised_by}

-- each job came to the result at its place; or a start was refused, or memory is out, and the jobs come back
abbrev pub Becomes : {W O : Type 0} → (W → O → Type 0) → List W → Started W O → Type 0
Becomes gives jobs (Done results) = AllZip gives jobs results.items
Becomes gives jobs (Refused back) = back.items ≡ jobs
Becomes gives jobs (Memory back) = back.items ≡ jobs

-- the count rose where a start was refused
abbrev pub RoseIfRefused : {W O : Type 0} → Started W O → ℕ → ℕ → Type 0
RoseIfRefused (Done results) before now = Unit {0}
RoseIfRefused (Refused back) before now = Rose before now
RoseIfRefused (Memory back) before now = Unit {0}

-- the count stays where no start was refused
abbrev pub StaysUnlessRefused : {W O : Type 0} → Started W O → ℕ → ℕ → Type 0
StaysUnlessRefused (Done results) before now = now ≡ before
StaysUnlessRefused (Refused back) before now = Unit {0}
StaysUnlessRefused (Memory back) before now = now ≡ before

-- the count rose by at least the number of jobs where they were done, and else stays
abbrev pub RoseByDone : {W O : Type 0} → Started W O → ℕ → ℕ → ℕ → Type 0
RoseByDone (Done results) jobs before now = RoseBy jobs before now
RoseByDone (Refused back) jobs before now = now ≡ before
RoseByDone (Memory back) jobs before now = now ≡ before

-- the count of calls in which all jobs were done, after one more call
abbrev pub rounds_after : {W O : Type 0} → Started W O → ℕ → ℕ
rounds_after (Done results) rounds = raised rounds
rounds_after (Refused back) rounds = rounds
rounds_after (Memory back) rounds = rounds

-- whether the jobs were done
abbrev pub is_done : {W O : Type 0} → Started W O → Bool
is_done (Done results) = true
is_done (Refused back) = false
is_done (Memory back) = false

-- the counts: starts that were refused, jobs that were done, calls in which all jobs were done
pub record Starts : Type 0 where
  pub faults : ℕ
  pub ran : ℕ
  pub rounds : ℕ

-- no start yet
abbrev pub no_starts : Starts
no_starts = record { faults = 0; ran = 0; rounds = 0 }

-- after a start that was refused
abbrev pub after_refusal : Starts → Starts
after_refusal starts = record starts { faults = raised starts.faults }

-- after a call in which so many jobs were done
abbrev pub after_done : ℕ → Starts → Starts
after_done jobs starts = record starts { ran = raised_by jobs starts.ran; rounds = raised starts.rounds }

-- of so many starts so many are let through at most
pub record Admission : Type 0 where
  pub starts : ℕ
  pub admitted : ℕ

-- which start of each call is refused, counted from 1, and the counts
pub record Refusing : Type 0 where
  pub refused : ℕ
  pub counts : Starts

-- how many of so many starts come before the refused one, where one is refused
abbrev pub admitted_before : ℕ → ℕ → ℕ
admitted_before refused starts = if refused == 0 then starts else refused - 1
