-- What a status says of what was done and what was written.
use Rattle.std.proofs.Common.{◌≡◌, ◌⊎◌, inl, inr, ◌+◌, ◌-◌, ◌^◌, ◌<◌, ◌≤◌, ℕ, List, [], ◌∷◌, ◌++◌, ◌∙◌, length, min, Option, Some, refl, ap, arith, length-append, length-take}
use Rattle.sync_outside.specs.Bytes.{Appends}
use Rattle.sync_outside.specs.Faults.{RoseBy}
use Rattle.script_calls.specs.declared.outcome.Outcome.{Outcome}
use Rattle.workload.specs.Plan.{Plan}
use Rattle.workload.specs.declared.keyword.Dialect.{Dialect}
use Rattle.workload.specs.declared.keyword.Dialect.TheVariants.{Runs}
use Rattle.workload.specs.declared.limits.TheConstants.{MAX_INPUT}
use Rattle.made_workload.specs.Summary.{summary, summary_text}
use Rattle.gosync_call.specs.ComesTo.{ComesBy, ComesTo, EndsWithReport, Fails}
use Rattle.gosync_call.specs.Front.{IsOfAllBytes, IsUnstarted}
use Rattle.gosync_call.specs.Input.{IsWhollyRead}
use Rattle.gosync_call.specs.Made.{MakesTo}
use Rattle.gosync_call.specs.Messages.{WritesOut}
use Rattle.gosync_call.specs.declared.status.Ending.{Ending}
use Rattle.gosync_call.specs.declared.status.Ending.TheVariants as endings
use Rattle.gosync_call.specs.declared.status.Fault.{Fault}
use Rattle.gosync_call.specs.declared.status.Fault.TheVariants as faults
use Rattle.gosync_call.specs.declared.status.Status.{Status}
use Rattle.gosync_call.specs.declared.status.Status.TheVariants as statuses
use Rattle.gosync_call.specs.declared.status.Unread.TheVariants as unreads
use Rattle.gosync_call.proofs.Counts.{no_rise}

pub of_calls : (status : Status) → ((ending : Ending) × (status ≡ statuses.Ended ending)) ⊎ ((status ≡ statuses.Failed faults.CannotWrite) ⊎ IsUnstarted status)
of_calls (statuses.Ended ending) = inl (ending, refl)
of_calls (statuses.Judged verdict) = inr (inr tt)
of_calls (statuses.Unread why) = inr (inr tt)
of_calls (statuses.Failed faults.CannotWrite) = inr (inl refl)
of_calls (statuses.Failed faults.CannotStart) = inr (inr tt)
of_calls (statuses.Failed faults.Memory) = inr (inr tt)
of_calls (statuses.Failed faults.TooLong) = inr (inr tt)
of_calls statuses.Usage = inr (inr tt)

pub of_bytes : (status : Status) → IsOfAllBytes status ⊎ ((status ≡ statuses.Unread unreads.CannotRead) ⊎ ((status ≡ statuses.Unread unreads.Memory) ⊎ (status ≡ statuses.Usage)))
of_bytes (statuses.Ended ending) = inl tt
of_bytes (statuses.Judged verdict) = inl tt
of_bytes (statuses.Unread (unreads.NotAccepted line reason)) = inl tt
of_bytes (statuses.Unread (unreads.NoRecord line reason)) = inl tt
of_bytes (statuses.Unread unreads.CannotRead) = inr (inl refl)
of_bytes (statuses.Unread unreads.Memory) = inr (inr (inl refl))
of_bytes (statuses.Failed fault) = inl tt
of_bytes statuses.Usage = inr (inr (inr refl))

module _ (dialect : Dialect) (Ends : Plan → Ending → Type 0) (Stops : Plan → Fault → Type 0) (told old new : Option (List ℕ))
    (start : (plan : Plan) → Stops plan faults.CannotStart → new ≡ old) (memory : (plan : Plan) → Stops plan faults.Memory → new ≡ old) (long : (plan : Plan) → Stops plan faults.TooLong → new ≡ old) where
  pub unwritten : (status : Status) → ComesBy dialect Ends Stops told old new status → IsUnstarted status → new ≡ old
  unwritten (statuses.Ended ending) comes unstarted = absurd unstarted
  unwritten (statuses.Judged verdict) comes unstarted = absurd comes
  unwritten (statuses.Unread why) comes unstarted = comes.1
  unwritten (statuses.Failed faults.CannotWrite) comes unstarted = absurd unstarted
  unwritten (statuses.Failed faults.CannotStart) comes unstarted = start comes.0 comes.2
  unwritten (statuses.Failed faults.Memory) comes unstarted = memory comes.0 comes.2
  unwritten (statuses.Failed faults.TooLong) comes unstarted = long comes.0 comes.2
  unwritten statuses.Usage comes unstarted = absurd comes

-- what is told of a report
pub unwritten_report : (Comes : Plan → Outcome → Type 0) (told old new : Option (List ℕ)) (status : Status) → ComesTo Comes told old new status → IsUnstarted status → new ≡ old
unwritten_report Comes told old new status comes unstarted =
    unwritten Runs (λ plan ending. EndsWithReport Comes plan old new ending) (λ plan fault. Fails Comes plan old new fault) told old new (λ plan same. same) (λ plan same. same) (λ plan never. absurd never) status comes unstarted

module _ (seed ran ran_now : ℕ) (old new : Option (List ℕ)) where
  pub unmade : (status : Status) → MakesTo seed ran ran_now old new status → IsUnstarted status → new ≡ old
  unmade (statuses.Ended ending) makes unstarted = absurd unstarted
  unmade (statuses.Unread (unreads.NotAccepted line reason)) makes unstarted = absurd makes
  unmade (statuses.Judged verdict) makes unstarted = absurd makes
  unmade (statuses.Unread (unreads.NoRecord line reason)) makes unstarted = absurd makes
  unmade (statuses.Unread unreads.CannotRead) makes unstarted = absurd makes
  unmade (statuses.Unread unreads.Memory) makes unstarted = makes
  unmade (statuses.Failed faults.CannotWrite) makes unstarted = absurd unstarted
  unmade (statuses.Failed faults.CannotStart) makes unstarted = makes
  unmade (statuses.Failed faults.Memory) makes unstarted = makes
  unmade (statuses.Failed faults.TooLong) makes unstarted = absurd makes
  unmade statuses.Usage makes unstarted = absurd makes

  pub made_statuses : (status : Status) → MakesTo seed ran ran_now old new status
      → (status ≡ statuses.Ended endings.Done) ⊎ ((status ≡ statuses.Unread unreads.Memory) ⊎ ((fault : Fault) × (status ≡ statuses.Failed fault)))
  made_statuses (statuses.Ended endings.Done) makes = inl refl
  made_statuses (statuses.Ended (endings.Misused misuse)) makes = absurd makes
  made_statuses (statuses.Ended endings.Deadlocked) makes = absurd makes
  made_statuses (statuses.Ended endings.Raced) makes = absurd makes
  made_statuses (statuses.Unread (unreads.NotAccepted line reason)) makes = absurd makes
  made_statuses (statuses.Judged verdict) makes = absurd makes
  made_statuses (statuses.Unread (unreads.NoRecord line reason)) makes = absurd makes
  made_statuses (statuses.Unread unreads.CannotRead) makes = absurd makes
  made_statuses (statuses.Unread unreads.Memory) makes = inr (inl refl)
  made_statuses (statuses.Failed fault) makes = inr (inr (fault, refl))
  made_statuses statuses.Usage makes = absurd makes

pub made_written : (seed ran ran_now : ℕ) (before : List ℕ) (new : Option (List ℕ)) (ending : Ending) → MakesTo seed ran ran_now (Some before) new (statuses.Ended ending)
    → (ending ≡ endings.Done) × (new ≡ Some (before ++ summary_text (summary seed))) × RoseBy 8 ran ran_now
made_written seed ran ran_now before new endings.Done makes = (refl, makes.0, makes.1)
made_written seed ran ran_now before new (endings.Misused misuse) makes = absurd makes
made_written seed ran ran_now before new endings.Deadlocked makes = absurd makes
made_written seed ran ran_now before new endings.Raced makes = absurd makes

-- what is read of a file that tells its bytes, by what is left of it
pub read_to : (held left : List ℕ) → IsWhollyRead (Some held) (Some left) → (left ≡ []) ⊎ (length held ≡ MAX_INPUT + 1 + length left)
read_to held [] read = inl refl
read_to held (byte ∷ left) read =
    let parts : Some held ≡ Some (read.0 ++ (byte ∷ left)) = read.2.0 in
    let whole : held ≡ read.0 ++ (byte ∷ left) = cc in
    let count : length held ≡ length read.0 + length (byte ∷ left) = ap length whole ∙ length-append read.0 (byte ∷ left) in
    let taken : length read.0 ≡ min (MAX_INPUT + 1) (length held) = ap length read.1 ∙ length-take (MAX_INPUT + 1) held in
    inr (omega arith)

-- a line of which no write failed is whole
pub written_whole : (old new : Option (List ℕ)) (before now : ℕ) (line : List ℕ) → WritesOut old new before now line → now ≤ before → now < 2 ^ 64 - 1 → Appends old new line
written_whole old new before now line (inl appends) stands short = appends
written_whole old new before now line (inr part) stands short = absurd (no_rise before now part.1 stands short)
