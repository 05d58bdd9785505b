-- From the parts of a run to what the program's status says of it.
use Rattle.std.proofs.Common.{◌≡◌, ℕ, List, [], Option, Some, None, Result, Ok, Err, MatchResult, ◌⊎◌, inl, inr, refl, sym, ap, subst, ◌∙◌}
use Rattle.sync_outside.specs.Bytes.{Appends, AppendsFront}
use Rattle.sync_types.specs.declared.misuse.Misuse.{Misuse}
use Rattle.script_calls.specs.declared.outcome.Outcome.{Outcome}
use Rattle.script_calls.specs.declared.outcome.Outcome.TheVariants as outcomes
use Rattle.script_calls.specs.declared.outcome.Report.{Report}
use Rattle.workload.specs.Plan.{Plan}
use Rattle.workload.specs.Reads.{ReadsIn}
use Rattle.workload.specs.declared.keyword.Dialect.{Dialect}
use Rattle.workload.specs.declared.keyword.Dialect.TheVariants.{Plain, Runs, Races}
use Rattle.run_record.specs.Explains.{Explains}
use Rattle.run_record.specs.InOneOrder.{InOneOrder}
use Rattle.run_record.specs.Record.{Record}
use Rattle.gosync_call.specs.declared.status.Ending.{Ending}
use Rattle.gosync_call.specs.declared.status.Ending.TheVariants as endings
use Rattle.gosync_call.specs.declared.status.Fault.{Fault}
use Rattle.gosync_call.specs.declared.status.Fault.TheVariants as faults
use Rattle.gosync_call.specs.declared.status.Front.{Front}
use Rattle.gosync_call.specs.declared.status.Front.TheVariants as fronts
use Rattle.gosync_call.specs.declared.status.Status.{Status}
use Rattle.gosync_call.specs.declared.status.Status.TheVariants as statuses
use Rattle.gosync_call.specs.declared.status.Unread.TheVariants as unreads
use Rattle.gosync_call.specs.declared.words.Mode.{Mode}
use Rattle.gosync_call.specs.declared.words.Mode.TheVariants as modes
use Rattle.gosync_call.specs.Command.{file_in, AskFor}
use Rattle.gosync_call.specs.ComesTo.{ComesBy, ComesTo, EndsWithReport, Fails, IsReadFromFile, IsReadIn}
use Rattle.gosync_call.specs.Front.{IsFrontOfRun}
use Rattle.gosync_call.specs.Headline.{RunsTo, RunsInJobs}
use Rattle.gosync_call.specs.Input.{AreBytesOf}
use Rattle.gosync_call.specs.Messages.{ending_of, message_of, IsOutOfMemory, WritesOut}
use Rattle.gosync_call.specs.Modes.{dialect_of, EndsBy, ModeComesTo, StopsBy}
use Rattle.gosync_call.specs.Races.{ending_with, EndsWithRaces, FailsWithRaces, HasRaces, RacesTo}
use Rattle.gosync_call.specs.Traces.{EndsWithRecord, FailsWithRecord, TracesTo}
use Rattle.step_runner.specs.Outcomes.{StepsTo}
use Rattle.race_clocks.specs.declared.race.Race.{Race}
use Rattle.run_report.specs.ReportText.{report_text}

none_is : (b : List ℕ) → None ≡ Some b → ⊥
none_is b is = cc

held_is : (x y : List ℕ) → Some x ≡ Some y → x ≡ y
held_is x y e = cc

status_is : (x y : Status) → fronts.Ended x ≡ fronts.Ended y → x ≡ y
status_is x y is = cc

run_is : (x y : Plan) → fronts.Run x ≡ fronts.Run y → y ≡ x
run_is x y is = cc

no_run : (plan : Plan) (status : Status) → fronts.Run plan ≡ fronts.Ended status → ⊥
no_run plan status is = cc

not_misused : (misuse : Misuse) → endings.Done ≡ endings.Misused misuse → ⊥
not_misused misuse is = cc

not_deadlocked : endings.Done ≡ endings.Deadlocked → ⊥
not_deadlocked is = cc

misused_not_done : (misuse : Misuse) → endings.Misused misuse ≡ endings.Done → ⊥
misused_not_done misuse is = cc

misused_not_deadlocked : (misuse : Misuse) → endings.Misused misuse ≡ endings.Deadlocked → ⊥
misused_not_deadlocked misuse is = cc

same_misuse : (x y : Misuse) → endings.Misused x ≡ endings.Misused y → x ≡ y
same_misuse x y is = cc

abbrev pub mode_in : Option (Mode × List ℕ) → Mode
mode_in None = modes.Step
mode_in (Some words) = words.0

abbrev pub file_at : Option (Mode × List ℕ) → List ℕ
file_at None = []
file_at (Some words) = words.1

-- words ask for one mode
pub same_mode : (words : List (List ℕ)) (mode other : Mode) (file name : List ℕ) → AskFor words mode file → AskFor words other name → other ≡ mode
same_mode words mode other file name asks also = ap mode_in (sym also ∙ asks)

-- the workload that is left to be run is the one that the file is read as
pub is_read : (told : Option (List ℕ)) (plan : Plan) → IsFrontOfRun told (fronts.Run plan) → IsReadFromFile told plan
is_read told plan (inl front) = subst (IsReadFromFile told) (run_is plan front.0 front.1) front.2
is_read told plan (inr front) = absurd (no_run plan (statuses.Unread front.0) front.1)

pub told_so : (bytes read : List ℕ) (told : Option (List ℕ)) → told ≡ Some bytes → AreBytesOf told read → read ≡ bytes
told_so bytes read None is are = absurd (none_is bytes is)
told_so bytes read (Some held) is are = are ∙ held_is held bytes is

-- no text of a dialect is read as two workloads
abbrev pub OneReading : Dialect → Type 0
OneReading dialect = (bytes : List ℕ) (p q : Plan) → ReadsIn dialect bytes p → ReadsIn dialect bytes q → p ≡ q

-- the workload that told bytes are read as
pub plan_is : (dialect : Dialect) (bytes : List ℕ) (plan : Plan) (told : Option (List ℕ)) → OneReading dialect → (other : Plan) → told ≡ Some bytes → ReadsIn dialect bytes plan → IsReadIn dialect told other → other ≡ plan
plan_is dialect bytes plan told one other is reads read = one bytes other plan (subst (λ (b : List ℕ). ReadsIn dialect b other) (told_so bytes read.0 told is read.1) read.2) reads

-- what is said of the status that is left
pub says_of : (front : Front) (words : List (List ℕ)) (file : List ℕ) (other status : Status) (old new : Option (List ℕ)) (before now : ℕ)
    → file_in words ≡ file → front ≡ fronts.Ended other → front ≡ fronts.Ended status → WritesOut old new before now (message_of file other) → WritesOut old new before now (message_of (file_in words) status)
says_of front words file other status old new before now named was is says =
    subst (λ (s : Status). WritesOut old new before now (message_of (file_in words) s)) (status_is other status (sym was ∙ is))
    (subst (λ (f : List ℕ). WritesOut old new before now (message_of f other)) (sym named) says)

module _ (Comes : Plan → Outcome → Type 0) (old new : Option (List ℕ)) where
  -- what is written of an outcome that the run came to
  pub written_so : (plan : Plan) (outcome : Outcome) (result : Result Ending Fault) → Comes plan outcome
      → MatchResult result (λ ending. (ending ≡ ending_of outcome) × Appends old new (report_text plan outcome)) (λ fault. (fault ≡ faults.CannotWrite) × AppendsFront old new (report_text plan outcome))
      → MatchResult result (EndsWithReport Comes plan old new) (Fails Comes plan old new)
  written_so plan outcome (Ok ending) comes written = (outcome, comes, written.0, written.1)
  written_so plan outcome (Err fault) comes written = subst (λ (f : Fault). Fails Comes plan old new f) (sym written.0) (outcome, comes, written.1)

-- a workload's run ended so, or memory was out
abbrev pub Completes : (Ending → Type 0) → Status → Type 0
Completes Ends status = ((ending : Ending) × Ends ending × (status ≡ statuses.Ended ending)) ⊎ IsOutOfMemory status

module _ (dialect : Dialect) (Ends : Plan → Ending → Type 0) (Stops : Plan → Fault → Type 0) (told old new : Option (List ℕ)) where
  -- what a front's status comes to
  pub status_comes : (status : Status) → ((s : Status) × (fronts.Ended status ≡ fronts.Ended s) × ComesBy dialect Ends Stops told old new s) → ComesBy dialect Ends Stops told old new status
  status_comes status comes = subst (λ (s : Status). ComesBy dialect Ends Stops told old new s) (sym (status_is status comes.0 comes.1)) comes.2

  -- without a fault, a text that is read is run, unless memory is out; or what is told of the run passes a limit
  pub completes : (bytes : List ℕ) (plan : Plan) (Read Write Start : Type 0) → OneReading dialect → (status : Status) → ComesBy dialect Ends Stops told old new status → told ≡ Some bytes → ReadsIn dialect bytes plan
      → (status ≡ statuses.Unread unreads.CannotRead → Read) → (status ≡ statuses.Failed faults.CannotWrite → Write) → (status ≡ statuses.Failed faults.CannotStart → Start)
      → (Read → ⊥) → (Write → ⊥) → (Start → ⊥) → Completes (Ends plan) status ⊎ ((status ≡ statuses.Failed faults.TooLong) × Stops plan faults.TooLong)
  completes bytes plan Read Write Start one (statuses.Ended ending) comes is reads read write start no_read no_write no_start =
      inl (inl (ending, subst (λ (p : Plan). Ends p ending) (plan_is dialect bytes plan told one comes.0 is reads comes.1) comes.2, refl))
  completes bytes plan Read Write Start one (statuses.Judged verdict) comes is reads read write start no_read no_write no_start = absurd comes
  completes bytes plan Read Write Start one (statuses.Unread (unreads.NoRecord line reason)) comes is reads read write start no_read no_write no_start = absurd comes.0
  completes bytes plan Read Write Start one (statuses.Unread (unreads.NotAccepted line reason)) comes is reads read write start no_read no_write no_start =
      absurd (comes.0.3 plan (subst (λ (b : List ℕ). ReadsIn dialect b plan) (sym (told_so bytes comes.0.0 told is comes.0.1)) reads))
  completes bytes plan Read Write Start one (statuses.Unread unreads.CannotRead) comes is reads read write start no_read no_write no_start = absurd (no_read (read refl))
  completes bytes plan Read Write Start one (statuses.Unread unreads.Memory) comes is reads read write start no_read no_write no_start = inl (inr refl)
  completes bytes plan Read Write Start one (statuses.Failed faults.CannotWrite) comes is reads read write start no_read no_write no_start = absurd (no_write (write refl))
  completes bytes plan Read Write Start one (statuses.Failed faults.CannotStart) comes is reads read write start no_read no_write no_start = absurd (no_start (start refl))
  completes bytes plan Read Write Start one (statuses.Failed faults.Memory) comes is reads read write start no_read no_write no_start = inl (inr refl)
  completes bytes plan Read Write Start one (statuses.Failed faults.TooLong) comes is reads read write start no_read no_write no_start =
      inr (refl, subst (λ (p : Plan). Stops p faults.TooLong) (plan_is dialect bytes plan told one comes.0 is reads comes.1) comes.2)
  completes bytes plan Read Write Start one statuses.Usage comes is reads read write start no_read no_write no_start = absurd comes

-- what a front's status comes to, by its mode
pub mode_comes : (mode : Mode) (told old new : Option (List ℕ)) (status : Status) → ((s : Status) × (fronts.Ended status ≡ fronts.Ended s) × ModeComesTo mode told old new s) → ModeComesTo mode told old new status
mode_comes mode told old new status comes = status_comes (dialect_of mode) (λ plan ending. EndsBy mode plan old new ending) (λ plan fault. StopsBy mode plan old new fault) told old new status comes

-- nothing that is told of the run passes a limit
whole : (Ends : Ending → Type 0) (Long : Type 0) (status : Status) → Completes Ends status ⊎ ((status ≡ statuses.Failed faults.TooLong) × Long) → (Long → ⊥) → Completes Ends status
whole Ends Long status (inl completes) never = completes
whole Ends Long status (inr long) never = absurd (never long.1)

-- it ended as an outcome of the run
outcome_of_run : (Comes : Plan → Outcome → Type 0) (plan : Plan) (old new : Option (List ℕ)) (status : Status) → Completes (λ (ending : Ending). EndsWithReport Comes plan old new ending) status
    → ((outcome : Outcome) × Comes plan outcome × (status ≡ statuses.Ended (ending_of outcome))) ⊎ IsOutOfMemory status
outcome_of_run Comes plan old new status (inl ended) = inl (ended.1.0, ended.1.1, ended.2 ∙ ap (λ (e : Ending). statuses.Ended e) ended.1.2)
outcome_of_run Comes plan old new status (inr memory) = inr memory

-- or as one ends that has these races
races_of_run : (plan : Plan) (old new : Option (List ℕ)) (status : Status) → Completes (λ (ending : Ending). EndsWithRaces plan old new ending) status
    → ((outcome : Outcome) × (races : List Race) × HasRaces plan outcome races × (status ≡ statuses.Ended (ending_with outcome races))) ⊎ IsOutOfMemory status
races_of_run plan old new status (inl ended) = inl (ended.1.0, ended.1.1, ended.1.2, ended.2 ∙ ap (λ (e : Ending). statuses.Ended e) ended.1.3)
races_of_run plan old new status (inr memory) = inr memory

-- the run's outcome ends so, or its record passes a limit
abbrev pub TracesSo : Plan → Status → Type 0
TracesSo plan status = (outcome : Outcome) × StepsTo plan outcome × ((status ≡ statuses.Ended (ending_of outcome)) ⊎ ((ending_of outcome ≡ endings.Done) × (status ≡ statuses.Failed faults.TooLong)))

traces_so : (plan : Plan) (old new : Option (List ℕ)) (status : Status) (ending : Ending) → EndsWithRecord plan old new ending → status ≡ statuses.Ended ending → TracesSo plan status
traces_so plan old new status endings.Done ends is = (outcomes.Done ends.0, ends.1.2.done, inl is)
traces_so plan old new status (endings.Misused misuse) ends is = (outcomes.Misused ends.0.0 misuse, ends.0.1, inl is)
traces_so plan old new status endings.Deadlocked ends is = (outcomes.Deadlocked ends.0.0, ends.0.1, inl is)
traces_so plan old new status endings.Raced ends is = absurd ends

record_of_run : (plan : Plan) (old new : Option (List ℕ)) (status : Status)
    → Completes (λ (ending : Ending). EndsWithRecord plan old new ending) status ⊎ ((status ≡ statuses.Failed faults.TooLong) × FailsWithRecord plan old new faults.TooLong)
    → TracesSo plan status ⊎ IsOutOfMemory status
record_of_run plan old new status (inl (inl ended)) = inl (traces_so plan old new status ended.0 ended.1 ended.2)
record_of_run plan old new status (inl (inr memory)) = inr memory
record_of_run plan old new status (inr long) = inl (outcomes.Done long.1.0.0, long.1.0.1.done, inr (refl, long.0))

module _ (old new : Option (List ℕ)) (bytes : List ℕ) (plan : Plan) (told : Option (List ℕ)) (Read Write Start : Type 0) where
  pub completes_report : (Comes : Plan → Outcome → Type 0) → OneReading Runs → (status : Status) → ComesTo Comes told old new status → told ≡ Some bytes → ReadsIn Runs bytes plan
      → (status ≡ statuses.Unread unreads.CannotRead → Read) → (status ≡ statuses.Failed faults.CannotWrite → Write) → (status ≡ statuses.Failed faults.CannotStart → Start)
      → (Read → ⊥) → (Write → ⊥) → (Start → ⊥) → ((outcome : Outcome) × Comes plan outcome × (status ≡ statuses.Ended (ending_of outcome))) ⊎ IsOutOfMemory status
  completes_report Comes one status comes is reads read write start no_read no_write no_start =
      outcome_of_run Comes plan old new status
      (whole _ _ status (completes Runs (λ p ending. EndsWithReport Comes p old new ending) (λ p fault. Fails Comes p old new fault) told old new bytes plan Read Write Start one status comes is reads read write start no_read no_write no_start) (λ long. absurd long))

  pub completes_races : OneReading Races → (status : Status) → RacesTo told old new status → told ≡ Some bytes → ReadsIn Races bytes plan
      → (status ≡ statuses.Unread unreads.CannotRead → Read) → (status ≡ statuses.Failed faults.CannotWrite → Write) → (status ≡ statuses.Failed faults.CannotStart → Start)
      → (Read → ⊥) → (Write → ⊥) → (Start → ⊥) → ((outcome : Outcome) × (races : List Race) × HasRaces plan outcome races × (status ≡ statuses.Ended (ending_with outcome races))) ⊎ IsOutOfMemory status
  completes_races one status comes is reads read write start no_read no_write no_start =
      races_of_run plan old new status
      (whole _ _ status (completes Races (λ p ending. EndsWithRaces p old new ending) (λ p fault. FailsWithRaces p old new fault) told old new bytes plan Read Write Start one status comes is reads read write start no_read no_write no_start) (λ long. absurd long))

  -- or as the run ends whose record is asked for, which may pass a limit
  pub completes_record : OneReading Plain → (status : Status) → TracesTo told old new status → told ≡ Some bytes → ReadsIn Plain bytes plan
      → (status ≡ statuses.Unread unreads.CannotRead → Read) → (status ≡ statuses.Failed faults.CannotWrite → Write) → (status ≡ statuses.Failed faults.CannotStart → Start)
      → (Read → ⊥) → (Write → ⊥) → (Start → ⊥) → TracesSo plan status ⊎ IsOutOfMemory status
  completes_record one status comes is reads read write start no_read no_write no_start =
      record_of_run plan old new status
      (completes Plain (λ p ending. EndsWithRecord p old new ending) (λ p fault. FailsWithRecord p old new fault) told old new bytes plan Read Write Start one status comes is reads read write start no_read no_write no_start)

module _ (plan : Plan) (old new : Option (List ℕ)) where
  -- what comes in jobs comes
  pub ends_by_record : (ran ran_now : ℕ) (ending : Ending) → EndsWithReport (RunsInJobs ran ran_now) plan old new ending → EndsWithReport RunsTo plan old new ending
  ends_by_record ran ran_now ending ends = (ends.0, ends.1.0, ends.2, ends.3)

  pub fails_by_record : (ran ran_now : ℕ) (fault : Fault) → Fails (RunsInJobs ran ran_now) plan old new fault → Fails RunsTo plan old new fault
  fails_by_record ran ran_now faults.CannotWrite fails = (fails.0, fails.1.0, fails.2)
  fails_by_record ran ran_now faults.CannotStart fails = fails
  fails_by_record ran ran_now faults.Memory fails = fails
  fails_by_record ran ran_now faults.TooLong fails = fails

  by_done : (outcome : Outcome) → RunsTo plan outcome → endings.Done ≡ ending_of outcome → Appends old new (report_text plan outcome)
      → (left : Report) × (r : Record) × Explains plan (outcomes.Done left) r × InOneOrder r × Appends old new (report_text plan (outcomes.Done left))
  by_done (outcomes.Done left) runs is appends = (left, runs.0, runs.1, runs.2, appends)
  by_done (outcomes.Misused left misuse) runs is appends = absurd (not_misused misuse is)
  by_done (outcomes.Deadlocked left) runs is appends = absurd (not_deadlocked is)

  -- how a run ended that a record explains
  pub done_left : EndsWithReport RunsTo plan old new endings.Done → (left : Report) × (r : Record) × Explains plan (outcomes.Done left) r × InOneOrder r × Appends old new (report_text plan (outcomes.Done left))
  done_left ends = by_done ends.0 ends.1 ends.2 ends.3

  by_misused : (misuse : Misuse) (outcome : Outcome) → RunsTo plan outcome → endings.Misused misuse ≡ ending_of outcome → Appends old new (report_text plan outcome)
      → (left : Report) × (r : Record) × Explains plan (outcomes.Misused left misuse) r × InOneOrder r × Appends old new (report_text plan (outcomes.Misused left misuse))
  by_misused misuse (outcomes.Done left) runs is appends = absurd (misused_not_done misuse is)
  by_misused misuse (outcomes.Misused left other) runs is appends =
      subst (λ (m : Misuse). (l : Report) × (r : Record) × Explains plan (outcomes.Misused l m) r × InOneOrder r × Appends old new (report_text plan (outcomes.Misused l m))) (sym (same_misuse misuse other is)) (left, runs.0, runs.1, runs.2, appends)
  by_misused misuse (outcomes.Deadlocked left) runs is appends = absurd (misused_not_deadlocked misuse is)

  pub misused_left : (misuse : Misuse) → EndsWithReport RunsTo plan old new (endings.Misused misuse)
      → (left : Report) × (r : Record) × Explains plan (outcomes.Misused left misuse) r × InOneOrder r × Appends old new (report_text plan (outcomes.Misused left misuse))
  misused_left misuse ends = by_misused misuse ends.0 ends.1 ends.2 ends.3

-- what is said behind a run needs no file
pub says_run : (file : List ℕ) (result status : Status) (old mid new : Option (List ℕ)) (before between now : ℕ) → result ≡ status → (mid ≡ old) × (between ≡ before) → message_of [] status ≡ message_of file status
    → WritesOut mid new between now (message_of [] status) → WritesOut old new before now (message_of file result)
says_run file result status old mid new before between now is silent same says =
    subst (λ (s : Status). WritesOut old new before now (message_of file s)) (sym is)
    (subst (λ (t : List ℕ). WritesOut old new before now t) same
    (subst (λ (o : Option (List ℕ)). WritesOut o new before now (message_of [] status)) silent.0
    (subst (λ (b : ℕ). WritesOut mid new b now (message_of [] status)) silent.1 says)))

module _ (Comes : Plan → Outcome → Type 0) (told old mid new : Option (List ℕ)) where
  -- what a run comes to, where nothing was written before it
  pub ended_run : (plan : Plan) (ending : Ending) (result : Status) → result ≡ statuses.Ended ending → IsReadFromFile told plan → mid ≡ old → EndsWithReport Comes plan mid new ending → ComesTo Comes told old new result
  ended_run plan ending result is read same ends = subst (λ (s : Status). ComesTo Comes told old new s) (sym is) (plan, read, subst (λ (o : Option (List ℕ)). EndsWithReport Comes plan o new ending) same ends)

  pub failed_run : (plan : Plan) (fault : Fault) (result : Status) → result ≡ statuses.Failed fault → IsReadFromFile told plan → mid ≡ old → Fails Comes plan mid new fault → ComesTo Comes told old new result
  failed_run plan fault result is read same fails = subst (λ (s : Status). ComesTo Comes told old new s) (sym is) (plan, read, subst (λ (o : Option (List ℕ)). Fails Comes plan o new fault) same fails)
