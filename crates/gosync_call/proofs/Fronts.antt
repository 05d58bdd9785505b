-- What is left before any thread is started, by what the words ask for.
use Rattle.std.proofs.Common.{◌≡◌, ◌⊎◌, inl, inr, ℕ, List, Option, Some, None, Result, Err, refl, sym, ap, subst, ◌∙◌}
use Rattle.std.specs.Prelude.{◌≢◌, option_and_then}
use Rattle.script_calls.specs.declared.outcome.Outcome.{Outcome}
use Rattle.workload.specs.Plan.{Plan}
use Rattle.workload.specs.Reads.{ReadsIn}
use Rattle.workload.specs.declared.keyword.Dialect.{Dialect}
use Rattle.workload.specs.declared.keyword.Dialect.TheVariants.{Runs}
use Rattle.command_line.specs.Command.{matched}
use Rattle.command_line.specs.Seed.{seed_of}
use Rattle.command_line.specs.declared.definition.Subcommand.{Subcommand}
use Rattle.command_line.specs.declared.definition.Subcommand.TheVariants as subcommands
use Rattle.gosync_call.specs.Command.{file_of, AreRefused, AskFor, AskToCheck, AskToMake}
use Rattle.gosync_call.specs.ComesTo.{ComesBy, ComesTo}
use Rattle.gosync_call.specs.Front.{IsFrontOfRun, IsLeftOfAllBytes, IsOfAllBytes}
use Rattle.gosync_call.specs.Made.{MakesTo}
use Rattle.gosync_call.specs.Messages.{code_of, IsOutOfMemory}
use Rattle.gosync_call.specs.Modes.{dialect_of, EndsBy, ModeComesTo, StopsBy}
use Rattle.gosync_call.specs.declared.status.Ending.{Ending}
use Rattle.gosync_call.specs.declared.status.Ending.TheVariants as endings
use Rattle.gosync_call.specs.declared.status.Fault.{Fault}
use Rattle.gosync_call.specs.declared.status.Front.{Front}
use Rattle.gosync_call.specs.declared.status.Front.TheVariants as fronts
use Rattle.gosync_call.specs.declared.status.Status.{Status}
use Rattle.gosync_call.specs.declared.status.Status.TheVariants as statuses
use Rattle.gosync_call.specs.declared.status.Unread.{Unread}
use Rattle.gosync_call.specs.declared.status.Unread.TheVariants as unreads
use Rattle.gosync_call.specs.declared.words.Mode.{Mode}
use Rattle.gosync_call.specs.declared.words.Mode.TheVariants as modes
use Rattle.gosync_call.proofs.Runs.{file_at, is_read, told_so}

-- words name one file
pub same_file : (words : Option (Mode × List ℕ)) (mode other : Mode) (file name : List ℕ) → words ≡ Some (mode, file) → words ≡ Some (other, name) → file ≡ name
same_file words mode other file name asks names = ap file_at (sym asks ∙ names)

-- what is left of a front that ended
pub left_of_ended : (Whole : Type 0) (front : Front) (status : Status) → front ≡ fronts.Ended status → (IsOfAllBytes status → Whole) → IsLeftOfAllBytes front → Whole
left_of_ended Whole front status is whole left = whole (subst (λ (f : Front). IsLeftOfAllBytes f) is left)

-- a workload that is left to be run was read
pub run_is_read : (told : Option (List ℕ)) (bytes : List ℕ) (plan : Plan) → IsFrontOfRun told (fronts.Run plan) → told ≡ Some bytes → ((p : Plan) → ReadsIn Runs bytes p → ⊥) → ⊥
run_is_read told bytes plan front is none =
    let read = is_read told plan front in
    none plan (subst (λ (b : List ℕ). ReadsIn Runs b plan) (told_so bytes read.0 told is read.1) read.2)

same_status : (x y : Status) → fronts.Ended x ≡ fronts.Ended y → x ≡ y
same_status x y is = cc

abbrev pub err_of : Fault → Result Ending Fault
err_of fault = Err fault

pub same_fault : (x y : Fault) → statuses.Failed x ≡ statuses.Failed y → x ≡ y
same_fault x y is = cc

ended_no_make : (status : Status) (seed : ℕ) → fronts.Ended status ≡ fronts.Make seed → ⊥
ended_no_make status seed is = cc

ended_no_run : (status : Status) (plan : Plan) → fronts.Ended status ≡ fronts.Run plan → ⊥
ended_no_run status plan is = cc

run_no_make : (plan : Plan) (seed : ℕ) → fronts.Run plan ≡ fronts.Make seed → ⊥
run_no_make plan seed is = cc

pub run_no_ended : (plan : Plan) (status : Status) → fronts.Run plan ≡ fronts.Ended status → ⊥
run_no_ended plan status is = cc

pub ended_no_unread : (ending : Ending) (why : Unread) → statuses.Ended ending ≡ statuses.Unread why → ⊥
ended_no_unread ending why is = cc

pub failed_no_unread : (fault : Fault) (why : Unread) → statuses.Failed fault ≡ statuses.Unread why → ⊥
failed_no_unread fault why is = cc

pub ended_no_failed : (ending : Ending) (fault : Fault) → statuses.Ended ending ≡ statuses.Failed fault → ⊥
ended_no_failed ending fault is = cc

-- what is left of a workload that is to be made, where it ended: memory is out
abbrev IsLeftOfMake : Status → ℕ → Type 0
IsLeftOfMake status seed = (fronts.Ended status ≡ fronts.Make seed) ⊎ (fronts.Ended status ≡ fronts.Ended (statuses.Unread unreads.Memory))

pub ended_make : (status : Status) (seed ran ran_now : ℕ) (old new : Option (List ℕ)) → IsLeftOfMake status seed → new ≡ old → MakesTo seed ran ran_now old new status
ended_make status seed ran ran_now old new (inl is) same = absurd (ended_no_make status seed is)
ended_make status seed ran ran_now old new (inr is) same = subst (λ (s : Status). MakesTo seed ran ran_now old new s) (sym (same_status status (statuses.Unread unreads.Memory) is)) same

pub ended_makes : (status : Status) (seed : ℕ) → IsLeftOfMake status seed → (status ≡ statuses.Ended endings.Done) ⊎ IsOutOfMemory status
ended_makes status seed (inl is) = absurd (ended_no_make status seed is)
ended_makes status seed (inr is) = inr (subst (λ (s : Status). IsOutOfMemory s) (sym (same_status status (statuses.Unread unreads.Memory) is)) refl)

-- a workload that is left to be run isn't one to be made
pub run_unmade : (plan : Plan) (seed : ℕ) → (fronts.Run plan ≡ fronts.Make seed) ⊎ (fronts.Run plan ≡ fronts.Ended (statuses.Unread unreads.Memory)) → ⊥
run_unmade plan seed (inl is) = run_no_make plan seed is
run_unmade plan seed (inr is) = run_no_ended plan (statuses.Unread unreads.Memory) is

pub run_taken : (plan : Plan) → (fronts.Run plan ≡ fronts.Ended statuses.Usage) ⊎ (fronts.Run plan ≡ fronts.Ended (statuses.Unread unreads.Memory)) → ⊥
run_taken plan (inl is) = run_no_ended plan statuses.Usage is
run_taken plan (inr is) = run_no_ended plan (statuses.Unread unreads.Memory) is

pub make_taken : (seed : ℕ) → (fronts.Make seed ≡ fronts.Ended statuses.Usage) ⊎ (fronts.Make seed ≡ fronts.Ended (statuses.Unread unreads.Memory)) → ⊥
make_taken seed (inl is) = ended_no_make statuses.Usage seed (sym is)
make_taken seed (inr is) = ended_no_make (statuses.Unread unreads.Memory) seed (sym is)

-- nor were the words refused
pub run_unasked : (words : List (List ℕ)) (plan : Plan) → (AreRefused words → (fronts.Run plan ≡ fronts.Ended statuses.Usage) ⊎ (fronts.Run plan ≡ fronts.Ended (statuses.Unread unreads.Memory)))
    → ((seed : ℕ) → AskToMake words seed → (fronts.Run plan ≡ fronts.Make seed) ⊎ (fronts.Run plan ≡ fronts.Ended (statuses.Unread unreads.Memory)))
    → AreRefused words ⊎ ((seed : ℕ) × AskToMake words seed) → ⊥
run_unasked words plan taken unmade (inl refused) = run_taken plan (taken refused)
run_unasked words plan taken unmade (inr make) = run_unmade plan make.0 (unmade make.0 make.1)

module _ (words : List (List ℕ)) where
  seeded : (text : List ℕ) → matched words ≡ Some (subcommands.Make, text) → (found : Option ℕ) → seed_of text ≡ found → ((seed : ℕ) × AskToMake words seed) ⊎ AreRefused words
  seeded text is None none = inr (inr (text, is, none))
  seeded text is (Some seed) some = inl (seed, (text, is, some))

  abbrev Asking : Type 0
  Asking = ((mode : Mode) × (file : List ℕ) × AskFor words mode file) ⊎ (((file : List ℕ) × AskToCheck words file) ⊎ (((seed : ℕ) × AskToMake words seed) ⊎ AreRefused words))

  asking_by : (found : Option (Subcommand × List ℕ)) → matched words ≡ found → Asking
  asking_by None is = inr (inr (inr (inl is)))
  asking_by (Some (subcommands.Step, text)) is = inl (modes.Step, text, ap (λ (f : Option (Subcommand × List ℕ)). option_and_then file_of f) is)
  asking_by (Some (subcommands.Run, text)) is = inl (modes.Run, text, ap (λ (f : Option (Subcommand × List ℕ)). option_and_then file_of f) is)
  asking_by (Some (subcommands.Trace, text)) is = inl (modes.Trace, text, ap (λ (f : Option (Subcommand × List ℕ)). option_and_then file_of f) is)
  asking_by (Some (subcommands.Check, text)) is = inr (inl (text, is))
  asking_by (Some (subcommands.Make, text)) is = inr (inr (seeded text is (seed_of text) refl))
  asking_by (Some (subcommands.Race, text)) is = inl (modes.Race, text, ap (λ (f : Option (Subcommand × List ℕ)). option_and_then file_of f) is)

  -- words ask to run a file, to judge a record or to make a workload, or are refused
  pub asking : Asking
  asking = asking_by (matched words) refl

  run_by : (file : List ℕ) (mode : Mode) → AskFor words mode file → (mode ≢ modes.Run → ⊥) → ((file : List ℕ) × AskFor words modes.Run file)
  run_by file modes.Step asks no_other = absurd (no_other (λ is. cc))
  run_by file modes.Run asks no_other = (file, asks)
  run_by file modes.Race asks no_other = absurd (no_other (λ is. cc))
  run_by file modes.Trace asks no_other = absurd (no_other (λ is. cc))

  -- where no other thing is asked for, a run with threads is
  pub asks_run : Asking → ((mode : Mode) (file : List ℕ) → AskFor words mode file → mode ≢ modes.Run → ⊥) → ((file : List ℕ) → AskToCheck words file → ⊥) → ((seed : ℕ) → AskToMake words seed → ⊥) → (AreRefused words → ⊥) → (file : List ℕ) × AskFor words modes.Run file
  asks_run (inl ask) no_other no_check no_make no_refusal = run_by ask.1 ask.0 ask.2 (no_other ask.0 ask.1 ask.2)
  asks_run (inr (inl check)) no_other no_check no_make no_refusal = absurd (no_check check.0 check.1)
  asks_run (inr (inr (inl make))) no_other no_check no_make no_refusal = absurd (no_make make.0 make.1)
  asks_run (inr (inr (inr refused))) no_other no_check no_make no_refusal = absurd (no_refusal refused)

-- by whether a mode runs a file with threads, or on one
pub by_threads : {X : Type 0} (words : List (List ℕ)) (mode : Mode) (file : List ℕ) → AskFor words mode file → (AskFor words modes.Run file → mode ≡ modes.Run → X) → (mode ≢ modes.Run → X) → X
by_threads words modes.Step file asks run other = other (λ is. cc)
by_threads words modes.Run file asks run other = run asks refl
by_threads words modes.Race file asks run other = other (λ is. cc)
by_threads words modes.Trace file asks run other = other (λ is. cc)

-- what a file that no workload is read from comes to
pub front_comes : (Comes : Plan → Outcome → Type 0) (told old new : Option (List ℕ)) (status : Status) → IsFrontOfRun told (fronts.Ended status) → new ≡ old → ComesTo Comes told old new status
front_comes Comes told old new status (inl front) same = absurd (ended_no_run status front.0 front.1)
front_comes Comes told old new status (inr front) same = subst (λ (s : Status). ComesTo Comes told old new s) (sym (same_status status (statuses.Unread front.0) front.1)) (front.2, same)

module _ (dialect : Dialect) (Ends : Plan → Ending → Type 0) (Stops : Plan → Fault → Type 0) (told old new : Option (List ℕ)) where
  -- a text that isn't read is refused, unless memory is out
  pub refuses : (bytes : List ℕ) (Read : Type 0) (status : Status) → ComesBy dialect Ends Stops told old new status → told ≡ Some bytes → ((plan : Plan) → ReadsIn dialect bytes plan → ⊥)
      → (status ≡ statuses.Unread unreads.CannotRead → Read) → (Read → ⊥) → (code_of status ≡ 1) ⊎ IsOutOfMemory status
  refuses bytes Read (statuses.Ended ending) comes is none read no_read = absurd (none comes.0 (subst (λ (b : List ℕ). ReadsIn dialect b comes.0) (told_so bytes comes.1.0 told is comes.1.1) comes.1.2))
  refuses bytes Read (statuses.Judged verdict) comes is none read no_read = absurd comes
  refuses bytes Read (statuses.Unread (unreads.NoRecord line reason)) comes is none read no_read = inl refl
  refuses bytes Read (statuses.Unread (unreads.NotAccepted line reason)) comes is none read no_read = inl refl
  refuses bytes Read (statuses.Unread unreads.CannotRead) comes is none read no_read = absurd (no_read (read refl))
  refuses bytes Read (statuses.Unread unreads.Memory) comes is none read no_read = inr refl
  refuses bytes Read (statuses.Failed fault) comes is none read no_read = absurd (none comes.0 (subst (λ (b : List ℕ). ReadsIn dialect b comes.0) (told_so bytes comes.1.0 told is comes.1.1) comes.1.2))
  refuses bytes Read statuses.Usage comes is none read no_read = absurd comes

-- by the mode in which a file is to be run
pub refuses_by : (mode : Mode) (told old new : Option (List ℕ)) (bytes : List ℕ) (Read : Type 0) (status : Status) → ModeComesTo mode told old new status → told ≡ Some bytes → ((plan : Plan) → ReadsIn (dialect_of mode) bytes plan → ⊥)
    → (status ≡ statuses.Unread unreads.CannotRead → Read) → (Read → ⊥) → (code_of status ≡ 1) ⊎ IsOutOfMemory status
refuses_by mode told old new bytes Read status comes is none read no_read =
    refuses (dialect_of mode) (λ plan ending. EndsBy mode plan old new ending) (λ plan fault. StopsBy mode plan old new fault) told old new bytes Read status comes is none read no_read
