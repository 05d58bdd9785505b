use Rattle.std.proofs.Common.{map, string_bytes, refl, ap, sym, subst, ◌∙◌, ℕ, List, Option, inl, inr}
use Rattle.step_runner.specs.Outcomes.{StepsTo}
use Rattle.gosync_call.specs.declared.status.Front.TheVariants as fronts
use Rattle.gosync_call.specs.declared.status.Status.{Status}
use Rattle.gosync_call.specs.declared.status.Status.TheVariants as statuses
use Rattle.gosync_call.specs.declared.status.Fault.TheVariants as faults
use Rattle.gosync_call.specs.declared.status.Unread.TheVariants as unreads
use Rattle.gosync_call.specs.Messages.{message_of}
use Rattle.gosync_call.specs.Modes.{dialect_of}
use Rattle.workload.specs.Plan.{Plan}
use Rattle.workload.specs.Reads.{ReadsIn}
use Rattle.gosync_call.specs.declared.words.Mode.{Mode}
use Rattle.gosync_call.specs.declared.words.Mode.TheVariants as modes
use Rattle.gosync_call.specs.Command.{file_in}
use Rattle.gosync_call.specs.Headline.{RunsTo, RunsInJobs}
use Rattle.gosync_call.specs.Input.{ReadFailed}
use Rattle.sync_outside.specs.Faults.{Rose}
use Rattle.gosync_call.proofs.AskedWords.{names_none, names_record, no_run_to_check, no_seed_to_check, not_both}
use Rattle.gosync_call.proofs.Fronts.{asking, asks_run, by_threads, ended_make, ended_makes, ended_no_failed, ended_no_unread, err_of, failed_no_unread, front_comes, make_taken, refuses_by, run_is_read, run_no_ended, run_taken, run_unasked, run_unmade, same_fault}
use Rattle.gosync_call.proofs.Judged.{completes_check, front_judges, refuses_check}
use Rattle.gosync_call.proofs.Runs.{completes_races, completes_record, completes_report, ended_run, ends_by_record, failed_run, fails_by_record, is_read, mode_comes, same_mode, says_run}
use Rattle.gosync_call.proofs.program.gosync.Goals as goal

pub returns-in-Ended-clause-says : goal.returns-in-Ended-clause-says
returns-in-Ended-clause-says g c = c.in-Ended.ensures.says c.in-Ended.status refl

pub returns-in-Ended-clause-steps : goal.returns-in-Ended-clause-steps
returns-in-Ended-clause-steps g c file bytes plan asks is reads no_read no_write =
    let told = g.S.Sources.contents c.args.src.now file in
    let old = g.O.Sink.contents c.args.out.now in
    let new = g.O.Sink.contents c.front.new.out in
    completes_report old new bytes plan told
    (ReadFailed (g.S.Sources.open_faults c.args.src.now file) (g.S.Sources.open_faults c.front.new.src file) (g.S.Sources.read_faults c.args.src.now) (g.S.Sources.read_faults c.front.new.src))
    (Rose (g.O.Sink.faults c.args.out.now) (g.O.Sink.faults c.front.new.out)) ⊥
    StepsTo c.run_texts_are_read_or_refused.ensures.one c.in-Ended.status (mode_comes modes.Step told old new c.in-Ended.status (c.in-Ended.ensures.one_thread modes.Step file asks (λ e. cc))) is reads
    (λ e. c.in-Ended.ensures.cannot_read modes.Step file asks (ap (λ (s : Status). fronts.Ended s) e))
    (λ e. c.in-Ended.ensures.cannot_write (ap (λ (s : Status). fronts.Ended s) e))
    (λ e. c.in-Ended.ensures.started (ap (λ (s : Status). fronts.Ended s) e))
    no_read no_write (λ e. e)

pub returns-in-Ok-clause-headline : goal.returns-in-Ok-clause-headline
returns-in-Ok-clause-headline g c file asks =
    let told = g.S.Sources.contents c.args.src.now file in
    let mid = g.O.Sink.contents c.front.new.out in
    let new = g.O.Sink.contents c.run_by_threads.new.out in
    ended_run RunsTo told (g.O.Sink.contents c.args.out.now) mid new c.in-Run.workload c.in-Ok.ending c.say_run.result c.say_run.ensures.status (is_read told c.in-Run.workload (c.in-Run.ensures.run file asks))
    (c.in-Run.ensures.unwritten (λ mode other also. same_mode (map string_bytes c.args.words.now) modes.Run mode file other asks also) (λ name also. no_run_to_check (map string_bytes c.args.words.now) modes.Run file name asks also)).0
    (ends_by_record c.in-Run.workload mid new (g.P.Spawner.ran c.args.spawner.now) (g.P.Spawner.ran c.run_by_threads.new.spawner) c.in-Ok.ending c.in-Ok.ensures.ran)

pub returns-in-Ok-clause-jobs : goal.returns-in-Ok-clause-jobs
returns-in-Ok-clause-jobs g c file asks =
    let told = g.S.Sources.contents c.args.src.now file in
    ended_run (RunsInJobs (g.P.Spawner.ran c.args.spawner.now) (g.P.Spawner.ran c.run_by_threads.new.spawner)) told (g.O.Sink.contents c.args.out.now) (g.O.Sink.contents c.front.new.out) (g.O.Sink.contents c.run_by_threads.new.out)
    c.in-Run.workload c.in-Ok.ending c.say_run.result c.say_run.ensures.status (is_read told c.in-Run.workload (c.in-Run.ensures.run file asks))
    (c.in-Run.ensures.unwritten (λ mode other also. same_mode (map string_bytes c.args.words.now) modes.Run mode file other asks also) (λ name also. no_run_to_check (map string_bytes c.args.words.now) modes.Run file name asks also)).0 c.in-Ok.ensures.ran

pub returns-in-Ok-clause-says : goal.returns-in-Ok-clause-says
returns-in-Ok-clause-says g c =
    says_run (file_in (map string_bytes c.args.words.now)) c.say_run.result (statuses.Ended c.in-Ok.ending)
    (g.E.Sink.contents c.args.err.now) (g.E.Sink.contents c.front.new.err) (g.E.Sink.contents c.say_run.new.err) (g.E.Sink.faults c.args.err.now) (g.E.Sink.faults c.front.new.err) (g.E.Sink.faults c.say_run.new.err)
    c.say_run.ensures.status (c.in-Run.ensures.silent c.in-Run.workload refl) refl c.say_run.ensures.says

pub returns-in-Run-clause-headline : goal.returns-in-Run-clause-headline
returns-in-Run-clause-headline g c file asks =
    let told = g.S.Sources.contents c.args.src.now file in
    let mid = g.O.Sink.contents c.front.new.out in
    let new = g.O.Sink.contents c.run_by_threads.new.out in
    failed_run RunsTo told (g.O.Sink.contents c.args.out.now) mid new c.in-Run.workload c.in-Err.fault c.say_run-in-Err.result c.say_run-in-Err.ensures.status (is_read told c.in-Run.workload (c.in-Run.ensures.run file asks))
    (c.in-Run.ensures.unwritten (λ mode other also. same_mode (map string_bytes c.args.words.now) modes.Run mode file other asks also) (λ name also. no_run_to_check (map string_bytes c.args.words.now) modes.Run file name asks also)).0
    (fails_by_record c.in-Run.workload mid new (g.P.Spawner.ran c.args.spawner.now) (g.P.Spawner.ran c.run_by_threads.new.spawner) c.in-Err.fault c.in-Err.ensures.ran)

pub returns-in-Run-clause-jobs : goal.returns-in-Run-clause-jobs
returns-in-Run-clause-jobs g c file asks =
    let told = g.S.Sources.contents c.args.src.now file in
    failed_run (RunsInJobs (g.P.Spawner.ran c.args.spawner.now) (g.P.Spawner.ran c.run_by_threads.new.spawner)) told (g.O.Sink.contents c.args.out.now) (g.O.Sink.contents c.front.new.out) (g.O.Sink.contents c.run_by_threads.new.out)
    c.in-Run.workload c.in-Err.fault c.say_run-in-Err.result c.say_run-in-Err.ensures.status (is_read told c.in-Run.workload (c.in-Run.ensures.run file asks))
    (c.in-Run.ensures.unwritten (λ mode other also. same_mode (map string_bytes c.args.words.now) modes.Run mode file other asks also) (λ name also. no_run_to_check (map string_bytes c.args.words.now) modes.Run file name asks also)).0 c.in-Err.ensures.ran

pub returns-in-Run-clause-says : goal.returns-in-Run-clause-says
returns-in-Run-clause-says g c =
    says_run (file_in (map string_bytes c.args.words.now)) c.say_run-in-Err.result (statuses.Failed c.in-Err.fault)
    (g.E.Sink.contents c.args.err.now) (g.E.Sink.contents c.front.new.err) (g.E.Sink.contents c.say_run-in-Err.new.err) (g.E.Sink.faults c.args.err.now) (g.E.Sink.faults c.front.new.err) (g.E.Sink.faults c.say_run-in-Err.new.err)
    c.say_run-in-Err.ensures.status (c.in-Run.ensures.silent c.in-Run.workload refl) refl c.say_run-in-Err.ensures.says

pub returns-in-Ended-clause-make : goal.returns-in-Ended-clause-make
returns-in-Ended-clause-make g c seed asks =
    ended_make c.in-Ended.status seed (g.P.Spawner.ran c.args.spawner.now) (g.P.Spawner.ran c.args.spawner.now) (g.O.Sink.contents c.args.out.now) (g.O.Sink.contents c.front.new.out) (c.in-Ended.ensures.make seed asks)
    (c.in-Ended.ensures.unwritten (λ mode file also. absurd (not_both (map string_bytes c.args.words.now) seed mode file asks also)) (λ name also. no_seed_to_check (map string_bytes c.args.words.now) seed name asks also)).0

pub returns-in-Ended-clause-makes : goal.returns-in-Ended-clause-makes
returns-in-Ended-clause-makes g c seed asks no_write no_start = ended_makes c.in-Ended.status seed (c.in-Ended.ensures.make seed asks)

pub returns-in-Ended-clause-cannot_read : goal.returns-in-Ended-clause-cannot_read
returns-in-Ended-clause-cannot_read g c mode file asks is = c.in-Ended.ensures.cannot_read mode file asks (ap (λ (s : Status). fronts.Ended s) is)

pub returns-in-Ended-clause-runs : goal.returns-in-Ended-clause-runs
returns-in-Ended-clause-runs g c file bytes plan asks is reads no_read no_write no_start =
    let told = g.S.Sources.contents c.args.src.now file in
    let old = g.O.Sink.contents c.args.out.now in
    let new = g.O.Sink.contents c.front.new.out in
    completes_report old new bytes plan told
    (ReadFailed (g.S.Sources.open_faults c.args.src.now file) (g.S.Sources.open_faults c.front.new.src file) (g.S.Sources.read_faults c.args.src.now) (g.S.Sources.read_faults c.front.new.src))
    (Rose (g.O.Sink.faults c.args.out.now) (g.O.Sink.faults c.front.new.out)) ⊥
    RunsTo c.run_texts_are_read_or_refused.ensures.one c.in-Ended.status
    (front_comes RunsTo told old new c.in-Ended.status (c.in-Ended.ensures.run file asks) (c.in-Ended.ensures.unwritten (λ mode other also. same_mode (map string_bytes c.args.words.now) modes.Run mode file other asks also) (λ name also. no_run_to_check (map string_bytes c.args.words.now) modes.Run file name asks also)).0)
    is reads
    (λ e. c.in-Ended.ensures.cannot_read modes.Run file asks (ap (λ (s : Status). fronts.Ended s) e))
    (λ e. c.in-Ended.ensures.cannot_write (ap (λ (s : Status). fronts.Ended s) e))
    (λ e. c.in-Ended.ensures.started (ap (λ (s : Status). fronts.Ended s) e))
    no_read no_write (λ e. e)

pub returns-in-Ended-clause-refused : goal.returns-in-Ended-clause-refused
returns-in-Ended-clause-refused g c mode file bytes asks is none no_read =
    let words = map string_bytes c.args.words.now in
    let told = g.S.Sources.contents c.args.src.now file in
    let old = g.O.Sink.contents c.args.out.now in
    let new = g.O.Sink.contents c.front.new.out in
    let Read = ReadFailed (g.S.Sources.open_faults c.args.src.now file) (g.S.Sources.open_faults c.front.new.src file) (g.S.Sources.read_faults c.args.src.now) (g.S.Sources.read_faults c.front.new.src) in
    by_threads words mode file asks
    (λ run is_run. refuses_by modes.Run told old new bytes Read c.in-Ended.status
    (front_comes RunsTo told old new c.in-Ended.status (c.in-Ended.ensures.run file run) (c.in-Ended.ensures.unwritten (λ other name also. same_mode words modes.Run other file name run also) (λ name also. no_run_to_check words modes.Run file name run also)).0) is
    (subst (λ (m : Mode). (p : Plan) → ReadsIn (dialect_of m) bytes p → ⊥) is_run none)
    (λ e. c.in-Ended.ensures.cannot_read modes.Run file run (ap (λ (s : Status). fronts.Ended s) e)) no_read)
    (λ other. refuses_by mode told old new bytes Read c.in-Ended.status (mode_comes mode told old new c.in-Ended.status (c.in-Ended.ensures.one_thread mode file asks other)) is none
    (λ e. c.in-Ended.ensures.cannot_read mode file asks (ap (λ (s : Status). fronts.Ended s) e)) no_read)

pub returns-in-Ok-clause-make : goal.returns-in-Ok-clause-make
returns-in-Ok-clause-make g c seed asks = absurd (run_unmade c.in-Run.workload seed (c.in-Run.ensures.make seed asks))

pub returns-in-Ok-clause-makes : goal.returns-in-Ok-clause-makes
returns-in-Ok-clause-makes g c seed asks no_write no_start = absurd (run_unmade c.in-Run.workload seed (c.in-Run.ensures.make seed asks))

pub returns-in-Ok-clause-runs : goal.returns-in-Ok-clause-runs
returns-in-Ok-clause-runs g c file bytes plan asks is reads no_read no_write no_start =
    let told = g.S.Sources.contents c.args.src.now file in
    let old = g.O.Sink.contents c.args.out.now in
    let mid = g.O.Sink.contents c.front.new.out in
    let new = g.O.Sink.contents c.run_by_threads.new.out in
    let comes = ended_run RunsTo told old mid new c.in-Run.workload c.in-Ok.ending c.say_run.result c.say_run.ensures.status (is_read told c.in-Run.workload (c.in-Run.ensures.run file asks))
    (c.in-Run.ensures.unwritten (λ mode other also. same_mode (map string_bytes c.args.words.now) modes.Run mode file other asks also) (λ name also. no_run_to_check (map string_bytes c.args.words.now) modes.Run file name asks also)).0
    (ends_by_record c.in-Run.workload mid new (g.P.Spawner.ran c.args.spawner.now) (g.P.Spawner.ran c.run_by_threads.new.spawner) c.in-Ok.ending c.in-Ok.ensures.ran) in
    completes_report old new bytes plan told ⊥ ⊥ ⊥ RunsTo c.run_texts_are_read_or_refused.ensures.one c.say_run.result comes is reads
    (λ e. ended_no_unread c.in-Ok.ending unreads.CannotRead (sym c.say_run.ensures.status ∙ e))
    (λ e. ended_no_failed c.in-Ok.ending faults.CannotWrite (sym c.say_run.ensures.status ∙ e))
    (λ e. ended_no_failed c.in-Ok.ending faults.CannotStart (sym c.say_run.ensures.status ∙ e))
    (λ e. e) (λ e. e) (λ e. e)

pub returns-in-Ok-clause-whole : goal.returns-in-Ok-clause-whole
returns-in-Ok-clause-whole g c mode file asks all = c.in-Run.ensures.whole mode file asks tt

pub returns-in-Ok-clause-refused : goal.returns-in-Ok-clause-refused
returns-in-Ok-clause-refused g c mode file bytes asks is none no_read =
    let plan = c.in-Run.workload in
    absurd (by_threads (map string_bytes c.args.words.now) mode file asks
    (λ run is_run. run_is_read (g.S.Sources.contents c.args.src.now file) bytes plan (c.in-Run.ensures.run file run) is (subst (λ (m : Mode). (p : Plan) → ReadsIn (dialect_of m) bytes p → ⊥) is_run none))
    (λ other. let ended = c.in-Run.ensures.one_thread mode file asks other in run_no_ended plan ended.0 ended.1))

pub returns-in-Run-clause-whole : goal.returns-in-Run-clause-whole
returns-in-Run-clause-whole g c mode file asks all = c.in-Run.ensures.whole mode file asks tt

pub returns-in-Run-clause-refused : goal.returns-in-Run-clause-refused
returns-in-Run-clause-refused g c mode file bytes asks is none no_read =
    let plan = c.in-Run.workload in
    absurd (by_threads (map string_bytes c.args.words.now) mode file asks
    (λ run is_run. run_is_read (g.S.Sources.contents c.args.src.now file) bytes plan (c.in-Run.ensures.run file run) is (subst (λ (m : Mode). (p : Plan) → ReadsIn (dialect_of m) bytes p → ⊥) is_run none))
    (λ other. let ended = c.in-Run.ensures.one_thread mode file asks other in run_no_ended plan ended.0 ended.1))

pub returns-in-Run-clause-runs : goal.returns-in-Run-clause-runs
returns-in-Run-clause-runs g c file bytes plan asks is reads no_read no_write no_start =
    let told = g.S.Sources.contents c.args.src.now file in
    let old = g.O.Sink.contents c.args.out.now in
    let mid = g.O.Sink.contents c.front.new.out in
    let new = g.O.Sink.contents c.run_by_threads.new.out in
    let silent = c.in-Run.ensures.unwritten (λ mode other also. same_mode (map string_bytes c.args.words.now) modes.Run mode file other asks also) (λ name also. no_run_to_check (map string_bytes c.args.words.now) modes.Run file name asks also) in
    let status = sym c.say_run-in-Err.ensures.status in
    let comes = failed_run RunsTo told old mid new c.in-Run.workload c.in-Err.fault c.say_run-in-Err.result c.say_run-in-Err.ensures.status (is_read told c.in-Run.workload (c.in-Run.ensures.run file asks)) silent.0
    (fails_by_record c.in-Run.workload mid new (g.P.Spawner.ran c.args.spawner.now) (g.P.Spawner.ran c.run_by_threads.new.spawner) c.in-Err.fault c.in-Err.ensures.ran) in
    completes_report old new bytes plan told ⊥ (Rose (g.O.Sink.faults c.args.out.now) (g.O.Sink.faults c.run_by_threads.new.out)) (Rose (g.P.Spawner.faults c.args.spawner.now) (g.P.Spawner.faults c.run_by_threads.new.spawner))
    RunsTo c.run_texts_are_read_or_refused.ensures.one c.say_run-in-Err.result comes is reads
    (λ e. failed_no_unread c.in-Err.fault unreads.CannotRead (status ∙ e))
    (λ e. subst (λ (n : ℕ). Rose n (g.O.Sink.faults c.run_by_threads.new.out)) silent.1 (c.in-Err.ensures.cannot_write (ap err_of (same_fault c.in-Err.fault faults.CannotWrite (status ∙ e)))))
    (λ e. c.in-Err.ensures.cannot_start (ap err_of (same_fault c.in-Err.fault faults.CannotStart (status ∙ e))))
    (λ e. e) no_write no_start

pub returns-in-Run-clause-make : goal.returns-in-Run-clause-make
returns-in-Run-clause-make g c seed asks = absurd (run_unmade c.in-Run.workload seed (c.in-Run.ensures.make seed asks))

pub returns-in-Run-clause-cannot_start : goal.returns-in-Run-clause-cannot_start
returns-in-Run-clause-cannot_start g c is =
    let words = map string_bytes c.args.words.now in
    let plan = c.in-Run.workload in
    let fault = same_fault c.in-Err.fault faults.CannotStart (sym c.say_run-in-Err.ensures.status ∙ is) in (
      c.in-Err.ensures.cannot_start (ap err_of fault),
      inl (asks_run words (asking words)
          (λ mode file asks other. let ended = c.in-Run.ensures.one_thread mode file asks other in run_no_ended plan ended.0 ended.1)
          (λ file check. let ended = c.in-Run.ensures.check file check in run_no_ended plan ended.0 ended.1)
          (λ seed make. run_unmade plan seed (c.in-Run.ensures.make seed make))
          (λ refused. run_taken plan (c.in-Run.ensures.refused refused))),
    )

pub returns-in-Ok-clause-unread : goal.returns-in-Ok-clause-unread
returns-in-Ok-clause-unread g c other = absurd (run_unasked (map string_bytes c.args.words.now) c.in-Run.workload c.in-Run.ensures.refused c.in-Run.ensures.make other)

pub returns-in-Ok-clause-unasked : goal.returns-in-Ok-clause-unasked
returns-in-Ok-clause-unasked g c refused = absurd (run_taken c.in-Run.workload (c.in-Run.ensures.refused refused))

pub returns-in-Run-clause-unread : goal.returns-in-Run-clause-unread
returns-in-Run-clause-unread g c other = absurd (run_unasked (map string_bytes c.args.words.now) c.in-Run.workload c.in-Run.ensures.refused c.in-Run.ensures.make other)

pub returns-in-Run-clause-unasked : goal.returns-in-Run-clause-unasked
returns-in-Run-clause-unasked g c refused = absurd (run_taken c.in-Run.workload (c.in-Run.ensures.refused refused))

pub returns-clause-unasked : goal.returns-clause-unasked
returns-clause-unasked g c refused = absurd (make_taken c.in-Make.seed (c.in-Make.ensures.refused refused))

pub returns-clause-headline : goal.returns-clause-headline
returns-clause-headline g c file asks = absurd (not_both (map string_bytes c.args.words.now) c.in-Make.seed modes.Run file (c.in-Make.ensures.made c.in-Make.seed refl) asks)

pub returns-clause-jobs : goal.returns-clause-jobs
returns-clause-jobs g c file asks = absurd (not_both (map string_bytes c.args.words.now) c.in-Make.seed modes.Run file (c.in-Make.ensures.made c.in-Make.seed refl) asks)

pub returns-clause-says : goal.returns-clause-says
returns-clause-says g c =
    let words = map string_bytes c.args.words.now in
    says_run (file_in words) c.make.result c.make.result
    (g.E.Sink.contents c.args.err.now) (g.E.Sink.contents c.front.new.err) (g.E.Sink.contents c.make.new.err) (g.E.Sink.faults c.args.err.now) (g.E.Sink.faults c.front.new.err) (g.E.Sink.faults c.make.new.err)
    refl (c.in-Make.ensures.silent_making c.in-Make.seed refl)
    (ap (λ (named : List ℕ). message_of named c.make.result) (sym (names_none words c.in-Make.seed (c.in-Make.ensures.made c.in-Make.seed refl))))
    c.make.ensures.says

pub returns-clause-cannot_start : goal.returns-clause-cannot_start
returns-clause-cannot_start g c is = (c.make.ensures.cannot_start is, inr (c.in-Make.seed, c.in-Make.ensures.made c.in-Make.seed refl))

pub returns-clause-whole : goal.returns-clause-whole
returns-clause-whole g c mode file asks all = absurd (not_both (map string_bytes c.args.words.now) c.in-Make.seed mode file (c.in-Make.ensures.made c.in-Make.seed refl) asks)

pub returns-in-Ended-clause-step : goal.returns-in-Ended-clause-step
returns-in-Ended-clause-step g c file asks =
    mode_comes modes.Step (g.S.Sources.contents c.args.src.now file) (g.O.Sink.contents c.args.out.now) (g.O.Sink.contents c.front.new.out) c.in-Ended.status (c.in-Ended.ensures.one_thread modes.Step file asks (λ e. cc))

pub returns-in-Ended-clause-race : goal.returns-in-Ended-clause-race
returns-in-Ended-clause-race g c file asks =
    mode_comes modes.Race (g.S.Sources.contents c.args.src.now file) (g.O.Sink.contents c.args.out.now) (g.O.Sink.contents c.front.new.out) c.in-Ended.status (c.in-Ended.ensures.one_thread modes.Race file asks (λ e. cc))

pub returns-in-Ended-clause-races : goal.returns-in-Ended-clause-races
returns-in-Ended-clause-races g c file bytes plan asks is reads no_read no_write =
    let told = g.S.Sources.contents c.args.src.now file in
    let old = g.O.Sink.contents c.args.out.now in
    let new = g.O.Sink.contents c.front.new.out in
    completes_races old new bytes plan told
    (ReadFailed (g.S.Sources.open_faults c.args.src.now file) (g.S.Sources.open_faults c.front.new.src file) (g.S.Sources.read_faults c.args.src.now) (g.S.Sources.read_faults c.front.new.src))
    (Rose (g.O.Sink.faults c.args.out.now) (g.O.Sink.faults c.front.new.out)) ⊥
    c.race_texts_are_read_or_refused.ensures.one c.in-Ended.status (mode_comes modes.Race told old new c.in-Ended.status (c.in-Ended.ensures.one_thread modes.Race file asks (λ e. cc))) is reads
    (λ e. c.in-Ended.ensures.cannot_read modes.Race file asks (ap (λ (s : Status). fronts.Ended s) e))
    (λ e. c.in-Ended.ensures.cannot_write (ap (λ (s : Status). fronts.Ended s) e))
    (λ e. c.in-Ended.ensures.started (ap (λ (s : Status). fronts.Ended s) e))
    no_read no_write (λ e. e)

pub returns-in-Ended-clause-trace : goal.returns-in-Ended-clause-trace
returns-in-Ended-clause-trace g c file asks =
    mode_comes modes.Trace (g.S.Sources.contents c.args.src.now file) (g.O.Sink.contents c.args.out.now) (g.O.Sink.contents c.front.new.out) c.in-Ended.status (c.in-Ended.ensures.one_thread modes.Trace file asks (λ e. cc))

pub returns-in-Ended-clause-traces : goal.returns-in-Ended-clause-traces
returns-in-Ended-clause-traces g c file bytes plan asks is reads no_read no_write =
    let told = g.S.Sources.contents c.args.src.now file in
    let old = g.O.Sink.contents c.args.out.now in
    let new = g.O.Sink.contents c.front.new.out in
    completes_record old new bytes plan told
    (ReadFailed (g.S.Sources.open_faults c.args.src.now file) (g.S.Sources.open_faults c.front.new.src file) (g.S.Sources.read_faults c.args.src.now) (g.S.Sources.read_faults c.front.new.src))
    (Rose (g.O.Sink.faults c.args.out.now) (g.O.Sink.faults c.front.new.out)) ⊥
    c.one_reading.ensures c.in-Ended.status (mode_comes modes.Trace told old new c.in-Ended.status (c.in-Ended.ensures.one_thread modes.Trace file asks (λ e. cc))) is reads
    (λ e. c.in-Ended.ensures.cannot_read modes.Trace file asks (ap (λ (s : Status). fronts.Ended s) e))
    (λ e. c.in-Ended.ensures.cannot_write (ap (λ (s : Status). fronts.Ended s) e))
    (λ e. c.in-Ended.ensures.started (ap (λ (s : Status). fronts.Ended s) e))
    no_read no_write (λ e. e)

pub returns-in-Ended-clause-checks : goal.returns-in-Ended-clause-checks
returns-in-Ended-clause-checks g c file bytes text verdict asks is tells comes no_read no_write =
    let told = g.S.Sources.contents c.args.src.now file in
    let old = g.O.Sink.contents c.args.out.now in
    let new = g.O.Sink.contents c.front.new.out in
    completes_check told old new bytes
    (ReadFailed (g.S.Sources.open_faults c.args.src.now file) (g.S.Sources.open_faults c.front.new.src file) (g.S.Sources.read_faults c.args.src.now) (g.S.Sources.read_faults c.front.new.src))
    (Rose (g.O.Sink.faults c.args.out.now) (g.O.Sink.faults c.front.new.out))
    text verdict c.a_text_comes_to_one_verdict.ensures.one c.in-Ended.status (front_judges told old new c.in-Ended.status (c.in-Ended.ensures.check file asks)) is tells comes
    (λ e. c.in-Ended.ensures.check_cannot_read file asks (ap (λ (s : Status). fronts.Ended s) e))
    (λ e. c.in-Ended.ensures.cannot_write (ap (λ (s : Status). fronts.Ended s) e))
    no_read no_write

pub returns-in-Ended-clause-check_refused : goal.returns-in-Ended-clause-check_refused
returns-in-Ended-clause-check_refused g c file bytes asks is none no_read =
    let told = g.S.Sources.contents c.args.src.now file in
    let old = g.O.Sink.contents c.args.out.now in
    let new = g.O.Sink.contents c.front.new.out in
    refuses_check told old new bytes
    (ReadFailed (g.S.Sources.open_faults c.args.src.now file) (g.S.Sources.open_faults c.front.new.src file) (g.S.Sources.read_faults c.args.src.now) (g.S.Sources.read_faults c.front.new.src))
    (Rose (g.O.Sink.faults c.args.out.now) (g.O.Sink.faults c.front.new.out))
    c.in-Ended.status (front_judges told old new c.in-Ended.status (c.in-Ended.ensures.check file asks)) is none
    (λ e. c.in-Ended.ensures.check_cannot_read file asks (ap (λ (s : Status). fronts.Ended s) e)) no_read

pub returns-in-Ok-clause-check_whole : goal.returns-in-Ok-clause-check_whole
returns-in-Ok-clause-check_whole g c file check all =
    let ended = c.in-Run.ensures.check file check in
    absurd (run_no_ended c.in-Run.workload ended.0 ended.1)

pub returns-in-Run-clause-check_whole : goal.returns-in-Run-clause-check_whole
returns-in-Run-clause-check_whole g c file check all =
    let ended = c.in-Run.ensures.check file check in
    absurd (run_no_ended c.in-Run.workload ended.0 ended.1)

pub returns-clause-check_whole : goal.returns-clause-check_whole
returns-clause-check_whole g c file check all = absurd (no_seed_to_check (map string_bytes c.args.words.now) c.in-Make.seed file (c.in-Make.ensures.made c.in-Make.seed refl) check)
