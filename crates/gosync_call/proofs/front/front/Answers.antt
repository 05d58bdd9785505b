use Rattle.std.proofs.Common.{List, ℕ, inl, map, string_bytes, subst, sym}
use Rattle.record_text.specs.declared.limits.TheConstants.{MAX_RECORD}
use Rattle.gosync_call.specs.declared.status.Status.TheVariants as statuses
use Rattle.gosync_call.specs.declared.status.Unread.TheVariants as unreads
use Rattle.gosync_call.specs.Command.{asked, AskFor, AskToCheck, Asks}
use Rattle.gosync_call.specs.Input.{IsWhollyRead, IsWhollyReadTo}
use Rattle.gosync_call.proofs.AskedWords.{names_a_file, names_it, names_record, no_run_to_check, same_record}
use Rattle.gosync_call.proofs.Fronts.{left_of_ended, same_file}
use Rattle.gosync_call.proofs.Runs.{says_of}
use Rattle.gosync_call.proofs.front.front.Goals as goal

pub returns-in-Ok-File-clause-says : goal.returns-in-Ok-File-clause-says
returns-in-Ok-File-clause-says g c status is =
    let words = map string_bytes c.args.words.now in
    let mode = c.in-Ok-File.mode in
    let file = c.in-Ok-File.file in
    let asks : AskFor words mode file.now = subst (Asks words) c.in-Ok-File.field-0-is c.in-Ok-File.ensures.asks in
    says_of c.ended-in-Ok-File.result words file.now c.on_one_thread-status.result status (g.E.Sink.contents c.args.err.now) (g.E.Sink.contents c.ended-in-Ok-File.new.err) (g.E.Sink.faults c.args.err.now) (g.E.Sink.faults c.ended-in-Ok-File.new.err)
    (names_it words mode file.now asks) c.ended-in-Ok-File.ensures.ended is c.ended-in-Ok-File.ensures.says

pub returns-in-Err-clause-says : goal.returns-in-Err-clause-says
returns-in-Err-clause-says g c status is =
    let words = map string_bytes c.args.words.now in
    let mode = c.in-Ok-File-Run-default.field-0-0 in
    let file = c.in-Ok-File-Run-default.file in
    let asks : AskFor words mode file.now = subst (Asks words) c.in-Ok-File-Run-default.field-0-is c.in-Ok-File-Run-default.ensures.asks in
    says_of c.ended.result words file.now (statuses.Unread c.in-Err.why) status (g.E.Sink.contents c.args.err.now) (g.E.Sink.contents c.ended.new.err) (g.E.Sink.faults c.args.err.now) (g.E.Sink.faults c.ended.new.err)
    (names_it words mode file.now asks) c.ended.ensures.ended is c.ended.ensures.says

pub returns-in-Ok-File-clause-unread : goal.returns-in-Ok-File-clause-unread
returns-in-Ok-File-clause-unread g c other =
    let words = map string_bytes c.args.words.now in
    let mode = c.in-Ok-File.mode in
    let file = c.in-Ok-File.file in
    let asks : AskFor words mode file.now = subst (Asks words) c.in-Ok-File.field-0-is c.in-Ok-File.ensures.asks in
    absurd (names_a_file words mode file.now asks other)

pub returns-in-Ok-File-clause-unasked : goal.returns-in-Ok-File-clause-unasked
returns-in-Ok-File-clause-unasked g c refused =
    let words = map string_bytes c.args.words.now in
    let mode = c.in-Ok-File.mode in
    let file = c.in-Ok-File.file in
    let asks : AskFor words mode file.now = subst (Asks words) c.in-Ok-File.field-0-is c.in-Ok-File.ensures.asks in
    absurd (names_a_file words mode file.now asks (inl refused))

pub returns-in-Ok-clause-unread : goal.returns-in-Ok-clause-unread
returns-in-Ok-clause-unread g c other =
    let words = map string_bytes c.args.words.now in
    let mode = c.in-Ok-File-Run-default.field-0-0 in
    let file = c.in-Ok-File-Run-default.file in
    let asks : AskFor words mode file.now = subst (Asks words) c.in-Ok-File-Run-default.field-0-is c.in-Ok-File-Run-default.ensures.asks in
    absurd (names_a_file words mode file.now asks other)

pub returns-in-Err-clause-unread : goal.returns-in-Err-clause-unread
returns-in-Err-clause-unread g c other =
    let words = map string_bytes c.args.words.now in
    let mode = c.in-Ok-File-Run-default.field-0-0 in
    let file = c.in-Ok-File-Run-default.file in
    let asks : AskFor words mode file.now = subst (Asks words) c.in-Ok-File-Run-default.field-0-is c.in-Ok-File-Run-default.ensures.asks in
    absurd (names_a_file words mode file.now asks other)

pub returns-in-Ok-File-clause-whole : goal.returns-in-Ok-File-clause-whole
returns-in-Ok-File-clause-whole g c mode file asks left =
    let words = map string_bytes c.args.words.now in
    let named = c.in-Ok-File.file.now in
    let asks_for : AskFor words c.in-Ok-File.mode named = subst (Asks words) c.in-Ok-File.field-0-is c.in-Ok-File.ensures.asks in
    let is = same_file (asked words) c.in-Ok-File.mode mode named file asks_for asks in
    subst (λ (f : List ℕ). IsWhollyRead (g.S.Sources.contents c.args.src.now f) (g.S.Sources.remaining c.on_one_thread-status.new.src)) is
    (left_of_ended _ c.ended-in-Ok-File.result c.on_one_thread-status.result c.ended-in-Ok-File.ensures.ended c.on_one_thread-status.ensures.whole left)

pub returns-in-Ok-clause-whole : goal.returns-in-Ok-clause-whole
returns-in-Ok-clause-whole g c mode file asks left =
    let words = map string_bytes c.args.words.now in
    let named = c.in-Ok-File-Run-default.file.now in
    let asks_for : AskFor words c.in-Ok-File-Run-default.field-0-0 named = subst (Asks words) c.in-Ok-File-Run-default.field-0-is c.in-Ok-File-Run-default.ensures.asks in
    let is = same_file (asked words) c.in-Ok-File-Run-default.field-0-0 mode named file asks_for asks in
    subst (λ (f : List ℕ). IsWhollyRead (g.S.Sources.contents c.args.src.now f) (g.S.Sources.remaining c.read_workload.new.src)) is c.in-Ok.ensures.whole

pub returns-in-Err-clause-whole : goal.returns-in-Err-clause-whole
returns-in-Err-clause-whole g c mode file asks left =
    let words = map string_bytes c.args.words.now in
    let named = c.in-Ok-File-Run-default.file.now in
    let asks_for : AskFor words c.in-Ok-File-Run-default.field-0-0 named = subst (Asks words) c.in-Ok-File-Run-default.field-0-is c.in-Ok-File-Run-default.ensures.asks in
    let is = same_file (asked words) c.in-Ok-File-Run-default.field-0-0 mode named file asks_for asks in
    subst (λ (f : List ℕ). IsWhollyRead (g.S.Sources.contents c.args.src.now f) (g.S.Sources.remaining c.read_workload.new.src)) is
    (left_of_ended _ c.ended.result (statuses.Unread c.in-Err.why) c.ended.ensures.ended c.in-Err.ensures.whole left)

pub returns-in-Err-Refused-clause-whole : goal.returns-in-Err-Refused-clause-whole
returns-in-Err-Refused-clause-whole g c mode file asks left =
    left_of_ended _ c.ended-in-Err-Refused.result statuses.Usage c.ended-in-Err-Refused.ensures.ended (λ all. absurd all) left

pub returns-in-Err-Memory-clause-whole : goal.returns-in-Err-Memory-clause-whole
returns-in-Err-Memory-clause-whole g c mode file asks left =
    left_of_ended _ c.ended-in-Err-Memory.result (statuses.Unread unreads.Memory) c.ended-in-Err-Memory.ensures.ended (λ all. absurd all) left

pub returns-in-Ok-clause-check_whole : goal.returns-in-Ok-clause-check_whole
returns-in-Ok-clause-check_whole g c name check left =
    let words = map string_bytes c.args.words.now in
    let mode = c.in-Ok-File-Run-default.field-0-0 in
    let file = c.in-Ok-File-Run-default.file in
    let asks : AskFor words mode file.now = subst (Asks words) c.in-Ok-File-Run-default.field-0-is c.in-Ok-File-Run-default.ensures.asks in
    absurd (no_run_to_check words mode file.now name asks check)

pub returns-in-Err-clause-check_whole : goal.returns-in-Err-clause-check_whole
returns-in-Err-clause-check_whole g c name check left =
    let words = map string_bytes c.args.words.now in
    let mode = c.in-Ok-File-Run-default.field-0-0 in
    let file = c.in-Ok-File-Run-default.file in
    let asks : AskFor words mode file.now = subst (Asks words) c.in-Ok-File-Run-default.field-0-is c.in-Ok-File-Run-default.ensures.asks in
    absurd (no_run_to_check words mode file.now name asks check)

pub returns-in-Ok-File-clause-check_whole : goal.returns-in-Ok-File-clause-check_whole
returns-in-Ok-File-clause-check_whole g c name check left =
    let words = map string_bytes c.args.words.now in
    let mode = c.in-Ok-File.mode in
    let file = c.in-Ok-File.file in
    let asks : AskFor words mode file.now = subst (Asks words) c.in-Ok-File.field-0-is c.in-Ok-File.ensures.asks in
    absurd (no_run_to_check words mode file.now name asks check)

pub returns-in-Err-Refused-clause-check_whole : goal.returns-in-Err-Refused-clause-check_whole
returns-in-Err-Refused-clause-check_whole g c name check left =
    left_of_ended _ c.ended-in-Err-Refused.result statuses.Usage c.ended-in-Err-Refused.ensures.ended (λ all. absurd all) left

pub returns-in-Err-Memory-clause-check_whole : goal.returns-in-Err-Memory-clause-check_whole
returns-in-Err-Memory-clause-check_whole g c name check left =
    left_of_ended _ c.ended-in-Err-Memory.result (statuses.Unread unreads.Memory) c.ended-in-Err-Memory.ensures.ended (λ all. absurd all) left

pub returns-in-Ok-Check-clause-whole : goal.returns-in-Ok-Check-clause-whole
returns-in-Ok-Check-clause-whole g c mode file asks left =
    let words = map string_bytes c.args.words.now in
    let name = c.in-Ok-Check.file in
    let check : AskToCheck words name.now = subst (Asks words) c.in-Ok-Check.field-0-is c.in-Ok-Check.ensures.asks in
    absurd (no_run_to_check words mode file name.now asks check)

pub returns-in-Ok-Check-clause-check_whole : goal.returns-in-Ok-Check-clause-check_whole
returns-in-Ok-Check-clause-check_whole g c file asks left =
    let words = map string_bytes c.args.words.now in
    let name = c.in-Ok-Check.file in
    let check : AskToCheck words name.now = subst (Asks words) c.in-Ok-Check.field-0-is c.in-Ok-Check.ensures.asks in
    subst (λ (f : List ℕ). IsWhollyReadTo MAX_RECORD (g.S.Sources.contents c.args.src.now f) (g.S.Sources.remaining c.judge-status.new.src)) (same_record words name.now file check asks)
    (left_of_ended _ c.ended-in-Ok-Check.result c.judge-status.result c.ended-in-Ok-Check.ensures.ended c.judge-status.ensures.whole left)

pub returns-in-Ok-Check-clause-says : goal.returns-in-Ok-Check-clause-says
returns-in-Ok-Check-clause-says g c status is =
    let words = map string_bytes c.args.words.now in
    let name = c.in-Ok-Check.file in
    let check : AskToCheck words name.now = subst (Asks words) c.in-Ok-Check.field-0-is c.in-Ok-Check.ensures.asks in
    says_of c.ended-in-Ok-Check.result words name.now c.judge-status.result status (g.E.Sink.contents c.args.err.now) (g.E.Sink.contents c.ended-in-Ok-Check.new.err) (g.E.Sink.faults c.args.err.now) (g.E.Sink.faults c.ended-in-Ok-Check.new.err)
    (names_record words name.now check) c.ended-in-Ok-Check.ensures.ended is c.ended-in-Ok-Check.ensures.says
