use Rattle.std.proofs.Common.{ℕ, pos, sym, ◌∙◌}
use Rattle.script_calls.specs.declared.call.Reply.{Reply}
use Rattle.script_calls.specs.declared.call.Reply.TheVariants as replies
use Rattle.sync_types.specs.declared.wait_call.WaitGroupCall.TheVariants as group_calls
use Rattle.starts_core.specs.declared.protocol.StartsStage.TheVariants as stages
use Rattle.run_record.specs.Objects.{starts_number}
use Rattle.run_record.specs.Parts.{Part, read_as}
use Rattle.run_record.specs.Record.{object_number}
use Rattle.run_record.specs.StartsKind.{starts_part}
use Rattle.run_record.specs.WaitGroupKind.{wait_group_call}
use Rattle.thread_runner.proofs.Working.{ended_first, gone_first, keeps_on, reads}
use Rattle.thread_runner.proofs.composed.starting.go_at.Goals as goal

-- what comes behind the `add`
abbrev starting : ℕ → ℕ → Part (Reply ℕ)
starting starts started = read_as (λ made. replies.Returned) (starts_part starts (stages.Start started))

pub returns-in-Err-clause-called : goal.returns-in-Err-clause-called
returns-in-Err-clause-called g c = c.what_a_call_leaves.ensures.none c.args.site.now.catalog.workload.now _ _ c.group_at.ensures.note.home c.group_at.ensures.note.kept c.requires.caller.1

pub returns-in-Err-clause-works : goal.returns-in-Err-clause-works
returns-in-Err-clause-works g c =
    let group = object_number c.args.place in
    let starts = starts_number c.args.site.now.catalog.workload.now in
    ended_first c.moves.ensures.none c.moves.ensures.joined (wait_group_call group (group_calls.Add (pos 1))) (λ added. starting starts c.args.started) _ _ _ _ (sym c.gone_on-added.ensures ∙ c.in-Err.is) (reads _ _ _ _ _ _ c.returned.ensures c.group_at.ensures.works)

pub start_at-requires-clause-note : goal.start_at-requires-clause-note
start_at-requires-clause-note g c = c.group_at.ensures.note.home _ c.requires.caller.0

pub returns-clause-called : goal.returns-clause-called
returns-clause-called g c =
    let mark = g.S.Mark.Note in
    let both = keeps_on mark.at mark.own mark.front _ _ _ c.group_at.ensures.note c.start_at.ensures.note in
    c.what_a_call_leaves.ensures.none c.args.site.now.catalog.workload.now _ _ both.home both.kept c.requires.caller.1

pub returns-clause-works : goal.returns-clause-works
returns-clause-works g c =
    let group = object_number c.args.place in
    let starts = starts_number c.args.site.now.catalog.workload.now in
    gone_first c.moves.ensures.none c.moves.ensures.joined (wait_group_call group (group_calls.Add (pos 1))) (λ added. starting starts c.args.started) _ _ _ _ _ _ (sym c.gone_on-added.ensures ∙ c.in_default.is)
    (reads _ _ _ _ _ _ c.returned.ensures c.group_at.ensures.works) c.start_at.ensures.works
