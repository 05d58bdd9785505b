use Rattle.std.proofs.Common.{[], get_or, sym, ◌∙◌}
use Rattle.thread_objects.specs.Passes.{owns_of}
use Rattle.thread_objects.specs.Working.{desk_with}
use Rattle.thread_runner.proofs.ScriptLoop.{by_note}
use Rattle.thread_runner.proofs.WholeLines.{closes_behind, was_through}
use Rattle.thread_runner.proofs.script.go_through.Goals as goal

pub returns-clause-went : goal.returns-clause-went
returns-clause-went g c =
    let mark = g.S.Mark.Note in
    let plan = c.args.site.now.catalog.workload.now in
    let number = c.args.worker.now.number in
    let script = get_or plan.scripts number [] in
    let start = desk_with mark.own mark.front (owns_of c.args.passes.now) c.args.caller.now.note in
    let now = desk_with mark.own mark.front (owns_of c.make_calls-made.new.passes) c.make_calls-made.new.caller.note in
    let replies = c.make_calls-made.new.replies.items in
    let new = desk_with mark.own mark.front (owns_of c.closes.new.passes) c.closes.new.note in
    let all = was_through plan number script replies start now c.make_calls-made.result (sym c.is_through.ensures ∙ c.if-not-is_through.false) c.make_calls-made.ensures.made in
    closes_behind plan number script replies c.moves.ensures.joined start now new c.closes.result all c.closes.ensures.works

pub returns-clause-between : goal.returns-clause-between
returns-clause-between g c =
    let mark = g.S.Mark.Note in
    let made = c.make_calls-made in
    by_note mark.at mark.own mark.front c.args.worker.now.at.home.now c.args.site.now.catalog.workload.now c.args.site.now.objects.now c.args.worker.now.workers c.args.worker.now.number
    made.new.caller _ c.closes.new.passes c.closes.ensures.seats c.closes.ensures.note c.args.caller.now.note made.new.passes made.ensures.between
