use Rattle.std.proofs.Common.{◌-◌, get_or, length, []}
use Rattle.thread_objects.specs.Passes.{owns_of}
use Rattle.thread_objects.specs.Working.{desk_with}
use Rattle.thread_runner.proofs.ScriptLoop.{AtCall}
use Rattle.thread_runner.proofs.script.make_calls.Given as goal

abbrev pub invariant-loop-place : goal.invariant-loop-place
invariant-loop-place g l =
    let mark = g.S.Mark.Note in
    let plan = l.fn.site.catalog.workload.now in
    AtCall mark.at mark.own mark.front l.fn.worker.at.home.now plan l.fn.worker.workers l.fn.worker.number l.fn.site.objects.now (get_or plan.scripts l.fn.worker.number []) l.fn.replies.room
    (desk_with mark.own mark.front (owns_of l.fn.passes) l.fn.caller.note) l.fn.caller.note l.place l.passes l.caller l.replies l.rooms.items

abbrev pub decreases-loop-place : goal.decreases-loop-place
decreases-loop-place g l = length (get_or l.fn.site.catalog.workload.now.scripts l.fn.worker.number []) - l.place
