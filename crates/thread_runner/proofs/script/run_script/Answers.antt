use Rattle.std.proofs.Common.{[], get_or, inl, sym, ◌∙◌}
use Rattle.thread_objects.specs.Passes.{owns_of}
use Rattle.thread_objects.specs.Working.{desk_with}
use Rattle.thread_runner.proofs.ScriptLoop.{at_first, by_note, may_still, since}
use Rattle.thread_runner.proofs.WholeLines.{line_told, line_untold, stays, told_to_come}
use Rattle.thread_runner.proofs.script.run_script.Goals as goal

pub returns-then-not-has_come-clause-between : goal.returns-then-not-has_come-clause-between
returns-then-not-has_come-clause-between g c =
    let mark = g.S.Mark.Note in
    let home = c.args.worker.now.at.home.now in
    let plan = c.args.site.now.catalog.workload.now in
    let objects = c.args.site.now.objects.now in
    let workers = c.args.worker.now.workers in
    let number = c.args.worker.now.number in
    by_note mark.at mark.own mark.front home plan objects workers number c.args.caller.now _ c.opens-opened.new.passes c.opens-opened.ensures.seats c.opens-opened.ensures.note c.args.caller.now.note c.args.passes.now (at_first mark.at mark.own mark.front home plan objects workers number c.args.passes.now c.args.caller.now c.args.replies.now c.args.rooms.now.items c.requires.may)

pub returns-then-not-has_come-clause-line : goal.returns-then-not-has_come-clause-line
returns-then-not-has_come-clause-line g c =
    let mark = g.S.Mark.Note in
    let plan = c.args.site.now.catalog.workload.now in
    let number = c.args.worker.now.number in
    let script = get_or plan.scripts number [] in
    let start = desk_with mark.own mark.front (owns_of c.args.passes.now) c.args.caller.now.note in
    let old = desk_with mark.own mark.front (owns_of c.opens-opened.new.passes) c.opens-opened.new.note in
    inl (stays plan number script c.args.replies.now.items c.requires.may.room.none start old c.opens-opened.result (sym c.has_come.ensures ∙ c.if-not-has_come.true) c.opens-opened.ensures.unmisused c.opens-opened.ensures.works)

pub go_through-went-requires-clause-may : goal.go_through-went-requires-clause-may
go_through-went-requires-clause-may g c =
    let mark = g.S.Mark.Note in
    let home = c.args.worker.now.at.home.now in
    let plan = c.args.site.now.catalog.workload.now in
    let objects = c.args.site.now.objects.now in
    let workers = c.args.worker.now.workers in
    let number = c.args.worker.now.number in
    may_still mark.at mark.own mark.front home plan objects workers number c.args.caller.now _ c.opens-opened.new.passes c.opens-opened.ensures.seats c.opens-opened.ensures.note c.args.passes.now c.args.replies.now c.args.rooms.now.items c.requires.may

pub returns-in-None-clause-between : goal.returns-in-None-clause-between
returns-in-None-clause-between g c =
    let mark = g.S.Mark.Note in
    let home = c.args.worker.now.at.home.now in
    let plan = c.args.site.now.catalog.workload.now in
    let objects = c.args.site.now.objects.now in
    let workers = c.args.worker.now.workers in
    let number = c.args.worker.now.number in
    let went = c.go_through-went in
    since mark.at mark.own mark.front home plan objects workers number c.args.caller.now.note c.opens-opened.new.note c.opens-opened.ensures.note.kept went.new.passes went.new.caller went.ensures.between

pub returns-in-Some-clause-between : goal.returns-in-Some-clause-between
returns-in-Some-clause-between g c =
    let mark = g.S.Mark.Note in
    let home = c.args.worker.now.at.home.now in
    let plan = c.args.site.now.catalog.workload.now in
    let objects = c.args.site.now.objects.now in
    let workers = c.args.worker.now.workers in
    let number = c.args.worker.now.number in
    let went = c.go_through-went in
    let first = c.args.caller.now.note in
    by_note mark.at mark.own mark.front home plan objects workers number went.new.caller _ c.halt_run.new.passes c.halt_run.ensures.seats c.halt_run.ensures.note first went.new.passes (since mark.at mark.own mark.front home plan objects workers number first c.opens-opened.new.note c.opens-opened.ensures.note.kept went.new.passes went.new.caller went.ensures.between)

pub returns-in-None-clause-line : goal.returns-in-None-clause-line
returns-in-None-clause-line g c =
    let mark = g.S.Mark.Note in
    let plan = c.args.site.now.catalog.workload.now in
    let number = c.args.worker.now.number in
    let script = get_or plan.scripts number [] in
    let start = desk_with mark.own mark.front (owns_of c.args.passes.now) c.args.caller.now.note in
    let old = desk_with mark.own mark.front (owns_of c.opens-opened.new.passes) c.opens-opened.new.note in
    let now = desk_with mark.own mark.front (owns_of c.go_through-went.new.passes) c.go_through-went.new.caller.note in
    let replies = c.go_through-went.new.replies.items in
    let opens = told_to_come plan number start old c.opens-opened.result (sym c.has_come.ensures ∙ c.if-not-has_come.false) c.opens-opened.ensures.works in
    line_untold plan number script replies c.moves.ensures.joined start old now opens _ c.go_through-went.result (sym c.misuse_in.ensures ∙ c.in-None.is) c.go_through-went.ensures.given_up c.go_through-went.ensures.went

pub returns-in-Some-clause-line : goal.returns-in-Some-clause-line
returns-in-Some-clause-line g c =
    let mark = g.S.Mark.Note in
    let plan = c.args.site.now.catalog.workload.now in
    let number = c.args.worker.now.number in
    let script = get_or plan.scripts number [] in
    let start = desk_with mark.own mark.front (owns_of c.args.passes.now) c.args.caller.now.note in
    let old = desk_with mark.own mark.front (owns_of c.opens-opened.new.passes) c.opens-opened.new.note in
    let now = desk_with mark.own mark.front (owns_of c.go_through-went.new.passes) c.go_through-went.new.caller.note in
    let replies = c.go_through-went.new.replies.items in
    let opens = told_to_come plan number start old c.opens-opened.result (sym c.has_come.ensures ∙ c.if-not-has_come.false) c.opens-opened.ensures.works in
    let last = desk_with mark.own mark.front (owns_of c.halt_run.new.passes) c.halt_run.new.note in
    inl (line_told plan number script replies c.moves.ensures.joined start old now opens c.in-Some.misuse last c.go_through-went.result (sym c.misuse_in.ensures ∙ c.in-Some.is) c.go_through-went.ensures.went c.halt_run.ensures.halted)
