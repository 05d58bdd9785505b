use Rattle.std.proofs.Common.{ℕ, ◌+◌, ◌≤◌, List, [], get_or, length, Ok, Err, refl, ap, arith, subst, sym, rules}
use Rattle.std.specs.Prelude.{All}
use Rattle.std.proofs.lemmas.List.Elements.{All-nil}
use Rattle.script_calls.specs.declared.call.Reply.{Reply}
use Rattle.script_calls.specs.Runs.{passed_over}
use Rattle.sync_model.specs.declared.answer.Answer.TheVariants.{Halted}
use Rattle.sync_model.specs.Shared.{items_of}
use Rattle.protocols.specs.Spelling.{CallAnswer}
use Rattle.run_record.specs.Calls.{SpellsCall}
use Rattle.run_record.specs.Limits.{IsCallOf}
use Rattle.thread_objects.specs.Passes.{owns_of}
use Rattle.thread_runner.specs.Sites.{cost_of_call, ranges_in_call}
use Rattle.thread_objects.specs.Working.{Works, desk_with}
use Rattle.thread_runner.specs.DidLines.{Went}
use Rattle.thread_runner.proofs.ScriptLoop.{after_call, by_call, call_read, over_all, of_done, of_halted, of_none}
use Rattle.thread_runner.proofs.LineSteps.{begun, went_on, ends_misused, ends_halted, ends_whole}
use Rattle.thread_runner.proofs.script.make_calls.Goals as goal

pub loop-place-init : goal.loop-place-init
loop-place-init g c =
    let mark = g.S.Mark.Note in
    let plan = c.args.site.now.catalog.workload.now in
    let script = get_or plan.scripts c.args.worker.now.number [] in
    let start = desk_with mark.own mark.front (owns_of c.args.passes.now) c.args.caller.now.note in
    record {
      seats = c.requires.may.seats;
      is_caller = c.requires.may.is_caller;
      held = λ number of. of;
      spare = c.requires.may.spare;
      roomy = c.requires.may.room.roomy;
      enough = c.requires.may.room.enough;
      room_is = refl;
      count = omega (arith, ap (λ (replies : List (Reply ℕ)). length replies) c.requires.may.room.none);
      calls = subst (All (λ x. IsCallOf plan x.call)) (sym c.requires.may.none) (All-nil (λ x. IsCallOf plan x.call));
      went = subst (λ replies. Went plan c.args.worker.now.number script 0 replies start start) (sym c.requires.may.room.none) (begun plan c.args.worker.now.number script start c.requires.may.none (c.moves.ensures.none start));
    }

pub returns-in-Some-Done-Err-clause-made : goal.returns-in-Some-Done-Err-clause-made
returns-in-Some-Done-Err-clause-made g c =
    let mark = g.S.Mark.Note in
    let plan = c.args.site.now.catalog.workload.now in
    let number = c.args.worker.now.number in
    let script = get_or plan.scripts number [] in
    let start = desk_with mark.own mark.front (owns_of c.args.passes.now) c.args.caller.now.note in
    let now = desk_with mark.own mark.front (owns_of c.loop-place.passes) c.loop-place.caller.note in
    let new = desk_with mark.own mark.front (owns_of c.make_call-answer.new.passes) c.make_call-answer.new.caller.note in
    let at = call_read c.a_run_goes_along_by_places.ensures.at script _ c.loop-place.place c.index-script-place.result (search rules) c.index-script-place.is c.script-script.ensures.script in
    let Made : CallAnswer (Reply ℕ) → Type 0 = λ answer. Works (SpellsCall plan number (length (items_of (mark.own c.loop-place.caller.note))) c.index-script-place.result) now answer new in
    let works = of_done c.make_call-answer.result Made _ _ (Err c.in-Some-Done-Err.misuse) c.in-Some-Done-Err.is c.in-Some-Done-Err.field-0-is c.in-Some-Done-Err.field-0-0-is c.make_call-answer.ensures.works in
    ends_misused plan number script start c.requires.may.none c.loop-place.place c.index-script-place.result at c.loop-place.replies.items now new c.moves.ensures.joined c.loop-place.invariant.went c.in-Some-Done-Err.misuse works

pub returns-in-Some-Halted-clause-made : goal.returns-in-Some-Halted-clause-made
returns-in-Some-Halted-clause-made g c =
    let mark = g.S.Mark.Note in
    let plan = c.args.site.now.catalog.workload.now in
    let number = c.args.worker.now.number in
    let script = get_or plan.scripts number [] in
    let start = desk_with mark.own mark.front (owns_of c.args.passes.now) c.args.caller.now.note in
    let now = desk_with mark.own mark.front (owns_of c.loop-place.passes) c.loop-place.caller.note in
    let new = desk_with mark.own mark.front (owns_of c.make_call-answer.new.passes) c.make_call-answer.new.caller.note in
    let at = call_read c.a_run_goes_along_by_places.ensures.at script _ c.loop-place.place c.index-script-place.result (search rules) c.index-script-place.is c.script-script.ensures.script in
    let Made : CallAnswer (Reply ℕ) → Type 0 = λ answer. Works (SpellsCall plan number (length (items_of (mark.own c.loop-place.caller.note))) c.index-script-place.result) now answer new in
    let works = of_halted c.make_call-answer.result Made _ (Halted c.in-Some-Halted.misuse) c.in-Some-Halted.is c.in-Some-Halted.field-0-is c.make_call-answer.ensures.works in
    ends_halted plan number script start c.requires.may.none c.loop-place.place c.index-script-place.result at c.loop-place.replies.items now new c.moves.ensures.joined c.loop-place.invariant.went c.in-Some-Halted.misuse works

pub loop-place-preserved : goal.loop-place-preserved
loop-place-preserved g c =
    let mark = g.S.Mark.Note in
    let plan = c.args.site.now.catalog.workload.now in
    let number = c.args.worker.now.number in
    let script = get_or plan.scripts number [] in
    let start = desk_with mark.own mark.front (owns_of c.args.passes.now) c.args.caller.now.note in
    let now = desk_with mark.own mark.front (owns_of c.loop-place.passes) c.loop-place.caller.note in
    let new = desk_with mark.own mark.front (owns_of c.make_call-answer.new.passes) c.make_call-answer.new.caller.note in
    let at = call_read c.a_run_goes_along_by_places.ensures.at script _ c.loop-place.place c.index-script-place.result (search rules) c.index-script-place.is c.script-script.ensures.script in
    let Made : CallAnswer (Reply ℕ) → Type 0 = λ answer. Works (SpellsCall plan number (length (items_of (mark.own c.loop-place.caller.note))) c.index-script-place.result) now answer new in
    let made = c.make_call-answer.ensures in
    let reply = c.in-Some-Done-Ok.reply in
    let passes = passed_over c.index-script-place.result reply in
    let next = c.loop-place.place + (1 + c.passed_over.result) in
    let over = over_all c.a_run_goes_along_by_places.ensures.over script c.loop-place.place passes c.passed_over.result c.passed_over.ensures.passes in
    let left : length c.loop-place.rooms.items ≤ length c.make_call-answer.new.rooms.items + ranges_in_call c.index-script-place.result = search rules in
    let works = of_done c.make_call-answer.result Made _ _ (Ok reply) c.in-Some-Done-Ok.is c.in-Some-Done-Ok.field-0-is c.in-Some-Done-Ok.field-0-0-is made.works in
    let went = went_on plan number script start c.requires.may.none c.loop-place.place c.index-script-place.result at c.loop-place.replies.items now new c.moves.ensures.joined c.loop-place.invariant.went c.moves.ensures.shared c.runs_go_on.ensures.along reply next over works in
    after_call mark.at mark.own mark.front c.args.worker.now.at.home.now plan c.args.worker.now.workers number c.args.site.now.objects.now script c.args.replies.now.room start c.args.caller.now.note c.loop-place.place c.index-script-place.result at
    passes next over c.loop-place.passes c.make_call-answer.new.passes c.loop-place.caller c.make_call-answer.new.caller c.loop-place.replies c.push.new.self c.loop-place.rooms.items c.make_call-answer.new.rooms.items c.loop-place.invariant
    reply c.push.ensures (omega arith) made.seats made.caller made.spends made.rooms left made.calls went

pub returns-clause-made : goal.returns-clause-made
returns-clause-made g c =
    let mark = g.S.Mark.Note in
    let plan = c.args.site.now.catalog.workload.now in
    let number = c.args.worker.now.number in
    let script = get_or plan.scripts number [] in
    let start = desk_with mark.own mark.front (owns_of c.args.passes.now) c.args.caller.now.note in
    let now = desk_with mark.own mark.front (owns_of c.loop-place.passes) c.loop-place.caller.note in
    let past = c.a_run_goes_along_by_places.ensures.past script c.loop-place.place (search rules) in
    ends_whole plan number script start c.requires.may.none c.loop-place.replies.items now c.loop-place.place past c.loop-place.invariant.went

pub returns-in-None-clause-between : goal.returns-in-None-clause-between
returns-in-None-clause-between g c =
    let mark = g.S.Mark.Note in
    let made = c.make_call-answer.ensures in
    let before = c.loop-place.invariant in
    by_call mark.at mark.own mark.front c.args.worker.now.at.home.now c.args.site.now.catalog.workload.now c.args.site.now.objects.now c.args.worker.now.workers c.args.worker.now.number
    c.loop-place.caller c.make_call-answer.new.caller c.make_call-answer.new.passes made.seats (cost_of_call c.index-script-place.result) made.caller made.spends made.calls c.args.caller.now.note before.held before.calls

pub returns-in-Some-Done-Err-clause-between : goal.returns-in-Some-Done-Err-clause-between
returns-in-Some-Done-Err-clause-between g c =
    let mark = g.S.Mark.Note in
    let made = c.make_call-answer.ensures in
    let before = c.loop-place.invariant in
    by_call mark.at mark.own mark.front c.args.worker.now.at.home.now c.args.site.now.catalog.workload.now c.args.site.now.objects.now c.args.worker.now.workers c.args.worker.now.number
    c.loop-place.caller c.make_call-answer.new.caller c.make_call-answer.new.passes made.seats (cost_of_call c.index-script-place.result) made.caller made.spends made.calls c.args.caller.now.note before.held before.calls

pub returns-in-Some-Halted-clause-between : goal.returns-in-Some-Halted-clause-between
returns-in-Some-Halted-clause-between g c =
    let mark = g.S.Mark.Note in
    let made = c.make_call-answer.ensures in
    let before = c.loop-place.invariant in
    by_call mark.at mark.own mark.front c.args.worker.now.at.home.now c.args.site.now.catalog.workload.now c.args.site.now.objects.now c.args.worker.now.workers c.args.worker.now.number
    c.loop-place.caller c.make_call-answer.new.caller c.make_call-answer.new.passes made.seats (cost_of_call c.index-script-place.result) made.caller made.spends made.calls c.args.caller.now.note before.held before.calls

pub returns-in-None-clause-given_up : goal.returns-in-None-clause-given_up
returns-in-None-clause-given_up g c = of_none c.make_call-answer.result _ c.in-None.is c.make_call-answer.ensures.given_up

pub returns-clause-between : goal.returns-clause-between
returns-clause-between g c =
    let it = c.loop-place.invariant in
    record { seats = it.seats; is_caller = it.is_caller; held = it.held; calls = it.calls }
