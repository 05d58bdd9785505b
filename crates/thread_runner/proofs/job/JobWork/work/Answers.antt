use Rattle.std.proofs.Common.{◌≡◌, ℕ, List, [], ◌++◌, ◌⊎◌, length, get_or, take, drop, sym, ◌∙◌, subst, arith}
use Rattle.std.proofs.lemmas.List.{take-append-le, take_all}
use Rattle.script_calls.specs.declared.call.Reply.{Reply}
use Rattle.thread_objects.specs.declared.pass.AnyPass.{AnyPass}
use Rattle.thread_objects.specs.Desks.{AreSeats}
use Rattle.sync_model.specs.Shared.{items_of}
use Rattle.thread_objects.specs.GivenUp.{GaveUp}
use Rattle.thread_objects.specs.Passes.{owns_of}
use Rattle.thread_objects.specs.Working.{desk_with}
use Rattle.run_record.specs.Lines.{Line}
use Rattle.thread_runner.specs.DidLines.{DidLine}
use Rattle.thread_runner.specs.Jobs.{HasGone, MayCall}
use Rattle.thread_runner.proofs.job.JobWork.work.Goals as goal

pub run_script-requires-clause-may : goal.run_script-requires-clause-may
run_script-requires-clause-may g c =
    let job = c.args.self in
    let mark = g.S.Mark.Note in
    let home = job.worker.at.home.now in
    let plan = job.site.now.catalog.workload.now in
    let objects = job.site.now.objects.now in
    let may = subst (λ n. MayCall mark.at mark.own home plan objects n job.worker.number job.passes.items job.caller job.room.replies job.room.pairs.items) c.requires.0.counted c.requires.1.may in
    subst (λ (passes : List (AnyPass g.row.S-Mark.Denot)). MayCall mark.at mark.own home plan objects job.worker.workers job.worker.number passes job.caller job.room.replies job.room.pairs.items) (sym c.deref_mut.ensures.value) may

pub returns : goal.returns
returns g c =
    let job = c.args.self in
    let mark = g.S.Mark.Note in
    let new = c.run_script.new.passes in
    let made = c.run_script.ensures in
    let ready = c.requires.1 in
    let home = job.worker.at.home.now in
    let plan = job.site.now.catalog.workload.now in
    let objects = job.site.now.objects.now in
    let seats : AreSeats mark.at home plan.workers job.worker.number objects new = subst (λ n. AreSeats mark.at home n job.worker.number objects new) (sym c.requires.0.counted) made.between.seats in
    let long : job.passes.len ≡ length new = omega (arith, job.passes.ok, ready.may.seats.count, made.between.seats.count) in
    let same : take job.passes.len (new ++ drop (length new) job.passes.items) ≡ new = take-append-le job.passes.len new (drop (length new) job.passes.items) (omega (arith, long)) ∙ take_all job.passes.len new (omega (arith, long)) in
    let last = desk_with mark.own mark.front (owns_of new) c.run_script.new.caller.note in
    let script = get_or plan.scripts job.worker.number [] in
    let Did : List (Reply ℕ) → List (AnyPass g.row.S-Mark.Denot) → Type 0 = λ replies passes.
    ((line : Line) × DidLine plan job.worker.number script replies (desk_with mark.own mark.front (owns_of passes) job.caller.note) last line) ⊎ GaveUp plan (items_of (mark.own c.run_script.new.caller.note)) in
    let Did-as : List (Reply ℕ) → Type 0 = λ replies. Did replies job.passes.items in
    let Did-from : List (AnyPass g.row.S-Mark.Denot) → Type 0 = λ passes. Did c.run_script.new.replies.items passes in
    subst (λ (passes : List (AnyPass g.row.S-Mark.Denot)). HasGone mark.at mark.own mark.front home plan objects job.worker.number job.passes.items job.caller passes c.run_script.new.caller c.into_seq.result) (sym same)
    (record { seats = seats; is_at = made.between.is_caller.0; held = made.between.held job.worker.number ready.held; calls = made.between.calls; did = subst Did-as (sym c.into_seq.ensures) (subst Did-from c.deref_mut.ensures.value made.line) })
