use Rattle.std.proofs.Common.{suc, ◌+◌, ◌-◌, ◌≡◌, ◌∙◌, sym, arith}
use Rattle.run_record.specs.Objects.{atomic_number}
use Rattle.run_record.specs.Record.{object_number}
use Rattle.thread_objects.specs.Working.{Desk, desk_with}
use Rattle.thread_objects.specs.Passes.{owns_of}
use Rattle.thread_runner.proofs.Tries.{ended, unmet, waited, wait_erred, wait_halted}
use Rattle.thread_runner.proofs.composed.waiting.wait_until.Goals as goal

pub returns-then-not-is_unmet-clause-called : goal.returns-then-not-is_unmet-clause-called
returns-then-not-is_unmet-clause-called g c = c.what_a_call_leaves.ensures.joined _ 0 0 _ _ _ c.loop-made.invariant.called c.test_at-tested.ensures.called

pub returns-then-not-is_unmet-clause-works : goal.returns-then-not-is_unmet-clause-works
returns-then-not-is_unmet-clause-works g c =
    let start : Desk = desk_with g.S.Mark.Note.own g.S.Mark.Note.front (owns_of c.args.passes.now) c.args.caller.now.note in
    let now : Desk = desk_with g.S.Mark.Note.own g.S.Mark.Note.front (owns_of c.loop-made.passes) c.loop-made.caller.note in
    let between : Desk = desk_with g.S.Mark.Note.own g.S.Mark.Note.front (owns_of c.loop-made.passes) c.test_at-tested.new.caller.note in
    let cond = object_number c.args.place in
    let mutex = object_number c.args.mutex in
    let a = atomic_number c.args.catalog.now.workload.now.objects c.args.atomic in
    let made = c.loop-made._made in
    let left = c.args.tries - (made + 1) in
    let more = c.loop-made-test.true in
    let is : suc left + made ≡ c.args.tries = omega (arith, more) in
    ended cond mutex a c.args.value c.args.tries start made now between between c.loop-made.invariant.all c.moves.ensures.none c.moves.ensures.joined left is c.test_at-tested.result (sym c.is_unmet.ensures ∙ c.if-not-is_unmet.true) (c.test_at-tested.ensures.works (owns_of c.loop-made.passes))

pub returns-in-Done-Err-clause-called : goal.returns-in-Done-Err-clause-called
returns-in-Done-Err-clause-called g c =
    let laws = c.what_a_call_leaves.ensures in
    let plan = c.args.catalog.now.workload.now in
    let first = c.test_at-tested.ensures.called in
    let some = c.what_calls_spend.ensures.held 0 _ _ first.spends in
    let second = laws.none plan _ _ c.wait_at.ensures.note.home c.wait_at.ensures.note.kept some in
    laws.joined plan 0 0 _ _ _ c.loop-made.invariant.called (laws.joined plan 0 0 _ _ _ first second)

pub returns-in-Done-Err-clause-works : goal.returns-in-Done-Err-clause-works
returns-in-Done-Err-clause-works g c =
    let start : Desk = desk_with g.S.Mark.Note.own g.S.Mark.Note.front (owns_of c.args.passes.now) c.args.caller.now.note in
    let now : Desk = desk_with g.S.Mark.Note.own g.S.Mark.Note.front (owns_of c.loop-made.passes) c.loop-made.caller.note in
    let between : Desk = desk_with g.S.Mark.Note.own g.S.Mark.Note.front (owns_of c.loop-made.passes) c.test_at-tested.new.caller.note in
    let later : Desk = desk_with g.S.Mark.Note.own g.S.Mark.Note.front (owns_of c.wait_at.new.passes) c.wait_at.new.note in
    let cond = object_number c.args.place in
    let mutex = object_number c.args.mutex in
    let a = atomic_number c.args.catalog.now.workload.now.objects c.args.atomic in
    let made = c.loop-made._made in
    let left = c.args.tries - (made + 1) in
    let more = c.loop-made-test.true in
    let is : suc left + made ≡ c.args.tries = omega (arith, more) in
    let tested = unmet cond mutex a c.args.value c.args.tries start made now between between c.loop-made.invariant.all c.test_at-tested.result (sym c.is_unmet.ensures ∙ c.if-not-is_unmet.false) (c.test_at-tested.ensures.works (owns_of c.loop-made.passes)) in
    wait_erred cond mutex a c.args.value c.args.tries start made now between later c.loop-made.invariant.all c.moves.ensures.none c.moves.ensures.joined left is c.in-Done-Err.misuse tested (rw c.in-Done-Err.field-0-is at c.in-Done-Err.ensures.works)

pub returns-in-Halted-clause-called : goal.returns-in-Halted-clause-called
returns-in-Halted-clause-called g c =
    let laws = c.what_a_call_leaves.ensures in
    let plan = c.args.catalog.now.workload.now in
    let first = c.test_at-tested.ensures.called in
    let some = c.what_calls_spend.ensures.held 0 _ _ first.spends in
    let second = laws.none plan _ _ c.wait_at.ensures.note.home c.wait_at.ensures.note.kept some in
    laws.joined plan 0 0 _ _ _ c.loop-made.invariant.called (laws.joined plan 0 0 _ _ _ first second)

pub returns-in-Halted-clause-works : goal.returns-in-Halted-clause-works
returns-in-Halted-clause-works g c =
    let start : Desk = desk_with g.S.Mark.Note.own g.S.Mark.Note.front (owns_of c.args.passes.now) c.args.caller.now.note in
    let now : Desk = desk_with g.S.Mark.Note.own g.S.Mark.Note.front (owns_of c.loop-made.passes) c.loop-made.caller.note in
    let between : Desk = desk_with g.S.Mark.Note.own g.S.Mark.Note.front (owns_of c.loop-made.passes) c.test_at-tested.new.caller.note in
    let later : Desk = desk_with g.S.Mark.Note.own g.S.Mark.Note.front (owns_of c.wait_at.new.passes) c.wait_at.new.note in
    let cond = object_number c.args.place in
    let mutex = object_number c.args.mutex in
    let a = atomic_number c.args.catalog.now.workload.now.objects c.args.atomic in
    let made = c.loop-made._made in
    let left = c.args.tries - (made + 1) in
    let more = c.loop-made-test.true in
    let is : suc left + made ≡ c.args.tries = omega (arith, more) in
    let tested = unmet cond mutex a c.args.value c.args.tries start made now between between c.loop-made.invariant.all c.test_at-tested.result (sym c.is_unmet.ensures ∙ c.if-not-is_unmet.false) (c.test_at-tested.ensures.works (owns_of c.loop-made.passes)) in
    wait_halted cond mutex a c.args.value c.args.tries start made now between later c.loop-made.invariant.all c.moves.ensures.none c.moves.ensures.joined left is c.in-Halted.misuse tested (c.in-Halted.ensures.works)

pub loop-made-preserved : goal.loop-made-preserved
loop-made-preserved g c =
    let start : Desk = desk_with g.S.Mark.Note.own g.S.Mark.Note.front (owns_of c.args.passes.now) c.args.caller.now.note in
    let now : Desk = desk_with g.S.Mark.Note.own g.S.Mark.Note.front (owns_of c.loop-made.passes) c.loop-made.caller.note in
    let between : Desk = desk_with g.S.Mark.Note.own g.S.Mark.Note.front (owns_of c.loop-made.passes) c.test_at-tested.new.caller.note in
    let later : Desk = desk_with g.S.Mark.Note.own g.S.Mark.Note.front (owns_of c.wait_at.new.passes) c.wait_at.new.note in
    let cond = object_number c.args.place in
    let mutex = object_number c.args.mutex in
    let a = atomic_number c.args.catalog.now.workload.now.objects c.args.atomic in
    let made = c.loop-made._made in
    let tested = unmet cond mutex a c.args.value c.args.tries start made now between between c.loop-made.invariant.all c.test_at-tested.result (sym c.is_unmet.ensures ∙ c.if-not-is_unmet.false) (c.test_at-tested.ensures.works (owns_of c.loop-made.passes)) in
    let laws = c.what_a_call_leaves.ensures in
    let plan = c.args.catalog.now.workload.now in
    let first = c.test_at-tested.ensures.called in
    let some = c.what_calls_spend.ensures.held 0 _ _ first.spends in
    let second = laws.none plan _ _ c.wait_at.ensures.note.home c.wait_at.ensures.note.kept some in
    record {
      seats = c.wait_at.ensures.seats;
      caller = (c.wait_at.ensures.note.home _ (first.home _ c.loop-made.invariant.caller.0), c.what_calls_spend.ensures.held 0 _ _ second.spends);
      called = laws.joined plan 0 0 _ _ _ c.loop-made.invariant.called (laws.joined plan 0 0 _ _ _ first second);
      all = waited cond mutex a c.args.value c.args.tries start made now between later c.loop-made.invariant.all c.moves.ensures.none c.moves.ensures.joined c.in-Done-Ok._returned tested (rw c.in-Done-Ok.field-0-is at c.in-Done-Ok.ensures.works);
    }

pub returns-clause-called : goal.returns-clause-called
returns-clause-called g c = c.what_a_call_leaves.ensures.joined _ 0 0 _ _ _ c.loop-made.invariant.called c.test_at.ensures.called

pub returns-clause-works : goal.returns-clause-works
returns-clause-works g c =
    let start : Desk = desk_with g.S.Mark.Note.own g.S.Mark.Note.front (owns_of c.args.passes.now) c.args.caller.now.note in
    let now : Desk = desk_with g.S.Mark.Note.own g.S.Mark.Note.front (owns_of c.loop-made.passes) c.loop-made.caller.note in
    let between : Desk = desk_with g.S.Mark.Note.own g.S.Mark.Note.front (owns_of c.loop-made.passes) c.test_at.new.caller.note in
    let past = c.loop-made-test.false in
    let within = c.loop-made.auto._made-end in
    c.loop-made.invariant.all 0 (omega (arith, past, within)) c.test_at.result between (c.test_at.ensures.works (owns_of c.loop-made.passes))
