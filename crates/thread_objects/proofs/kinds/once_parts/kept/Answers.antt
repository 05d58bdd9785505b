use Rattle.std.proofs.Common.{refl, ap, ◌∙◌}
use Rattle.protocols.specs.OnceStages.{once_event, once_meaning}
use Rattle.protocols.specs.Spelling.{CallAnswer}
use Rattle.run_record.specs.Parts.{returns, stages, with_outcome}
use Rattle.thread_objects.proofs.OnceParts.{stopped, had, ran}
use Rattle.thread_objects.proofs.Working.{rests, answers_as}
use Rattle.thread_objects.proofs.kinds.once_parts.kept.Goals as goal

pub returns-in-Halted-clause-works : goal.returns-in-Halted-clause-works
returns-in-Halted-clause-works g c = λ event reply number told. stopped c.moves.ensures.none c.moves.ensures.joined (stages event reply once_event once_meaning number) (returns c.args.value) told told _ _ c.in-Halted.misuse (c.in-Halted.ensures.works event reply number)

pub returns-in-Done-Ok-Already-clause-works : goal.returns-in-Done-Ok-Already-clause-works
returns-in-Done-Ok-Already-clause-works g c = λ event reply number told.
    let given = rw c.in-Done-Ok-Already.field-0-is at c.in-Done-Ok-Already.ensures.works in
    let did = rw c.in-Done-Ok-Already.field-0-0-is at given in
    had c.moves.ensures.none c.moves.ensures.joined (stages event reply once_event once_meaning number) (returns c.args.value) told told _ _ c.in-Done-Ok-Already.kept (did event reply number)

pub returns-in-Done-Ok-Run-clause-works : goal.returns-in-Done-Ok-Run-clause-works
returns-in-Done-Ok-Run-clause-works g c = λ event reply number told.
    let given = rw c.in-Done-Ok-Run.field-0-is at c.in-Done-Ok-Run.ensures.works in
    let did = rw c.in-Done-Ok-Run.field-0-0-is at given in
    let value = c.args.value in
    let part = stages event reply once_event once_meaning number in
    answers_as _ _ _ _ _ (ap (λ (a : CallAnswer _). with_outcome told a) c.ended.ensures) (ran c.moves.ensures.none c.moves.ensures.joined part (returns value) told told _ _ _ _ value c.end.result (did event reply number) (rests c.moves.ensures.none (returns value) _ _ (refl, refl)) (c.end.ensures.works event reply number))

pub returns-in-Done-Ok-Run-clause-called : goal.returns-in-Done-Ok-Run-clause-called
returns-in-Done-Ok-Run-clause-called g c = λ plan some.
    let first = c.begin.ensures.note in
    let last = c.end.ensures.note in
    c.what_a_call_leaves.ensures.none plan _ _ (λ home at. last.home home (first.home home at)) (last.kept ∙ first.kept) some
