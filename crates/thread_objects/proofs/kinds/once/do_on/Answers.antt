use Rattle.std.proofs.Common.{◌≡◌, ℕ, ℤ, Option, Ok, inr, subst, sym, ap, ◌∙◌, to_z, of_z, rules}
use Rattle.std.specs.Int.{w64}
use Rattle.sync_model.specs.declared.answer.Answer.TheVariants.{Done}
use Rattle.sync_model.specs.Note.{Holding}
use Rattle.sync_model.specs.Shared.{items_of}
use Rattle.script_calls.specs.declared.call.Reply.{Reply}
use Rattle.script_calls.specs.declared.call.Reply.TheVariants as replies
use Rattle.sync_types.specs.declared.once_call.DoReply.TheVariants as do_replies
use Rattle.protocols.specs.OnceStages.{once_event, once_meaning}
use Rattle.protocols.specs.Spelling.{CallAnswer}
use Rattle.run_record.specs.AtomicKind.{adds}
use Rattle.run_record.specs.declared.entered.ObjectEvent.TheVariants as event
use Rattle.run_record.specs.declared.entered.ObjectReply.TheVariants as reply
use Rattle.run_record.specs.Objects.{atomic_number}
use Rattle.run_record.specs.Parts.{stages, with_outcome}
use Rattle.thread_objects.specs.GivenUp.{GaveUp}
use Rattle.thread_objects.specs.Working.{alone}
use Rattle.thread_objects.specs.OnceKind.{ran}
use Rattle.thread_objects.specs.Own.{own_as}
use Rattle.thread_objects.proofs.OnceParts.{stopped, had}
use Rattle.thread_objects.proofs.OnceParts as once
use Rattle.thread_objects.proofs.NoValue.{none_of}
use Rattle.thread_objects.proofs.Working.{answers_as, part_as}
use Rattle.thread_objects.proofs.kinds.once.do_on.Goals as goal

abbrev found : ℤ → Reply ℕ
found kept = replies.Once do_replies.Done

pub returns-in-Halted-clause-works : goal.returns-in-Halted-clause-works
returns-in-Halted-clause-works g c = λ number.
    let atomic = atomic_number c.args.catalog.now.workload.now.objects c.args.place in
    stopped c.moves.ensures.none c.moves.ensures.joined (stages event.Once reply.Once once_event once_meaning number) (adds atomic c.args.delta) ran found _ _ c.in-Halted.misuse (c.in-Halted.ensures.works event.Once reply.Once number)

pub returns-in-Done-Ok-Already-clause-works : goal.returns-in-Done-Ok-Already-clause-works
returns-in-Done-Ok-Already-clause-works g c = λ number.
    let atomic = atomic_number c.args.catalog.now.workload.now.objects c.args.place in
    let given = rw c.in-Done-Ok-Already.field-0-is at c.in-Done-Ok-Already.ensures.works in
    let did = rw c.in-Done-Ok-Already.field-0-0-is at given in
    had c.moves.ensures.none c.moves.ensures.joined (stages event.Once reply.Once once_event once_meaning number) (adds atomic c.args.delta) ran found _ _ c.in-Done-Ok-Already._kept (did event.Once reply.Once number)

pub returns-in-Some-clause-works : goal.returns-in-Some-clause-works
returns-in-Some-clause-works g c = λ number.
    let atomic = atomic_number c.args.catalog.now.workload.now.objects c.args.place in
    let given = rw c.in-Done-Ok-Run.field-0-is at c.in-Done-Ok-Run.ensures.works in
    let did = rw c.in-Done-Ok-Run.field-0-0-is at given in
    let sum = to_z w64 (of_z w64 c.in-Some.sum) in
    let fits : to_z w64 (of_z w64 c.args.delta) ≡ c.args.delta = search rules in
    let same : sum ≡ c.in-Some.sum = search rules in
    let added = c.in-Some.ensures.works (alone number (own_as event.Once reply.Once c.begin.new.pass)) in
    let inner = answers_as _ _ _ (Done (Ok c.in-Some.sum)) (Done (Ok sum)) (ap (λ (s : ℤ). Done (Ok s)) same) (part_as (λ (d : ℤ). adds atomic d) c.args.delta _ _ _ _ (sym fits) added) in
    answers_as _ _ _ _ _ (c.ran.ensures ∙ ap (λ (a : CallAnswer ℤ). with_outcome ran a) c.ended.ensures)
    (once.ran c.moves.ensures.none c.moves.ensures.joined (stages event.Once reply.Once once_event once_meaning number) (adds atomic c.args.delta) ran found _ _ _ _ sum c.end-answer.result (did event.Once reply.Once number) inner (c.end-answer.ensures.works event.Once reply.Once number))

pub returns-in-Halted-clause-called : goal.returns-in-Halted-clause-called
returns-in-Halted-clause-called g c = c.what_a_call_leaves.ensures.none c.args.catalog.now.workload.now _ _ c.begin.ensures.note.home c.begin.ensures.note.kept c.requires.caller.1

pub returns-in-Done-Err-clause-called : goal.returns-in-Done-Err-clause-called
returns-in-Done-Err-clause-called g c = c.what_a_call_leaves.ensures.none c.args.catalog.now.workload.now _ _ c.begin.ensures.note.home c.begin.ensures.note.kept c.requires.caller.1

pub returns-in-Done-Ok-Already-clause-called : goal.returns-in-Done-Ok-Already-clause-called
returns-in-Done-Ok-Already-clause-called g c = c.what_a_call_leaves.ensures.none c.args.catalog.now.workload.now _ _ c.begin.ensures.note.home c.begin.ensures.note.kept c.requires.caller.1

pub returns-in-Some-clause-called : goal.returns-in-Some-clause-called
returns-in-Some-clause-called g c =
    let plan = c.args.catalog.now.workload.now in
    let law = c.what_a_call_leaves.ensures in
    let begun = law.none plan _ _ c.begin.ensures.note.home c.begin.ensures.note.kept c.requires.caller.1 in
    let ended = law.none plan _ _ c.end-answer.ensures.note.home c.end-answer.ensures.note.kept (c.what_calls_spend.ensures.held 0 _ _ c.add_at.ensures.called.spends) in
    law.joined plan 0 0 _ _ _ (law.joined plan 0 0 _ _ _ begun c.add_at.ensures.called) ended

pub returns-in-None-clause-called : goal.returns-in-None-clause-called
returns-in-None-clause-called g c =
    let plan = c.args.catalog.now.workload.now in
    let law = c.what_a_call_leaves.ensures in
    let begun = law.none plan _ _ c.begin.ensures.note.home c.begin.ensures.note.kept c.requires.caller.1 in
    let ended = law.none plan _ _ c.end.ensures.note.home c.end.ensures.note.kept (c.what_calls_spend.ensures.held 0 _ _ c.add_at.ensures.called.spends) in
    law.joined plan 0 0 _ _ _ (law.joined plan 0 0 _ _ _ begun c.add_at.ensures.called) ended

pub returns-in-None-clause-given_up : goal.returns-in-None-clause-given_up
returns-in-None-clause-given_up g c = subst (λ (o : Option Holding). GaveUp c.args.catalog.now.workload.now (items_of o)) (sym c.end.ensures.note.kept) (inr (none_of c.add_at.result c.in-None.is c.add_at.ensures.amiss))
