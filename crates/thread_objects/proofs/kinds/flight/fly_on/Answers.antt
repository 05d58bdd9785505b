use Rattle.std.proofs.Common.{◌≡◌, ℤ, true, Option, Ok, inr, subst, sym, ap, to_z, of_z, rules}
use Rattle.std.specs.Int.{w64}
use Rattle.sync_model.specs.declared.answer.Answer.TheVariants.{Done}
use Rattle.sync_model.specs.Note.{Holding}
use Rattle.sync_model.specs.Shared.{items_of}
use Rattle.script_calls.specs.declared.call.Reply.TheVariants as replies
use Rattle.run_record.specs.AtomicKind.{adds}
use Rattle.run_record.specs.declared.entered.ObjectEvent.TheVariants as event
use Rattle.run_record.specs.declared.entered.ObjectReply.TheVariants as reply
use Rattle.run_record.specs.Objects.{atomic_number}
use Rattle.thread_objects.specs.GivenUp.{GaveUp}
use Rattle.thread_objects.specs.Working.{alone}
use Rattle.thread_objects.specs.Own.{own_as}
use Rattle.thread_objects.proofs.FlightParts.{stopped, got, led}
use Rattle.thread_objects.proofs.NoValue.{none_of}
use Rattle.thread_objects.proofs.Working.{answers_as, part_as}
use Rattle.thread_objects.proofs.kinds.flight.fly_on.Goals as goal

pub returns-in-Halted-clause-works : goal.returns-in-Halted-clause-works
returns-in-Halted-clause-works g c = λ number.
    let atomic = atomic_number c.args.catalog.now.workload.now.objects c.args.place in
    stopped c.moves.ensures.none c.moves.ensures.joined number atomic c.args.delta c.args.key _ _ c.in-Halted.misuse (c.in-Halted.ensures.works number)

pub returns-in-Done-Ok-Got-clause-works : goal.returns-in-Done-Ok-Got-clause-works
returns-in-Done-Ok-Got-clause-works g c = λ number.
    let atomic = atomic_number c.args.catalog.now.workload.now.objects c.args.place in
    let given = rw c.in-Done-Ok-Got.field-0-is at c.in-Done-Ok-Got.ensures.works in
    let did = rw c.in-Done-Ok-Got.field-0-0-is at given in
    let value = c.in-Done-Ok-Got.value in
    let same : to_z w64 (of_z w64 value) ≡ value = search rules in
    answers_as _ _ _ (Done (Ok (replies.Flown value true))) (Done (Ok (replies.Flown (to_z w64 (of_z w64 value)) true))) (ap (λ (v : ℤ). Done (Ok (replies.Flown v true))) same)
    (got c.moves.ensures.none c.moves.ensures.joined number atomic c.args.delta c.args.key _ _ value (did number))

pub returns-in-Some-clause-works : goal.returns-in-Some-clause-works
returns-in-Some-clause-works g c = λ number.
    let atomic = atomic_number c.args.catalog.now.workload.now.objects c.args.place in
    let given = rw c.in-Done-Ok-Lead.field-0-is at c.in-Done-Ok-Lead.ensures.works in
    let did = rw c.in-Done-Ok-Lead.field-0-0-is at given in
    let sum = to_z w64 (of_z w64 c.in-Some.sum) in
    let fits : to_z w64 (of_z w64 c.args.delta) ≡ c.args.delta = search rules in
    let same : sum ≡ c.in-Some.sum = search rules in
    let added = c.in-Some.ensures.works (alone number (own_as event.Flight reply.Flight c.join.new.pass)) in
    let inner = answers_as _ _ _ (Done (Ok c.in-Some.sum)) (Done (Ok sum)) (ap (λ (s : ℤ). Done (Ok s)) same) (part_as (λ (d : ℤ). adds atomic d) c.args.delta _ _ _ _ (sym fits) added) in
    led c.moves.ensures.none c.moves.ensures.joined number atomic c.args.delta c.args.key _ _ _ _ sum c.land-answer.result _ (did number) inner (c.land-answer.ensures.works number) c.flown.ensures

pub returns-in-Halted-clause-called : goal.returns-in-Halted-clause-called
returns-in-Halted-clause-called g c = c.what_a_call_leaves.ensures.none c.args.catalog.now.workload.now _ _ c.join.ensures.note.home c.join.ensures.note.kept c.requires.caller.1

pub returns-in-Done-Err-clause-called : goal.returns-in-Done-Err-clause-called
returns-in-Done-Err-clause-called g c = c.what_a_call_leaves.ensures.none c.args.catalog.now.workload.now _ _ c.join.ensures.note.home c.join.ensures.note.kept c.requires.caller.1

pub returns-in-Done-Ok-Got-clause-called : goal.returns-in-Done-Ok-Got-clause-called
returns-in-Done-Ok-Got-clause-called g c = c.what_a_call_leaves.ensures.none c.args.catalog.now.workload.now _ _ c.join.ensures.note.home c.join.ensures.note.kept c.requires.caller.1

pub returns-in-Some-clause-called : goal.returns-in-Some-clause-called
returns-in-Some-clause-called g c =
    let plan = c.args.catalog.now.workload.now in
    let law = c.what_a_call_leaves.ensures in
    let begun = law.none plan _ _ c.join.ensures.note.home c.join.ensures.note.kept c.requires.caller.1 in
    let ended = law.none plan _ _ c.land-answer.ensures.note.home c.land-answer.ensures.note.kept (c.what_calls_spend.ensures.held 0 _ _ c.add_at.ensures.called.spends) in
    law.joined plan 0 0 _ _ _ (law.joined plan 0 0 _ _ _ begun c.add_at.ensures.called) ended

pub returns-in-None-clause-called : goal.returns-in-None-clause-called
returns-in-None-clause-called g c =
    let plan = c.args.catalog.now.workload.now in
    let law = c.what_a_call_leaves.ensures in
    let begun = law.none plan _ _ c.join.ensures.note.home c.join.ensures.note.kept c.requires.caller.1 in
    let ended = law.none plan _ _ c.land.ensures.note.home c.land.ensures.note.kept (c.what_calls_spend.ensures.held 0 _ _ c.add_at.ensures.called.spends) in
    law.joined plan 0 0 _ _ _ (law.joined plan 0 0 _ _ _ begun c.add_at.ensures.called) ended

pub returns-in-None-clause-given_up : goal.returns-in-None-clause-given_up
returns-in-None-clause-given_up g c = subst (λ (o : Option Holding). GaveUp c.args.catalog.now.workload.now (items_of o)) (sym c.land.ensures.note.kept) (inr (none_of c.add_at.result c.in-None.is c.add_at.ensures.amiss))
