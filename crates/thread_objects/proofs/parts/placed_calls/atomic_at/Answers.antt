use Rattle.std.proofs.Common.{ℕ, [], ◌∷◌, refl, subst, rules}
use Rattle.sync_model.specs.declared.item.SharedCall.TheVariants as calls
use Rattle.sync_model.specs.declared.item.SharedReply.TheVariants as answers
use Rattle.run_record.specs.Limits.{IsCallOf}
use Rattle.run_record.specs.Parts.{Places}
use Rattle.thread_objects.proofs.Finding.{atomic_has, of_types}
use Rattle.thread_objects.proofs.OnlyCalls.{called_only}
use Rattle.thread_objects.proofs.SharedParts.{called_works}
use Rattle.thread_objects.proofs.Spending.{called_spends}
use Rattle.thread_objects.proofs.parts.placed_calls.atomic_at.Goals as goal

pub bounds-catalog-place : goal.bounds-catalog-place
bounds-catalog-place g c = c.requires.atomics.within c.args.place c.requires.place.0 c.requires.place.1

pub offset_bounds-catalog-place : goal.offset_bounds-catalog-place
offset_bounds-catalog-place g c = let within = c.requires.atomics.within c.args.place c.requires.place.0 c.requires.place.1 in search rules

pub atomic_call-reply-requires-clause-call : goal.atomic_call-reply-requires-clause-call
atomic_call-reply-requires-clause-call g c = atomic_has _ _ _ c.args.place c.requires.place.0 c.args.call c.requires.atomics c.requires.place.1 c.requires.place.2

pub returns-clause-called : goal.returns-clause-called
returns-clause-called g c =
    let plan = c.args.catalog.now.workload.now in
    let has = atomic_has _ _ _ c.args.place c.requires.place.0 c.args.call c.requires.atomics c.requires.place.1 c.requires.place.2 in
    record {
      home = c.atomic_call-reply.ensures.home;
      spends = called_spends g.S.Mark.Note.own g.S.Mark.Note.front g.S.Shared.seen _ _ _ _ _ _ c.atomic_call-reply.ensures.called;
      calls = called_only (IsCallOf plan) _ _ _ _ _ _ (of_types plan _ _ c.args.call c.requires.atomics.all has) c.atomic_call-reply.ensures.called;
    }

pub returns-clause-works : goal.returns-clause-works
returns-clause-works g c = λ owns.
    let reply = c.atomic_call-reply.result in
    let at = c.requires.atomics.number c.args.place c.requires.place.0 c.requires.place.1 in
    called_works _ _ _ _ g.S.Mark.Note.own g.S.Mark.Note.front g.S.Shared.seen c.args.caller.now.note c.atomic_call-reply.new.caller.note owns _ _
    (λ items placed. (reply, subst (λ (n : ℕ). Places ((calls.Atomic n c.args.call, answers.Atomic reply) ∷ []) items) at placed, refl)) (g.met.S.Mark.Note.counted _ _ c.requires.caller.0) c.atomic_call-reply.ensures.called
