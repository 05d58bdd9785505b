use Rattle.std.proofs.Common.{Ok, rules}
use Rattle.std.proofs.lemmas.Option.{IfSome_then}
use Rattle.sync_model.specs.declared.answer.Answer.TheVariants.{Done}
use Rattle.run_record.specs.AtomicKind.{adds}
use Rattle.run_record.specs.Limits.{IsCallOf}
use Rattle.thread_objects.proofs.OnlyCalls.{IfNone_then, add_fits, answered_amiss, called_only}
use Rattle.thread_objects.proofs.SharedParts.{called_works, sum_placed}
use Rattle.thread_objects.proofs.Spending.{called_spends}
use Rattle.thread_objects.proofs.parts.int64.add_int64.Goals as goal

pub returns-clause-works : goal.returns-clause-works
returns-clause-works g c = IfSome_then c.int64_in.result c.int64_in.ensures.sum (λ sum is owns.
    called_works _ _ _ _ g.S.Mark.Note.own g.S.Mark.Note.front g.S.Shared.seen c.args.caller.now.note c.atomic_call.new.caller.note owns (adds c.args.atomic c.args.delta) (Done (Ok sum))
    (λ items placed. sum_placed c.args.atomic c.args.delta sum _ _ items (search rules) is placed) (g.met.S.Mark.Note.counted _ _ c.requires.caller.0) c.atomic_call.ensures.called)

pub returns-clause-spends : goal.returns-clause-spends
returns-clause-spends g c = called_spends g.S.Mark.Note.own g.S.Mark.Note.front g.S.Shared.seen _ _ _ _ _ _ c.atomic_call.ensures.called

pub returns-clause-calls : goal.returns-clause-calls
returns-clause-calls g c = λ plan same. called_only (IsCallOf plan) _ _ _ _ _ _ (add_fits plan _ c.args.atomic c.args.delta _ (search rules) same c.requires.call) c.atomic_call.ensures.called

pub returns-clause-amiss : goal.returns-clause-amiss
returns-clause-amiss g c = IfNone_then c.int64_in.result c.int64_in.ensures.other (λ other. answered_amiss _ c.args.atomic c.args.delta _ _ _ _ _ (search rules) other c.atomic_call.ensures.called)
