use Rattle.std.proofs.Common.{refl}
use Rattle.run_record.specs.Limits.{IsCallOf}
use Rattle.thread_objects.proofs.OnlyCalls.{called_only}
use Rattle.thread_objects.proofs.SharedParts.{called_works}
use Rattle.thread_objects.proofs.Spending.{called_spends}
use Rattle.thread_objects.proofs.parts.placed_calls.call_map.Goals as goal

pub returns-clause-works : goal.returns-clause-works
returns-clause-works g c = λ owns. called_works _ _ _ _ g.S.Mark.Note.own g.S.Mark.Note.front g.S.Shared.seen c.args.caller.now.note c.map_call.new.caller.note owns _ _ (λ items placed. (c.map_call.result, placed, refl)) (g.met.S.Mark.Note.counted _ _ c.requires.caller.0) c.map_call.ensures.called

pub returns-clause-spends : goal.returns-clause-spends
returns-clause-spends g c = called_spends g.S.Mark.Note.own g.S.Mark.Note.front g.S.Shared.seen _ _ _ _ _ _ c.map_call.ensures.called

pub returns-clause-calls : goal.returns-clause-calls
returns-clause-calls g c = λ plan fits. called_only (IsCallOf plan) _ _ _ _ _ _ fits c.map_call.ensures.called
