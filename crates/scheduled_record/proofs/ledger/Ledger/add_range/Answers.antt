use Rattle.std.proofs.Common.{ℕ, ◌<◌, List, [], ◌∷◌, ◌++◌, None, sym, subst}
use Rattle.std.proofs.lemmas.Result.{on_ok_weaker}
use Rattle.std.proofs.lemmas.List.{map-append}
use Rattle.sync_model.specs.declared.item.SharedCall.TheVariants as calls
use Rattle.sync_model.specs.declared.item.SharedReply.TheVariants as answers
use Rattle.run_record.specs.declared.made.Made.{Made}
use Rattle.step_runner.specs.Recorded.{made_shared}
use Rattle.scheduled_record.specs.Ledgers.{Adds, adding}
use Rattle.scheduled_record.proofs.Adding.{adds_both, steps_of}
use Rattle.scheduled_record.proofs.ledger.Ledger.add_range.Goals as goal

pub add_steps-requires-clause-of : goal.add_steps-requires-clause-of
add_steps-requires-clause-of c = (c.in_ok-add_begin.ensures c.args.workload.now 0).stays c.requires.of

pub add_step-requires : goal.add_step-requires
add_step-requires c = subst (λ (k : ℕ). c.args.worker < k) (sym ((c.in_ok-add_steps.ensures 0 0).stays ((c.in_ok-add_begin.ensures c.args.workload.now 0).stays c.requires.of)).workers) c.requires.worker

pub returns : goal.returns
returns c = on_ok_weaker c.add_step.result (λ last map_number begin.
    let plan = c.args.workload.now in
    let steps = steps_of plan c.args.index c.args.worker map_number begin c.args.pairs.now in
    let none = made_shared plan (calls.Next begin, answers.Shown None) ∷ [] in
    subst (λ (made : List Made). Adds plan (adding c.args.index c.args.worker (made_shared plan (calls.Begin map_number, answers.Begun) ∷ made)) c.args.self.now c.add_step.new.self) (sym (map-append (made_shared plan) _ ((calls.Next begin, answers.Shown None) ∷ [])))
    (adds_both plan c.args.index c.args.worker (made_shared plan (calls.Begin map_number, answers.Begun) ∷ []) (steps ++ none) c.args.self.now c.add_begin.new.self c.add_step.new.self
    (c.in_ok-add_begin.ensures plan map_number)
    (adds_both plan c.args.index c.args.worker steps none c.add_begin.new.self c.add_steps.new.self c.add_step.new.self (c.in_ok-add_steps.ensures map_number begin) (last plan begin)))) c.add_step.ensures
