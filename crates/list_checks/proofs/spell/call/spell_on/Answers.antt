use Rattle.std.proofs.Common.{◌≡◌, drop, sym, subst}
use Rattle.script_calls.specs.declared.call.Operation.TheVariants as operations
use Rattle.run_cuts.specs.CallCuts.{on_cut}
use Rattle.list_checks.specs.SpellFound.{IsFound}
use Rattle.list_checks.proofs.spell.call.spell_on.Goals as goal

pub returns-in-Composed : goal.returns-in-Composed
returns-in-Composed c = λ before.
    let plan = c.args.workload.now in
    let rest = drop c.args.from c.args.items.now in
    let is : c.args.operation.now ≡ operations.Composed c.in-Composed.call = cc in
    subst (λ operation. IsFound c.args.items.now c.args.from (on_cut plan c.args.worker before c.args.place c.args.kind operation rest) c.spell_composed.result) (sym is)
    (c.spell_composed.ensures c.args.worker before)
