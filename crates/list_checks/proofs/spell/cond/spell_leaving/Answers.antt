use Rattle.std.proofs.Common.{drop}
use Rattle.protocols.specs.declared.cond.CondStage.TheVariants.{Leave}
use Rattle.run_cuts.specs.CondCuts.{cond_part_cut, lock_again_cut}
use Rattle.list_checks.proofs.SpellParts.{then_found}
use Rattle.list_checks.proofs.spell.cond.spell_leaving.Goals as goal

pub returns : goal.returns
returns c =
    then_found c.args.items.now c.args.from (cond_part_cut c.args.object Leave (drop c.args.from c.args.items.now)) (λ left. lock_again_cut c.args.mutex)
    c.in_ok-left.left c.spell_lock_again.result c.in_ok-left.ensures c.spell_lock_again.ensures
