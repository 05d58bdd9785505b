use Rattle.std.proofs.Common.{drop}
use Rattle.protocols.specs.declared.mutex.MutexStage.TheVariants.{Unlock}
use Rattle.run_cuts.specs.CondCuts.{leave_cut}
use Rattle.run_cuts.specs.MutexCuts.{mutex_part_cut}
use Rattle.list_checks.proofs.SpellParts.{then_found}
use Rattle.list_checks.proofs.spell.cond.spell_behind_ticket.Goals as goal

pub returns : goal.returns
returns c =
    then_found c.args.items.now c.args.from (mutex_part_cut c.args.mutex Unlock (drop c.args.from c.args.items.now)) (λ unlocked. leave_cut c.args.object c.args.mutex)
    c.in_ok-unlocked.unlocked c.spell_leaving.result c.in_ok-unlocked.ensures c.spell_leaving.ensures
