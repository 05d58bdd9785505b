use Rattle.std.proofs.Common.{drop}
use Rattle.protocols.specs.declared.cond.CondStage.TheVariants.{Ticket}
use Rattle.run_cuts.specs.CondCuts.{cond_part_cut, unlock_cut}
use Rattle.list_checks.proofs.SpellParts.{then_found}
use Rattle.list_checks.proofs.spell.cond.spell_wait.Goals as goal

pub returns : goal.returns
returns c =
    then_found c.args.items.now c.args.from (cond_part_cut c.args.object Ticket (drop c.args.from c.args.items.now)) (λ ticket. unlock_cut c.args.object c.args.mutex)
    c.in_ok-ticket.ticket c.spell_behind_ticket.result c.in_ok-ticket.ensures c.spell_behind_ticket.ensures
