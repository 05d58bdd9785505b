use Rattle.std.proofs.Common.{drop}
use Rattle.std.specs.Prelude.{pos}
use Rattle.sync_types.specs.declared.wait_call.WaitGroupCall.TheVariants.{Add}
use Rattle.run_cuts.specs.GroupCuts.{group_cut}
use Rattle.list_checks.specs.SpellFound.{start_cut}
use Rattle.list_checks.proofs.SpellParts.{then_found}
use Rattle.list_checks.proofs.spell.starts.spell_go.Goals as goal

pub returns : goal.returns
returns c =
    then_found c.args.items.now c.args.from (group_cut c.args.group (Add (pos 1)) (drop c.args.from c.args.items.now)) (λ added. start_cut c.args.starts c.args.worker)
    c.in_ok-added.added c.spell_start.result c.in_ok-added.ensures c.spell_start.ensures
