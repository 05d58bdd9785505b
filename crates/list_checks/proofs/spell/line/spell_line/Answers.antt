use Rattle.std.proofs.Common.{[], get_or}
use Rattle.run_cuts.specs.CallCuts.{call_cut}
use Rattle.run_cuts.specs.StartsCuts.{closing_cut, opening_cut}
use Rattle.list_checks.proofs.SpellCalls.{on_ok}
use Rattle.list_checks.proofs.SpellWhole.{spells}
use Rattle.list_checks.proofs.spell.line.spell_line.Goals as goal

pub returns : goal.returns
returns c =
    let plan = c.args.workload.now in
    on_ok c.cut_line.result
    (λ found told. spells plan c.args.worker (opening_cut plan c.args.worker) (closing_cut plan c.args.worker) (call_cut plan c.args.worker) (c.a_list_is_cut_into_one_line.ensures.lines plan c.args.worker)
    (c.a_call_is_cut_as_it_is_spelt.ensures.each plan c.args.worker).passes
    (λ line told. c.a_list_tells_of_which_call_each_item_is.ensures.same plan c.args.worker (get_or plan.scripts c.args.worker []) line told)
    (λ plain line. c.a_list_tells_of_which_call_each_item_is.ensures.some plan c.args.worker line c.workers-workers.ensures.valid plain) c.args.items.now found told)
    c.cut_line.ensures
