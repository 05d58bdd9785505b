use Rattle.std.proofs.Common.{◌==◌, drop, sym, subst}
use Rattle.protocols.specs.OnceStages.{once_meaning}
use Rattle.protocols.specs.declared.once.OnceStage.TheVariants.{Begin}
use Rattle.script_calls.specs.declared.call.Reply.TheVariants as replies
use Rattle.run_cuts.specs.Cuts.{move, returns_cut, stages_cut}
use Rattle.run_cuts.specs.OnceCuts.{value_event_in, value_reply_in, goes_on_cut, is_once_event}
use Rattle.list_checks.specs.SpellFound.{IsFound, end_value_cut}
use Rattle.list_checks.proofs.SpellParts.{behind_none, then_found}
use Rattle.list_checks.proofs.spell.once.spell_once_value.Goals as goal

pub returns-in-Run : goal.returns-in-Run
returns-in-Run c =
    let part = stages_cut (move value_event_in value_reply_in (is_once_event (λ a b. a == b)) once_meaning) c.args.object in
    let next = goes_on_cut part (returns_cut c.args.value) replies.OnceValue replies.OnceValue in
    let end = c.in_ok-begun.begun.end in
    then_found c.args.items.now c.args.from (part Begin (drop c.args.from c.args.items.now)) next c.in_ok-begun.begun c.spell_value.result c.in_ok-begun.ensures
    (subst (λ outcome. IsFound c.args.items.now end (next outcome (drop end c.args.items.now)) c.spell_value.result) (sym c.in-Run.is)
    (behind_none c.args.items.now end (end_value_cut c.args.object c.args.value (drop end c.args.items.now)) c.spell_value.result c.spell_value.ensures))
