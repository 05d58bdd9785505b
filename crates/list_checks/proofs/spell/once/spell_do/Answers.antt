use Rattle.std.proofs.Common.{◌≡◌, ℤ, drop, sym, subst, to_z, of_z, w64, rules}
use Rattle.std.specs.Ordering.{int_eq}
use Rattle.script_calls.specs.declared.call.Reply.TheVariants as replies
use Rattle.sync_types.specs.declared.once_call.DoReply.TheVariants as do_replies
use Rattle.protocols.specs.OnceStages.{once_meaning}
use Rattle.protocols.specs.declared.once.OnceStage.TheVariants.{Begin}
use Rattle.run_cuts.specs.Cuts.{move, stages_cut}
use Rattle.run_cuts.specs.OnceCuts.{do_event_in, do_reply_in, goes_on_cut, is_once_event}
use Rattle.run_cuts.specs.SharedCuts.{adds_cut}
use Rattle.list_checks.specs.SpellFound.{IsFound, run_do_cut}
use Rattle.list_checks.proofs.SpellParts.{then_found}
use Rattle.list_checks.proofs.spell.once.spell_do.Goals as goal

pub returns-in-Run : goal.returns-in-Run
returns-in-Run c =
    let part = stages_cut (move do_event_in do_reply_in (is_once_event int_eq) once_meaning) c.args.object in
    let next = goes_on_cut part (adds_cut c.args.atomic c.args.amount) (λ sum. replies.Once (do_replies.Ran sum)) (λ kept. replies.Once do_replies.Done) in
    let end = c.in_ok-begun.begun.end in
    let amount_is : to_z w64 (of_z w64 c.args.amount) ≡ c.args.amount = search rules in
    let run = subst (λ (amount : ℤ). IsFound c.args.items.now end (run_do_cut c.args.object c.args.atomic amount (drop end c.args.items.now)) c.spell_run.result) amount_is c.spell_run.ensures in
    then_found c.args.items.now c.args.from (part Begin (drop c.args.from c.args.items.now)) next c.in_ok-begun.begun c.spell_run.result c.in_ok-begun.ensures
    (subst (λ outcome. IsFound c.args.items.now end (next outcome (drop end c.args.items.now)) c.spell_run.result) (sym c.in-Run.is) run)
