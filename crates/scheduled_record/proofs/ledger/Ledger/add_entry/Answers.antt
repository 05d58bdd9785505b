use Rattle.std.proofs.Common.{ℕ, ◌<◌, [], length, ap, ◌∙◌, subst}
use Rattle.std.proofs.lemmas.List.{length-set}
use Rattle.std.proofs.lemmas.Result.{on_ok_weaker}
use Rattle.sync_model.specs.declared.journal.Deed.TheVariants.{Event}
use Rattle.scheduled_record.specs.Ledgers.{learnt_in}
use Rattle.scheduled_record.proofs.LedgerSteps.{entered_so, stays}
use Rattle.scheduled_record.proofs.ledger.Ledger.add_entry.Goals as goal

pub returns : goal.returns
returns c = on_ok_weaker c.enter.result (λ entered plan. record {
  stays = stays plan c.args.self.now c.enter.new.self c.args.worker _ c.args.index (learnt_in c.args.self.now c.args.worker c.args.object (Event c.args.event.now c.args.answer.now)) _
      entered.workers (ap length entered.journals ∙ length-set c.args.self.now.journals.items c.args.object _) entered.lines entered.front entered.said;
  kept = λ told is right.
      entered_so plan told c.args.index c.args.worker c.args.object (record { caller = c.args.worker; deed = Event c.args.event.now c.args.answer.now; front = []; knew = 0; time = 0 }) c.args.self.now c.enter.new.self
      is (subst (λ (k : ℕ). c.args.worker < k) is.workers c.requires.worker) (subst (λ (k : ℕ). c.args.object < k) is.journals c.requires.object) entered;
}) c.enter.ensures
