use Rattle.std.proofs.Common.{ℕ, List, map, sym, ap, ◌∙◌, subst}
use Rattle.std.proofs.lemmas.Result.{on_ok_weaker}
use Rattle.script_calls.specs.declared.call.Operation.{Operation}
use Rattle.script_calls.specs.declared.call.Operation.TheVariants as operations
use Rattle.script_calls.specs.declared.call.Reply.{Reply}
use Rattle.script_calls.specs.declared.call.Reply.TheVariants as replies
use Rattle.run_record.specs.Objects.{map_number}
use Rattle.step_runner.specs.Recorded.{made_shared, shared_calls}
use Rattle.scheduled_record.specs.Ledgers.{Adds, adding}
use Rattle.scheduled_record.proofs.ledger.Ledger.add_placed.Goals as goal

pub returns-in-Range-Pairs : goal.returns-in-Range-Pairs
returns-in-Range-Pairs c = on_ok_weaker c.add_range.result (λ adds before.
    let plan = c.args.workload.now in
    subst (λ (operation : Operation). Adds plan (adding c.args.index c.args.worker (map (made_shared plan) (shared_calls plan before c.args.place operation c.args.reply.now))) c.args.self.now c.add_range.new.self) (sym c.in-Range-Pairs.is-0)
    (subst (λ (reply : Reply (List ℕ)). Adds plan (adding c.args.index c.args.worker (map (made_shared plan) (shared_calls plan before c.args.place operations.Range reply))) c.args.self.now c.add_range.new.self)
    (ap replies.Pairs c.as_slice.ensures ∙ sym c.in-Range-Pairs.is-1) (adds (map_number plan.objects c.args.place) before))) c.add_range.ensures
