use Rattle.std.proofs.Common.{◌≡◌, ℕ, ◌<◌, ◌&&◌, Bool, true, false, cond, [], Some, refl, sym, ap, ◌∙◌, subst}
use Rattle.sync_types.specs.declared.atomic_object.AtomicCall.{AtomicCall}
use Rattle.sync_types.specs.declared.atomic_object.AtomicReply.{AtomicReply}
use Rattle.sync_model.specs.declared.item.SharedCall.TheVariants as calls
use Rattle.sync_model.specs.declared.item.SharedReply.{SharedReply}
use Rattle.sync_model.specs.declared.item.SharedReply.TheVariants as answers
use Rattle.sync_model.specs.SharedHistory.{Contents, number_at, shared_after, is_entry}
use Rattle.record_text.specs.declared.item_line.PlacedReply.{PlacedReply}
use Rattle.record_text.specs.declared.item_line.Said.TheVariants as said
use Rattle.record_text.specs.ItemLines.{is_reply}
use Rattle.kept_record.specs.Keeping.{account_of}
use Rattle.step_runner.specs.Recorded.{made_shared}
use Rattle.scheduled_record.specs.Ledgers.{IsPlaced}
use Rattle.scheduled_record.specs.ToldItems.{acts_in}
use Rattle.scheduled_record.proofs.LedgerSteps.{called, last_right, placed_stays, both_ok}
use Rattle.scheduled_record.proofs.ledger.Ledger.add_atomic_call.Goals as goal

abbrev replied : AtomicReply → SharedReply → AtomicReply
replied other (answers.Atomic reply) = reply
replied other reply = other

same_maps : (atomic : ℕ) (call : AtomicCall) (contents : Contents) (b : Bool) → (cond b (shared_after (calls.Atomic atomic call) contents) contents).maps ≡ contents.maps
same_maps atomic call contents true = refl
same_maps atomic call contents false = refl

pub returns : goal.returns
returns c = both_ok c.place.result c.place.ensures.placed c.place.ensures.maps (λ placed maps plan atomic. record {
  stays = placed_stays plan c.args.self.now c.place.new.self c.args.worker c.args.index _ _ placed (ap (λ (b : Bool). b && is_reply c.atomic_reply.result) c.number_fits.ensures ∙ c.atomic_reply.ensures.fits);
  kept = λ told is right.
      let contents = (account_of plan (acts_in told)).contents in
      let call = calls.Atomic atomic c.args.call.now in
      let reply = ap (replied c.args.reply) (last_right plan told c.args.index c.args.worker (made_shared plan (call, answers.Atomic c.args.reply)) right) in
      let enters = c.enters_atomic-enters.ensures (number_at contents atomic) reply in
      called plan told c.args.index c.args.worker (record { call = call; reply = answers.Atomic c.args.reply; place = 0; entry = false; front = [] }) _ c.args.self.now c.place.new.self
      is (subst (λ (k : ℕ). c.args.worker < k) is.workers c.requires) (subst (λ (b : Bool). IsPlaced c.args.worker c.args.index b (Some (said.Call c.args.self.now.history c.atomic_reply.result)) c.args.self.now c.place.new.self) enters placed) (ap (λ (r : PlacedReply). Some (said.Call c.args.self.now.history r)) (sym c.atomic_reply.ensures.word))
      (maps ∙ (is.maps ∙ sym (same_maps atomic c.args.call.now contents (is_entry call contents))));
})
