use Rattle.std.proofs.Common.{ℕ, ◌<◌, ◌&&◌, Bool, true, false, [], refl, ap, ◌∙◌, subst}
use Rattle.std.specs.Option.{option_map_or}
use Rattle.sync_model.specs.declared.item.SharedCall.TheVariants as calls
use Rattle.sync_model.specs.declared.item.SharedReply.TheVariants as answers
use Rattle.record_text.specs.Numbers.{has_64_bits}
use Rattle.scheduled_record.proofs.LedgerSteps.{called, placed_stays, both_ok}
use Rattle.scheduled_record.proofs.ledger.Ledger.add_step.Goals as goal

pub returns : goal.returns
returns c = both_ok c.place.result c.place.ensures.placed c.place.ensures.maps (λ placed maps plan begin. record {
  stays = placed_stays plan c.args.self.now c.place.new.self c.args.worker c.args.index _ _ placed (ap (λ (b : Bool). b && option_map_or (λ (pair : ℕ × ℕ). has_64_bits pair.1) c.args.shown true) c.number_fits.ensures ∙ c.shown_fits.ensures);
  kept = λ told is right.
      called plan told c.args.index c.args.worker (record { call = calls.Next begin; reply = answers.Shown c.args.shown; place = 0; entry = false; front = [] }) _ c.args.self.now c.place.new.self
      is (subst (λ (k : ℕ). c.args.worker < k) is.workers c.requires) placed refl (maps ∙ is.maps);
})
