use Rattle.std.proofs.Common.{ℕ, ◌<◌, false, [], refl, ◌∙◌, subst}
use Rattle.sync_model.specs.declared.item.SharedCall.TheVariants as calls
use Rattle.sync_model.specs.declared.item.SharedReply.TheVariants as answers
use Rattle.scheduled_record.proofs.LedgerSteps.{called, placed_stays, both_ok}
use Rattle.scheduled_record.proofs.ledger.Ledger.add_begin.Goals as goal

pub returns : goal.returns
returns c = both_ok c.place.result c.place.ensures.placed c.place.ensures.maps (λ placed maps plan map. record {
  stays = placed_stays plan c.args.self.now c.place.new.self c.args.worker c.args.index _ _ placed c.number_fits.ensures;
  kept = λ told is right.
      called plan told c.args.index c.args.worker (record { call = calls.Begin map; reply = answers.Begun; place = 0; entry = false; front = [] }) _ c.args.self.now c.place.new.self
      is (subst (λ (k : ℕ). c.args.worker < k) is.workers c.requires) placed refl (maps ∙ is.maps);
})
